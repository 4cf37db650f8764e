use borrow.Author.Rules.{rules}
use Rattle.write_response_pairs.proofs.Sent.{room_6, room_10, room_9, room_end, added_all}
use Rattle.write_response_pairs.proofs.put_added.Goals as goal

pub put_added_flags-place-requires : goal.put_added_flags-place-requires
put_added_flags-place-requires c = search room_6

pub put_pair-place-requires : goal.put_pair-place-requires
put_pair-place-requires c = (search rules, search room_10)

pub put_pair-place-requires-2 : goal.put_pair-place-requires-2
put_pair-place-requires-2 c = (search rules, search room_9)

pub put_end-requires : goal.put_end-requires
put_end-requires c = search room_end

pub returns : goal.returns
returns c = search added_all depth 8 fits 5000
