use borrow.Author.Rules.{rules}
use Rattle.write_response_pairs.proofs.Sent.{empty_room, empty_is, kept_room, name_short, bind_short, added_room, parts_are}
use Rattle.write_response_pairs.proofs.put_list.Goals as goal

pub put_end-requires : goal.put_end-requires
put_end-requires c = search empty_room

pub returns-then-list-eq0 : goal.returns-then-list-eq0
returns-then-list-eq0 c = search empty_is

pub put_kept-place-requires : goal.put_kept-place-requires
put_kept-place-requires c = (search rules, search kept_room)

pub put_added-requires : goal.put_added-requires
put_added-requires c = (search name_short, search bind_short, search added_room)

pub returns : goal.returns
returns c = search parts_are depth 8 fits 5000
