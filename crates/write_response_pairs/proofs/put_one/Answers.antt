use borrow.Author.Rules.{rules}
use Rattle.place.proofs.Laws.{in_part}
use Rattle.write_response_pairs.proofs.Copying.{part_room}
use Rattle.write_response_pairs.proofs.put_one.Goals as goal

pub put_part-end-requires : goal.put_part-end-requires
put_part-end-requires c = (search rules, search rules, search rules, search part_room)

pub returns : goal.returns
returns c = search in_part
