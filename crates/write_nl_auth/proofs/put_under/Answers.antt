use Rattle.place.proofs.Laws.{in_part}
use Rattle.write_nl_auth.proofs.Sent.{set_room, set-wrote}
use Rattle.write_nl_auth.proofs.put_under.Goals as goal

pub put_string-end-requires : goal.put_string-end-requires
put_string-end-requires c = search set_room

pub returns-then-set : goal.returns-then-set
returns-then-set c = search (set-wrote, in_part)
