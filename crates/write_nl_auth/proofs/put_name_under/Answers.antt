use Rattle.place.proofs.Laws.{in_part}
use Rattle.write_nl_auth.proofs.Sent.{set_name_wrote}
use Rattle.write_nl_auth.proofs.put_name_under.Goals as goal

pub returns-then-set : goal.returns-then-set
returns-then-set c = search (set_name_wrote, in_part)
