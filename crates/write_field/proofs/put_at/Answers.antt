use Rattle.place.proofs.Laws.{in_part}
use Rattle.write_field.proofs.put_at.Goals as goal

pub returns : goal.returns
returns c = search in_part
