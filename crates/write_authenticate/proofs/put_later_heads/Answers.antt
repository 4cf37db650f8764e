use Rattle.place.proofs.Laws.{and_then}
use Rattle.write_authenticate.proofs.put_later_heads.Goals as goal

pub returns-clause-wrote : goal.returns-clause-wrote
returns-clause-wrote c = search and_then
