use Rattle.place.proofs.Laws.{and_then}
use Rattle.write_authenticate.specs.Writing.{heads_bytes}
use Rattle.write_authenticate.proofs.put_heads.Goals as goal

pub returns-clause-wrote : goal.returns-clause-wrote
unfolding heads_bytes
returns-clause-wrote c = search and_then
