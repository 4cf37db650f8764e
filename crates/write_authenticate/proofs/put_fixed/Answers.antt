use Rattle.place.proofs.Laws.{and_then}
use Rattle.write_authenticate.specs.Writing.{fixed_bytes}
use Rattle.write_authenticate.proofs.put_fixed.Goals as goal

pub returns-clause-wrote : goal.returns-clause-wrote
unfolding fixed_bytes
returns-clause-wrote c = search and_then
