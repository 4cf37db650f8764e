use Rattle.place.proofs.Laws.{and_then}
use Rattle.write_negotiate.specs.Writing.{fixed_bytes}
use Rattle.write_negotiate.proofs.put_fixed.Goals as goal

pub returns-clause-wrote : goal.returns-clause-wrote
unfolding fixed_bytes
returns-clause-wrote c = search and_then
