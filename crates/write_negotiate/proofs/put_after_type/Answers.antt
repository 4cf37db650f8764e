use Rattle.place.proofs.Laws.{and_then}
use Rattle.write_negotiate.specs.Writing.{after_type}
use Rattle.write_negotiate.proofs.put_after_type.Goals as goal

pub returns-clause-wrote : goal.returns-clause-wrote
unfolding after_type
returns-clause-wrote c = search and_then
