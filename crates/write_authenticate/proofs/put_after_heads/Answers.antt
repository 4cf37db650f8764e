use Rattle.place.proofs.Laws.{and_then}
use Rattle.write_authenticate.specs.Writing.{after_heads}
use Rattle.write_authenticate.proofs.put_after_heads.Goals as goal

pub returns-clause-wrote : goal.returns-clause-wrote
unfolding after_heads
returns-clause-wrote c = search and_then
