use Rattle.place.proofs.Laws.{and_then}
use Rattle.write_field.specs.Writing.{head_bytes}
use Rattle.write_field.proofs.put_head.Goals as goal

pub returns-clause-wrote : goal.returns-clause-wrote
unfolding head_bytes
returns-clause-wrote c = search and_then
