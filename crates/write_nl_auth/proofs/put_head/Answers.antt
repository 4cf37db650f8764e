use Rattle.place.proofs.Laws.{and_then}
use Rattle.write_nl_auth.specs.Writing.{type_and_flags}
use Rattle.write_nl_auth.proofs.put_head.Goals as goal

pub returns-clause-wrote : goal.returns-clause-wrote
unfolding type_and_flags
returns-clause-wrote c = search and_then
