use Rattle.place.proofs.Laws.{and_then}
use Rattle.write_nl_auth.specs.Writing.{zero_terminated}
use Rattle.write_nl_auth.proofs.put_string.Goals as goal

pub returns-clause-wrote : goal.returns-clause-wrote
unfolding zero_terminated
returns-clause-wrote c = search and_then
