-- A number of 32 bits has at most ten digits.
use Rattle.line_nl_auth.proofs.Bounds.{type_bound}
use Rattle.line_nl_auth.proofs.most_besides_oem.Goals as goal

pub returns : goal.returns
returns c = search type_bound
