-- The length of a full stop's text, and of any other byte's.
use Rattle.std.proofs.Common.{arith}
use Rattle.line_dns_name.proofs.Labels.{size_stop, size_other, small_other}
use Rattle.line_dns_name.proofs.byte_size.Goals as goal

pub returns-then-b-eq46 : goal.returns-then-b-eq46
returns-then-b-eq46 c = (search size_stop, omega arith)

pub returns : goal.returns
returns c = (search size_other, search small_other)
