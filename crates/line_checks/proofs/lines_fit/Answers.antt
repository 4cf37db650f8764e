-- At first the whole room is for all lines, and then one line less.
use Rattle.std.proofs.Common.{arith, refl}
use Rattle.line_checks.specs.Checks.{check_lines}
use Rattle.line_checks.proofs.Laws.{next_size}
use Rattle.line_checks.proofs.lines_fit.Goals as goal

pub loop-n-init : goal.loop-n-init
unfolding check_lines
loop-n-init c = refl

pub returns-then-left-eq0 : goal.returns-then-left-eq0
returns-then-left-eq0 c = grind (arith, next_size)

pub loop-n-preserved : goal.loop-n-preserved
loop-n-preserved c = omega (arith, next_size)
