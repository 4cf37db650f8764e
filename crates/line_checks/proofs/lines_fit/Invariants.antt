-- What the lines of the checks before `n` left of the room is for those from `n` on.
use Rattle.std.proofs.Common.{◌≡◌, ◌+◌, drop, length}
use Rattle.line_checks.specs.Checks.{lines_from, check_lines}
use Rattle.line_checks.proofs.lines_fit.Given as goal

abbrev pub invariant-loop-n : goal.invariant-loop-n
invariant-loop-n l = l.left + length (check_lines l.f l.checks) ≡ l.room + length (lines_from l.reached l.f (drop l.n-index l.checks))
