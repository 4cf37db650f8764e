-- The lines of the checks before `check` are written.
use Rattle.std.proofs.Common.{drop}
use Rattle.place.proofs.Parts.{Partly}
use Rattle.line_checks.specs.Checks.{lines_from, check_lines}
use Rattle.line_checks.proofs.put.Given as goal

abbrev pub invariant-loop-check : goal.invariant-loop-check
invariant-loop-check l = Partly l.fn.out l.out 0 l.p.at (lines_from l.reached l.f (drop l.check-index l.checks)) (check_lines l.f l.checks)
