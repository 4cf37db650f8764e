-- At first no line is written, and then one more.
use Rattle.place.proofs.Parts.{none_written}
use Rattle.line_checks.specs.Checks.{check_lines}
use Rattle.line_checks.proofs.Laws.{line_written}
use Rattle.line_checks.proofs.put.Goals as goal

pub loop-check-init : goal.loop-check-init
unfolding check_lines
loop-check-init c = none_written _ _ 0

pub loop-check-preserved : goal.loop-check-preserved
loop-check-preserved c = search line_written
