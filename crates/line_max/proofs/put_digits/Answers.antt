-- One more digit is written.
use Rattle.line_max.proofs.Laws.{one_digit}
use Rattle.line_max.proofs.put_digits.Goals as goal

pub loop-f-preserved : goal.loop-f-preserved
loop-f-preserved c = search one_digit
