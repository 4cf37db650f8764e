-- A tenth has one digit less, and a number below ten has one.
use Rattle.std.proofs.Common.{arith}
use Rattle.line_words.proofs.Numbers.{one_digit, more_digits, length-decimal}
use Rattle.line_words.proofs.digits.decimal_size.Goals as goal

pub loop-left-preserved : goal.loop-left-preserved
loop-left-preserved c = (omega (arith, more_digits), omega arith)

pub returns : goal.returns
returns c = omega (arith, one_digit, length-decimal)
