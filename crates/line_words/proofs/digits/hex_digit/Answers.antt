-- What is worked out is the digit of the definition.
use Rattle.line_words.proofs.Numbers.{digit_worked_out}
use Rattle.line_words.proofs.digits.hex_digit.Goals as goal

pub returns : goal.returns
returns c = search digit_worked_out
