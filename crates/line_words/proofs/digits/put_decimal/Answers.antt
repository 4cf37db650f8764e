-- So many digits are the decimal.
use Rattle.line_words.proofs.Numbers.{wrote_decimal}
use Rattle.line_words.proofs.digits.put_decimal.Goals as goal

pub returns : goal.returns
returns c = search wrote_decimal
