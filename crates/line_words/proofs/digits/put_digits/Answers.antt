-- One more digit is stored, and at last all are.
use Rattle.line_words.proofs.Numbers.{one_stored, digits_stored}
use Rattle.line_words.proofs.digits.put_digits.Goals as goal

pub loop-i-preserved : goal.loop-i-preserved
loop-i-preserved g c = search one_stored

pub returns-clause-wrote : goal.returns-clause-wrote
returns-clause-wrote g c = search digits_stored
