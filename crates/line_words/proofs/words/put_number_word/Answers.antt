-- The label, and then the decimal that was put into the part lent.
use Rattle.line_words.specs.Words.{number_word}
use Rattle.line_words.proofs.Rooms.{then_lent}
use Rattle.line_words.proofs.words.put_number_word.Goals as goal

pub returns : goal.returns
unfolding number_word
returns c = search then_lent
