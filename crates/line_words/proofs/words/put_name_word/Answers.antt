-- The label, and then what was put into the part lent.
use Rattle.line_words.specs.Words.{name_word}
use Rattle.line_words.proofs.Rooms.{then_lent}
use Rattle.line_words.proofs.words.put_name_word.Goals as goal

pub returns : goal.returns
unfolding name_word
returns c =
    let w = rw (c.units.ensures.unicode, c.units.ensures.bytes) at c.put-text.ensures in
    search then_lent
