-- The label, and then the digits that were put into the part lent.
use Rattle.std.proofs.Common.{arith}
use Rattle.line_words.specs.Words.{flags_word}
use Rattle.line_words.proofs.Labels.{flags_word_room}
use Rattle.line_words.proofs.Rooms.{then_lent}
use Rattle.line_words.proofs.words.put_flags_word.Goals as goal

pub put_hex-digits-requires : goal.put_hex-digits-requires
put_hex-digits-requires c = omega (arith, flags_word_room)

pub returns : goal.returns
unfolding flags_word
returns c = search then_lent
