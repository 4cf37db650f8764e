-- The label and the string's text are written, where the bit is set.
use Rattle.line_words.specs.Words.{string_word}
use Rattle.line_words.proofs.Labels.{wrote_true}
use Rattle.line_words.proofs.Rooms.{then_lent}
use Rattle.line_nl_auth.specs.NlWord.{word_text}
use Rattle.line_nl_auth.proofs.Word.put.Goals as goal

pub returns : goal.returns
unfolding word_text string_word
returns c = search (wrote_true, then_lent)
