-- The word of a string, as the line has it.
use Rattle.std.specs.Prelude.{ℕ, List}
use Rattle.line_words.specs.Words.{string_word}
use Rattle.line_nl_string.specs.StringText.{either_text}
use Rattle.line_nl_auth.specs.declared.Word.{Word}

unfoldable pub word_text : Word → List ℕ
word_text w = string_word w.label w.given (either_text w.utf8 w.msg.now w.string)
