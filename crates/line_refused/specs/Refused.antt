-- The line of a refusal: refused D field=D at=D
use Rattle.std.specs.Prelude.{ℕ, List, ◌++◌}
use Rattle.wire.specs.Text.{ascii}
use Rattle.wire.specs.declared.refusal.Refusal.{Refusal}
use Rattle.wire.specs.Refusal.{number_of, field_of, place_of}
use Rattle.line_words.specs.Words.{number_word, line_end}

unfoldable pub refused_end : ℕ → List ℕ
refused_end place = number_word (ascii " at=") place ++ line_end

unfoldable pub refused_text : ℕ → ℕ → ℕ → List ℕ
refused_text number field place =
    number_word (ascii "refused ") number ++ (
    number_word (ascii " field=") field ++
    refused_end place)

unfoldable pub refused_line : Refusal → List ℕ
refused_line e = refused_text (number_of e) (field_of e) (place_of e)
