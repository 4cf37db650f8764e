-- The last word of an `auth`, a `chal` and a `nego` line: max= with a digit for each field, in field order.
use Rattle.std.specs.Prelude.{ℕ, cond, List, [], ◌∷◌, ◌++◌, eqb}
use Rattle.wire.specs.Text.{ascii}
use Rattle.field.specs.declared.Field.{Field}
use Rattle.line_words.specs.Words.{line_end}

-- 1 where MaxLen is unlike Len, else 0; a field that doesn't count has 0 for both, so that its digit is 0
unfoldable pub max_digit : Field → ℕ
max_digit f = cond (eqb f.max_len f.len) 0x30 0x31

-- the fields by number, in field order
abbrev pub max_digits : List (ℕ × Field) → List ℕ
max_digits [] = []
max_digits (f ∷ fs) = max_digit f.1 ∷ max_digits fs

unfoldable pub max_word : List (ℕ × Field) → List ℕ
max_word fs = ascii " max=" ++ max_digits fs

-- the word, and the line's end after it
unfoldable pub max_end : List (ℕ × Field) → List ℕ
max_end fs = max_word fs ++ line_end
