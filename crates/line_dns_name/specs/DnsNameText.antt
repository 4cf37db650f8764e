-- The text of a name in a line: its labels joined with a full stop. A byte of a label is written as in any name, and a full stop as `\x2E`.
use Rattle.std.specs.Prelude.{ℕ, Bool, true, false, cond, List, [], ◌∷◌, ◌++◌, eqb}
use Rattle.wire.specs.Text.{ascii}
use Rattle.line_words.specs.Name.{escape, unit_text}

unfoldable pub byte_text : ℕ → List ℕ
byte_text b = cond (eqb b 0x2E) (escape false b) (unit_text false b)

unfoldable pub label_text : List ℕ → List ℕ
label_text [] = []
label_text (b ∷ bs) = byte_text b ++ label_text bs

-- a label, with a full stop before it unless it is the first
unfoldable pub part_text : Bool → List ℕ → List ℕ
part_text first l = cond first [] (ascii ".") ++ label_text l

unfoldable pub joined : Bool → List (List ℕ) → List ℕ
joined first [] = []
joined first (l ∷ ls) = part_text first l ++ joined false ls

unfoldable pub dns_name_text : List (List ℕ) → List ℕ
dns_name_text ls = joined true ls
