-- Writing a name: text split at its full stops into labels, and no jumps. Empty text is the zero byte alone.
use Rattle.std.specs.Prelude.{ℕ, suc, ◌&&◌, cond, List, [], ◌∷◌, ◌++◌, leb, eqb, length}
use Rattle.wire.specs.declared.check.Checked.{Checked}
use Rattle.wire.specs.declared.check.Checked.TheVariants.{Held, Failed}
use Rattle.wire.specs.Check.{checked, after}
use Rattle.read_dns_name.specs.Rfc1035.{coded_length}

-- a byte before the first of these pieces
abbrev pub on_first : ℕ → List (List ℕ) → List (List ℕ)
on_first b [] = (b ∷ []) ∷ []
on_first b (l ∷ ls) = (b ∷ l) ∷ ls

-- the pieces between full stops
unfoldable pub pieces : List ℕ → List (List ℕ)
pieces [] = [] ∷ []
pieces (b ∷ t) = cond (eqb b 0x2E) ([] ∷ pieces t) (on_first b (pieces t))

unfoldable pub split_labels : List ℕ → List (List ℕ)
split_labels [] = []
split_labels (b ∷ t) = pieces (b ∷ t)

-- each label after its length byte, and the zero byte
unfoldable pub label_bytes : List ℕ → List ℕ
label_bytes l = length l ∷ l

unfoldable pub coded : List (List ℕ) → List ℕ
coded [] = 0 ∷ []
coded (l ∷ ls) = label_bytes l ++ coded ls

unfoldable pub name_bytes : List ℕ → List ℕ
name_bytes t = coded (split_labels t)

-- "50 for an empty label or one over 63"
abbrev pub label_holds : ℕ → Checked
label_holds n = checked (leb 1 n && leb n 63)

unfoldable pub labels_hold : List (List ℕ) → Checked
labels_hold [] = Held
labels_hold (l ∷ ls) = after (label_holds (length l)) Failed (labels_hold ls)

-- 50 and 53 for a text
unfoldable pub text_holds : List ℕ → Checked
text_holds t = labels_hold (split_labels t)

unfoldable pub coded_holds : List ℕ → Checked
coded_holds t = checked (leb (coded_length (split_labels t)) 255)

-- how many bytes stand before the first full stop; all of them if there is none
unfoldable pub before_stop : List ℕ → ℕ
before_stop [] = 0
before_stop (b ∷ t) = cond (eqb b 0x2E) 0 (suc (before_stop t))
