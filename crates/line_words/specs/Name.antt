-- N in a log line (document 01): a name by its units, 16-bit little-endian numbers where UNICODE is set, and else bytes.
use Rattle.std.specs.Prelude.{ℕ, ◌+◌, ◌*◌, Bool, true, false, ◌&&◌, not, cond, List, [], ◌∷◌, ◌++◌, leb, eqb}
use Rattle.wire.specs.Text.{ascii}
use Rattle.line_words.specs.Digits.{hex}

-- a unit that stands for itself: 0x21 to 0x7E, backslash left out
abbrev pub plain : ℕ → Bool
plain u = (leb 0x21 u && leb u 0x7E) && not (eqb u 0x5C)

-- any other: `\u` and four hex digits, or `\x` and two for a byte
unfoldable pub escape : Bool → ℕ → List ℕ
escape true u = ascii "\\u" ++ hex 4 u
escape false b = ascii "\\x" ++ hex 2 b

unfoldable pub unit_text : Bool → ℕ → List ℕ
unit_text unicode u = cond (plain u) (u ∷ []) (escape unicode u)

unfoldable pub text_of : Bool → List ℕ → List ℕ
text_of unicode [] = []
text_of unicode (u ∷ us) = unit_text unicode u ++ text_of unicode us

-- 16-bit numbers, the low byte first; a name of a taken message has no odd byte left
abbrev pub numbers16 : List ℕ → List ℕ
numbers16 [] = []
numbers16 (low ∷ []) = []
numbers16 (low ∷ high ∷ s) = (low + 256 * high) ∷ numbers16 s

abbrev pub units : Bool → List ℕ → List ℕ
units true s = numbers16 s
units false s = s

unfoldable pub name_text : Bool → List ℕ → List ℕ
name_text unicode s = text_of unicode (units unicode s)
