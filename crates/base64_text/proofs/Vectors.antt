-- The examples of RFC 4648, section 10, computed from the definitions, and texts that are not in base64.
use mathlib.Core.Path.{◌≡◌, refl}
use mathlib.Core.Bool.{Bool, true, false, not, ◌&&◌}
use mathlib.Core.List.{List, [], ◌∷◌}
use Prim.Native.Nat.{ℕ}
use lib.Dec.{eqb}
use Rattle.wire.specs.Text.{ascii}
use Rattle.base64_text.specs.Base64.{alphabet, three, two, one, encode, is_letter, value_of, group_holds, is_base64, group_bytes, decode}

abbrev same : List ℕ → List ℕ → Bool
same [] [] = true
same [] (y ∷ ys) = false
same (x ∷ xs) [] = false
same (x ∷ xs) (y ∷ ys) = eqb x y && same xs ys

-- a message and its text, both ways
abbrev is_example : List ℕ → List ℕ → Bool
is_example m t = same (encode m) t && is_base64 t && same (decode t) m

rfc_4648 :
    is_example (ascii "") (ascii "") && is_example (ascii "f") (ascii "Zg==") && is_example (ascii "fo") (ascii "Zm8=")
    && is_example (ascii "foo") (ascii "Zm9v") && is_example (ascii "foob") (ascii "Zm9vYg==") && is_example (ascii "fooba") (ascii "Zm9vYmE=")
    && is_example (ascii "foobar") (ascii "Zm9vYmFy") ≡ true
unfolding alphabet is_letter value_of group_holds group_bytes three two one
rfc_4648 = refl

-- last bits, padding in the middle, missing and too much, a space at the end, and the characters of section 5
not-base64 :
    not (is_base64 (ascii "Zh==")) && not (is_base64 (ascii "Zm9=")) && not (is_base64 (ascii "Zg==Zg==")) && not (is_base64 (ascii "Zg"))
    && not (is_base64 (ascii "Zg=")) && not (is_base64 (ascii "Z===")) && not (is_base64 (ascii "Zg== ")) && not (is_base64 (ascii "Zm9v-A=="))
    && not (is_base64 (ascii "Zm9v_A==")) ≡ true
unfolding alphabet is_letter value_of group_holds
not-base64 = refl
