-- Base64 with padding: RFC 4648, section 4.
use Rattle.std.specs.Prelude.{ℕ, suc, ◌+◌, ◌*◌, ◌/◌, ◌%◌, Bool, true, false, cond, ◌&&◌, ◌||◌, List, [], ◌∷◌, ◌++◌, eqb, ltb, get_or}
use Rattle.wire.specs.Text.{ascii}

-- table 1: the characters in the order of their values
unfoldable pub alphabet : List ℕ
alphabet = ascii "ABCDEFGHIJKLMNOPQRSTUVWXYZabcdefghijklmnopqrstuvwxyz0123456789+/"

abbrev pub letter : ℕ → ℕ
letter v = get_or alphabet v 0

-- the padding character, '='
abbrev pub pad : ℕ
pad = 61

-- ---- encoding: the characters of three bytes, and of two and one at the end

unfoldable pub three : ℕ → ℕ → ℕ → List ℕ
three a b c = letter (a / 4) ∷ letter (a % 4 * 16 + b / 16) ∷ letter (b % 16 * 4 + c / 64) ∷ letter (c % 64) ∷ []

unfoldable pub two : ℕ → ℕ → List ℕ
two a b = letter (a / 4) ∷ letter (a % 4 * 16 + b / 16) ∷ letter (b % 16 * 4) ∷ pad ∷ []

unfoldable pub one : ℕ → List ℕ
one a = letter (a / 4) ∷ letter (a % 4 * 16) ∷ pad ∷ pad ∷ []

abbrev pub encode : List ℕ → List ℕ
encode [] = []
encode (a ∷ []) = one a
encode (a ∷ b ∷ []) = two a b
encode (a ∷ b ∷ c ∷ m) = three a b c ++ encode m

-- ---- decoding

-- the place of a character among others; how many they are, where it is none of them
abbrev pub place_among : List ℕ → ℕ → ℕ
place_among [] c = 0
place_among (x ∷ xs) c = cond (eqb c x) 0 (suc (place_among xs c))

-- whether a character is of the alphabet, and its value there, 0 for one that is not
unfoldable pub is_letter : ℕ → Bool
is_letter c = ltb (place_among alphabet c) 64

unfoldable pub value_of : ℕ → ℕ
value_of c = cond (is_letter c) (place_among alphabet c) 0

-- whether a group stands for bytes: four letters, and in the last group also three and a pad, or two and two pads, with no bit
-- left over
unfoldable pub group_holds : Bool → ℕ → ℕ → ℕ → ℕ → Bool
group_holds last a b c d =
    is_letter a && is_letter b
    && ((is_letter c && is_letter d)
    || (last && is_letter c && eqb d pad && eqb (value_of c % 4) 0)
    || (last && eqb c pad && eqb d pad && eqb (value_of b % 16) 0))

abbrev pub is_empty_text : List ℕ → Bool
is_empty_text [] = true
is_empty_text (x ∷ t) = false

-- whether a text is in base64
abbrev pub is_base64 : List ℕ → Bool
is_base64 [] = true
is_base64 (a ∷ []) = false
is_base64 (a ∷ b ∷ []) = false
is_base64 (a ∷ b ∷ c ∷ []) = false
is_base64 (a ∷ b ∷ c ∷ d ∷ t) = group_holds (is_empty_text t) a b c d && is_base64 t

-- three bytes, each by two of a group's four values
abbrev pub first_byte : ℕ → ℕ → ℕ
first_byte s t = s * 4 + t / 16

abbrev pub second_byte : ℕ → ℕ → ℕ
second_byte t u = t % 16 * 16 + u / 4

abbrev pub third_byte : ℕ → ℕ → ℕ
third_byte u v = u % 4 * 64 + v

-- the bytes of a group
unfoldable pub group_bytes : ℕ → ℕ → ℕ → ℕ → List ℕ
group_bytes a b c d =
    cond (eqb c pad) (first_byte (value_of a) (value_of b) ∷ []) (
    cond (eqb d pad) (first_byte (value_of a) (value_of b) ∷ second_byte (value_of b) (value_of c) ∷ [])
    (first_byte (value_of a) (value_of b) ∷ second_byte (value_of b) (value_of c) ∷ third_byte (value_of c) (value_of d) ∷ []))

-- the bytes that a text stands for
abbrev pub decode : List ℕ → List ℕ
decode [] = []
decode (a ∷ []) = []
decode (a ∷ b ∷ []) = []
decode (a ∷ b ∷ c ∷ []) = []
decode (a ∷ b ∷ c ∷ d ∷ t) = group_bytes a b c d ++ decode t
