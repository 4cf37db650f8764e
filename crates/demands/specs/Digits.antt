-- Document 01, "The log line": "H is eight upper-case hex digits .. D is decimal, without leading zeros", by what digits are
-- worth.
use Rattle.std.specs.Prelude.{ℕ, ◌+◌, ◌-◌, ◌*◌, ◌^◌, ◌≤◌, ◌<◌, ◌≡◌, ◌⊎◌, cond, List, [], ◌∷◌, ltb, length, get_or}
use Rattle.wire.specs.Text.{ascii}
use Rattle.wire.specs.Number.{u16_at, u32_at, u64_at}
use Rattle.line_words.specs.Digits.{hex, decimal}

-- '0' to '9' are the characters 48 to 57, and 'A' to 'F' are 65 to 70
abbrev pub IsDecimalDigit : ℕ → Type 0
IsDecimalDigit c = (48 ≤ c) × (c ≤ 57)

abbrev pub IsHexDigit : ℕ → Type 0
IsHexDigit c = IsDecimalDigit c ⊎ ((65 ≤ c) × (c ≤ 70))

-- what a digit is worth: '0' is 0, 'A' is 10
abbrev pub worth_of : ℕ → ℕ
worth_of c = cond (ltb c 65) (c - 48) (c - 55)

-- digits are read from the left: each makes of n, the value so far, n times the base and the digit's worth
abbrev pub read_on : ℕ → ℕ → List ℕ → ℕ
read_on base n [] = n
read_on base n (c ∷ cs) = read_on base (n * base + worth_of c) cs

-- the value of digits in a base
abbrev pub digits_value : ℕ → List ℕ → ℕ
digits_value base text = read_on base 0 text

-- a number in decimal: only the text "0" begins with '0'
pub record IsDecimalOf (n : ℕ) (text : List ℕ) : Type 0 where
  pub value : digits_value 10 text ≡ n
  pub some : 0 < length text
  pub digits : (i : ℕ) → i < length text → IsDecimalDigit (get_or text i 0)
  pub no_leading_zero : get_or text 0 0 ≡ 48 → text ≡ ascii "0"

abbrev pub DecimalHasValue : Type 0
DecimalHasValue = (n : ℕ) → IsDecimalOf n (decimal n)

-- a number in k hex digits
pub record IsHexOf (k n : ℕ) (text : List ℕ) : Type 0 where
  pub value : n < 16 ^ k → digits_value 16 text ≡ n
  pub count : length text ≡ k
  pub digits : (i : ℕ) → i < k → IsHexDigit (get_or text i 0)

abbrev pub HexHasValue : Type 0
HexHasValue = (k n : ℕ) → IsHexOf k n (hex k n)

-- as many digits as the log line has are enough for a byte and for numbers of two, four and eight bytes
abbrev pub HexIsEnough : Type 0
HexIsEnough =
    (s : List ℕ) → ((i : ℕ) → get_or s i 0 < 256) → (at : ℕ) →
    (get_or s at 0 < 16 ^ 2) × (u16_at s at < 16 ^ 4) × (u32_at s at < 16 ^ 8) × (u64_at s at < 16 ^ 16)
