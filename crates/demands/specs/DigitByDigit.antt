-- Request 6/12: "work out each digit of a log line from its number .. for each of 0 to 15 the digit is proved to be the
-- definition's". `hex_digit` (`crates/line_words`) makes every digit of H, T, D and an escape, and its contract gives hex_digit n for each n
-- below 16; those of `max=` are chosen by a test, and B, and the figure in K, are letters of fixed words. Here stands which sixteen digits
-- these are, how each comes from its number, and that each digit of H, T, D, an escape and `max=` is such a one.
use Rattle.std.specs.Prelude.{ℕ, ◌+◌, ◌-◌, ◌/◌, ◌%◌, ◌^◌, ◌≤◌, ◌<◌, ◌≡◌, List, [], ◌∷◌, ◌++◌, length, get_or}
use Prim.Native.String.{String}
use Rattle.wire.specs.Text.{ascii}
use Rattle.line_words.specs.Digits.{hex_digit, hex, decimal}
use Rattle.head.specs.declared.Kind.{Kind}
use Rattle.line.specs.Line.{line_as}
use Rattle.demands.specs.Explained.{format_of, TakenAs}
use Rattle.demands.specs.MaxLen.{Unlike}

-- the digit of n is this character
abbrev Shows : ℕ → String → Type 0
Shows n text = hex_digit n ∷ [] ≡ ascii text

abbrev pub SixteenDigits : Type 0
SixteenDigits =
    Shows 0 "0" × Shows 1 "1" × Shows 2 "2" × Shows 3 "3" × Shows 4 "4" × Shows 5 "5" × Shows 6 "6" × Shows 7 "7" ×
    Shows 8 "8" × Shows 9 "9" × Shows 10 "A" × Shows 11 "B" × Shows 12 "C" × Shows 13 "D" × Shows 14 "E" × Shows 15 "F"

-- a digit from its number: '0' is 48, and 'A' is 65
abbrev pub DigitFromNumber : Type 0
DigitFromNumber = (n : ℕ) → (n < 10 → hex_digit n ≡ 48 + n) × (10 ≤ n → n < 16 → hex_digit n ≡ 65 + (n - 10))

-- of k hex digits the one at i, from the left, has k - 1 - i to its right
abbrev pub HexDigitByDigit : Type 0
HexDigitByDigit = (k n i : ℕ) → i < k → get_or (hex k n) i 0 ≡ hex_digit (n / 16 ^ (k - 1 - i) % 16)

abbrev pub DecimalDigitByDigit : Type 0
DecimalDigitByDigit =
    (n i : ℕ) → i < length (decimal n) → get_or (decimal n) i 0 ≡ hex_digit (n / 10 ^ (length (decimal n) - 1 - i) % 10)

-- of `max=`, the last word of a taken message's line, the digit of field i is that of 1 where a field that counts has MaxLen unlike Len,
-- else that of 0
pub record LastWord (k : Kind) (s : List ℕ) : Type 0 where
  pub before : List ℕ
  pub digits : List ℕ
  pub line_is : line_as k s ≡ before ++ (ascii " max=" ++ (digits ++ (0x0A ∷ [])))
  pub count : length digits ≡ (format_of k).last
  pub one : (i : ℕ) → 1 ≤ i → i ≤ (format_of k).last → Unlike (format_of k) s i → get_or digits (i - 1) 0 ≡ hex_digit 1
  pub else : (i : ℕ) → 1 ≤ i → i ≤ (format_of k).last → (Unlike (format_of k) s i → ⊥) → get_or digits (i - 1) 0 ≡ hex_digit 0

abbrev pub MaxDigitByDigit : Type 0
MaxDigitByDigit = (k : Kind) (s : List ℕ) → TakenAs k s → LastWord k s
