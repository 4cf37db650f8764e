-- Numbers in a log line (document 01): H and T in upper-case hex digits, D in decimal without leading zeros.
use Rattle.std.specs.Prelude.{ℕ, zero, suc, ◌/◌, ◌%◌, Bool, true, false, List, [], ◌∷◌, ◌++◌, ltb, get_or}
use Rattle.wire.specs.Text.{ascii}

-- the digit of a number below 16
unfoldable pub hex_digit : ℕ → ℕ
hex_digit n = get_or (ascii "0123456789ABCDEF") n 0

-- the last k digits of a number in a base of at most 16, the highest first
abbrev pub digits : ℕ → ℕ → ℕ → List ℕ
digits base zero n = []
digits base (suc k) n = digits base k (n / base) ++ (hex_digit (n % base) ∷ [])

unfoldable pub hex : ℕ → ℕ → List ℕ
hex k n = digits 16 k n

-- 1 for a number below 10, and else one more than what `size` says of a tenth of it
abbrev pub size_step : Bool → ℕ → (ℕ → ℕ) → ℕ
size_step true n size = 1
size_step false n size = suc (size (n / 10))

-- how many decimal digits a number has, in at most so many steps
abbrev pub size_within : ℕ → ℕ → ℕ
size_within zero n = 1
size_within (suc k) n = size_step (ltb n 10) n (λ m. size_within k m)

-- how many it has without leading zeros; a tenth is less than the number, so this many steps do
unfoldable pub decimal_size : ℕ → ℕ
decimal_size n = size_within n n

unfoldable pub decimal : ℕ → List ℕ
decimal n = digits 10 (decimal_size n) n
