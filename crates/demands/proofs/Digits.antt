-- The digits of a number have its value.
use Prim.Native.Nat.{ℕ, zero, suc, ◌+◌, ◌-◌, ◌*◌, ◌/◌, ◌%◌, ◌^◌, ◌≤◌, ◌<◌}
use mathlib.Core.Path.{◌≡◌, refl, sym, ap, ◌∙◌, subst}
use mathlib.Core.Logic.{◌⊎◌, inl, inr, ⊎_elim}
use mathlib.Core.Bool.{Bool, true, false}
use mathlib.Core.List.{List, [], ◌∷◌, ◌++◌}
use native.Mathlib.Nat.{pow-zero, pow-suc, mod-lt, div-add-mod', div-lt_iff_lt-mul}
use native.Mathlib.Omega.{arith}
use lib.Dec.{ltb}
use lib.ListN.{get_or, get_or-append}
use lib.Seq.{get_or_at}
use borrow.Author.Tests.{ltb-true, ltb-false, lt-ltb, le-ltb}
use Rattle.wire.specs.Text.{ascii}
use Rattle.wire.specs.Number.{u16_at, u32_at}
use Rattle.line_words.specs.Digits.{hex_digit, digits, hex, size_step, size_within, decimal_size, decimal}
use Rattle.line_words.proofs.Numbers.{low_digit, high_digit, length_digits}
use Rattle.demands.specs.Digits.{IsDecimalDigit, IsHexDigit, worth_of, read_on, digits_value, DecimalHasValue, HexHasValue, HexIsEnough}

-- ---- one digit

worth : (n : ℕ) → n < 16 → worth_of (hex_digit n) ≡ n
worth n h = go (ltb n 10) refl where
  go : (t : Bool) → ltb n 10 ≡ t → worth_of (hex_digit n) ≡ n
  go true e = low (ltb-true n 10 e) where
    low : n < 10 → worth_of (hex_digit n) ≡ n
    low l = rw (← (low_digit n l), lt-ltb (0x30 + n) 65 (omega arith)) (omega arith)
  go false e = high (ltb-false n 10 e) where
    high : 10 ≤ n → worth_of (hex_digit n) ≡ n
    high l = rw (← (high_digit n l h), le-ltb (0x41 + (n - 10)) 65 (omega arith)) (omega arith)

decimal_digit : (n : ℕ) → n < 10 → IsDecimalDigit (hex_digit n)
decimal_digit n h = (omega (arith, low_digit n h), omega (arith, low_digit n h))

hex_digit_lem : (n : ℕ) → n < 16 → IsHexDigit (hex_digit n)
hex_digit_lem n h = go (ltb n 10) refl where
  go : (t : Bool) → ltb n 10 ≡ t → IsHexDigit (hex_digit n)
  go true e = inl (decimal_digit n (ltb-true n 10 e))
  go false e = inr (omega (arith, high_digit n (ltb-false n 10 e) h), omega (arith, high_digit n (ltb-false n 10 e) h))

-- ---- digits in a base

one_more : (base n c : ℕ) (cs : List ℕ) → read_on base n (cs ++ (c ∷ [])) ≡ read_on base n cs * base + worth_of c
one_more base n c [] = refl
one_more base n c (d ∷ cs) = one_more base (n * base + worth_of d) c cs

module _ (base : ℕ) (some : 0 < base) where
  value_is : (k n : ℕ) → base ≤ 16 → n < base ^ k → digits_value base (digits base k n) ≡ n
  value_is zero n b h = omega (arith, pow-zero base)
  value_is (suc k) n b h =
      one_more base 0 (hex_digit (n % base)) (digits base k (n / base))
      ∙ rw (value_is k (n / base) b lower, worth (n % base) (omega (arith, mod-lt n some))) (div-add-mod' n base)
    where
      lower : n / base < base ^ k
      lower = (div-lt_iff_lt-mul {k = base} {x = n} {y = base ^ k} some).1 (omega (arith, pow-suc base k))

  -- what holds of each digit below the base
  each : (P : ℕ → Type 0) → ((m : ℕ) → m < base → P (hex_digit m)) → (k n i : ℕ) → i < k → P (get_or (digits base k n) i 0)
  each P h zero n i l = absurd (omega arith)
  each P h (suc k) n i l = go (ltb i k) refl (λ f. each P h k (n / base) i f) where
    go : (t : Bool) → ltb i k ≡ t → (i < k → P (get_or (digits base k (n / base)) i 0)) → P (get_or (digits base k (n / base) ++ (hex_digit (n % base) ∷ [])) i 0)
    go true e rest =
        rw (get_or-append (digits base k (n / base)) (hex_digit (n % base) ∷ []) 0 i (omega (arith, ltb-true i k e, length_digits base k (n / base))))
        (rest (ltb-true i k e))
    go false e rest =
        rw (get_or_at (digits base k (n / base)) (hex_digit (n % base)) [] 0 i (omega (arith, ltb-false i k e, length_digits base k (n / base))))
        (h (n % base) (mod-lt n some))

-- ---- decimals

-- a number of m + 1 digits: that many are enough, and with one fewer it would not fit
pub record Sized (n size : ℕ) : Type 0 where
  pub lower : ℕ
  pub size_is : size ≡ suc lower
  pub enough : n < 10 ^ suc lower
  pub needed : (lower ≡ 0) ⊎ (10 ^ lower ≤ n)

small : (n : ℕ) → n < 10 → Sized n 1
small n h = record { lower = 0; size_is = refl; enough = omega arith; needed = inl refl }

sized : (k n : ℕ) → n ≤ k → Sized n (size_within k n)
sized zero n h = small n (omega arith)
sized (suc k) n h = go (ltb n 10) refl (λ l. sized k (n / 10) l) where
  go : (t : Bool) → ltb n 10 ≡ t → (n / 10 ≤ k → Sized (n / 10) (size_within k (n / 10))) → Sized n (size_step t n (λ m. size_within k m))
  go true e rest = small n (ltb-true n 10 e)
  go false e rest = tenfold (ltb-false n 10 e) where
    tenfold : 10 ≤ n → Sized n (suc (size_within k (n / 10)))
    tenfold l =
        let r = rest (omega arith) in
        record {
          lower = suc r.lower;
          size_is = ap suc r.size_is;
          enough = omega (arith, r.enough);
          needed = inr (⊎_elim (λ z. subst (λ (m : ℕ). 10 ^ suc m ≤ n) (sym z) (omega arith)) (λ z. omega (arith, z)) r.needed);
        }

-- the first digit of a number that needs them all
first_digit : (m n : ℕ) → 10 ^ m ≤ n → n < 10 ^ suc m → 49 ≤ get_or (digits 10 (suc m) n) 0 0
first_digit zero n h l =
    let e : n % 10 ≡ n = omega arith in
    rw e (omega (arith, low_digit n (omega arith)))
first_digit (suc m) n h l =
    rw (get_or-append (digits 10 (suc m) (n / 10)) (hex_digit (n % 10) ∷ []) 0 0 (omega (arith, length_digits 10 (suc m) (n / 10))))
    (first_digit m (n / 10) (omega arith) (omega arith))

-- a text of one digit
one_zero : (m n : ℕ) → m ≡ 0 → get_or (digits 10 (suc m) n) 0 0 ≡ 48 → digits 10 (suc m) n ≡ ascii "0"
one_zero zero n z e = ap (λ (c : ℕ). c ∷ []) e
one_zero (suc m) n z e = absurd (omega arith)

pub decimal_has_value : DecimalHasValue
unfolding decimal decimal_size
decimal_has_value n =
    let z = sized n n (omega arith) in
    rw z.size_is
    (record {
      value = value_is 10 (omega arith) (suc z.lower) n (omega arith) z.enough;
      some = omega (arith, length_digits 10 (suc z.lower) n);
      digits = λ i l. each 10 (omega arith) IsDecimalDigit decimal_digit (suc z.lower) n i (omega (arith, length_digits 10 (suc z.lower) n));
      no_leading_zero = λ e. ⊎_elim (λ q. one_zero z.lower n q e) (λ q. absurd (omega (arith, e, first_digit z.lower n q z.enough))) z.needed;
    })

pub hex_has_value : HexHasValue
unfolding hex
hex_has_value k n =
    record {
      value = λ h. value_is 16 (omega arith) k n (omega arith) h;
      count = length_digits 16 k n;
      digits = λ i l. each 16 (omega arith) IsHexDigit hex_digit_lem k n i l;
    }

pub hex_is_enough : HexIsEnough
hex_is_enough s byte at = (byte at, two at, four at, omega (arith, four at, four (at + 4))) where
  two : (p : ℕ) → u16_at s p < 16 ^ 4
  two p = omega (arith, byte p, byte (p + 1))

  four : (p : ℕ) → u32_at s p < 16 ^ 8
  four p = omega (arith, two p, two (p + 2))
