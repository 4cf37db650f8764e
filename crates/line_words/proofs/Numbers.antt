-- Laws of the digits of a number.
use Prim.Native.Nat.{ℕ, zero, suc, ◌+◌, ◌-◌, ◌*◌, ◌/◌, ◌%◌, ◌^◌, ◌≤◌, ◌<◌}
use mathlib.Core.Path.{◌≡◌, refl, sym, ap, ◌∙◌}
use mathlib.Core.Bool.{Bool, true, false, ◌&&◌}
use mathlib.Core.List.{List, [], ◌∷◌, ◌++◌, append_assoc}
use native.Mathlib.Nat.{zero-add}
use native.Mathlib.Numerals.{add-one}
use native.Mathlib.Omega.{arith}
use lib.Dec.{ltb, eqb}
use lib.ListN.{length, set, length-append}
use lib.Seq.{sets, set_comm}
use borrow.Author.Tests.{eqb-true, eqb-false, ltb-true, ltb-false, lt-ltb, le-ltb}
use Rattle.wire.proofs.Bools.{and_left, and_right}
use Rattle.place.specs.Place.{Wrote}
use Rattle.line_words.specs.Digits.{hex_digit, digits, hex, size_step, size_within, decimal_size, decimal}

-- ---- one digit

-- a digit as it is worked out, held against the definition's for every number below m
abbrev worked_out : ℕ → ℕ
worked_out n = 0x30 + n + 7 * (n / 10)

abbrev all_same : ℕ → Bool
unfolding hex_digit
all_same zero = true
all_same (suc m) = eqb (worked_out m) (hex_digit m) && all_same m

same_at : (m n : ℕ) → all_same m ≡ true → n < m → worked_out n ≡ hex_digit n
unfolding hex_digit
same_at zero n h l = absurd (omega arith)
same_at (suc m) n h l =
    go (eqb n m) refl (λ k. same_at m n (and_right (eqb (worked_out m) (hex_digit m)) (all_same m) h) k)
  where
    go : (t : Bool) → eqb n m ≡ t → (n < m → worked_out n ≡ hex_digit n) → worked_out n ≡ hex_digit n
    go true e next = rw (eqb-true n m e) (eqb-true (worked_out m) (hex_digit m) (and_left _ _ h))
    go false e next = next (omega (arith, eqb-false n m e))

pub digit_worked_out : (n : ℕ) → n < 16 → 0x30 + n + 7 * (n / 10) ≡ hex_digit n
unfolding hex_digit
digit_worked_out n h = same_at 16 n refl h

pub low_digit : (n : ℕ) → n < 10 → 0x30 + n ≡ hex_digit n
low_digit n h = omega (arith, digit_worked_out n (omega arith))

pub high_digit : (n : ℕ) → 10 ≤ n → n < 16 → 0x41 + (n - 10) ≡ hex_digit n
high_digit n h l = omega (arith, digit_worked_out n l)

-- ---- digits that are stored from the lowest to the highest

pub length_digits : (base k n : ℕ) → length (digits base k n) ≡ k
length_digits base zero n = refl
length_digits base (suc k) n = simp (length-append, length_digits base k (n / base)) (add-one k)

-- all but the first i digits of `whole` are stored in k, which was l; those are the last i digits of `left`
pub record Lowest (base : ℕ) (l k whole : List ℕ) (i left : ℕ) : Type 0 where
  pub within : i ≤ length l
  pub lower : List ℕ
  pub stored : k ≡ sets l i lower
  pub split : whole ≡ digits base i left ++ lower

-- a store before a run of stores may as well come first
set_before : (xs l : List ℕ) (i j d : ℕ) → j < i → set (sets l i xs) j d ≡ sets (set l j d) i xs
set_before [] l i j d h = refl
set_before (x ∷ xs) l i j d h =
    set_before xs (set l i x) (suc i) j d (omega arith)
    ∙ ap (λ (k : List ℕ). sets k (suc i) xs) (set_comm l i j x d (λ e. omega arith))

module _ (base : ℕ) (l k whole : List ℕ) (i left : ℕ) (w : Lowest base l k whole i left) where
  pub one_stored : (r d rest : ℕ) → 0 < i → r ≡ left % base → d ≡ hex_digit r → rest ≡ left / base →
      Lowest base l (set k (i - 1) d) whole (i - 1) rest
  one_stored r d rest h e f g =
      let j : ℕ = i - 1 in
      let up : i ≡ suc j = omega arith in
      rw g
      (record {
        within = omega (arith, w.within);
        lower = d ∷ w.lower;
        stored =
            ap (λ (m : List ℕ). set m j d) w.stored
            ∙ set_before w.lower l i j d (omega arith)
            ∙ ap (λ (m : ℕ). sets (set l j d) m w.lower) up;
        split =
            w.split
            ∙ ap (λ (m : ℕ). digits base m left ++ w.lower) up
            ∙ append_assoc (digits base j (left / base)) (hex_digit (left % base) ∷ []) w.lower
            ∙ rw (f, e);
      })

pub all_stored : (base : ℕ) (l k whole : List ℕ) (i left : ℕ) → Lowest base l k whole i left → (m : ℕ) → i ≤ 0 → m ≡ length whole → Wrote l k 0 m whole
all_stored base l k whole i left w m h e =
    let z : i ≡ 0 = omega arith in
    let s : whole ≡ w.lower = w.split ∙ ap (λ (j : ℕ). digits base j left ++ w.lower) z in
    record {
      place = e ∙ sym (zero-add (length whole));
      content = w.stored ∙ ap (λ (j : ℕ). sets l j w.lower) z ∙ ap (λ (xs : List ℕ). sets l 0 xs) (sym s);
    }

pub digits_stored : (base : ℕ) (l m : List ℕ) (k n i left : ℕ) → Lowest base l m (digits base k n) i left → i ≤ 0 → Wrote l m 0 k (digits base k n)
digits_stored base l m k n i left w h = all_stored base l m (digits base k n) i left w k h (sym (length_digits base k n))

-- ---- decimals

-- more steps than are needed change nothing
steps : (j k n : ℕ) → n ≤ j → n ≤ k → size_within j n ≡ size_within k n
steps zero zero n h l = refl
steps zero (suc k) n h l = simp (lt-ltb n 10 (omega arith))
steps (suc j) zero n h l = simp (lt-ltb n 10 (omega arith))
steps (suc j) (suc k) n h l = go (ltb n 10) (steps j k (n / 10) (omega arith) (omega arith)) where
  go : (t : Bool) → size_within j (n / 10) ≡ size_within k (n / 10) →
      size_step t n (λ m. size_within j m) ≡ size_step t n (λ m. size_within k m)
  go true e = refl
  go false e = ap suc e

pub one_digit : (n : ℕ) → n < 10 → decimal_size n ≡ 1
unfolding decimal_size
one_digit n h = steps n (suc n) n (omega arith) (omega arith) ∙ simp (lt-ltb n 10 h)

pub more_digits : (n : ℕ) → 10 ≤ n → decimal_size n ≡ suc (decimal_size (n / 10))
unfolding decimal_size
more_digits n h =
    steps n (suc n) n (omega arith) (omega arith)
    ∙ simp (le-ltb n 10 h) (ap suc (steps n (n / 10) (n / 10) (omega arith) (omega arith)))

few_digits : (k n : ℕ) → n < 10 ^ suc k → decimal_size n ≤ suc k
few_digits zero n h = omega (arith, one_digit n (omega arith))
few_digits (suc k) n h = go (ltb n 10) refl (λ g. few_digits k (n / 10) g) where
  go : (t : Bool) → ltb n 10 ≡ t → (n / 10 < 10 ^ suc k → decimal_size (n / 10) ≤ suc k) → decimal_size n ≤ suc (suc k)
  go true e next = omega (arith, one_digit n (ltb-true n 10 e))
  go false e next = omega (arith, more_digits n (ltb-false n 10 e), next (omega arith))

pub length-decimal : (n : ℕ) → length (decimal n) ≡ decimal_size n
unfolding decimal
length-decimal n = length_digits 10 (decimal_size n) n

-- so many digits are the decimal
pub wrote_decimal : (l k : List ℕ) (n size q : ℕ) → size ≡ length (decimal n) → Wrote l k 0 q (digits 10 size n) → Wrote l k 0 q (decimal n)
unfolding decimal
wrote_decimal l k n size q e w = rw (e ∙ length-decimal n) at w

-- a number below a power of ten has at most so many digits
pub decimal_bound : (k n : ℕ) → n < 10 ^ suc k → length (decimal n) ≤ suc k
decimal_bound k n h = omega (arith, length-decimal n, few_digits k n h)

pub length-hex : (k n : ℕ) → length (hex k n) ≡ k
unfolding hex
length-hex k n = length_digits 16 k n
