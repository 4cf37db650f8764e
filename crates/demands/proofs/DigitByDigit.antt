-- Each digit of a line is worked out from its number.
use Prim.Native.Nat.{ℕ, zero, suc, ◌-◌, ◌/◌, ◌%◌, ◌^◌, ◌<◌}
use mathlib.Core.Path.{◌≡◌, refl, sym, ap, ◌∙◌}
use mathlib.Core.Bool.{Bool, true, false}
use mathlib.Core.List.{List, [], ◌∷◌}
use native.Mathlib.Nat.{pow-zero, pow-succ', div-one, div-div-eq-div-mul}
use native.Mathlib.Omega.{arith}
use lib.Dec.{ltb}
use lib.ListN.{length, get_or, get_or-append}
use lib.Seq.{get_or_at}
use borrow.Author.Tests.{ltb-true, ltb-false}
use Rattle.line_words.specs.Digits.{hex_digit, digits, hex, decimal_size, decimal}
use Rattle.line_words.proofs.Numbers.{low_digit, high_digit, length_digits}
use Rattle.head.specs.declared.Kind.{Kind}
use Rattle.head.specs.declared.Kind.TheVariants.{Negotiate, Challenge, Authenticate}
use Rattle.line.specs.Line.{line_as}
use Rattle.demands.specs.Explained.{format_of}
use Rattle.demands.specs.MaxLen.{EndsInMax}
use Rattle.demands.specs.DigitByDigit.{SixteenDigits, DigitFromNumber, HexDigitByDigit, DecimalDigitByDigit, LastWord, MaxDigitByDigit}
use Rattle.demands.proofs.Ignored.LineIgnored.{max_word_said}

pub sixteen_digits : SixteenDigits
unfolding hex_digit
sixteen_digits = (refl, refl, refl, refl, refl, refl, refl, refl, refl, refl, refl, refl, refl, refl, refl, refl)

pub digit_from_number : DigitFromNumber
digit_from_number n = (λ h. sym (low_digit n h), λ h l. sym (high_digit n h l))

-- the digit that has m to its right is that of a base'th, where it has one fewer
one_fewer : (base n m : ℕ) → n / base / base ^ m ≡ n / base ^ suc m
one_fewer base n m = div-div-eq-div-mul n base (base ^ m) ∙ ap (λ (x : ℕ). n / x) (sym (pow-succ' base m))

digit_at : (base k n i : ℕ) → i < k → get_or (digits base k n) i 0 ≡ hex_digit (n / base ^ (k - 1 - i) % base)
digit_at base zero n i h = absurd (omega arith)
digit_at base (suc k) n i h = go (ltb i k) refl (λ l. digit_at base k (n / base) i l) where
  go :
      (t : Bool) → ltb i k ≡ t → (i < k → get_or (digits base k (n / base)) i 0 ≡ hex_digit (n / base / base ^ (k - 1 - i) % base)) →
      get_or (digits base (suc k) n) i 0 ≡ hex_digit (n / base ^ (suc k - 1 - i) % base)
  go true e next =
      let l : i < k = ltb-true i k e in
      let up : suc k - 1 - i ≡ suc (k - 1 - i) = omega arith in
      get_or-append (digits base k (n / base)) (hex_digit (n % base) ∷ []) 0 i (omega (arith, length_digits base k (n / base)))
      ∙ next l
      ∙ ap (λ (x : ℕ). hex_digit (x % base)) (one_fewer base n (k - 1 - i) ∙ ap (λ (m : ℕ). n / base ^ m) (sym up))
  go false e next =
      let last : i ≡ k = omega (arith, ltb-false i k e) in
      let none : suc k - 1 - i ≡ 0 = omega arith in
      get_or_at (digits base k (n / base)) (hex_digit (n % base)) [] 0 i (omega (arith, length_digits base k (n / base)))
      ∙ ap
      (λ (x : ℕ). hex_digit (x % base))
      (sym (ap (λ (m : ℕ). n / base ^ m) none ∙ ap (λ (x : ℕ). n / x) (pow-zero base) ∙ div-one n))

pub hex_digit_by_digit : HexDigitByDigit
unfolding hex
hex_digit_by_digit k n i h = digit_at 16 k n i h

pub decimal_digit_by_digit : DecimalDigitByDigit
unfolding decimal
decimal_digit_by_digit n i h =
    let size : length (digits 10 (decimal_size n) n) ≡ decimal_size n = length_digits 10 (decimal_size n) n in
    rw size (digit_at 10 (decimal_size n) n i (omega (arith, size)))

-- the last word, as `MaxWordSaid` has it
last_word : (k : Kind) (s before : List ℕ) → EndsInMax (format_of k) s (line_as k s) before → LastWord k s
unfolding hex_digit
last_word k s before w =
    record {
      before = before;
      digits = w.digits;
      line_is = w.line_is;
      count = w.said.count;
      one = w.said.one;
      else = w.said.else;
    }

pub max_digit_by_digit : MaxDigitByDigit
max_digit_by_digit Negotiate s t = let w = max_word_said.nego s t in last_word Negotiate s w.0 w.1
max_digit_by_digit Challenge s t = let w = max_word_said.chal s t in last_word Challenge s w.0 w.1
max_digit_by_digit Authenticate s t = let w = max_word_said.auth s t in last_word Authenticate s w.0 w.1
