-- Laws of the word.
use Prim.Native.Nat.{ℕ, ◌+◌, ◌≤◌, ◌<◌}
use mathlib.Core.Path.{◌≡◌, refl}
use mathlib.Core.List.{List, [], ◌∷◌, ◌++◌, map}
use native.Mathlib.Numerals.{add-one}
use native.Mathlib.Omega.{arith}
use lib.ListN.{length, get_or, drop, length-append}
use lib.Seq.{drop-cons}
use borrow.Author.Tests.{eq-eqb, ne_eqb}
use Rattle.std.specs.List.{enumerate_from}
use Rattle.wire.specs.Text.{ascii}
use Rattle.field.specs.declared.Field.{Field}
use Rattle.place.specs.Place.{Wrote}
use Rattle.place.proofs.Laws.{and_then}
use Rattle.place.proofs.Parts.{Partly, goes_on}
use Rattle.line_words.specs.Words.{Room, line_end}
use Rattle.line_max.specs.Max.{max_digit, max_digits, max_word, max_end}

module _ (f : Field) where
  pub alike : f.max_len ≡ f.len → 0x30 ≡ max_digit f
  unfolding max_digit
  alike h = simp (eq-eqb _ _ h)

  pub unlike : (f.max_len ≡ f.len → ⊥) → 0x31 ≡ max_digit f
  unfolding max_digit
  unlike h = simp (ne_eqb _ _ h)

-- its length, with the line's end
pub two_size : (a b : ℕ × Field) → length (max_end (a ∷ b ∷ [])) ≡ 8
unfolding max_end max_word
two_size a b = refl

pub six_size : (a b c d e f : ℕ × Field) → length (max_end (a ∷ b ∷ c ∷ d ∷ e ∷ f ∷ [])) ≡ 12
unfolding max_end max_word
six_size a b c d e f = refl

-- the digits don't depend on the fields' numbers
digits_of : (k : ℕ) (fs : List Field) → max_digits (enumerate_from k fs) ≡ map max_digit fs
digits_of k [] = refl
digits_of k (f ∷ fs) = rw (digits_of (k + 1) fs)

-- the word in its three parts
in_parts : (fs : List Field) → max_end (enumerate_from 1 fs) ≡ (ascii " max=" ++ map max_digit fs) ++ line_end
unfolding max_end max_word
in_parts fs = rw (digits_of 1 fs)

-- and its room by them
pub all_fits : (at n : ℕ) (fs : List Field) → Room at (max_end (enumerate_from 1 fs)) n → at + (5 + length (map max_digit fs) + 1) ≤ n
all_fits at n fs r =
    let h : length (max_end (enumerate_from 1 fs)) ≡ 5 + length (map max_digit fs) + 1 = simp (in_parts fs, length-append) in
    omega (arith, r.fits)

-- what is written part by part is the whole
pub end_wrote : (fs : List Field) (l k m n : List ℕ) (i p q r : ℕ) → Wrote l k i p (ascii " max=") → Wrote k m p q (map max_digit fs) →
    Wrote m n q r line_end → Wrote l n i r (max_end (enumerate_from 1 fs))
end_wrote fs l k m n i p q r u v w = rw (in_parts fs) (and_then l m n _ line_end i q r (and_then l k m _ _ i p q u v) w)

-- one more digit is written
pub one_digit : (fs : List Field) (l k m all : List ℕ) (at q p i v : ℕ) (d : Field) → Partly l k at q (map max_digit (drop i fs)) all → i < length fs →
    v ≡ max_digit (get_or fs i d) → Wrote k m q p (v ∷ []) → Partly l m at p (map max_digit (drop (i + 1) fs)) all
one_digit fs l k m all at q p i v d w h e u =
    let next : map max_digit (drop i fs) ≡ (v ∷ []) ++ map max_digit (drop (i + 1) fs) = simp (drop-cons fs i d h, add-one, e) in
    goes_on l k _ _ at q w (v ∷ []) (map max_digit (drop (i + 1) fs)) next m p u
