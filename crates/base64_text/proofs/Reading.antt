-- Laws of the test of a text, group by group.
use Prim.Native.Nat.{ℕ, ◌+◌, ◌-◌, ◌%◌, ◌≤◌}
use mathlib.Core.Path.{◌≡◌, refl, sym, ap, ◌∙◌}
use mathlib.Core.Bool.{Bool, true, false, ◌&&◌, ◌||◌}
use mathlib.Core.List.{List, [], ◌∷◌, ◌++◌}
use native.Mathlib.Omega.{arith}
use lib.Dec.{eqb}
use lib.ListN.{length, get_or, take, drop}
use lib.Seq.{take_all}
use Rattle.std.specs.List.{list_all}
use Rattle.wire.proofs.Bools.{and-true, and-false}
use Rattle.base64_text.specs.Base64.{is_letter, group_holds, is_empty_text, is_base64}
use Rattle.base64_text.proofs.Groups.{four_elements, joined, last_four}

-- ---- a group

or-false : (a b : Bool) → a ≡ (a || false) || false
or-false true b = refl
or-false false b = refl

four_held : (a b c d : ℕ) → group_holds false a b c d ≡ (is_letter a && is_letter b) && (is_letter c && is_letter d)
unfolding group_holds
four_held a b c d = ap (λ (x : Bool). (is_letter a && is_letter b) && x) (sym (or-false (is_letter c && is_letter d) true))

-- ---- a text: the characters before its last group are letters

-- with the letters of a group before those that follow
four_more : (a b c d e rest last : Bool) → (e && (a && (b && (c && (d && rest))))) && last ≡ ((a && b) && (c && d)) && ((e && rest) && last)
four_more true true true true e rest last = refl
four_more true true true false true rest last = refl
four_more true true true false false rest last = refl
four_more true true false d true rest last = refl
four_more true true false d false rest last = refl
four_more true false c d true rest last = refl
four_more true false c d false rest last = refl
four_more false b c d true rest last = refl
four_more false b c d false rest last = refl

more : (f : List ℕ) (x : ℕ) (s : List ℕ) → is_empty_text (f ++ x ∷ s) ≡ false
more [] x s = refl
more (y ∷ f) x s = refl

module _ (a b c d : ℕ) where
  -- the letters before the last group are whole groups exactly where four divides how many they are
  by_groups : (f : List ℕ) → (eqb (length f % 4) 0 && list_all is_letter f) && group_holds true a b c d ≡ is_base64 (f ++ a ∷ b ∷ c ∷ d ∷ [])
  by_groups [] = sym (and-true (group_holds true a b c d))
  by_groups (x ∷ []) = sym (and-false (group_holds false x a b c))
  by_groups (x ∷ y ∷ []) = sym (and-false (group_holds false x y a b))
  by_groups (x ∷ y ∷ z ∷ []) = sym (and-false (group_holds false x y z a))
  by_groups (x ∷ y ∷ z ∷ w ∷ f) =
      let same : length (x ∷ y ∷ z ∷ w ∷ f) % 4 ≡ length f % 4 = omega arith in
      ap (λ (m : ℕ). (eqb m 0 && list_all is_letter (x ∷ y ∷ z ∷ w ∷ f)) && group_holds true a b c d) same
      ∙ four_more (is_letter x) (is_letter y) (is_letter z) (is_letter w) (eqb (length f % 4) 0) (list_all is_letter f) (group_holds true a b c d)
      ∙ ap (λ (g : Bool). ((is_letter x && is_letter y) && (is_letter z && is_letter w)) && g) (by_groups f)
      ∙ ap (λ (g : Bool). g && is_base64 (f ++ a ∷ b ∷ c ∷ d ∷ [])) (sym (four_held x y z w))
      ∙ ap (λ (g : Bool). group_holds g x y z w && is_base64 (f ++ a ∷ b ∷ c ∷ d ∷ [])) (sym (more f a (b ∷ c ∷ d ∷ [])))

-- the answer, by the first i characters before the last group, where they are all of them, and by the last group
pub tested : (t f l : List ℕ) (i : ℕ) (ok r : Bool) → f ≡ take (length t - 4) t → l ≡ drop (length t - 4) t → length f + 4 ≡ length t → length f ≤ i →
    ok ≡ eqb (length t % 4) 0 && list_all is_letter (take i f) →
    r ≡ group_holds true (get_or l 0 0) (get_or l 1 0) (get_or l 2 0) (get_or l 3 0) → ok && r ≡ is_base64 t
tested t f l i ok r ef el h g eo er =
    let four = four_elements l (last_four t f l el h) in
    let all : f ++ get_or l 0 0 ∷ get_or l 1 0 ∷ get_or l 2 0 ∷ get_or l 3 0 ∷ [] ≡ t =
    ap (λ (x : List ℕ). f ++ x) (sym four) ∙ joined t f l ef el in
    let same : length t % 4 ≡ length f % 4 = omega arith in
    ap (λ (b : Bool). ok && b) er
    ∙ ap (λ (b : Bool). b && group_holds true (get_or l 0 0) (get_or l 1 0) (get_or l 2 0) (get_or l 3 0))
    (eo ∙ ap (λ (m : ℕ). eqb m 0 && list_all is_letter (take i f)) same ∙ ap (λ (x : List ℕ). eqb (length f % 4) 0 && list_all is_letter x) (take_all i f g))
    ∙ by_groups (get_or l 0 0) (get_or l 1 0) (get_or l 2 0) (get_or l 3 0) f ∙ ap is_base64 all
