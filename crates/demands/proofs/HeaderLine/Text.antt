-- A text is in base64 exactly when it has none of the faults of check 58, said by positions.
use Prim.Native.Nat.{ℕ, zero, suc, ◌+◌, ◌%◌, ◌≤◌, ◌<◌}
use mathlib.Core.Path.{◌≡◌, refl, sym, ap, ◌∙◌}
use mathlib.Core.Logic.{inl, inr, ⊎_elim}
use mathlib.Core.Bool.{Bool, true, false, ◌&&◌, ◌||◌}
use mathlib.Core.List.{List, [], ◌∷◌}
use native.Mathlib.Omega.{arith}
use lib.Dec.{eqb}
use lib.ListN.{length, get_or}
use borrow.Author.Tests.{eqb-true, eqb-false}
use Rattle.wire.proofs.Bools.{and_left, and_right}
use Rattle.base64_text.specs.Base64.{alphabet, letter, is_letter, value_of, group_holds, is_empty_text, is_base64, decode}
use Rattle.base64_text.proofs.Alphabet.{value_letter, is_letter_lem, letter_value, value_small, pad_no_letter}
use Rattle.base64_text.proofs.Size.{decoded_length}
use Rattle.demands.specs.HeaderLine.{characters, OneTable, HasValue, NotBase64, decoded_size}
use Rattle.demands.proofs.Bools.{true_not_false, both_ways, or-either}

-- ---- characters

pub one_table : OneTable
unfolding characters alphabet
one_table = refl

of_table : (v : ℕ) → get_or characters v 0 ≡ letter v
of_table v = ap (λ (l : List ℕ). get_or l v 0) one_table

-- a letter has its value
has_value : (c : ℕ) → is_letter c ≡ true → HasValue c (value_of c)
has_value c h = (value_small c, of_table (value_of c) ∙ letter_value c h)

-- what has a value is a letter, of that value
value_is_letter : (c v : ℕ) → HasValue c v → is_letter c ≡ true
value_is_letter c v h = ap is_letter (sym (sym (of_table v) ∙ h.1)) ∙ is_letter_lem v h.0

the_value : (c v : ℕ) → HasValue c v → value_of c ≡ v
the_value c v h = ap value_of (sym (sym (of_table v) ∙ h.1)) ∙ value_letter v h.0

-- padding is none
pad_is_none : (c : ℕ) → c ≡ 61 → is_letter c ≡ true → ⊥
pad_is_none c e h = both_ways (is_letter c) h (ap is_letter e ∙ pad_no_letter)

-- ---- a fault of the rest is a fault of the whole

module _ (a b c d : ℕ) (t : List ℕ) where
  abbrev whole : List ℕ
  whole = a ∷ b ∷ c ∷ d ∷ t

  -- a place of the rest, counted from the start
  moved : (p k : ℕ) → get_or whole (suc (suc (suc (suc p))) + k) 0 ≡ get_or t (p + k) 0
  moved p k =
      let e : suc (suc (suc (suc p))) + k ≡ suc (suc (suc (suc (p + k)))) = omega arith in
      ap (λ (n : ℕ). get_or whole n 0) e

  later : NotBase64 t → NotBase64 whole
  later (inl (p, l, e, f)) = inl (suc (suc (suc (suc p))), omega arith, e, f)
  later (inr (inl (p, l, e, inl f))) = inr (inl (suc (suc (suc (suc p))), omega arith, e, inl (omega arith)))
  later (inr (inl (p, l, e, inr f))) =
      inr (inl (suc (suc (suc (suc p))), omega arith, e, inr (omega (arith, f.0), λ z. f.1 (sym (moved p 1) ∙ z))))
  later (inr (inr (inl f))) = inr (inr (inl (λ e. f (omega (arith, e)))))
  later (inr (inr (inr (p, v, h, inl f)))) =
      inr (inr (inr (suc (suc (suc (suc p))), v, h, inl (omega (arith, f.0), moved p 1 ∙ f.1, f.2))))
  later (inr (inr (inr (p, v, h, inr f)))) =
      inr (inr (inr (suc (suc (suc (suc p))), v, h, inr (omega (arith, f.0), moved p 1 ∙ f.1, moved p 2 ∙ f.2, f.3))))

  -- a character that is no letter, before the last two places
  unlettered : (p x : ℕ) → get_or whole p 0 ≡ x → p + 2 < length whole → is_letter x ≡ false → NotBase64 whole
  unlettered p x at l h = go (eqb x 61) refl where
    go : (y : Bool) → eqb x 61 ≡ y → NotBase64 whole
    go true e = inr (inl (p, omega arith, at ∙ eqb-true x 61 e, inl l))
    go false e =
        inl (p, omega arith, λ z. eqb-false x 61 e (sym at ∙ z), λ v w. both_ways (is_letter x) (value_is_letter x v (w.0, w.1 ∙ at)) h)

  -- in the last two of a group, one that is no padding
  stranger : (p x : ℕ) → get_or whole p 0 ≡ x → p < length whole → is_letter x ≡ false → eqb x 61 ≡ false → NotBase64 whole
  stranger p x at l h e =
      inl (p, l, λ z. eqb-false x 61 e (sym at ∙ z), λ v w. both_ways (is_letter x) (value_is_letter x v (w.0, w.1 ∙ at)) h)

  -- a group before the last that fails
  inner_fails : 4 ≤ length t → group_holds false a b c d ≡ false → NotBase64 whole
  unfolding group_holds
  inner_fails l h = go (is_letter a) (is_letter b) (is_letter c) (is_letter d) refl refl refl refl h where
    go : (w x y z : Bool) → is_letter a ≡ w → is_letter b ≡ x → is_letter c ≡ y → is_letter d ≡ z → (w && x) && (((y && z) || false) || false) ≡ false →
        NotBase64 whole
    go false x y z ea eb ec ed g = unlettered 0 a refl (omega arith) ea
    go true false y z ea eb ec ed g = unlettered 1 b refl (omega arith) eb
    go true true false z ea eb ec ed g = unlettered 2 c refl (omega arith) ec
    go true true true false ea eb ec ed g = unlettered 3 d refl (omega arith) ed
    go true true true true ea eb ec ed g = absurd (true_not_false g)

  -- the last group that fails: its third and fourth character, and the bits left over
  last_fails : length t ≡ 0 → group_holds true a b c d ≡ false → NotBase64 whole
  unfolding group_holds
  last_fails l h = go (is_letter a) (is_letter b) refl refl h where
    ends : (y z pc pd vb vc : Bool) → is_letter b ≡ true → is_letter c ≡ y → is_letter d ≡ z → eqb c 61 ≡ pc → eqb d 61 ≡ pd → eqb (value_of b % 16) 0 ≡ vb →
        eqb (value_of c % 4) 0 ≡ vc → ((y && z) || ((y && pd) && vc)) || ((pc && pd) && vb) ≡ false → NotBase64 whole
    ends true true pc pd vb vc eb ec ed ep eq ev ew g = absurd (true_not_false g)
    ends true false pc false vb vc eb ec ed ep eq ev ew g = stranger 3 d refl (omega arith) ed eq
    ends true false pc true vb true eb ec ed ep eq ev ew g = absurd (true_not_false g)
    ends true false pc true vb false eb ec ed ep eq ev ew g =
        inr (inr (inr (2, value_of c, has_value c ec, inl (omega (arith, l), eqb-true d 61 eq, eqb-false (value_of c % 4) 0 ew))))
    ends false z false pd vb vc eb ec ed ep eq ev ew g = stranger 2 c refl (omega arith) ec ep
    ends false z true false vb vc eb ec ed ep eq ev ew g =
        inr (inl (2, omega arith, eqb-true c 61 ep, inr (omega (arith, l), eqb-false d 61 eq)))
    ends false z true true true vc eb ec ed ep eq ev ew g = absurd (true_not_false g)
    ends false z true true false vc eb ec ed ep eq ev ew g =
        inr (inr (inr (1, value_of b, has_value b eb, inr (omega (arith, l), eqb-true c 61 ep, eqb-true d 61 eq, eqb-false (value_of b % 16) 0 ev))))

    go : (w x : Bool) → is_letter a ≡ w → is_letter b ≡ x →
        (w && x) && (((is_letter c && is_letter d) || ((is_letter c && eqb d 61) && eqb (value_of c % 4) 0)) || ((eqb c 61 && eqb d 61) && eqb (value_of b % 16) 0)) ≡ false →
        NotBase64 whole
    go false x ea eb g = unlettered 0 a refl (omega arith) ea
    go true false ea eb g = unlettered 1 b refl (omega arith) eb
    go true true ea eb g =
        ends (is_letter c) (is_letter d) (eqb c 61) (eqb d 61) (eqb (value_of b % 16) 0) (eqb (value_of c % 4) 0) eb refl refl refl refl refl refl g

-- a text in base64 is made of groups
pub base64_groups : (t : List ℕ) → is_base64 t ≡ true → length t % 4 ≡ 0
base64_groups [] g = refl
base64_groups (a ∷ []) g = absurd (true_not_false (sym g))
base64_groups (a ∷ b ∷ []) g = absurd (true_not_false (sym g))
base64_groups (a ∷ b ∷ c ∷ []) g = absurd (true_not_false (sym g))
base64_groups (a ∷ b ∷ c ∷ d ∷ t) g = omega (arith, base64_groups t (and_right (group_holds (is_empty_text t) a b c d) (is_base64 t) g))

empty_none : (t : List ℕ) → is_empty_text t ≡ true → length t ≡ 0
empty_none [] h = refl
empty_none (x ∷ t) h = absurd (true_not_false (sym h))

full_some : (t : List ℕ) → is_empty_text t ≡ false → 0 < length t
full_some [] h = absurd (true_not_false h)
full_some (x ∷ t) h = omega arith

and-false : (x y : Bool) → x && y ≡ false → y ≡ true → x ≡ false
and-false true y h k = absurd (both_ways y k h)
and-false false y h k = refl

-- ---- what is not in base64 has a fault

pub has_fault : (t : List ℕ) → is_base64 t ≡ false → NotBase64 t
has_fault [] g = absurd (true_not_false g)
has_fault (a ∷ []) g = inr (inr (inl (λ e. omega (arith, e))))
has_fault (a ∷ b ∷ []) g = inr (inr (inl (λ e. omega (arith, e))))
has_fault (a ∷ b ∷ c ∷ []) g = inr (inr (inl (λ e. omega (arith, e))))
has_fault (a ∷ b ∷ c ∷ d ∷ t) g = go (is_base64 t) (is_empty_text t) refl refl (has_fault t) where
  go : (x y : Bool) → is_base64 t ≡ x → is_empty_text t ≡ y → (is_base64 t ≡ false → NotBase64 t) → NotBase64 (a ∷ b ∷ c ∷ d ∷ t)
  go false y e f i = later a b c d t (i e)
  go true true e f i =
      last_fails a b c d t (empty_none t f)
      (sym (ap (λ (z : Bool). group_holds z a b c d) f) ∙ and-false (group_holds (is_empty_text t) a b c d) (is_base64 t) g e)
  go true false e f i =
      inner_fails a b c d t (omega (arith, full_some t f, base64_groups t e))
      (sym (ap (λ (z : Bool). group_holds z a b c d) f) ∙ and-false (group_holds (is_empty_text t) a b c d) (is_base64 t) g e)

-- ---- what is in base64 has none

-- the three kinds of a group that holds
pub data Kind (last : Bool) (a b c d : ℕ) : Type 0 where
  four : is_letter a ≡ true → is_letter b ≡ true → is_letter c ≡ true → is_letter d ≡ true → Kind last a b c d
  padded : last ≡ true → is_letter a ≡ true → is_letter b ≡ true → is_letter c ≡ true → d ≡ 61 → value_of c % 4 ≡ 0 → Kind last a b c d
  twice : last ≡ true → is_letter a ≡ true → is_letter b ≡ true → c ≡ 61 → d ≡ 61 → value_of b % 16 ≡ 0 → Kind last a b c d

kind_of : (last : Bool) (a b c d : ℕ) → group_holds last a b c d ≡ true → Kind last a b c d
unfolding group_holds
kind_of last a b c d h =
    ⊎_elim
    (λ g. ⊎_elim
    (λ f. four la lb (and_left (is_letter c) (is_letter d) f) (and_right (is_letter c) (is_letter d) f))
    (λ f.
    let f1 = and_left (last && is_letter c && eqb d 61) (eqb (value_of c % 4) 0) f in
    let f2 = and_left (last && is_letter c) (eqb d 61) f1 in
    padded (and_left last (is_letter c) f2) la lb (and_right last (is_letter c) f2) (eqb-true d 61 (and_right (last && is_letter c) (eqb d 61) f1))
    (eqb-true (value_of c % 4) 0 (and_right (last && is_letter c && eqb d 61) (eqb (value_of c % 4) 0) f)))
    (or-either (is_letter c && is_letter d) (last && is_letter c && eqb d 61 && eqb (value_of c % 4) 0) g))
    (λ g.
    let g1 = and_left (last && eqb c 61 && eqb d 61) (eqb (value_of b % 16) 0) g in
    let g2 = and_left (last && eqb c 61) (eqb d 61) g1 in
    twice (and_left last (eqb c 61) g2) la lb (eqb-true c 61 (and_right last (eqb c 61) g2)) (eqb-true d 61 (and_right (last && eqb c 61) (eqb d 61) g1))
    (eqb-true (value_of b % 16) 0 (and_right (last && eqb c 61 && eqb d 61) (eqb (value_of b % 16) 0) g)))
    (or-either ((is_letter c && is_letter d) || (last && is_letter c && eqb d 61 && eqb (value_of c % 4) 0))
    (last && eqb c 61 && eqb d 61 && eqb (value_of b % 16) 0) (and_right (is_letter a && is_letter b) _ h))
  where
    lab : is_letter a && is_letter b ≡ true
    lab = and_left (is_letter a && is_letter b) _ h

    la : is_letter a ≡ true
    la = and_left (is_letter a) (is_letter b) lab

    lb : is_letter b ≡ true
    lb = and_right (is_letter a) (is_letter b) lab

-- no fault at a letter
letter_right : (c : ℕ) → is_letter c ≡ true → ((v : ℕ) → HasValue c v → ⊥) → ⊥
letter_right c l f = f (value_of c) (has_value c l)

module _ (a b c d : ℕ) (t : List ℕ) (groups : length t % 4 ≡ 0) (la : is_letter a ≡ true) (lb : is_letter b ≡ true) where
  -- four letters, and none in the rest
  four_right : is_letter c ≡ true → is_letter d ≡ true → (NotBase64 t → ⊥) → NotBase64 (a ∷ b ∷ c ∷ d ∷ t) → ⊥
  four_right lc ld rest (inl (zero, l, e, f)) = letter_right a la f
  four_right lc ld rest (inl (suc zero, l, e, f)) = letter_right b lb f
  four_right lc ld rest (inl (suc (suc zero), l, e, f)) = letter_right c lc f
  four_right lc ld rest (inl (suc (suc (suc zero)), l, e, f)) = letter_right d ld f
  four_right lc ld rest (inl (suc (suc (suc (suc p))), l, e, f)) = rest (inl (p, omega arith, e, f))
  four_right lc ld rest (inr (inl (zero, l, e, f))) = pad_is_none a e la
  four_right lc ld rest (inr (inl (suc zero, l, e, f))) = pad_is_none b e lb
  four_right lc ld rest (inr (inl (suc (suc zero), l, e, f))) = pad_is_none c e lc
  four_right lc ld rest (inr (inl (suc (suc (suc zero)), l, e, f))) = pad_is_none d e ld
  four_right lc ld rest (inr (inl (suc (suc (suc (suc p))), l, e, inl f))) = rest (inr (inl (p, omega arith, e, inl (omega arith))))
  four_right lc ld rest (inr (inl (suc (suc (suc (suc p))), l, e, inr f))) =
      rest (inr (inl (p, omega arith, e, inr (omega (arith, f.0), λ z. f.1 (moved a b c d t p 1 ∙ z)))))
  four_right lc ld rest (inr (inr (inl f))) = f (omega (arith, groups))
  four_right lc ld rest (inr (inr (inr (zero, v, h, inl f)))) = omega (arith, f.0)
  four_right lc ld rest (inr (inr (inr (suc zero, v, h, inl f)))) = omega (arith, f.0)
  four_right lc ld rest (inr (inr (inr (suc (suc zero), v, h, inl f)))) = pad_is_none d f.1 ld
  four_right lc ld rest (inr (inr (inr (suc (suc (suc zero)), v, h, inl f)))) = omega (arith, f.0, groups)
  four_right lc ld rest (inr (inr (inr (suc (suc (suc (suc p))), v, h, inl f)))) =
      rest (inr (inr (inr (p, v, h, inl (omega (arith, f.0), sym (moved a b c d t p 1) ∙ f.1, f.2)))))
  four_right lc ld rest (inr (inr (inr (zero, v, h, inr f)))) = omega (arith, f.0)
  four_right lc ld rest (inr (inr (inr (suc zero, v, h, inr f)))) = pad_is_none c f.1 lc
  four_right lc ld rest (inr (inr (inr (suc (suc zero), v, h, inr f)))) = omega (arith, f.0, groups)
  four_right lc ld rest (inr (inr (inr (suc (suc (suc zero)), v, h, inr f)))) = omega (arith, f.0, groups)
  four_right lc ld rest (inr (inr (inr (suc (suc (suc (suc p))), v, h, inr f)))) =
      rest (inr (inr (inr (p, v, h, inr (omega (arith, f.0), sym (moved a b c d t p 1) ∙ f.1, sym (moved a b c d t p 2) ∙ f.2, f.3)))))

  -- the last group, with one '='
  padded_right : length t ≡ 0 → is_letter c ≡ true → d ≡ 61 → value_of c % 4 ≡ 0 → NotBase64 (a ∷ b ∷ c ∷ d ∷ t) → ⊥
  padded_right n lc pd z (inl (zero, l, e, f)) = letter_right a la f
  padded_right n lc pd z (inl (suc zero, l, e, f)) = letter_right b lb f
  padded_right n lc pd z (inl (suc (suc zero), l, e, f)) = letter_right c lc f
  padded_right n lc pd z (inl (suc (suc (suc zero)), l, e, f)) = e pd
  padded_right n lc pd z (inl (suc (suc (suc (suc p))), l, e, f)) = omega (arith, l, n)
  padded_right n lc pd z (inr (inl (zero, l, e, f))) = pad_is_none a e la
  padded_right n lc pd z (inr (inl (suc zero, l, e, f))) = pad_is_none b e lb
  padded_right n lc pd z (inr (inl (suc (suc zero), l, e, f))) = pad_is_none c e lc
  padded_right n lc pd z (inr (inl (suc (suc (suc p)), l, e, inl f))) = omega (arith, f, n)
  padded_right n lc pd z (inr (inl (suc (suc (suc p)), l, e, inr f))) = omega (arith, f.0, n)
  padded_right n lc pd z (inr (inr (inl f))) = f (omega (arith, groups))
  padded_right n lc pd z (inr (inr (inr (zero, v, h, inl f)))) = omega (arith, f.0)
  padded_right n lc pd z (inr (inr (inr (suc zero, v, h, inl f)))) = omega (arith, f.0)
  padded_right n lc pd z (inr (inr (inr (suc (suc zero), v, h, inl f)))) = f.2 (ap (λ (x : ℕ). x % 4) (sym (the_value c v h)) ∙ z)
  padded_right n lc pd z (inr (inr (inr (suc (suc (suc p)), v, h, inl f)))) = omega (arith, f.0, n)
  padded_right n lc pd z (inr (inr (inr (zero, v, h, inr f)))) = omega (arith, f.0)
  padded_right n lc pd z (inr (inr (inr (suc zero, v, h, inr f)))) = pad_is_none c f.1 lc
  padded_right n lc pd z (inr (inr (inr (suc (suc p), v, h, inr f)))) = omega (arith, f.0, n)

  -- and with two
  twice_right : length t ≡ 0 → c ≡ 61 → d ≡ 61 → value_of b % 16 ≡ 0 → NotBase64 (a ∷ b ∷ c ∷ d ∷ t) → ⊥
  twice_right n pc pd z (inl (zero, l, e, f)) = letter_right a la f
  twice_right n pc pd z (inl (suc zero, l, e, f)) = letter_right b lb f
  twice_right n pc pd z (inl (suc (suc zero), l, e, f)) = e pc
  twice_right n pc pd z (inl (suc (suc (suc zero)), l, e, f)) = e pd
  twice_right n pc pd z (inl (suc (suc (suc (suc p))), l, e, f)) = omega (arith, l, n)
  twice_right n pc pd z (inr (inl (zero, l, e, f))) = pad_is_none a e la
  twice_right n pc pd z (inr (inl (suc zero, l, e, f))) = pad_is_none b e lb
  twice_right n pc pd z (inr (inl (suc (suc zero), l, e, inl f))) = omega (arith, f, n)
  twice_right n pc pd z (inr (inl (suc (suc zero), l, e, inr f))) = f.1 pd
  twice_right n pc pd z (inr (inl (suc (suc (suc p)), l, e, inl f))) = omega (arith, f, n)
  twice_right n pc pd z (inr (inl (suc (suc (suc p)), l, e, inr f))) = omega (arith, f.0, n)
  twice_right n pc pd z (inr (inr (inl f))) = f (omega (arith, groups))
  twice_right n pc pd z (inr (inr (inr (zero, v, h, inl f)))) = omega (arith, f.0)
  twice_right n pc pd z (inr (inr (inr (suc zero, v, h, inl f)))) = omega (arith, f.0)
  twice_right n pc pd z (inr (inr (inr (suc (suc zero), v, h, inl f)))) = pad_is_none c pc (value_is_letter c v h)
  twice_right n pc pd z (inr (inr (inr (suc (suc (suc p)), v, h, inl f)))) = omega (arith, f.0, n)
  twice_right n pc pd z (inr (inr (inr (zero, v, h, inr f)))) = omega (arith, f.0)
  twice_right n pc pd z (inr (inr (inr (suc zero, v, h, inr f)))) = f.3 (ap (λ (x : ℕ). x % 16) (sym (the_value b v h)) ∙ z)
  twice_right n pc pd z (inr (inr (inr (suc (suc p), v, h, inr f)))) = omega (arith, f.0, n)

none_empty : NotBase64 [] → ⊥
none_empty (inl (p, l, e, f)) = omega (arith, l)
none_empty (inr (inl (p, l, e, f))) = omega (arith, l)
none_empty (inr (inr (inl f))) = f refl
none_empty (inr (inr (inr (p, v, h, inl f)))) = omega (arith, f.0)
none_empty (inr (inr (inr (p, v, h, inr f)))) = omega (arith, f.0)

pub no_fault : (t : List ℕ) → is_base64 t ≡ true → NotBase64 t → ⊥
no_fault [] g = none_empty
no_fault (a ∷ []) g = absurd (true_not_false (sym g))
no_fault (a ∷ b ∷ []) g = absurd (true_not_false (sym g))
no_fault (a ∷ b ∷ c ∷ []) g = absurd (true_not_false (sym g))
no_fault (a ∷ b ∷ c ∷ d ∷ t) g =
    by_kind (kind_of (is_empty_text t) a b c d (and_left (group_holds (is_empty_text t) a b c d) (is_base64 t) g))
    (base64_groups t rest) (no_fault t rest)
  where
    rest : is_base64 t ≡ true
    rest = and_right (group_holds (is_empty_text t) a b c d) (is_base64 t) g

    by_kind : Kind (is_empty_text t) a b c d → length t % 4 ≡ 0 → (NotBase64 t → ⊥) → NotBase64 (a ∷ b ∷ c ∷ d ∷ t) → ⊥
    by_kind (four la lb lc ld) n i = four_right a b c d t n la lb lc ld i
    by_kind (padded l la lb lc pd z) n i = padded_right a b c d t n la lb (empty_none t l) lc pd z
    by_kind (twice l la lb pc pd z) n i = twice_right a b c d t n la lb (empty_none t l) pc pd z

-- ---- how many bytes it stands for

pub size_is : (t : List ℕ) → is_base64 t ≡ true → length (decode t) ≡ decoded_size t
size_is [] g = refl
size_is (a ∷ []) g = absurd (true_not_false (sym g))
size_is (a ∷ b ∷ []) g = absurd (true_not_false (sym g))
size_is (a ∷ b ∷ c ∷ []) g = absurd (true_not_false (sym g))
size_is (a ∷ b ∷ c ∷ d ∷ t) g = decoded_length (a ∷ b ∷ c ∷ d ∷ t) g (omega arith)
