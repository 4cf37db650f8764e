-- How long an encoding is, and how many bytes a text in base64 stands for.
use Prim.Native.Nat.{ℕ, suc, ◌+◌, ◌-◌, ◌*◌, ◌/◌, ◌%◌, ◌≤◌, ◌<◌}
use mathlib.Core.Path.{◌≡◌, refl, sym, ap, ap₂, ◌∙◌}
use mathlib.Core.Bool.{Bool, true, false, cond}
use mathlib.Core.List.{List, [], ◌∷◌}
use native.Mathlib.Omega.{arith}
use borrow.Author.Tests.{eq-eqb, ne_eqb}
use lib.Dec.{eqb}
use lib.ListN.{length, get_or, length-append}
use Rattle.wire.proofs.Bools.{and_left, and_right}
use Rattle.base64_text.specs.Base64.{three, two, one, encode, value_of, group_holds, is_base64, group_bytes, decode}
use Rattle.base64_text.proofs.Writing.{short, third_letter, fourth_letter}

pub length-encode : (m : List ℕ) → length (encode m) ≡ 4 * ((length m + 2) / 3)
unfolding one two three
length-encode [] = refl
length-encode (a ∷ []) = refl
length-encode (a ∷ b ∷ []) = refl
length-encode (a ∷ b ∷ c ∷ m) = omega (arith, length-encode m)

-- how many of its last two characters a text has for padding
abbrev pub pads : ℕ → ℕ → ℕ
pads c d = cond (eqb c 61) 2 (cond (eqb d 61) 1 0)

group_length : (a b c d : ℕ) → length (group_bytes a b c d) ≡ 3 - pads c d
unfolding group_bytes
group_length a b c d = go (eqb c 61) (eqb d 61)
  where
    go : (x y : Bool) → length (cond x ((value_of a * 4 + value_of b / 16) ∷ []) (
        cond y ((value_of a * 4 + value_of b / 16) ∷ (value_of b % 16 * 16 + value_of c / 4) ∷ [])
        ((value_of a * 4 + value_of b / 16) ∷ (value_of b % 16 * 16 + value_of c / 4) ∷ (value_of c % 4 * 64 + value_of d) ∷ [])))
        ≡ 3 - cond x 2 (cond y 1 0)
    go true y = refl
    go false true = refl
    go false false = refl

-- a group before the last has no padding
no_pads : (a b c d : ℕ) → group_holds false a b c d ≡ true → pads c d ≡ 0
no_pads a b c d h = simp (third_letter a b c d h, fourth_letter a b c d h)

pads_few : (c d : ℕ) → pads c d ≤ 2
pads_few c d = go (eqb c 61) (eqb d 61) where
  go : (x y : Bool) → cond x 2 (cond y 1 0) ≤ 2
  go true y = omega arith
  go false true = omega arith
  go false false = omega arith

-- the padding of a text
abbrev pub pads_of : List ℕ → ℕ
pads_of t = pads (get_or t (length t - 2) 0) (get_or t (length t - 1) 0)

-- counted from the end, a character stands where it did before a group was put in front
from_end : (a b c d : ℕ) (u : List ℕ) (k : ℕ) → k ≤ length u →
    get_or (a ∷ b ∷ c ∷ d ∷ u) (length (a ∷ b ∷ c ∷ d ∷ u) - k) 0 ≡ get_or u (length u - k) 0
from_end a b c d u k h =
    let e : length (a ∷ b ∷ c ∷ d ∷ u) - k ≡ suc (suc (suc (suc (length u - k)))) = omega arith in
    ap (λ (n : ℕ). get_or (a ∷ b ∷ c ∷ d ∷ u) n 0) e

-- three bytes for each group, without those that the padding leaves out
pub decoded_length : (t : List ℕ) → is_base64 t ≡ true → 4 ≤ length t →
    length (decode t) ≡ length t / 4 * 3 - pads_of t
decoded_length [] g l = absurd (omega arith)
decoded_length (a ∷ []) g l = absurd (omega arith)
decoded_length (a ∷ b ∷ []) g l = absurd (omega arith)
decoded_length (a ∷ b ∷ c ∷ []) g l = absurd (omega arith)
decoded_length (a ∷ b ∷ c ∷ d ∷ []) g l = omega (arith, length-append (group_bytes a b c d) [], group_length a b c d)
decoded_length (a ∷ b ∷ c ∷ d ∷ e ∷ []) g l = let z = and_right (group_holds false a b c d) false g in cc
decoded_length (a ∷ b ∷ c ∷ d ∷ e ∷ f ∷ []) g l = let z = and_right (group_holds false a b c d) false g in cc
decoded_length (a ∷ b ∷ c ∷ d ∷ e ∷ f ∷ h ∷ []) g l = let z = and_right (group_holds false a b c d) false g in cc
decoded_length (a ∷ b ∷ c ∷ d ∷ e ∷ f ∷ h ∷ i ∷ t) g l =
    let u : List ℕ = e ∷ f ∷ h ∷ i ∷ t in
    let held = and_left (group_holds false a b c d) (is_base64 u) g in
    let less = and_right (group_holds false a b c d) (is_base64 u) g in
    let same : pads_of (a ∷ b ∷ c ∷ d ∷ e ∷ f ∷ h ∷ i ∷ t) ≡ pads_of (e ∷ f ∷ h ∷ i ∷ t) =
    ap₂ pads (from_end a b c d (e ∷ f ∷ h ∷ i ∷ t) 2 (omega arith)) (from_end a b c d (e ∷ f ∷ h ∷ i ∷ t) 1 (omega arith)) in
    omega (
      arith,
      same,
      pads_few (get_or u (length u - 2) 0) (get_or u (length u - 1) 0),
      length-append (group_bytes a b c d) (decode u),
      group_length a b c d,
      no_pads a b c d held,
      decoded_length (e ∷ f ∷ h ∷ i ∷ t) less (omega arith),
    )

-- the same by cases, as `decoded_size` has them
module _ (t : List ℕ) (g : is_base64 t ≡ true) where
  pub size_none : length t < 4 → 0 ≡ length (decode t)
  size_none h = sym (ap length (short t h))

  module _ (l : 4 ≤ length t) where
    pub size_two : get_or t (length t - 2) 0 ≡ 61 → length t / 4 * 3 - 2 ≡ length (decode t)
    size_two e = sym (decoded_length t g l ∙ simp (eq-eqb (get_or t (length t - 2) 0) 61 e))

    pub size_one : (get_or t (length t - 2) 0 ≡ 61 → ⊥) → get_or t (length t - 1) 0 ≡ 61 → length t / 4 * 3 - 1 ≡ length (decode t)
    size_one f e = sym (decoded_length t g l ∙ simp (ne_eqb (get_or t (length t - 2) 0) 61 f, eq-eqb (get_or t (length t - 1) 0) 61 e))

    pub size_full : (get_or t (length t - 2) 0 ≡ 61 → ⊥) → (get_or t (length t - 1) 0 ≡ 61 → ⊥) → length t / 4 * 3 ≡ length (decode t)
    size_full f e =
        sym (decoded_length t g l ∙ simp (ne_eqb (get_or t (length t - 2) 0) 61 f, ne_eqb (get_or t (length t - 1) 0) 61 e) (omega arith))

pub ruleset sizes = (size_none, size_two, size_one, size_full)
