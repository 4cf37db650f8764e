-- A message that was encoded decodes to itself, and a text that is in base64 is the encoding of what it decodes to.
use Prim.Native.Nat.{ℕ, ◌+◌, ◌*◌, ◌/◌, ◌%◌, ◌<◌}
use mathlib.Core.Path.{◌≡◌, refl, sym, ap, ap₂, ◌∙◌}
use mathlib.Core.Logic.{⊎_elim}
use mathlib.Core.Bool.{true, ◌&&◌, ◌||◌}
use mathlib.Core.List.{List, [], ◌∷◌}
use native.Mathlib.Omega.{arith}
use Rattle.std.proofs.lemmas.Bool.{ltb-true, eqb-true, or_cases}
use lib.Dec.{eqb, ltb}
use lib.Pow.{are_bytes}
use Rattle.wire.proofs.Bools.{and_left, and_right}
use Rattle.base64_text.specs.Base64.{letter, pad, three, two, one, encode, is_letter, value_of, group_holds, is_empty_text, is_base64, group_bytes, decode}
use Rattle.base64_text.proofs.Alphabet.{value_letter, is_letter_lem, letter_value, value_small, pad_no_letter, no_pad}

byte : (a : ℕ) (m : List ℕ) → are_bytes (a ∷ m) ≡ true → a < 256
byte a m h = ltb-true a 256 (and_left (ltb a 256) (are_bytes m) h)

bytes : (a : ℕ) (m : List ℕ) → are_bytes (a ∷ m) ≡ true → are_bytes m ≡ true
bytes a m h = and_right (ltb a 256) (are_bytes m) h

-- ---- there and back
pub back : (m : List ℕ) → are_bytes m ≡ true → decode (encode m) ≡ m
unfolding one two three group_bytes
back [] h = refl
back (a ∷ []) h =
    let ha = byte a [] h in
    simp (value_letter (a / 4) (omega arith), value_letter (a % 4 * 16) (omega arith)) (ap (λ (x : ℕ). x ∷ []) (omega arith))
back (a ∷ b ∷ []) h =
    let ha = byte a (b ∷ []) h in
    let hb = byte b [] (bytes a (b ∷ []) h) in
    let lc : b % 16 * 4 < 64 = omega arith in
    simp (
      no_pad (letter (b % 16 * 4)) (is_letter_lem (b % 16 * 4) lc),
      value_letter (a / 4) (omega arith),
      value_letter (a % 4 * 16 + b / 16) (omega arith),
      value_letter (b % 16 * 4) lc,
    )
    (ap₂ (λ (x y : ℕ). x ∷ y ∷ []) (omega arith) (omega arith))
back (a ∷ b ∷ c ∷ m) h =
    let ha = byte a (b ∷ c ∷ m) h in
    let g = bytes a (b ∷ c ∷ m) h in
    let hb = byte b (c ∷ m) g in
    let f = bytes b (c ∷ m) g in
    let hc = byte c m f in
    let lc : b % 16 * 4 + c / 64 < 64 = omega arith in
    let ld : c % 64 < 64 = omega arith in
    let ea : a / 4 * 4 + (a % 4 * 16 + b / 16) / 16 ≡ a = omega arith in
    let eb : (a % 4 * 16 + b / 16) % 16 * 16 + (b % 16 * 4 + c / 64) / 4 ≡ b = omega arith in
    let ec : (b % 16 * 4 + c / 64) % 4 * 64 + c % 64 ≡ c = omega arith in
    simp (
      no_pad (letter (b % 16 * 4 + c / 64)) (is_letter_lem (b % 16 * 4 + c / 64) lc),
      no_pad (letter (c % 64)) (is_letter_lem (c % 64) ld),
      value_letter (a / 4) (omega arith),
      value_letter (a % 4 * 16 + b / 16) (omega arith),
      value_letter (b % 16 * 4 + c / 64) lc,
      value_letter (c % 64) ld,
      ea,
      eb,
      ec,
      back m (bytes c m f),
    )

-- what is encoded is in base64
pub encoded_base64 : (m : List ℕ) → are_bytes m ≡ true → is_base64 (encode m) ≡ true
unfolding one two three group_holds
encoded_base64 [] h = refl
encoded_base64 (a ∷ []) h =
    let ha = byte a [] h in
    let e : a % 4 * 16 % 16 ≡ 0 = omega arith in
    simp (is_letter_lem (a / 4) (omega arith), is_letter_lem (a % 4 * 16) (omega arith), value_letter (a % 4 * 16) (omega arith), pad_no_letter, e)
encoded_base64 (a ∷ b ∷ []) h =
    let ha = byte a (b ∷ []) h in
    let hb = byte b [] (bytes a (b ∷ []) h) in
    let e : b % 16 * 4 % 4 ≡ 0 = omega arith in
    simp (
      is_letter_lem (a / 4) (omega arith),
      is_letter_lem (a % 4 * 16 + b / 16) (omega arith),
      is_letter_lem (b % 16 * 4) (omega arith),
      value_letter (b % 16 * 4) (omega arith),
      pad_no_letter,
      e,
    )
encoded_base64 (a ∷ b ∷ c ∷ m) h =
    let ha = byte a (b ∷ c ∷ m) h in
    let g = bytes a (b ∷ c ∷ m) h in
    let hb = byte b (c ∷ m) g in
    let f = bytes b (c ∷ m) g in
    let hc = byte c m f in
    simp (
      is_letter_lem (a / 4) (omega arith),
      is_letter_lem (a % 4 * 16 + b / 16) (omega arith),
      is_letter_lem (b % 16 * 4 + c / 64) (omega arith),
      is_letter_lem (c % 64) (omega arith),
      encoded_base64 m (bytes c m f),
    )

-- ---- back and there
no_more : (t : List ℕ) → is_empty_text t ≡ true → t ≡ []
no_more [] h = refl
no_more (x ∷ t) h = cc

-- four characters of a text that holds, and what the rest of it is the encoding of
module _ (a b c d : ℕ) (la : is_letter a ≡ true) (lb : is_letter b ≡ true) where
  of_four : (t : List ℕ) → is_letter c ≡ true → is_letter d ≡ true → encode (decode t) ≡ t → encode (decode (a ∷ b ∷ c ∷ d ∷ t)) ≡ a ∷ b ∷ c ∷ d ∷ t
  unfolding group_bytes three
  of_four t lc ld i =
      let va = value_small a in
      let vb = value_small b in
      let vc = value_small c in
      let vd = value_small d in
      let x : ℕ = value_of a * 4 + value_of b / 16 in
      let y : ℕ = value_of b % 16 * 16 + value_of c / 4 in
      let z : ℕ = value_of c % 4 * 64 + value_of d in
      let e : (value_of a * 4 + value_of b / 16) / 4 ≡ value_of a = omega arith in
      let f : (value_of a * 4 + value_of b / 16) % 4 * 16 + (value_of b % 16 * 16 + value_of c / 4) / 16 ≡ value_of b = omega arith in
      let g : (value_of b % 16 * 16 + value_of c / 4) % 16 * 4 + (value_of c % 4 * 64 + value_of d) / 64 ≡ value_of c = omega arith in
      let h : (value_of c % 4 * 64 + value_of d) % 64 ≡ value_of d = omega arith in
      simp (no_pad c lc, no_pad d ld, e, f, g, h, letter_value a la, letter_value b lb, letter_value c lc, letter_value d ld, i)

  of_three : is_letter c ≡ true → d ≡ 61 → value_of c % 4 ≡ 0 → encode (decode (a ∷ b ∷ c ∷ d ∷ [])) ≡ a ∷ b ∷ c ∷ d ∷ []
  unfolding group_bytes two
  of_three lc p q =
      let va = value_small a in
      let vb = value_small b in
      let vc = value_small c in
      let e : (value_of a * 4 + value_of b / 16) / 4 ≡ value_of a = omega arith in
      let f : (value_of a * 4 + value_of b / 16) % 4 * 16 + (value_of b % 16 * 16 + value_of c / 4) / 16 ≡ value_of b = omega arith in
      let g : (value_of b % 16 * 16 + value_of c / 4) % 16 * 4 ≡ value_of c = omega arith in
      simp (no_pad c lc, p, e, f, g, letter_value a la, letter_value b lb, letter_value c lc)

  of_two : c ≡ 61 → d ≡ 61 → value_of b % 16 ≡ 0 → encode (decode (a ∷ b ∷ c ∷ d ∷ [])) ≡ a ∷ b ∷ c ∷ d ∷ []
  unfolding group_bytes one
  of_two p q r =
      let va = value_small a in
      let vb = value_small b in
      let e : (value_of a * 4 + value_of b / 16) / 4 ≡ value_of a = omega arith in
      let f : (value_of a * 4 + value_of b / 16) % 4 * 16 ≡ value_of b = omega arith in
      simp (p, q, e, f, letter_value a la, letter_value b lb)

  of_group : (t : List ℕ) → encode (decode t) ≡ t →
      (is_letter c && is_letter d) || (is_empty_text t && is_letter c && eqb d pad && eqb (value_of c % 4) 0) || (is_empty_text t && eqb c pad && eqb d pad && eqb (value_of b % 16) 0) ≡ true →
      encode (decode (a ∷ b ∷ c ∷ d ∷ t)) ≡ a ∷ b ∷ c ∷ d ∷ t
  of_group t i h =
      ⊎_elim
      (λ g.
      ⊎_elim (λ f. of_four t (and_left (is_letter c) (is_letter d) f) (and_right (is_letter c) (is_letter d) f) i)
      (λ f.
      let f1 = and_left (is_empty_text t && is_letter c && eqb d pad) (eqb (value_of c % 4) 0) f in
      let f2 = and_left (is_empty_text t && is_letter c) (eqb d pad) f1 in
      let n = no_more t (and_left (is_empty_text t) (is_letter c) f2) in
      rw n
      (of_three (and_right (is_empty_text t) (is_letter c) f2) (eqb-true d 61 (and_right (is_empty_text t && is_letter c) (eqb d pad) f1))
      (eqb-true (value_of c % 4) 0 (and_right (is_empty_text t && is_letter c && eqb d pad) (eqb (value_of c % 4) 0) f))))
      (or_cases (is_letter c && is_letter d) (is_empty_text t && is_letter c && eqb d pad && eqb (value_of c % 4) 0) g))
      (λ g.
      let g1 = and_left (is_empty_text t && eqb c pad && eqb d pad) (eqb (value_of b % 16) 0) g in
      let g2 = and_left (is_empty_text t && eqb c pad) (eqb d pad) g1 in
      let n = no_more t (and_left (is_empty_text t) (eqb c pad) g2) in
      rw n
      (of_two (eqb-true c 61 (and_right (is_empty_text t) (eqb c pad) g2)) (eqb-true d 61 (and_right (is_empty_text t && eqb c pad) (eqb d pad) g1))
      (eqb-true (value_of b % 16) 0 (and_right (is_empty_text t && eqb c pad && eqb d pad) (eqb (value_of b % 16) 0) g))))
      (or_cases ((is_letter c && is_letter d) || (is_empty_text t && is_letter c && eqb d pad && eqb (value_of c % 4) 0))
      (is_empty_text t && eqb c pad && eqb d pad && eqb (value_of b % 16) 0) h)

-- a text in base64 is the encoding of what it decodes to
pub there : (t : List ℕ) → is_base64 t ≡ true → encode (decode t) ≡ t
unfolding group_holds
there [] g = refl
there (a ∷ []) g = cc
there (a ∷ b ∷ []) g = cc
there (a ∷ b ∷ c ∷ []) g = cc
there (a ∷ b ∷ c ∷ d ∷ t) g =
    let k = and_left (group_holds (is_empty_text t) a b c d) (is_base64 t) g in
    let l = and_left (is_letter a && is_letter b) _ k in
    of_group a b c d
    (and_left (is_letter a) (is_letter b) l) (and_right (is_letter a) (is_letter b) l) t
    (there t (and_right (group_holds (is_empty_text t) a b c d) (is_base64 t) g)) (and_right (is_letter a && is_letter b) _ k)

-- so two texts that stand for one message are one text
pub one_text : (s t : List ℕ) → is_base64 s ≡ true → is_base64 t ≡ true → decode s ≡ decode t → s ≡ t
one_text s t gs gt e = sym (there s gs) ∙ ap encode e ∙ there t gt
