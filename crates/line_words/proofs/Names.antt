-- Laws of a name's text.
use Prim.Native.Nat.{ℕ, ◌+◌, ◌-◌, ◌*◌, ◌≤◌}
use mathlib.Core.Path.{◌≡◌, refl, ◌∙◌}
use mathlib.Core.Bool.{Bool, true, false, cond}
use mathlib.Core.List.{List, [], ◌∷◌, ◌++◌}
use native.Mathlib.Omega.{arith}
use lib.Dec.{leb}
use borrow.Rule.Slice.PartMut.{put_mid}
use lib.ListN.{length, take, drop, length-append, length-take}
use Rattle.field.specs.declared.Field.{Field}
use Rattle.field.specs.Field.{field_bytes}
use Rattle.place.specs.Place.{Wrote}
use Rattle.place.proofs.Laws.{and_then}
use Rattle.place.proofs.Parts.{Partly, goes_on}
use Rattle.line_words.specs.Digits.{hex}
use Rattle.line_words.specs.Name.{plain, escape, unit_text, text_of, name_text}
use Rattle.line_words.proofs.Numbers.{length-hex}
use Rattle.line_words.proofs.Rooms.{then_lent}

-- ---- a unit: one that stands for itself, and any other

module _ (u : ℕ) (t : Bool) (e : t ≡ plain u) where
  module _ (unicode : Bool) where
    text_plain : t ≡ true → unit_text unicode u ≡ u ∷ []
    unfolding unit_text
    text_plain h = simp (← e, h)

    text_escape : t ≡ false → unit_text unicode u ≡ escape unicode u
    unfolding unit_text
    text_escape h = simp (← e, h)

    pub size_plain : t ≡ true → 1 ≡ length (unit_text unicode u)
    size_plain h = rw (text_plain h)

    pub room_plain : (at n : ℕ) → t ≡ true → at + length (unit_text unicode u) ≤ n → at + 1 ≤ n
    room_plain at n h r = rw (text_plain h) at r

    pub wrote_plain : (l k : List ℕ) (i q : ℕ) → t ≡ true → Wrote l k i q (u ∷ []) → Wrote l k i q (unit_text unicode u)
    wrote_plain l k i q h w = rw (text_plain h) w

    text_wide : t ≡ false → unicode ≡ true → unit_text unicode u ≡ 0x5C ∷ 0x75 ∷ hex 4 u
    unfolding escape
    text_wide h g = text_escape h ∙ rw g

    text_byte : t ≡ false → unicode ≡ false → unit_text unicode u ≡ 0x5C ∷ 0x78 ∷ hex 2 u
    unfolding escape
    text_byte h g = text_escape h ∙ rw g

    pub size_wide : t ≡ false → unicode ≡ true → 6 ≡ length (unit_text unicode u)
    size_wide h g = rw (text_wide h g, length-hex)

    pub size_byte : t ≡ false → unicode ≡ false → 4 ≡ length (unit_text unicode u)
    size_byte h g = rw (text_byte h g, length-hex)

    pub room_wide : (at n : ℕ) → t ≡ false → unicode ≡ true → at + length (unit_text unicode u) ≤ n → at + 6 ≤ n
    room_wide at n h g r = rw (← size_wide h g) at r

    pub room_byte : (at n : ℕ) → t ≡ false → unicode ≡ false → at + length (unit_text unicode u) ≤ n → at + 4 ≤ n
    room_byte at n h g r = rw (← size_byte h g) at r

    pub wrote_wide : (l k : List ℕ) (i q : ℕ) → t ≡ false → unicode ≡ true → Wrote l k i q (0x5C ∷ 0x75 ∷ hex 4 u) → Wrote l k i q (unit_text unicode u)
    wrote_wide l k i q h g w = rw (text_wide h g) w

    pub wrote_byte : (l k : List ℕ) (i q : ℕ) → t ≡ false → unicode ≡ false → Wrote l k i q (0x5C ∷ 0x78 ∷ hex 2 u) → Wrote l k i q (unit_text unicode u)
    wrote_byte l k i q h g w = rw (text_byte h g) w

-- a backslash, a letter, and what its own writer put after them
pub escaped : (l k m n ys xs : List ℕ) (letter i p q r s : ℕ) → Wrote l k i p (0x5C ∷ []) → Wrote k m p q (letter ∷ []) →
    Wrote (take (length m - q) (drop q m)) ys 0 r xs → n ≡ put_mid q (length m - q) m ys → s ≡ q + r →
    Wrote l n i s (0x5C ∷ letter ∷ xs)
escaped l k m n ys xs letter i p q r s a b w e f =
    then_lent l m n ys (0x5C ∷ letter ∷ []) xs i q s r (and_then l k m _ _ i p q a b) w e f

-- ---- a name's text has at most four bytes for each of the name's

wide_bound : (u : ℕ) → length (unit_text true u) ≤ 6
wide_bound u = go (plain u) refl where
  go : (t : Bool) → plain u ≡ t → length (unit_text true u) ≤ 6
  go true p = omega (arith, size_plain u (plain u) refl true p)
  go false p = omega (arith, size_wide u (plain u) refl true p refl)

pub byte_bound : (u : ℕ) → length (unit_text false u) ≤ 4
byte_bound u = go (plain u) refl where
  go : (t : Bool) → plain u ≡ t → length (unit_text false u) ≤ 4
  go true p = omega (arith, size_plain u (plain u) refl false p)
  go false p = omega (arith, size_byte u (plain u) refl false p refl)

pub name_bound : (unicode : Bool) (s : List ℕ) → length (name_text unicode s) ≤ 4 * length s
unfolding name_text text_of
name_bound true [] = omega arith
name_bound true (a ∷ []) = omega arith
name_bound true (a ∷ b ∷ s) = omega (arith, wide_bound (a + 256 * b), name_bound true s, length-append (unit_text true (a + 256 * b)) (name_text true s))
name_bound false [] = omega arith
name_bound false (a ∷ s) = omega (arith, byte_bound a, name_bound false s, length-append (unit_text false a) (name_text false s))

-- ---- one more unit of a name is written

pub unit_written : (unicode : Bool) (us more l k m all : List ℕ) (u at q p : ℕ) → Partly l k at q (text_of unicode us) all → us ≡ u ∷ more →
    Wrote k m q p (unit_text unicode u) → Partly l m at p (text_of unicode more) all
unfolding text_of
unit_written unicode us more l k m all u at q p w e v =
    let next : text_of unicode us ≡ unit_text unicode u ++ text_of unicode more = rw e in
    goes_on l k _ _ at q w _ _ next m p v

-- ---- the name that a field holds

module _ (s n : List ℕ) (f : Field) (e : n ≡ field_bytes s f) where
  pub field_small : length n ≤ f.len
  unfolding field_bytes
  field_small = rw e (go (leb (f.offset + f.len) (length s))) where
    go : (t : Bool) → length (cond t (take f.len (drop f.offset s)) []) ≤ f.len
    go true = simp length-take (omega arith)
    go false = omega arith
