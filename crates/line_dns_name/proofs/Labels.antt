-- Laws of a label's text: a byte of it, and one byte more.
use Prim.Native.Nat.{ℕ, ◌+◌, ◌≤◌, ◌<◌}
use mathlib.Core.Path.{◌≡◌}
use mathlib.Core.Bool.{false}
use mathlib.Core.List.{List, ◌∷◌, ◌++◌}
use native.Mathlib.Numerals.{add-one}
use native.Mathlib.Omega.{arith}
use lib.ListN.{length, get_or, drop}
use lib.Seq.{drop-cons}
use borrow.Author.Tests.{eq-eqb, ne_eqb}
use Rattle.place.specs.Place.{Wrote}
use Rattle.line_words.specs.Digits.{hex}
use Rattle.line_words.specs.Name.{escape, unit_text}
use Rattle.line_words.proofs.Numbers.{length-hex}
use Rattle.line_words.proofs.Names.{byte_bound}
use Rattle.line_dns_name.specs.DnsNameText.{byte_text, label_text}
use Rattle.place.proofs.Parts.{Partly, goes_on}

-- ---- a full stop, and any other byte

module _ (b : ℕ) where
  text_stop : b ≡ 0x2E → byte_text b ≡ 0x5C ∷ 0x78 ∷ hex 2 b
  unfolding byte_text escape
  text_stop h = simp (eq-eqb b 0x2E h)

  text_other : (b ≡ 0x2E → ⊥) → byte_text b ≡ unit_text false b
  unfolding byte_text
  text_other h = simp (ne_eqb b 0x2E h)

  pub size_stop : b ≡ 0x2E → 4 ≡ length (byte_text b)
  size_stop h = rw (text_stop h, length-hex)

  pub room_stop : (at n : ℕ) → b ≡ 0x2E → at + length (byte_text b) ≤ n → at + 4 ≤ n
  room_stop at n h r = rw (← size_stop h) at r

  module _ (w : ℕ) (q : w ≡ b) where
    pub wrote_stop : (l k : List ℕ) (i j : ℕ) → b ≡ 0x2E → Wrote l k i j (0x5C ∷ 0x78 ∷ hex 2 w) → Wrote l k i j (byte_text b)
    wrote_stop l k i j h v = rw (text_stop h, ← q) v

    pub size_other : (n : ℕ) → (b ≡ 0x2E → ⊥) → n ≡ length (unit_text false w) → n ≡ length (byte_text b)
    size_other n h e = rw (text_other h, ← q) e

    pub small_other : (n : ℕ) → n ≡ length (unit_text false w) → n ≤ 4
    small_other n e = omega (arith, e, byte_bound w)

    pub room_other : (at n : ℕ) → (b ≡ 0x2E → ⊥) → at + length (byte_text b) ≤ n → at + length (unit_text false w) ≤ n
    room_other at n h r = rw (text_other h, ← q) at r

    pub wrote_other : (l k : List ℕ) (i j : ℕ) → (b ≡ 0x2E → ⊥) → Wrote l k i j (unit_text false w) → Wrote l k i j (byte_text b)
    wrote_other l k i j h v = rw (text_other h, ← q) v

-- one more byte of a label is written
pub byte_written : (s l k m all : List ℕ) (at q p i : ℕ) → Partly l k at q (label_text (drop i s)) all → i < length s →
    Wrote k m q p (byte_text (get_or s i 0)) → Partly l m at p (label_text (drop (i + 1) s)) all
unfolding label_text
byte_written s l k m all at q p i w h v =
    let next : label_text (drop i s) ≡ byte_text (get_or s i 0) ++ label_text (drop (i + 1) s) = simp (drop-cons s i 0 h, add-one) in
    goes_on l k _ _ at q w _ _ next m p v
