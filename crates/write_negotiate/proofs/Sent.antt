-- Laws of what is written: its bytes, its length and its checks.
use Rattle.std.specs.Prelude.{Result, Ok, ⊤}
use Rattle.wire.specs.declared.refusal.Refusal.{Refusal}
use Prim.Native.Nat.{ℕ, ◌+◌, ◌≤◌, min}
use mathlib.Core.Path.{◌≡◌, refl, sym, ◌∙◌}
use mathlib.Core.Bool.{true, ◌||◌}
use mathlib.Core.List.{List, ◌++◌}
use native.Mathlib.Omega.{arith}
use lib.Dec.{leb}
use lib.ListN.{length, length-append}
use borrow.Author.Tests.{leb-true}
use Rattle.negotiate_flags.specs.declared.NegotiateFlags.{NegotiateFlags}
use Rattle.wire.specs.declared.refusal.Refusal.TheVariants.{NoCharset, TooLongToWrite, NoRoom}
use Rattle.negotiate_flags.specs.Flags.{unicode, oem}
use Rattle.wire.proofs.Laws.{chain, after_clear}
use Rattle.place.specs.Place.{Wrote}
use Rattle.place.proofs.Numbers.{length-le32}
use Rattle.place.proofs.Writings.{measured, counted_on}
use Rattle.write_field.proofs.Laws.{length-head, length-version}
use Rattle.read_negotiate.specs.declared.Fields.{Fields}
use Rattle.write_negotiate.specs.Writing.{flags_to_write, fields_to, after_type, fixed_bytes, negotiate_bytes, size_to_write, check_to_write}

-- ---- the fixed part

-- a fixed part with the flags and the fields that were worked out
pub of_fixed : (w x : NegotiateFlags) (v : List ℕ) (f g : Fields) (l k : List ℕ) (i p : ℕ) →
    w ≡ x → f ≡ g → Wrote l k i p (fixed_bytes w v f) → Wrote l k i p (fixed_bytes x v g)
of_fixed w x v f g l k i p d e h = rw (← d, ← e) h

-- ---- lengths

pub length-fixed : (flags : NegotiateFlags) (v : List ℕ) (f : Fields) → length v ≡ 8 → length (fixed_bytes flags v f) ≡ 40
unfolding fixed_bytes after_type
length-fixed flags v f e = simp (length-append, length-le32, length-head, length-version flags v e)

module _ (domain workstation : List ℕ) where
  pub length-message : (flags : NegotiateFlags) (v : List ℕ) → length v ≡ 8 →
      length (negotiate_bytes flags v domain workstation) ≡ size_to_write domain workstation
  unfolding negotiate_bytes
  length-message flags v e =
      simp (length-append, length-fixed (flags_to_write flags domain workstation) v (fields_to (length domain) (length workstation)) e)

  -- a payload that was written after the fixed part
  pub payload_ends : (l k : List ℕ) (p q : ℕ) → p ≡ 40 → Wrote l k p q (domain ++ workstation) → q ≡ size_to_write domain workstation
  payload_ends l k p q e w = w.place ∙ rw e refl

  -- the names' lengths, counted one after the other
  pub size_is : (a r : ℕ) → a ≡ min 65536 (40 + length domain) → r ≡ min 65536 (a + length workstation) →
      r ≡ min 65536 (size_to_write domain workstation)
  size_is a r p q =
      let sum : 40 + length domain + length workstation ≡ size_to_write domain workstation = omega (arith, length-append domain workstation) in
      rw (← sum) (counted_on (40 + length domain) (length workstation) a r p q)

-- ---- the checks

pub ruleset checks = (chain, measured)

-- a message whose checks held is no longer than a message may be, and has its room
module _ (flags : NegotiateFlags) (domain workstation : List ℕ) (room : ℕ) (r : Result ⊤ Refusal)
    (p : r ≡ check_to_write room flags domain workstation) (h : r ≡ Ok tt) where
  held : (leb (size_to_write domain workstation) 65535 ≡ true) × (leb (size_to_write domain workstation) room ≡ true)
  unfolding check_to_write
  held =
      let a = after_clear (unicode flags || oem flags) NoCharset _ (sym p ∙ h) in
      let b = after_clear (leb (size_to_write domain workstation) 65535) TooLongToWrite _ a.1 in
      let c = after_clear (leb (size_to_write domain workstation) room) NoRoom (Ok tt) b.1 in
      (b.0, c.0)

  pub message_size : 40 + (length domain + length workstation) ≤ 65535
  message_size = rw (length-append domain workstation) at (leb-true (size_to_write domain workstation) 65535 held.0)

  pub message_room : 40 + (length domain + length workstation) ≤ room
  message_room = rw (length-append domain workstation) at (leb-true (size_to_write domain workstation) room held.1)

  pub message_fits : (l k xs : List ℕ) (q : ℕ) → length l ≡ room → Wrote l k 0 q xs →
      q ≡ size_to_write domain workstation → length xs ≤ length l
  message_fits l k xs q e w f = omega (arith, w.place, leb-true (size_to_write domain workstation) room held.1)
