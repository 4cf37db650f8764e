-- Laws of what is written: its bytes, its length and its checks.
use Rattle.std.specs.Prelude.{Result, Ok, Err, ⊤}
use Rattle.wire.specs.declared.refusal.Refusal.{Refusal}
use Prim.Native.Nat.{ℕ, ◌+◌, ◌≤◌, min}
use mathlib.Core.Path.{◌≡◌, refl, sym, ◌∙◌}
use mathlib.Core.Bool.{Bool, true, false}
use mathlib.Core.List.{List}
use native.Mathlib.Omega.{arith}
use lib.Dec.{leb}
use lib.ListN.{length, length-append}
use borrow.Author.Tests.{leb-true}
use Rattle.wire.specs.declared.check.Checked.{Checked}
use Rattle.wire.specs.declared.check.Checked.TheVariants.{Held, Failed}
use Rattle.negotiate_flags.specs.declared.NegotiateFlags.{NegotiateFlags}
use Rattle.wire.specs.declared.refusal.Refusal.TheVariants.{NoCharset, TooLongToWrite, WrongKey, NoRoom}
use Rattle.wire.specs.Check.{checked, after, on_clear}
use Rattle.negotiate_flags.specs.Flags.{unicode, charset_holds}
use Rattle.wire.proofs.Laws.{chain}
use Rattle.place.specs.Place.{Wrote}
use Rattle.place.proofs.Numbers.{length-le32}
use Rattle.place.proofs.Writings.{measured, counted_on}
use Rattle.write_field.proofs.Laws.{length-head, length-version}
use Rattle.read_authenticate.specs.declared.Fields.{Fields}
use Rattle.write_authenticate.specs.Writing.{fields_to, heads_bytes, after_heads, fixed_bytes, payload_bytes, payload_size, authenticate_bytes, check_names_to_write, key_holds, size_to_write, check_to_write}

-- ---- the fixed part

-- a fixed part with the fields that were laid out
pub of_fixed : (flags : NegotiateFlags) (v mic : List ℕ) (f g : Fields) (l k : List ℕ) (i p : ℕ) →
    f ≡ g → Wrote l k i p (fixed_bytes flags v mic f) → Wrote l k i p (fixed_bytes flags v mic g)
of_fixed flags v mic f g l k i p e w = rw (← e) w

-- ---- lengths

length-heads : (f : Fields) → length (heads_bytes f) ≡ 48
unfolding heads_bytes
length-heads f = simp (length-append, length-head)

pub length-fixed : (flags : NegotiateFlags) (v mic : List ℕ) (f : Fields) → length v ≡ 8 → length mic ≡ 16 →
    length (fixed_bytes flags v mic f) ≡ 88
unfolding fixed_bytes after_heads
length-fixed flags v mic f e d = simp (length-append, length-le32, length-heads, length-version flags v e, d)

module _ (lm nt domain user workstation key : List ℕ) where
  pub length-payload : length (payload_bytes lm nt domain user workstation key) ≡ payload_size lm nt domain user workstation key
  unfolding payload_bytes
  length-payload = simp length-append

  pub length-message : (flags : NegotiateFlags) (v mic : List ℕ) → length v ≡ 8 → length mic ≡ 16 →
      length (authenticate_bytes flags v mic lm nt domain user workstation key) ≡ size_to_write lm nt domain user workstation key
  unfolding authenticate_bytes
  length-message flags v mic e d =
      let f : Fields = fields_to (length lm) (length nt) (length domain) (length user) (length workstation) (length key) in
      simp (length-append, length-fixed flags v mic f e d)

  -- a payload that was written after the fixed part
  pub payload_ends : (l k : List ℕ) (p q : ℕ) → p ≡ 88 → Wrote l k p q (payload_bytes lm nt domain user workstation key) →
      q ≡ size_to_write lm nt domain user workstation key
  payload_ends l k p q e w = w.place ∙ rw e refl

  -- the fields' lengths, counted one by one in the payload's order
  pub size_is : (a b c d e r : ℕ) →
      a ≡ min 65536 (88 + length domain) → b ≡ min 65536 (a + length user) → c ≡ min 65536 (b + length workstation) →
      d ≡ min 65536 (c + length lm) → e ≡ min 65536 (d + length nt) → r ≡ min 65536 (e + length key) →
      r ≡ min 65536 (size_to_write lm nt domain user workstation key)
  size_is a b c d e r p q s t u w =
      let n : ℕ = 88 + length domain in
      let o : ℕ = n + length user in
      let k : ℕ = o + length workstation in
      let i : ℕ = k + length lm in
      let j : ℕ = i + length nt in
      let on_o : b ≡ min 65536 o = counted_on n (length user) a b p q in
      let on_k : c ≡ min 65536 k = counted_on o (length workstation) b c on_o s in
      let on_i : d ≡ min 65536 i = counted_on k (length lm) c d on_k t in
      let on_j : e ≡ min 65536 j = counted_on i (length nt) d e on_i u in
      let sum : j + length key ≡ size_to_write lm nt domain user workstation key = omega (arith, length-payload) in
      rw (← sum) (counted_on j (length key) e r on_j w)

-- ---- the checks

-- names that were checked by the answer of the flags' question
pub names_are : (flags : NegotiateFlags) (b : Bool) (domain user workstation : List ℕ) (r : Result ⊤ Refusal) → b ≡ unicode flags →
    r ≡ check_names_to_write b domain user workstation → r ≡ check_names_to_write (unicode flags) domain user workstation
names_are flags b domain user workstation r e h = rw (← e) h

pub ruleset checks = (chain, measured)

both_held : (k m : Checked) (z : Result ⊤ Refusal) (s t : Bool) →
    ◌≡◌ {A = Result ⊤ Refusal}
    (after k (Err NoCharset) (on_clear Err z (after m (Err WrongKey)
    (after (checked s) (Err TooLongToWrite) (after (checked t) (Err NoRoom) (Ok tt))))))
    (Ok tt) →
    (s ≡ true) × (t ≡ true)
both_held Held Held (Ok u) true true h = (refl, refl)
both_held Held Held (Ok u) true false h = (refl, cc)
both_held Held Held (Ok u) false t h = (cc, cc)
both_held Held Failed (Ok u) s t h = (cc, cc)
both_held Held m (Err e) s t h = (cc, cc)
both_held Failed m z s t h = (cc, cc)

-- a message whose checks held is no longer than a message may be, and has its room
module _ (flags : NegotiateFlags) (lm nt domain user workstation key : List ℕ) (room : ℕ) (r : Result ⊤ Refusal)
    (p : r ≡ check_to_write room flags lm nt domain user workstation key) (h : r ≡ Ok tt) where
  held : (leb (size_to_write lm nt domain user workstation key) 65535 ≡ true) × (leb (size_to_write lm nt domain user workstation key) room ≡ true)
  unfolding check_to_write
  held =
      both_held (charset_holds flags) (key_holds flags key) (check_names_to_write (unicode flags) domain user workstation) _ _ (sym p ∙ h)

  pub message_size : 88 + payload_size lm nt domain user workstation key ≤ 65535
  message_size =
      rw (length-payload lm nt domain user workstation key) at
      (leb-true (size_to_write lm nt domain user workstation key) 65535 held.0)

  pub message_room : 88 + payload_size lm nt domain user workstation key ≤ room
  message_room =
      rw (length-payload lm nt domain user workstation key) at
      (leb-true (size_to_write lm nt domain user workstation key) room held.1)

  pub message_fits : (l k xs : List ℕ) (q : ℕ) → length l ≡ room → Wrote l k 0 q xs →
      q ≡ size_to_write lm nt domain user workstation key → length xs ≤ length l
  message_fits l k xs q e w f = omega (arith, w.place, leb-true (size_to_write lm nt domain user workstation key) room held.1)
