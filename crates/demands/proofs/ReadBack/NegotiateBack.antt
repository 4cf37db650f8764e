-- A NEGOTIATE that is written reads back, and its writing keeps what it doesn't write.
use Rattle.std.specs.Prelude.{Result, Ok, Err}
use Rattle.read_negotiate.specs.declared.Negotiate.{Negotiate}
use Rattle.wire.specs.declared.refusal.Refusal.{Refusal}
use Prim.Native.Nat.{ℕ, ◌+◌, ◌/◌, ◌%◌, ◌≤◌, ◌<◌}
use mathlib.Core.Path.{◌≡◌, refl, sym, ap, ◌∙◌, subst}
use mathlib.Core.Logic.{◌↔◌, ⊎_elim}
use mathlib.Core.Bool.{Bool, true, false, not, cond}
use mathlib.Core.List.{List, [], ◌∷◌, ◌++◌, append_assoc, append-nil}
use native.Mathlib.Omega.{arith}
use lib.Dec.{eqb}
use lib.ListN.{length, take, drop}
use lib.Seq.{take_at}
use borrow.Author.Tests.{eqb-true, eqb-false, leb-true}
use Rattle.wire.specs.declared.check.Checked.TheVariants.{Held}
use Rattle.wire.specs.declared.refusal.Refusal.TheVariants.{NoCharset, TooLongToWrite, NoRoom}
use Rattle.wire.specs.Number.{u32_at, with_bit}
use Rattle.wire.proofs.Laws.{held_true}
use Rattle.wire.proofs.Bits.{one_bit}
use Rattle.field.specs.declared.Field.{Field}
use Rattle.negotiate_flags.specs.declared.NegotiateFlags.{NegotiateFlags}
use Rattle.negotiate_flags.specs.Flags.{unicode, oem, charset_holds}
use Rattle.head.specs.Head.{signature}
use Rattle.place.specs.Place.{le32}
use Rattle.place.specs.Written.{size_holds, room_holds}
use Rattle.place.proofs.Numbers.{length-le32, back32}
use Rattle.write_field.specs.Writing.{version_bytes}
use Rattle.write_field.proofs.Laws.{length-version}
use Rattle.read_negotiate.specs.declared.Fields.{Fields}
use Rattle.read_negotiate.specs.Negotiate.{read_negotiate}
use Rattle.write_negotiate.specs.Writing.{nonempty, flags_to_write, fields_to, after_type, fixed_bytes, negotiate_bytes, size_to_write, check_to_write, write_answer, write_out}
use Rattle.write_negotiate.proofs.Sent.{length-message}
use Rattle.demands.specs.Message.{negotiate, len_of, offset_of, Set, Nonempty, Fails}
use Rattle.demands.specs.TakenExactly.{IsTaken}
use Rattle.verdict.specs.Verdict.{nego_verdict}
use Rattle.demands.specs.ReadBack.{BitsByNames, NegotiateBack, NegotiateReadsBack}
use Rattle.demands.specs.Kept.{NegotiateKept}
use Rattle.demands.proofs.Bools.{or-either, after_held}
use Rattle.demands.proofs.Message.Chain.{by_row}
use Rattle.demands.proofs.Kept.{by_verdict}
use Rattle.demands.proofs.OwnBytes.{own_same}
use Rattle.demands.proofs.ReadBack.{written_is}
use Rattle.demands.proofs.ReadBack.Sent.{Before, heads_then, HeadsBack, PartsStand, past, heads_back, parts_stand}
use Rattle.demands.proofs.TakenExactly.Negotiate.{negotiate_judged, negotiate_own}

-- ---- the two bits

-- both, as the names make them
record BothBits (n z : ℕ) (domain workstation : List ℕ) : Type 0 where
  low : z % 0x1000 ≡ n % 0x1000
  high : z / 0x4000 ≡ n / 0x4000
  domain_bit : z / 0x1000 % 2 ≡ cond (nonempty domain) 1 0
  workstation_bit : z / 0x2000 % 2 ≡ cond (nonempty workstation) 1 0

both_bits : (w : NegotiateFlags) (domain workstation : List ℕ) → BothBits w.bits (flags_to_write w domain workstation).bits domain workstation
unfolding flags_to_write
both_bits w domain workstation =
    let n = with_bit w.bits 0x1000 (nonempty domain) in
    let a = one_bit w.bits 0x1000 (nonempty domain) (omega arith) in
    let b = one_bit n 0x2000 (nonempty workstation) (omega arith) in
    let d = one_or_none (nonempty domain) in
    let k = one_or_none (nonempty workstation) in
    record {
      low = omega (arith, a.left, b.left);
      high = omega (arith, a.times, b.times, d, k);
      domain_bit = omega (arith, a.times, b.left, d);
      workstation_bit = omega (arith, b.times, k);
    }
  where
    one_or_none : (on : Bool) → cond on 1 0 ≤ 1
    one_or_none true = omega arith
    one_or_none false = omega arith

-- a name's bit is set exactly where it has bytes
bit_is : (x : List ℕ) (b : ℕ) → b ≡ cond (nonempty x) 1 0 → (b ≡ 1) ↔ (0 < length x)
bit_is x b e = go (eqb (length x) 0) refl e where
  go : (t : Bool) → eqb (length x) 0 ≡ t → b ≡ cond (not t) 1 0 → (b ≡ 1) ↔ (0 < length x)
  go true p q = (λ h. absurd (omega arith), λ h. absurd (omega (arith, eqb-true (length x) 0 p)))
  go false p q = (λ h. omega (arith, eqb-false (length x) 0 p), λ h. q)

pub bits_by_names : (w : NegotiateFlags) (domain workstation : List ℕ) → BitsByNames (flags_to_write w domain workstation).bits w.bits domain workstation
bits_by_names w domain workstation =
    let b = both_bits w domain workstation in
    record {
      domain_bit = bit_is domain _ b.domain_bit;
      workstation_bit = bit_is workstation _ b.workstation_bit;
      bits_below = b.low;
      bits_above = b.high;
    }

-- ---- what is written, byte by byte

module _ (w : NegotiateFlags) (v dom wks : List ℕ) (v8 : length v ≡ 8) where
  x : NegotiateFlags
  x = flags_to_write w dom wks

  f : Fields
  f = fields_to (length dom) (length wks)

  M : List ℕ
  M = negotiate_bytes w v dom wks

  -- what follows the flags at 12
  tail : List ℕ
  tail = version_bytes x v ++ (dom ++ wks)

  at0 : M ≡ signature ++ (le32 1 ++ (le32 x.bits ++ heads_then (f.domain ∷ f.workstation ∷ []) tail))
  unfolding M x f tail negotiate_bytes fixed_bytes after_type
  at0 = simp append_assoc

  -- the heads and the flags read back
  at_flags : Before M (le32 x.bits ++ heads_then (f.domain ∷ f.workstation ∷ []) tail) 12
  at_flags = record { front = signature ++ le32 1; whole = at0 ∙ sym (append_assoc signature (le32 1) _); long = simp length-le32 }

  heads : HeadsBack M (f.domain ∷ f.workstation ∷ []) tail 16
  heads = heads_back M (f.domain ∷ f.workstation ∷ []) tail 16 (past M (le32 x.bits) _ 12 4 (length-le32 x.bits) at_flags)

  flags_back : u32_at M 12 ≡ x.bits
  flags_back = ap (λ (l : List ℕ). u32_at l 12) at_flags.whole ∙ back32 at_flags.front _ x.bits 12 at_flags.long

  type_back : u32_at M 8 ≡ 1
  type_back = ap (λ (l : List ℕ). u32_at l 8) at0 ∙ back32 signature _ 1 8 refl

  signature_back : take 8 M ≡ signature
  signature_back = ap (λ (l : List ℕ). take 8 l) at0 ∙ take_at signature (le32 1 ++ (le32 x.bits ++ heads_then (f.domain ∷ f.workstation ∷ []) tail)) 8 refl

  -- the names stand in the payload, and end the message
  fields : PartsStand M (dom ∷ wks ∷ []) 40
  unfolding tail
  fields = parts_stand M (dom ∷ wks ∷ []) 40 (simp append-nil (past M (version_bytes x v) _ 32 8 (length-version x v v8) heads.1.1))

  whole : length M ≡ 40 + length dom + length wks
  whole = fields.1.1

  len1 : len_of negotiate M 1 ≡ length dom
  unfolding f fields_to
  len1 = ap (λ (g : Field). g.len) heads.0

  off1 : offset_of negotiate M 1 ≡ 40
  unfolding f fields_to
  off1 = ap (λ (g : Field). g.offset) heads.0

  len2 : len_of negotiate M 2 ≡ length wks
  unfolding f fields_to
  len2 = ap (λ (g : Field). g.len) heads.1.0

  off2 : offset_of negotiate M 2 ≡ 40 + length dom
  unfolding f fields_to
  off2 = ap (λ (g : Field). g.offset) heads.1.0

  -- a flag of the message
  by_names : BitsByNames x.bits w.bits dom wks
  unfolding x
  by_names = bits_by_names w dom wks

  flag : (mask : ℕ) → x.bits / mask % 2 ≡ 1 → Set negotiate M mask
  flag mask e = ap (λ (n : ℕ). n / mask % 2) flags_back ∙ e

  -- ---- no check fails

  no_5 : charset_holds w ≡ Held → (i : ℕ) → Fails negotiate M 5 i → ⊥
  no_5 h i e =
      ⊎_elim (λ u. e.1 (flag 0x1 (omega (arith, eqb-true (w.bits / 0x1 % 2) 1 u, by_names.bits_below))))
      (λ o. e.2 (flag 0x2 (omega (arith, eqb-true (w.bits / 0x2 % 2) 1 o, by_names.bits_below))))
      (or-either (unicode w) (oem w) (held_true _ h))

  by_field : (P : ℕ → Type 0) → P 1 → P 2 → (i : ℕ) → 1 ≤ i → i ≤ 2 → P i
  by_field P a b i l r = go (eqb i 1) refl where
    second : (i ≡ 1 → ⊥) → 2 ≡ i
    second h = omega (arith, h)

    go : (t : Bool) → eqb i 1 ≡ t → P i
    go true p = subst P (sym (eqb-true i 1 p)) a
    go false p = subst P (second (eqb-false i 1 p)) b

  field_end : (i : ℕ) → 1 ≤ i → i ≤ 2 → offset_of negotiate M i + len_of negotiate M i ≤ length M
  field_end = by_field (λ i. offset_of negotiate M i + len_of negotiate M i ≤ length M) (omega (arith, off1, len1, whole)) (omega (arith, off2, len2, whole))

  field_start : (i : ℕ) → 1 ≤ i → i ≤ 2 → 40 ≤ offset_of negotiate M i
  field_start = by_field (λ i. 40 ≤ offset_of negotiate M i) (omega (arith, off1)) (omega (arith, off2))

  none_fails : charset_holds w ≡ Held → length M ≤ 65535 → (n i : ℕ) → Fails negotiate M n i → ⊥
  none_fails charset size n i =
      by_row negotiate M n i (λ h. omega (arith, h.1)) (λ h. omega (arith, h.1, whole)) (λ h. h.1 signature_back) (λ h. h.1 type_back) (no_5 charset i)
      (λ h. omega (arith, h.1, field_end i h.0.first h.0.last))
      (λ h. omega (arith, h.1, field_start i h.0.first h.0.last))
      (λ h. absurd h.1) (λ h. absurd h.1)

  -- ---- and so it is taken, with the names as they were given

  domain_counts : 0 < len_of negotiate M 1 → Nonempty negotiate M 1
  domain_counts s =
      record {
        first = omega arith;
        last = omega arith;
        counts = (λ e. flag 0x1000 (by_names.domain_bit.1 (omega (arith, len1))), λ e. absurd (omega arith));
        some = s;
      }

  workstation_counts : 0 < len_of negotiate M 2 → Nonempty negotiate M 2
  workstation_counts s =
      record {
        first = omega arith;
        last = omega arith;
        counts = (λ e. absurd (omega arith), λ e. flag 0x2000 (by_names.workstation_bit.1 (omega (arith, len2))));
        some = s;
      }

  at_offset : (i n o : ℕ) (y : List ℕ) → offset_of negotiate M i ≡ o → take n (drop o M) ≡ y → take n (drop (offset_of negotiate M i) M) ≡ y
  at_offset i n o y e h = ap (λ (k : ℕ). take n (drop k M)) e ∙ h

  back : charset_holds w ≡ Held → length M ≤ 65535 → NegotiateBack M w dom wks
  back charset size = go (read_negotiate M) refl ((negotiate_judged M).taken.1 (none_fails charset size)) where
    go : (r : Result Negotiate Refusal) → read_negotiate M ≡ r → IsTaken (nego_verdict r) → NegotiateBack M w dom wks
    go (Ok m) e t =
        let o = negotiate_own M m e in
        let same : m.flags.bits ≡ x.bits = o.flags ∙ flags_back in
        record {
          message = m;
          read = e;
          domain_same = own_same negotiate M 1 m.fields.domain dom o.domain domain_counts len1 (at_offset 1 (length dom) 40 dom off1 fields.0);
          workstation_same = own_same negotiate M 2 m.fields.workstation wks o.workstation workstation_counts len2 (at_offset 2 (length wks) _ wks off2 fields.1.0);
          flags_same = subst (λ (n : ℕ). BitsByNames n w.bits dom wks) (sym same) by_names;
        }
    go (Err d) e t = absurd t

-- what a message that is written went through
pub record Writable (room : ℕ) (w : NegotiateFlags) (dom wks : List ℕ) : Type 0 where
  pub charset : charset_holds w ≡ Held
  pub size : size_to_write dom wks ≤ 65535
  pub room_there : size_to_write dom wks ≤ room

pub writable : (room : ℕ) (w : NegotiateFlags) (dom wks : List ℕ) → check_to_write room w dom wks ≡ Ok tt → Writable room w dom wks
unfolding check_to_write
writable room w dom wks h =
    let c = after_held (charset_holds w) NoCharset _ h in
    let z = after_held (size_holds (size_to_write dom wks)) TooLongToWrite _ c.1 in
    let r = after_held (room_holds (size_to_write dom wks) room) NoRoom _ z.1 in
    record {
      charset = c.0;
      size = leb-true (size_to_write dom wks) 65535 (held_true _ z.0);
      room_there = leb-true (size_to_write dom wks) room (held_true _ r.0);
    }

pub negotiate_reads_back : NegotiateReadsBack
unfolding write_answer write_out M
negotiate_reads_back out w v dom wks n v8 h =
    let t = written_is (check_to_write (length out) w dom wks) (negotiate_bytes w v dom wks) out n h in
    let c = writable (length out) w dom wks t.0 in
    rw t.1 (back w v dom wks v8 c.charset (omega (arith, c.size, length-message dom wks w v v8)))

pub negotiate_kept : NegotiateKept
unfolding write_answer write_out
negotiate_kept out w v dom wks v8 =
    by_verdict (check_to_write (length out) w dom wks) (negotiate_bytes w v dom wks) out
    (λ h. omega (arith, (writable (length out) w dom wks h).room_there, length-message dom wks w v v8))
