-- What AUTHENTICATE's writer writes, byte by byte.
use Rattle.std.specs.Prelude.{Result, Ok, Err}
use Rattle.read_authenticate.specs.declared.Authenticate.{Authenticate}
use Rattle.wire.specs.declared.refusal.Refusal.{Refusal}
use Prim.Native.Nat.{ℕ, ◌+◌, ◌-◌, ◌/◌, ◌%◌, ◌≤◌, ◌<◌}
use mathlib.Core.Path.{◌≡◌, refl, sym, ap, ◌∙◌, subst}
use mathlib.Core.Bool.{Bool, true, false, ◌||◌, ◌&&◌, not}
use mathlib.Core.Logic.{◌⊎◌, inl, inr, ⊎_elim}
use mathlib.Core.List.{List, [], ◌∷◌, ◌++◌, append_assoc, append-nil}
use native.Mathlib.Omega.{arith}
use lib.Dec.{eqb, ltb}
use lib.ListN.{get_or-append, get_or-eq_default, get_or, length, take, drop, length-append}
use lib.Seq.{take_at, get_or-append-add}
use borrow.Author.Tests.{eqb-true, eqb-false, eq-eqb, leb-true, ltb-true, ltb-false}
use Rattle.field.specs.declared.Field.{Field}
use Rattle.wire.specs.declared.check.Checked.TheVariants.{Held}
use Rattle.wire.proofs.Laws.{held_true}
use Rattle.negotiate_flags.specs.declared.NegotiateFlags.{NegotiateFlags}
use Rattle.wire.specs.declared.refusal.Refusal.TheVariants.{NoCharset, OddNameToWrite, WrongKey, TooLongToWrite}
use Rattle.negotiate_flags.specs.Flags.{unicode, oem, key_exch, charset_holds}
use Rattle.head.specs.Head.{signature}
use Rattle.wire.specs.Number.{u32_at}
use Rattle.wire.proofs.Bools.{and_right}
use Rattle.place.specs.Place.{le32}
use Rattle.place.specs.Written.{size_holds}
use Rattle.place.proofs.Numbers.{length-le32, back32}
use Rattle.read_authenticate.specs.declared.Fields.{Fields}
use Rattle.read_authenticate.specs.Authenticate.{read_authenticate}
use Rattle.demands.proofs.Bools.{true_not_false, or-either, after_held}
use Rattle.demands.proofs.Kept.{clear_both}
use Rattle.demands.proofs.NlAuth.{above, five}
use Rattle.demands.specs.Secret.{Secret, secret_field, mic as mic_byte, AsLong, AlikeOutside}
use Rattle.demands.specs.ReadBack.{AuthenticateBack, AuthenticateReadsBack}
use Rattle.demands.specs.TakenExactly.{IsTaken}
use Rattle.verdict.specs.Verdict.{auth_verdict}
use Rattle.demands.proofs.Message.Chain.{by_row}
use Rattle.demands.proofs.OwnBytes.{authenticate_own, own_same}
use Rattle.demands.proofs.ReadBack.Sent.{Before, heads_then, HeadsBack, PartsStand, past as go_past, heads_back, parts_stand, in_payload}
use Rattle.demands.proofs.ReadBack.{written_is}
use Rattle.demands.proofs.TakenExactly.{authenticate_judged}
use Rattle.demands.specs.Message.{authenticate, len_of, offset_of, Nonempty, Set, MicThere, Fails}
use Rattle.write_field.specs.Writing.{version_bytes}
use Rattle.write_field.proofs.Laws.{length-head, length-version}
use Rattle.write_authenticate.specs.Writing.{fields_to, heads_bytes, after_heads, fixed_bytes, payload_bytes, authenticate_bytes, even_to_write, check_names_to_write, key_holds, size_to_write, check_to_write, write_answer, write_out}

pub three : (P : ℕ → Type 0) → P 3 → P 4 → P 5 → (k : ℕ) → 3 ≤ k → k ≤ 5 → P k
three P a b c k l r = go (eqb k 3) (eqb k 4) refl refl where
  is_5 : 5 ≤ k → 5 ≡ k
  is_5 h = omega arith

  go : (x y : Bool) → eqb k 3 ≡ x → eqb k 4 ≡ y → P k
  go true y p q = subst P (sym (eqb-true k 3 p)) a
  go false true p q = subst P (sym (eqb-true k 4 q)) b
  go false false p q = subst P (is_5 (above k 4 (above k 3 l p) q)) c

six_cases : (P : ℕ → Type 0) → P 1 → P 2 → P 3 → P 4 → P 5 → P 6 → (k : ℕ) → 1 ≤ k → k ≤ 6 → P k
six_cases P a b c d e g k l r = go (eqb k 6) refl where
  go : (x : Bool) → eqb k 6 ≡ x → P k
  go true p = subst P (sym (eqb-true k 6 p)) g
  go false p = five P a b c d e k l (below (eqb-false k 6 p)) where
    below : (k ≡ 6 → ⊥) → k ≤ 5
    below h = omega (arith, h)

module _ (w : NegotiateFlags) (v mic lm nt dom usr wks key : List ℕ) (v8 : length v ≡ 8) (m16 : length mic ≡ 16) where
  f : Fields
  f = fields_to (length lm) (length nt) (length dom) (length usr) (length wks) (length key)

  tail : List ℕ
  tail = le32 w.bits ++ (version_bytes w v ++ (mic ++ payload_bytes lm nt dom usr wks key))

  M : List ℕ
  M = authenticate_bytes w v mic lm nt dom usr wks key

  -- what stands before the MIC
  q8 : List ℕ
  q8 = signature ++ (le32 3 ++ (heads_bytes f ++ (le32 w.bits ++ version_bytes w v)))

  at8 : M ≡ q8 ++ (mic ++ payload_bytes lm nt dom usr wks key)
  unfolding M q8 authenticate_bytes fixed_bytes after_heads f
  at8 = simp append_assoc

  l8 : length q8 ≡ 72
  unfolding q8 heads_bytes
  l8 = simp (length-append, length-le32, length-head, length-version w v v8)

  long : length M ≡ 88 + length (payload_bytes lm nt dom usr wks key)
  long = ap length at8 ∙ simp (length-append, l8, m16) (omega arith)

  -- the heads, the flags and the MIC read back
  abbrev six_heads : List Field
  six_heads = f.lm ∷ f.nt ∷ f.domain ∷ f.user ∷ f.workstation ∷ f.key ∷ []

  at0 : M ≡ signature ++ (le32 3 ++ heads_then six_heads tail)
  unfolding M authenticate_bytes fixed_bytes heads_bytes after_heads f tail
  at0 = simp append_assoc

  heads : HeadsBack M six_heads tail 12
  heads = heads_back M six_heads tail 12 (record { front = signature ++ le32 3; whole = at0 ∙ sym (append_assoc signature (le32 3) _); long = simp length-le32 })

  after_heads_lem : Before M tail 60
  after_heads_lem = heads.1.1.1.1.1.1

  flags_back : u32_at M 60 ≡ w.bits
  unfolding tail
  flags_back = ap (λ (x : List ℕ). u32_at x 60) after_heads_lem.whole ∙ back32 after_heads_lem.front _ w.bits 60 after_heads_lem.long

  at_mic : Before M (mic ++ payload_bytes lm nt dom usr wks key) 72
  unfolding tail
  at_mic = go_past M (version_bytes w v) _ 64 8 (length-version w v v8) (go_past M (le32 w.bits) _ 60 4 (length-le32 w.bits) after_heads_lem)

  mic_back : take 16 (drop 72 M) ≡ mic
  mic_back = in_payload M at_mic.front mic _ 72 16 at_mic.whole at_mic.long m16

  type_back : u32_at M 8 ≡ 3
  type_back = ap (λ (x : List ℕ). u32_at x 8) at0 ∙ back32 signature _ 3 8 refl

  signature_back : take 8 M ≡ signature
  signature_back = ap (λ (x : List ℕ). take 8 x) at0 ∙ take_at signature (le32 3 ++ heads_then six_heads tail) 8 refl

  -- the fields stand in the payload, and end the message
  fields : PartsStand M (dom ∷ usr ∷ wks ∷ lm ∷ nt ∷ key ∷ []) 88
  unfolding payload_bytes
  fields = parts_stand M (dom ∷ usr ∷ wks ∷ lm ∷ nt ∷ key ∷ []) 88 (simp append-nil (go_past M mic _ 72 16 m16 at_mic))

  whole : length M ≡ 88 + length dom + length usr + length wks + length lm + length nt + length key
  whole = fields.1.1.1.1.1.1

  -- lengths and offsets by their heads
  len_of_lem : (g h : Field) → g ≡ h → g.len ≡ h.len
  len_of_lem g h e = ap (λ (x : Field). x.len) e

  off_of : (g h : Field) → g ≡ h → g.offset ≡ h.offset
  off_of g h e = ap (λ (x : Field). x.offset) e

  len1 : len_of authenticate M 1 ≡ length lm
  unfolding f fields_to
  len1 = len_of_lem _ _ heads.0

  off1 : offset_of authenticate M 1 ≡ 88 + length dom + length usr + length wks
  unfolding f fields_to
  off1 = off_of _ _ heads.0

  len2 : len_of authenticate M 2 ≡ length nt
  unfolding f fields_to
  len2 = len_of_lem _ _ heads.1.0

  off2 : offset_of authenticate M 2 ≡ 88 + length dom + length usr + length wks + length lm
  unfolding f fields_to
  off2 = off_of _ _ heads.1.0

  len3 : len_of authenticate M 3 ≡ length dom
  unfolding f fields_to
  len3 = len_of_lem _ _ heads.1.1.0

  off3 : offset_of authenticate M 3 ≡ 88
  unfolding f fields_to
  off3 = off_of _ _ heads.1.1.0

  len4 : len_of authenticate M 4 ≡ length usr
  unfolding f fields_to
  len4 = len_of_lem _ _ heads.1.1.1.0

  off4 : offset_of authenticate M 4 ≡ 88 + length dom
  unfolding f fields_to
  off4 = off_of _ _ heads.1.1.1.0

  len5 : len_of authenticate M 5 ≡ length wks
  unfolding f fields_to
  len5 = len_of_lem _ _ heads.1.1.1.1.0

  off5 : offset_of authenticate M 5 ≡ 88 + length dom + length usr
  unfolding f fields_to
  off5 = off_of _ _ heads.1.1.1.1.0

  len6 : len_of authenticate M 6 ≡ length key
  unfolding f fields_to
  len6 = len_of_lem _ _ heads.1.1.1.1.1.0

  off6 : offset_of authenticate M 6 ≡ 88 + length dom + length usr + length wks + length lm + length nt
  unfolding f fields_to
  off6 = off_of _ _ heads.1.1.1.1.1.0

  -- the names lie before the secrets
  name_end : (i : ℕ) → authenticate.Name i → offset_of authenticate M i + len_of authenticate M i ≤ 88 + length dom + length usr + length wks
  name_end i n = three (λ k. offset_of authenticate M k + len_of authenticate M k ≤ 88 + length dom + length usr + length wks)
      (omega (arith, off3, len3)) (omega (arith, off4, len4)) (omega (arith, off5, len5)) i n.0 n.1

  secret_start : (j : ℕ) → authenticate.Secret j → 88 + length dom + length usr + length wks ≤ offset_of authenticate M j
  secret_start j q =
      ⊎_elim (λ e. subst (λ (k : ℕ). 88 + length dom + length usr + length wks ≤ offset_of authenticate M k) (sym e) (omega (arith, off1)))
      (⊎_elim (λ e. subst (λ (k : ℕ). 88 + length dom + length usr + length wks ≤ offset_of authenticate M k) (sym e) (omega (arith, off2)))
      (λ e. subst (λ (k : ℕ). 88 + length dom + length usr + length wks ≤ offset_of authenticate M k) (sym e) (omega (arith, off6))))
      q

  -- every field lies within the message, from 88 on
  field_end : (i : ℕ) → 1 ≤ i → i ≤ 6 → offset_of authenticate M i + len_of authenticate M i ≤ length M
  field_end =
      six_cases (λ k. offset_of authenticate M k + len_of authenticate M k ≤ length M)
      (omega (arith, off1, len1, whole)) (omega (arith, off2, len2, whole)) (omega (arith, off3, len3, whole))
      (omega (arith, off4, len4, whole)) (omega (arith, off5, len5, whole)) (omega (arith, off6, len6, whole))

  field_start : (i : ℕ) → 1 ≤ i → i ≤ 6 → 88 ≤ offset_of authenticate M i
  field_start =
      six_cases (λ k. 88 ≤ offset_of authenticate M k)
      (omega (arith, off1)) (omega (arith, off2)) (omega (arith, off3)) (omega (arith, off4)) (omega (arith, off5)) (omega (arith, off6))

  -- the written message passes every check
  module _ (charset : charset_holds w ≡ Held) (names : check_names_to_write (unicode w) dom usr wks ≡ Ok tt) (size : length M ≤ 65535) where
    flag : (mask : ℕ) → eqb (w.bits / mask % 2) 1 ≡ true → Set authenticate M mask
    flag mask e = ap (λ (n : ℕ). n / mask % 2) flags_back ∙ eqb-true _ 1 e

    unicode_set : Set authenticate M 0x1 → unicode w ≡ true
    unicode_set e = eq-eqb _ 1 (ap (λ (n : ℕ). n / 0x1 % 2) (sym flags_back) ∙ e)

    no_5 : (i : ℕ) → Fails authenticate M 5 i → ⊥
    no_5 i h = ⊎_elim (λ e. h.1 (flag 0x1 e)) (λ e. h.2 (flag 0x2 e)) (or-either (unicode w) (oem w) (held_true _ charset))

    even : (x : List ℕ) → even_to_write (unicode w) x ≡ Held → unicode w ≡ true → length x % 2 ≡ 0
    even x h u = go (unicode w) u (held_true _ h) where
      go : (b : Bool) → b ≡ true → (not b || eqb (length x % 2) 0) ≡ true → length x % 2 ≡ 0
      go true p q = eqb-true _ 0 q
      go false p q = absurd (true_not_false (sym p))

    no_8 : (i : ℕ) → Fails authenticate M 8 i → ⊥
    unfolding check_names_to_write
    no_8 i h =
        let u = unicode_set h.2 in
        let n3 = after_held (even_to_write (unicode w) dom) (OddNameToWrite 3) _ names in
        let n4 = after_held (even_to_write (unicode w) usr) (OddNameToWrite 4) _ n3.1 in
        let n5 = after_held (even_to_write (unicode w) wks) (OddNameToWrite 5) _ n4.1 in
        three (λ k. (offset_of authenticate M k % 2 ≡ 1) ⊎ (len_of authenticate M k % 2 ≡ 1) → ⊥)
        (odd 88 (length dom) _ _ off3 len3 refl (even dom n3.0 u))
        (odd (88 + length dom) (length usr) _ _ off4 len4 (step 88 (length dom) refl (even dom n3.0 u)) (even usr n4.0 u))
        (odd (88 + length dom + length usr) (length wks) _ _ off5 len5 (step (88 + length dom) (length usr) (step 88 (length dom) refl (even dom n3.0 u)) (even usr n4.0 u)) (even wks n5.0 u))
        i h.1.0 h.1.1 h.3
      where
        step : (a b : ℕ) → a % 2 ≡ 0 → b % 2 ≡ 0 → (a + b) % 2 ≡ 0
        step a b p q = omega arith

        odd : (a b x y : ℕ) → x ≡ a → y ≡ b → a % 2 ≡ 0 → b % 2 ≡ 0 → (x % 2 ≡ 1) ⊎ (y % 2 ≡ 1) → ⊥
        odd a b x y p q ea eb s = ⊎_elim (λ o. omega arith) (λ o. omega arith) s

    no_9 : (i : ℕ) → Fails authenticate M 9 i → ⊥
    no_9 i h =
        let s = h.2 in
        omega (arith, name_end i h.1, secret_start s.0 s.3, s.4.1, s.5.0)

    none_fails : (n i : ℕ) → Fails authenticate M n i → ⊥
    none_fails n i =
        by_row authenticate M n i (λ h. omega (arith, h.1)) (λ h. omega (arith, h.1, whole)) (λ h. h.1 signature_back) (λ h. h.1 type_back) (no_5 i)
        (λ h. omega (arith, h.1, field_end i h.0.first h.0.last))
        (λ h. omega (arith, h.1, field_start i h.0.first h.0.last))
        (no_8 i) (no_9 i)

    -- and so it is taken, with the fields as they were given
    there : MicThere authenticate M
    there = record { kind = tt; fields = λ i ne. field_start i ne.first ne.last; message = λ h. omega (arith, whole) }

    at_offset : (i n o : ℕ) (x : List ℕ) → offset_of authenticate M i ≡ o → take n (drop o M) ≡ x → take n (drop (offset_of authenticate M i) M) ≡ x
    at_offset i n o x e h = ap (λ (k : ℕ). take n (drop k M)) e ∙ h

    counted : (i : ℕ) → 1 ≤ i → i ≤ 5 → 0 < len_of authenticate M i → Nonempty authenticate M i
    counted i l r s = record { first = l; last = omega arith; counts = λ e. absurd (omega arith); some = s }

    key_counts : key_holds w key ≡ Held → 0 < len_of authenticate M 6 → Nonempty authenticate M 6
    key_counts h s = record { first = omega arith; last = omega arith; counts = λ e. flag 0x40000000 (go (eqb (length key) 0) refl (held_true _ h)); some = s } where
      go : (b : Bool) → eqb (length key) 0 ≡ b → (b || (eqb (length key) 16 && key_exch w)) ≡ true → key_exch w ≡ true
      go true p q = absurd (omega (arith, eqb-true (length key) 0 p, len6))
      go false p q = and_right (eqb (length key) 16) (key_exch w) q

    back : key_holds w key ≡ Held → AuthenticateBack M w mic lm nt dom usr wks key
    back held = go (read_authenticate M).reading refl ((authenticate_judged M).taken.1 none_fails) where
      go : (r : Result Authenticate Refusal) → (read_authenticate M).reading ≡ r → IsTaken (auth_verdict r) → AuthenticateBack M w mic lm nt dom usr wks key
      go (Ok a) e t =
          let o = authenticate_own M a e in
          record {
            message = a;
            read = e;
            flags_same = o.flags ∙ flags_back;
            mic_there = o.mic_present_is.1 there;
            mic_same = o.mic_bytes_is there ∙ mic_back;
            lm_same = own_same authenticate M 1 a.fields.lm lm o.lm (counted 1 (omega arith) (omega arith)) len1 (at_offset 1 (length lm) _ lm off1 fields.1.1.1.0);
            nt_same = own_same authenticate M 2 a.fields.nt nt o.nt (counted 2 (omega arith) (omega arith)) len2 (at_offset 2 (length nt) _ nt off2 fields.1.1.1.1.0);
            domain_same = own_same authenticate M 3 a.fields.domain dom o.domain (counted 3 (omega arith) (omega arith)) len3 (at_offset 3 (length dom) 88 dom off3 fields.0);
            user_same = own_same authenticate M 4 a.fields.user usr o.user (counted 4 (omega arith) (omega arith)) len4 (at_offset 4 (length usr) _ usr off4 fields.1.0);
            workstation_same = own_same authenticate M 5 a.fields.workstation wks o.workstation (counted 5 (omega arith) (omega arith)) len5 (at_offset 5 (length wks) _ wks off5 fields.1.1.0);
            key_same = own_same authenticate M 6 a.fields.key key o.key (key_counts held) len6 (at_offset 6 (length key) _ key off6 fields.1.1.1.1.1.0);
          }
      go (Err d) e t = absurd t

-- two messages with secrets of the same lengths: alike outside the secrets and the MIC
module _ (w : NegotiateFlags) (v dom usr wks mic lm nt key mic' lm' nt' key' : List ℕ) (v8 : length v ≡ 8) (Long-as : AsLong mic lm nt key mic' lm' nt' key') where
  S : List ℕ
  S = M w v mic lm nt dom usr wks key v8 Long-as.mic_16

  T : List ℕ
  T = M w v mic' lm' nt' dom usr wks key' v8 (sym Long-as.mic_same ∙ Long-as.mic_16)

  front : List ℕ
  front = q8 w v mic lm nt dom usr wks key v8 Long-as.mic_16

  named : List ℕ
  named = dom ++ (usr ++ wks)

  front_same : q8 w v mic' lm' nt' dom usr wks key' v8 (sym Long-as.mic_same ∙ Long-as.mic_16) ≡ front
  unfolding front q8 f
  front_same = simp (Long-as.lm_same, Long-as.nt_same, Long-as.key_same)

  S-is : S ≡ front ++ (mic ++ (named ++ (lm ++ (nt ++ key))))
  unfolding S front named payload_bytes
  S-is = at8 w v mic lm nt dom usr wks key v8 Long-as.mic_16 ∙ ap (λ (x : List ℕ). front ++ (mic ++ x)) (simp append_assoc)

  T-is : T ≡ front ++ (mic' ++ (named ++ (lm' ++ (nt' ++ key'))))
  unfolding T named payload_bytes
  T-is =
      at8 w v mic' lm' nt' dom usr wks key' v8 (sym Long-as.mic_same ∙ Long-as.mic_16)
      ∙ ap (λ (x : List ℕ). x ++ (mic' ++ (dom ++ (usr ++ (wks ++ (lm' ++ (nt' ++ key'))))))) front_same
      ∙ ap (λ (x : List ℕ). front ++ (mic' ++ x)) (simp append_assoc)

  get_or-T : (p : ℕ) → get_or T p 0 ≡ get_or (front ++ (mic' ++ (named ++ (lm' ++ (nt' ++ key'))))) p 0
  get_or-T p = ap (λ (x : List ℕ). get_or x p 0) T-is

  get_or-S : (p : ℕ) → get_or S p 0 ≡ get_or (front ++ (mic ++ (named ++ (lm ++ (nt ++ key))))) p 0
  get_or-S p = ap (λ (x : List ℕ). get_or x p 0) S-is

  front_72 : length front ≡ 72
  unfolding front
  front_72 = l8 w v mic lm nt dom usr wks key v8 Long-as.mic_16

  -- past two lists of one length
  past : (x y r q : List ℕ) (p : ℕ) → length x ≡ length y → length x ≤ p → get_or r (p - length x) 0 ≡ get_or q (p - length x) 0 → get_or (x ++ r) p 0 ≡ get_or (y ++ q) p 0
  past x y r q p e l h =
      let is : length x + (p - length x) ≡ p = omega arith in
      let js : length y + (p - length x) ≡ p = omega arith in
      subst (λ (k : ℕ). get_or (x ++ r) k 0 ≡ get_or (y ++ q) p 0) is
      (get_or-append-add x r (p - length x) 0 ∙ h ∙ sym (subst (λ (k : ℕ). get_or (y ++ q) k 0 ≡ get_or q (p - length x) 0) js (get_or-append-add y q (p - length x) 0)))

  before : (x r q : List ℕ) (p : ℕ) → p < length x → get_or (x ++ r) p 0 ≡ get_or (x ++ q) p 0
  before x r q p l = get_or-append x r 0 p l ∙ sym (get_or-append x q 0 p l)

  in_front : (p : ℕ) → p < 72 → get_or S p 0 ≡ get_or T p 0
  in_front p l = get_or-S p ∙ before front _ _ p (omega (arith, front_72)) ∙ sym (get_or-T p)

  in_names : (p : ℕ) → 88 ≤ p → p < 88 + length named → get_or S p 0 ≡ get_or T p 0
  in_names p l r =
      get_or-S p
      ∙ past front front _ _ p refl (omega (arith, front_72))
      (past mic mic' _ _ (p - length front) Long-as.mic_same (omega (arith, front_72, Long-as.mic_16))
      (before named _ _ (p - length front - length mic) (omega (arith, front_72, Long-as.mic_16))))
      ∙ sym (get_or-T p)

  named_long : length named ≡ length dom + (length usr + length wks)
  unfolding named
  named_long = simp length-append

  lengths_same : length S ≡ length T
  unfolding S T
  lengths_same =
      whole w v mic lm nt dom usr wks key v8 Long-as.mic_16
      ∙ simp (Long-as.lm_same, Long-as.nt_same, Long-as.key_same) (sym (whole w v mic' lm' nt' dom usr wks key' v8 (sym Long-as.mic_same ∙ Long-as.mic_16)))

  alike : key_holds w key ≡ Held → AlikeOutside S T
  unfolding S
  alike held = record { length_same = lengths_same; outside = λ p. go p (ltb p 72) (ltb p 88) (ltb p a) (ltb p b) (ltb p c) (ltb p (length S)) refl refl refl refl refl refl }
    where
      a : ℕ
      a = 88 + length named

      b : ℕ
      b = a + length lm

      c : ℕ
      c = b + length nt

      fixed_there : 64 ≤ length S
      fixed_there = omega (arith, whole w v mic lm nt dom usr wks key v8 Long-as.mic_16)

      exchanged : 0 < length key → key_exch w ≡ true
      exchanged some = by (eqb (length key) 0) refl (held_true _ held) where
        by : (z : Bool) → eqb (length key) 0 ≡ z → (z || (eqb (length key) 16 && key_exch w)) ≡ true → key_exch w ≡ true
        by true q r = absurd (omega (arith, eqb-true (length key) 0 q))
        by false q r = and_right (eqb (length key) 16) (key_exch w) r

      go : (p : ℕ) (x1 x2 x3 x4 x5 x6 : Bool) → ltb p 72 ≡ x1 → ltb p 88 ≡ x2 → ltb p a ≡ x3 → ltb p b ≡ x4 → ltb p c ≡ x5 → ltb p (length S) ≡ x6 → (get_or S p 0 ≡ get_or T p 0) ⊎ Secret S p
      go p true x2 x3 x4 x5 x6 p1 p2 p3 p4 p5 p6 = inl (in_front p (ltb-true p 72 p1))
      go p false true x3 x4 x5 x6 p1 p2 p3 p4 p5 p6 =
          inr (mic_byte fixed_there (record { kind = tt; fields = λ i ne. field_start w v mic lm nt dom usr wks key v8 Long-as.mic_16 i ne.first ne.last; message = λ h. omega (arith, whole w v mic lm nt dom usr wks key v8 Long-as.mic_16) }) (ltb-false p 72 p1) (ltb-true p 88 p2))
      go p false false true x4 x5 x6 p1 p2 p3 p4 p5 p6 = inl (in_names p (ltb-false p 88 p2) (ltb-true p a p3))
      go p false false false true x5 x6 p1 p2 p3 p4 p5 p6 =
          inr (secret_field 1 fixed_there (inl refl)
          (record { first = omega arith; last = omega arith; counts = λ e. absurd (omega arith); some = omega (arith, ltb-false p a p3, ltb-true p b p4, len1 w v mic lm nt dom usr wks key v8 Long-as.mic_16) })
          (omega (arith, ltb-false p a p3, off1 w v mic lm nt dom usr wks key v8 Long-as.mic_16, named_long), omega (arith, ltb-true p b p4, off1 w v mic lm nt dom usr wks key v8 Long-as.mic_16, len1 w v mic lm nt dom usr wks key v8 Long-as.mic_16, named_long)))
      go p false false false false true x6 p1 p2 p3 p4 p5 p6 =
          inr (secret_field 2 fixed_there (inr (inl refl))
          (record { first = omega arith; last = omega arith; counts = λ e. absurd (omega arith); some = omega (arith, ltb-false p b p4, ltb-true p c p5, len2 w v mic lm nt dom usr wks key v8 Long-as.mic_16) })
          (omega (arith, ltb-false p b p4, off2 w v mic lm nt dom usr wks key v8 Long-as.mic_16, named_long), omega (arith, ltb-true p c p5, off2 w v mic lm nt dom usr wks key v8 Long-as.mic_16, len2 w v mic lm nt dom usr wks key v8 Long-as.mic_16, named_long)))
      go p false false false false false true p1 p2 p3 p4 p5 p6 =
          let some : 0 < length key = omega (arith, ltb-false p c p5, ltb-true p (length S) p6, whole w v mic lm nt dom usr wks key v8 Long-as.mic_16, named_long) in
          inr (secret_field 6 fixed_there (inr (inr refl))
          (record { first = omega arith; last = omega arith; counts = λ e. ap (λ (n : ℕ). n / 0x40000000 % 2) (flags_back w v mic lm nt dom usr wks key v8 Long-as.mic_16) ∙ eqb-true _ 1 (exchanged some); some = omega (arith, some, len6 w v mic lm nt dom usr wks key v8 Long-as.mic_16) })
          (omega (arith, ltb-false p c p5, off6 w v mic lm nt dom usr wks key v8 Long-as.mic_16, named_long), omega (arith, ltb-true p (length S) p6, off6 w v mic lm nt dom usr wks key v8 Long-as.mic_16, len6 w v mic lm nt dom usr wks key v8 Long-as.mic_16, whole w v mic lm nt dom usr wks key v8 Long-as.mic_16)))
      go p false false false false false false p1 p2 p3 p4 p5 p6 = inl (get_or-eq_default S 0 (ltb-false p (length S) p6) ∙ sym (get_or-eq_default T 0 (omega (arith, ltb-false p (length S) p6, lengths_same))))

pub messages_alike : (w : NegotiateFlags) (v dom usr wks mic lm nt key mic' lm' nt' key' : List ℕ) → length v ≡ 8 → AsLong mic lm nt key mic' lm' nt' key' →
    key_holds w key ≡ Held → AlikeOutside (authenticate_bytes w v mic lm nt dom usr wks key) (authenticate_bytes w v mic' lm' nt' dom usr wks key')
unfolding S T M
messages_alike w v dom usr wks mic lm nt key mic' lm' nt' key' v8 Long-as held = alike w v dom usr wks mic lm nt key mic' lm' nt' key' v8 Long-as held

pub authenticate_reads_back : AuthenticateReadsBack
unfolding write_answer write_out check_to_write M
authenticate_reads_back out w v mic lm nt dom usr wks key n v8 m16 h =
    let t = written_is (check_to_write (length out) w lm nt dom usr wks key) (authenticate_bytes w v mic lm nt dom usr wks key) out n h in
    let c = after_held (charset_holds w) NoCharset _ t.0 in
    let m = clear_both (check_names_to_write (unicode w) dom usr wks) _ c.1 in
    let k = after_held (key_holds w key) WrongKey _ m.1 in
    let z = after_held (size_holds (size_to_write lm nt dom usr wks key)) TooLongToWrite _ k.1 in
    let size = leb-true (size_to_write lm nt dom usr wks key) 65535 (held_true _ z.0) in
    rw t.1
    (back w v mic lm nt dom usr wks key v8 m16 c.0 m.0 (omega (arith, size, long w v mic lm nt dom usr wks key v8 m16)) k.0)

-- a written message's key passed check 32
pub key_held : (room : ℕ) (w : NegotiateFlags) (lm nt dom usr wks key : List ℕ) → check_to_write room w lm nt dom usr wks key ≡ Ok tt → key_holds w key ≡ Held
unfolding check_to_write
key_held room w lm nt dom usr wks key h =
    let c = after_held (charset_holds w) NoCharset _ h in
    let m = clear_both (check_names_to_write (unicode w) dom usr wks) _ c.1 in
    (after_held (key_holds w key) WrongKey _ m.1).0
