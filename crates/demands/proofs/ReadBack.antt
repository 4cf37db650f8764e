-- What is written reads back.
pub mod WriteBack
pub mod NegotiateBack
pub mod Sent
use Rattle.std.specs.Prelude.{Result, Ok, Err, Some, ⊤}
use Rattle.read_dns_name.specs.declared.Fault.{Fault}
use Rattle.read_dns_name.specs.declared.Name.{Name}
use Rattle.wire.specs.declared.refusal.Refusal.{Refusal}
use Prim.Native.Nat.{ℕ, zero, suc, ◌+◌, ◌-◌, ◌/◌, ◌%◌, ◌≤◌}
use mathlib.Core.Path.{◌≡◌, refl, sym, ap, ◌∙◌, subst}
use mathlib.Core.Bool.{Bool, true, false, not, cond}
use mathlib.Core.List.{List, [], ◌∷◌, ◌++◌, append_assoc}
use native.Mathlib.Omega.{arith}
use lib.Dec.{leb, ltb, eqb}
use lib.ListN.{length, take, drop, length-append, length-drop}
use lib.Seq.{take-append_seam, drop-append_seam, drop-append-le}
use borrow.Author.Tests.{ltb-false, lt-ltb, le-ltb, le-leb, eq-eqb}
use Rattle.wire.specs.declared.check.Checked.TheVariants.{Held}
use Rattle.wire.proofs.Laws.{held_true}
use Rattle.wire.specs.declared.refusal.Refusal.TheVariants.{NoRoom, ZeroInString, WrongLabel, NameTooLong}
use Rattle.wire.specs.Check.{checked, after}
use Rattle.wire.specs.Number.{u32_at}
use Rattle.read_nl_auth.proofs.Names.{own_bytes_lem}
use Rattle.place.specs.Place.{le16, le32}
use Rattle.place.specs.Written.{at_front, answered, out_after}
use Rattle.place.proofs.Numbers.{length-le32, back32}
use Rattle.nl_auth_flags.specs.declared.NlAuthFlags.{NlAuthFlags}
use Rattle.read_nl_auth.specs.declared.NlAuth.{NlAuth}
use Rattle.read_nl_auth.specs.declared.string.NlString.{NlString}
use Rattle.line_nl_string.specs.StringText.{utf8_text}
use Rattle.read_dns_name.specs.DnsName.{read_name, labels_at}
use Rattle.line_dns_name.specs.DnsNameText.{dns_name_text as dns_text}
use Rattle.write_dns_name.specs.Writing.{split_labels, name_bytes, text_holds, coded_holds}
use Rattle.write_dns_name.proofs.Back.{back as name_back}
use Rattle.nl_auth_flags.specs.Flags.{nb_domain, nb_computer, dns_domain, dns_host, utf8_computer, known, no_flags, strings_hold}
use Rattle.read_nl_auth.specs.NlAuth.{no_string, string_bytes as own_bytes, string_length, holds_zero, string_at, string_under, refusal_in, name_string, on_name, name_at, name_under as read_under, flags_at, read_utf8, empty_strings, read_request, read_response, read_nl_auth}
use Rattle.write_nl_auth.specs.Writing.{type_and_flags, zero_terminated, bytes_under, oem_bytes, name_bytes_under, utf8_bytes, request_bytes, response_bytes, no_zero, check_zeros, check_labels, check_coded, check_strings, under, check_under, check_request, request_answer, request_out, response_answer, response_out}
use Rattle.demands.specs.ReadBack.{NameBack, NlRequestReadsBack, NlResponseReadsBack}
use Rattle.demands.proofs.DnsText.{text_labels, text_shown}
use Rattle.demands.proofs.Kept.{request_holds, clear_both}
use Rattle.demands.proofs.Bools.{true_not_false, after_held, bit1, bit2, bit4, bit8, bit16}

-- ---- one string

-- a string without a zero byte, its zero byte after it
up_to_zero : (x rest : List ℕ) → holds_zero x ≡ false → string_length ((x ++ (0 ∷ [])) ++ rest) ≡ length x
up_to_zero [] rest h = refl
up_to_zero (y ∷ ys) rest h = go (eqb y 0) refl h (up_to_zero ys rest) where
  go : (t : Bool) → eqb y 0 ≡ t → ltb (cond t 0 (suc (string_length ys))) (suc (length ys)) ≡ false →
      (holds_zero ys ≡ false → string_length ((ys ++ (0 ∷ [])) ++ rest) ≡ length ys) →
      cond t 0 (suc (string_length ((ys ++ (0 ∷ [])) ++ rest))) ≡ suc (length ys)
  go true p q ih = absurd (omega (arith, ltb-false 0 (suc (length ys)) q))
  go false p q ih =
      ap suc (ih (le-ltb (string_length ys) (length ys) (omega (arith, ltb-false (suc (string_length ys)) (suc (length ys)) q))))

-- string A or B that is written after `pre`
abbrev string_for : Bool → ℕ → List ℕ → NlString
string_for b at x = cond b (record { offset = at; len = length x; jumps = 0 }) no_string

module _ (s pre x rest : List ℕ) where
  found : s ≡ pre ++ (zero_terminated x ++ rest) → holds_zero x ≡ false →
      string_at s (length pre) ≡ (Some ((record { offset = length pre; len = length x; jumps = 0 }), (length (pre ++ zero_terminated x))))
  unfolding string_at zero_terminated
  found e h =
      let buffer : drop (length pre) s ≡ (x ++ (0 ∷ [])) ++ rest = ap (λ (l : List ℕ). drop (length pre) l) e ∙ drop-append_seam pre ((x ++ (0 ∷ [])) ++ rest) in
      let zero : string_length ((x ++ (0 ∷ [])) ++ rest) ≡ length x = up_to_zero x rest h in
      let next : length pre + length x + 1 ≡ length (pre ++ (x ++ (0 ∷ []))) = simp length-append (omega arith) in
      let inside : ltb (length x) (length ((x ++ (0 ∷ [])) ++ rest)) ≡ true = lt-ltb (length x) (length ((x ++ (0 ∷ [])) ++ rest)) (simp length-append (omega arith)) in
      simp (buffer, zero, inside, next)

  bytes : s ≡ pre ++ (zero_terminated x ++ rest) → own_bytes s (record { offset = length pre; len = length x; jumps = 0 }) ≡ x
  unfolding zero_terminated
  bytes e =
      own_bytes_lem s (record { offset = length pre; len = length x; jumps = 0 }) (simp (e, length-append) (omega arith))
      ∙ ap (λ (l : List ℕ). take (length x) l) (ap (λ (l : List ℕ). drop (length pre) l) e ∙ drop-append_seam pre ((x ++ (0 ∷ [])) ++ rest) ∙ append_assoc x (0 ∷ []) rest)
      ∙ take-append_seam x ((0 ∷ []) ++ rest)

append-none : (l : List ℕ) → l ++ [] ≡ l
append-none [] = refl
append-none (x ∷ xs) = ap (λ (l : List ℕ). x ∷ l) (append-none xs)

scan : (s pre x rest : List ℕ) (b : Bool) → s ≡ pre ++ (bytes_under b x ++ rest) → (b ≡ true → holds_zero x ≡ false) →
    string_under b s (length pre) ≡ (Some ((string_for b (length pre) x), (length (pre ++ bytes_under b x))))
unfolding string_under bytes_under
scan s pre x rest true e h = found s pre x rest e (h refl)
scan s pre x rest false e h = simp append-none

scan_bytes : (s pre x rest : List ℕ) (b : Bool) → s ≡ pre ++ (bytes_under b x ++ rest) → b ≡ true → own_bytes s (string_for b (length pre) x) ≡ x
unfolding bytes_under
scan_bytes s pre x rest true e h = bytes s pre x rest e
scan_bytes s pre x rest false e h = absurd (true_not_false (sym h))

-- ---- a name

-- string C, D or E
abbrev name_for : Bool → ℕ → List ℕ → NlString
name_for b at x = cond b (record { offset = at; len = length (name_bytes x); jumps = 0 }) no_string

module _ (s pre x rest : List ℕ) (e : s ≡ pre ++ (name_bytes x ++ rest)) (l : 8 ≤ length pre) (h : text_holds x ≡ Held) (g : coded_holds x ≡ Held) where
  buffer : drop 8 s ≡ drop 8 pre ++ (name_bytes x ++ rest)
  buffer = ap (λ (k : List ℕ). drop 8 k) e ∙ drop-append-le 8 pre (name_bytes x ++ rest) l

  place : length (drop 8 pre) ≡ length pre - 8
  place = length-drop 8 pre

  name_read : read_name (drop 8 s) (length pre - 8) ≡ Ok (record { jumps = 0; next = length pre - 8 + length (name_bytes x) })
  name_read =
      subst (λ (n : ℕ). read_name (drop 8 s) n ≡ Ok (record { jumps = 0; next = n + length (name_bytes x) })) place
      (ap (λ (k : List ℕ). read_name k (length (drop 8 pre))) buffer ∙ (name_back x (drop 8 pre) rest h g).0)

  name_labels : labels_at (drop 8 s) (length pre - 8) ≡ split_labels x
  name_labels =
      subst (λ (n : ℕ). labels_at (drop 8 s) n ≡ split_labels x) place
      (ap (λ (k : List ℕ). labels_at k (length (drop 8 pre))) buffer ∙ (name_back x (drop 8 pre) rest h g).1)

  name_found : (i : ℕ) → name_at s (length pre) i ≡ (Ok ((record { offset = length pre; len = length (name_bytes x); jumps = 0 }), (length (pre ++ name_bytes x))))
  unfolding name_at
  name_found i =
      let len : 8 + (length pre - 8 + length (name_bytes x)) - length pre ≡ length (name_bytes x) = omega arith in
      let next : 8 + (length pre - 8 + length (name_bytes x)) ≡ length (pre ++ name_bytes x) = simp length-append (omega arith) in
      ap (λ (r : Result Name Fault). on_name r (λ m. (Ok ((name_string (length pre) m), (8 + m.next)))) (λ f. Err (refusal_in f i))) name_read
      ∙ ap (λ (n : ℕ). (Ok ((record { offset = length pre; len = n; jumps = 0 }), (8 + (length pre - 8 + length (name_bytes x)))))) len
      ∙ ap (λ (n : ℕ). (Ok ((record { offset = length pre; len = length (name_bytes x); jumps = 0 }), n))) next

name_scan : (s pre x rest : List ℕ) (b : Bool) (i : ℕ) → s ≡ pre ++ (name_bytes_under b x ++ rest) → 8 ≤ length pre →
    text_holds (under b x) ≡ Held → coded_holds (under b x) ≡ Held →
    read_under b s (length pre) i ≡ (Ok ((name_for b (length pre) x), (length (pre ++ name_bytes_under b x))))
unfolding read_under name_bytes_under under
name_scan s pre x rest true i e l h g = name_found s pre x rest e l h g i
name_scan s pre x rest false i e l h g = simp append-none

name_same : (s pre x rest : List ℕ) (b : Bool) → s ≡ pre ++ (name_bytes_under b x ++ rest) → 8 ≤ length pre →
    text_holds (under b x) ≡ Held → coded_holds (under b x) ≡ Held → b ≡ true → NameBack s (name_for b (length pre) x) x
unfolding name_bytes_under under utf8_text
name_same s pre x rest true e l h g q =
    let ls : labels_at (drop 8 s) (length pre - 8) ≡ split_labels x = name_labels s pre x rest e l h g in
    record {
      labels = rw ls (text_labels x);
      no_jumps = refl;
      shown = λ p. ap dns_text ls ∙ text_shown x p;
    }
name_same s pre x rest false e l h g q = absurd (true_not_false (sym q))

-- ---- a request

-- one group more stands before the rest
regroup : (s p y z : List ℕ) → s ≡ p ++ (y ++ z) → s ≡ (p ++ y) ++ z
regroup s p y z e = e ∙ sym (append_assoc p y z)

no_zero_lem : (b : Bool) (x : List ℕ) → no_zero (under b x) ≡ Held → b ≡ true → holds_zero x ≡ false
unfolding under
no_zero_lem true x h e = go (holds_zero x) (held_true _ h) where
  go : (t : Bool) → not t ≡ true → t ≡ false
  go true p = absurd (true_not_false (sym p))
  go false p = refl
no_zero_lem false x h e = absurd (true_not_false (sym e))

-- what stands before each string
abbrev pre1 : NlAuthFlags → List ℕ → List ℕ
pre1 w a = type_and_flags 0 w ++ bytes_under (nb_domain w) a

abbrev pre2 : NlAuthFlags → List ℕ → List ℕ → List ℕ
pre2 w a b = pre1 w a ++ bytes_under (nb_computer w) b

abbrev pre3 : NlAuthFlags → List ℕ → List ℕ → List ℕ → List ℕ
pre3 w a b c = pre2 w a b ++ name_bytes_under (dns_domain w) c

abbrev pre4 : NlAuthFlags → List ℕ → List ℕ → List ℕ → List ℕ → List ℕ
pre4 w a b c d = pre3 w a b c ++ name_bytes_under (dns_host w) d

-- checks 34, 50 and 53 held at each string
record Hold (a b c d e : List ℕ) : Type 0 where
  zero_a : no_zero a ≡ Held
  zero_b : no_zero b ≡ Held
  labels_c : text_holds c ≡ Held
  labels_d : text_holds d ≡ Held
  labels_e : text_holds e ≡ Held
  coded_c : coded_holds c ≡ Held
  coded_d : coded_holds d ≡ Held
  coded_e : coded_holds e ≡ Held

strings_hold_lem : (a b c d e : List ℕ) → check_strings a b c d e ≡ Ok tt → Hold a b c d e
unfolding check_strings check_zeros check_labels check_coded
strings_hold_lem a b c d e h =
    let z = clear_both (check_zeros a b c d e) _ h in
    let k = clear_both (check_labels c d e) (check_coded c d e) z.1 in
    let z1 = after_held (no_zero a) (ZeroInString 1) _ z.0 in
    let z2 = after_held (no_zero b) (ZeroInString 2) _ z1.1 in
    let l3 = after_held (text_holds c) (WrongLabel 3) _ k.0 in
    let l4 = after_held (text_holds d) (WrongLabel 4) _ l3.1 in
    let l5 = after_held (text_holds e) (WrongLabel 5) _ l4.1 in
    let c3 = after_held (coded_holds c) (NameTooLong 3) _ k.1 in
    let c4 = after_held (coded_holds d) (NameTooLong 4) _ c3.1 in
    let c5 = after_held (coded_holds e) (NameTooLong 5) _ c4.1 in
    record { zero_a = z1.0; zero_b = z2.0; labels_c = l3.0; labels_d = l4.0; labels_e = l5.0; coded_c = c3.0; coded_d = c4.0; coded_e = c5.0 }

abbrev StringsHold : NlAuthFlags → List ℕ → List ℕ → List ℕ → List ℕ → List ℕ → Type 0
StringsHold w a b c d e = Hold (under (nb_domain w) a) (under (nb_computer w) b) (under (dns_domain w) c) (under (dns_host w) d) (under (utf8_computer w) e)

under_hold : (w : NlAuthFlags) (a b c d e : List ℕ) → check_under w a b c d e ≡ Ok tt → StringsHold w a b c d e
unfolding check_under
under_hold w a b c d e h = strings_hold_lem _ _ _ _ _ h

-- the message that a request reads back as
abbrev back : NlAuthFlags → List ℕ → List ℕ → List ℕ → List ℕ → List ℕ → NlAuth
back w a b c d e =
    record {
      message_type = 0;
      flags = w;
      strings = record {
        nb_domain = string_for (nb_domain w) (length (type_and_flags 0 w)) a;
        nb_computer = string_for (nb_computer w) (length (pre1 w a)) b;
        dns_domain = name_for (dns_domain w) (length (pre2 w a b)) c;
        dns_host = name_for (dns_host w) (length (pre3 w a b c)) d;
        utf8_computer = name_for (utf8_computer w) (length (pre4 w a b c d)) e;
      };
    }

head_long : (t : ℕ) (w : NlAuthFlags) → length (type_and_flags t w) ≡ 8
unfolding type_and_flags
head_long t w = simp (length-append, length-le32)

module _ (w : NlAuthFlags) (a b c d e : List ℕ) where
  at0 : request_bytes w a b c d e ≡ type_and_flags 0 w ++ (bytes_under (nb_domain w) a ++ (bytes_under (nb_computer w) b ++ (name_bytes_under (dns_domain w) c ++ (name_bytes_under (dns_host w) d ++ name_bytes_under (utf8_computer w) e))))
  unfolding request_bytes oem_bytes utf8_bytes
  at0 = ap (λ (l : List ℕ). type_and_flags 0 w ++ l) (append_assoc (bytes_under (nb_domain w) a) (bytes_under (nb_computer w) b) _)

  at1 : request_bytes w a b c d e ≡ pre1 w a ++ (bytes_under (nb_computer w) b ++ (name_bytes_under (dns_domain w) c ++ (name_bytes_under (dns_host w) d ++ name_bytes_under (utf8_computer w) e)))
  at1 = regroup (request_bytes w a b c d e) (type_and_flags 0 w) (bytes_under (nb_domain w) a) _ at0

  at2 : request_bytes w a b c d e ≡ pre2 w a b ++ (name_bytes_under (dns_domain w) c ++ (name_bytes_under (dns_host w) d ++ name_bytes_under (utf8_computer w) e))
  at2 = regroup (request_bytes w a b c d e) (pre1 w a) (bytes_under (nb_computer w) b) _ at1

  at3 : request_bytes w a b c d e ≡ pre3 w a b c ++ (name_bytes_under (dns_host w) d ++ name_bytes_under (utf8_computer w) e)
  at3 = regroup (request_bytes w a b c d e) (pre2 w a b) (name_bytes_under (dns_domain w) c) _ at2

  at4 : request_bytes w a b c d e ≡ pre4 w a b c d ++ (name_bytes_under (utf8_computer w) e ++ [])
  at4 =
      regroup (request_bytes w a b c d e) (pre3 w a b c) (name_bytes_under (dns_host w) d) _ at3
      ∙ ap (λ (l : List ℕ). pre4 w a b c d ++ l) (sym (append-none (name_bytes_under (utf8_computer w) e)))

  at5 : request_bytes w a b c d e ≡ pre4 w a b c d ++ name_bytes_under (utf8_computer w) e
  at5 = regroup (request_bytes w a b c d e) (pre3 w a b c) (name_bytes_under (dns_host w) d) _ at3

  -- each stands behind the head
  pub long2 : 8 ≤ length (pre2 w a b)
  long2 = simp length-append (omega (arith, head_long 0 w))

  pub long3 : 8 ≤ length (pre3 w a b c)
  long3 = simp length-append (omega (arith, head_long 0 w))

  pub long4 : 8 ≤ length (pre4 w a b c d)
  long4 = simp length-append (omega (arith, head_long 0 w))

  -- the strings that are read are those that were written
  utf8_back : (fa fb : NlString) → StringsHold w a b c d e →
      read_utf8 w (request_bytes w a b c d e) fa fb (length (pre2 w a b)) ≡
      Ok (record { message_type = 0; flags = w; strings = record { nb_domain = fa; nb_computer = fb; dns_domain = name_for (dns_domain w) (length (pre2 w a b)) c; dns_host = name_for (dns_host w) (length (pre3 w a b c)) d; utf8_computer = name_for (utf8_computer w) (length (pre4 w a b c d)) e } })
  unfolding read_utf8
  utf8_back fa fb h =
      simp (
        name_scan (request_bytes w a b c d e) (pre2 w a b) c _ (dns_domain w) 3 at2 long2 h.labels_c h.coded_c,
        name_scan (request_bytes w a b c d e) (pre3 w a b c) d _ (dns_host w) 4 at3 long3 h.labels_d h.coded_d,
        name_scan (request_bytes w a b c d e) (pre4 w a b c d) e _ (utf8_computer w) 5 at4 long4 h.labels_e h.coded_e,
        eq-eqb (length (pre4 w a b c d ++ name_bytes_under (utf8_computer w) e)) (length (request_bytes w a b c d e)) (ap length (sym at5)),
      )

  request_back : strings_hold w ≡ Held → StringsHold w a b c d e → read_request w (request_bytes w a b c d e) ≡ Ok (back w a b c d e)
  unfolding read_request
  request_back held all =
      let s = request_bytes w a b c d e in
      let s1 : string_under (nb_domain w) s 8 ≡ (Some ((string_for (nb_domain w) (length (type_and_flags 0 w)) a), (length (pre1 w a)))) =
      subst (λ (k : ℕ). string_under (nb_domain w) s k ≡ (Some ((string_for (nb_domain w) (length (type_and_flags 0 w)) a), (length (pre1 w a))))) (head_long 0 w)
      (scan s (type_and_flags 0 w) a _ (nb_domain w) at0 (no_zero_lem (nb_domain w) a all.zero_a)) in
      simp (
        held,
        s1,
        scan s (pre1 w a) b _ (nb_computer w) at1 (no_zero_lem (nb_computer w) b all.zero_b),
        utf8_back (string_for (nb_domain w) (length (type_and_flags 0 w)) a) (string_for (nb_computer w) (length (pre1 w a)) b) all,
      )

  -- the head reads back
  type_back : u32_at (request_bytes w a b c d e) 0 ≡ 0
  unfolding type_and_flags
  type_back = ap (λ (l : List ℕ). u32_at l 0) (at0 ∙ append_assoc (le32 0) (le32 w.bits) _) ∙ back32 [] _ 0 0 refl

  flags_back : u32_at (request_bytes w a b c d e) 4 ≡ w.bits
  unfolding type_and_flags
  flags_back = ap (λ (l : List ℕ). u32_at l 4) (at0 ∙ append_assoc (le32 0) (le32 w.bits) _) ∙ back32 (le32 0) _ w.bits 4 (length-le32 0)

  long : 8 ≤ length (request_bytes w a b c d e)
  long = simp (at0, length-append) (omega (arith, head_long 0 w))

  -- with bits A to E alone
  read_back : w.bits % 32 ≡ w.bits → strings_hold w ≡ Held → StringsHold w a b c d e → length (request_bytes w a b c d e) ≤ 65535 →
      read_nl_auth (request_bytes w a b c d e) ≡ Ok (back w a b c d e)
  unfolding read_nl_auth
  read_back low held all size =
      let w_same : flags_at (request_bytes w a b c d e) ≡ w = ap (λ (n : ℕ). record { bits = n }) (ap (λ (n : ℕ). n % 32) flags_back ∙ low) in
      simp (le-leb (length (request_bytes w a b c d e)) 65535 size, le-leb 8 (length (request_bytes w a b c d e)) long, type_back, w_same) (request_back held all)

-- the bytes that were written are the whole message
pub written_is : (v : Result ⊤ Refusal) (bytes out : List ℕ) (n : ℕ) → answered v bytes ≡ Ok n → (v ≡ Ok tt) × (take n (out_after v bytes out) ≡ bytes)
written_is (Ok tt) bytes out n h = (refl, subst (λ (k : ℕ). take k (at_front bytes out) ≡ bytes) (same h) (take-append_seam bytes (drop (length bytes) out))) where
  same : ◌≡◌ {A = Result ℕ Refusal} (Ok (length bytes)) (Ok n) → length bytes ≡ n
  same p = cc
written_is (Err e) bytes out n h = absurd (let z : ◌≡◌ {A = ℕ} 0 1 = cc in omega arith)

pub nl_request_reads_back : NlRequestReadsBack
unfolding request_answer request_out
nl_request_reads_back out flags a b c d e n h =
    let w = known flags in
    let t = written_is (check_request (length out) w a b c d e) (request_bytes w a b c d e) out n h in
    let r = request_holds (length out) w a b c d e t.0 in
    let k = under_hold w a b c d e r.strings_under in
    rw t.1
    (record {
      message = back w a b c d e;
      read = read_back w a b c d e (low flags.bits) r.strings k r.size;
      message_type = refl;
      flags_same = refl;
      a_same = λ q. scan_bytes (request_bytes w a b c d e) (type_and_flags 0 w) a _ (nb_domain w) (at0 w a b c d e) (bit 0x1 (bit1 flags.bits) q);
      b_same = λ q. scan_bytes (request_bytes w a b c d e) (pre1 w a) b _ (nb_computer w) (at1 w a b c d e) (bit 0x2 (bit2 flags.bits) q);
      c_same = λ q. name_same (request_bytes w a b c d e) (pre2 w a b) c _ (dns_domain w) (at2 w a b c d e) (long2 w a b c d e) k.labels_c k.coded_c (bit 0x4 (bit4 flags.bits) q);
      d_same = λ q. name_same (request_bytes w a b c d e) (pre3 w a b c) d _ (dns_host w) (at3 w a b c d e) (long3 w a b c d e) k.labels_d k.coded_d (bit 0x8 (bit8 flags.bits) q);
      e_same = λ q. name_same (request_bytes w a b c d e) (pre4 w a b c d) e _ (utf8_computer w) (at4 w a b c d e) (long4 w a b c d e) k.labels_e k.coded_e (bit 0x10 (bit16 flags.bits) q);
    })
  where
    low : (v : ℕ) → v % 0x20 % 32 ≡ v % 0x20
    low v = omega arith

    bit : (m : ℕ) → flags.bits % 0x20 / m % 2 ≡ flags.bits / m % 2 → eqb (flags.bits / m % 2) 1 ≡ true → eqb (flags.bits % 0x20 / m % 2) 1 ≡ true
    bit m e q = ap (λ (k : ℕ). eqb k 1) e ∙ q

-- a response that is written
pub response_is : (out : List ℕ) (n : ℕ) → response_answer (length out) ≡ Ok n → take n (response_out out) ≡ response_bytes
unfolding response_answer response_out response_bytes type_and_flags le32 le16
response_is out n h = go (leb 9 (length out)) h where
  go : (t : Bool) → after (checked t) (Err NoRoom) (Ok 9) ≡ Ok n → take n (after (checked t) out (at_front response_bytes out)) ≡ response_bytes
  go true p = subst (λ (k : ℕ). take k (at_front response_bytes out) ≡ response_bytes) (same p) refl where
    same : ◌≡◌ {A = Result ℕ Refusal} (Ok 9) (Ok n) → 9 ≡ n
    same q = cc
  go false p = absurd (let z : ◌≡◌ {A = ℕ} 0 1 = cc in omega arith)

pub nl_response_reads_back : NlResponseReadsBack
unfolding response_bytes type_and_flags read_nl_auth read_response le32 le16
nl_response_reads_back out n h =
    rw (response_is out n h)
    (record { message = record { message_type = 1; flags = no_flags; strings = empty_strings }; read = refl; message_type = refl; flags = refl })
