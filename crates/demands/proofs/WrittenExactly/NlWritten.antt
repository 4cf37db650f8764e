-- An NL_AUTH request or response is written exactly when no check of its writing fails.
use Rattle.std.specs.Prelude.{Ok, Err}
use Prim.Native.Nat.{ℕ, ◌+◌, ◌/◌, ◌%◌, ◌≤◌, ◌<◌}
use mathlib.Core.Path.{◌≡◌, refl, sym, ap, ◌∙◌, subst}
use mathlib.Core.Logic.{⊎_elim}
use mathlib.Core.Bool.{Bool, true, false, ◌||◌, not, cond}
use mathlib.Core.List.{List, [], ◌∷◌}
use native.Mathlib.Omega.{arith}
use lib.Dec.{eqb, leb}
use lib.ListN.{length, length-append}
use borrow.Author.Tests.{leb-true, leb-false, eqb-true, eqb-false, eq-eqb, ltb-true, ltb-false}
use Rattle.wire.specs.declared.check.Checked.{Checked}
use Rattle.wire.specs.declared.check.Checked.TheVariants.{Held, Failed}
use Rattle.wire.specs.declared.refusal.Refusal.TheVariants.{NoRoom, ZeroInString, WrongLabel, NameTooLong}
use Rattle.wire.specs.Check.{checked, after}
use Rattle.wire.specs.Number.{has}
use Rattle.wire.proofs.Laws.{held_true}
use Rattle.place.specs.Written.{answered}
use Rattle.nl_auth_flags.specs.declared.NlAuthFlags.{NlAuthFlags}
use Rattle.nl_auth_flags.specs.Flags.{nb_domain, nb_computer, dns_domain, dns_host, utf8_computer, known, strings_hold}
use Rattle.read_nl_auth.specs.NlAuth.{string_length, holds_zero}
use Rattle.write_nl_auth.specs.Writing.{zero_terminated, bytes_under, name_bytes_under, request_bytes, response_bytes, no_zero, check_zeros, names, check_labels, check_coded, check_strings, under, check_under, check_request, request_answer, response_answer}
use Rattle.write_nl_auth.proofs.Sent.{length-request, length-response}
use Rattle.read_dns_name.specs.Rfc1035.{coded_length}
use Rattle.write_dns_name.specs.Writing.{split_labels, coded, name_bytes, labels_hold, text_holds, coded_holds}
use Rattle.write_dns_name.proofs.Holding.{coded_size_lem}
use Rattle.demands.specs.DnsName.{LabelsFail, coded_size}
use Rattle.demands.proofs.DnsText.{text_failed, text_held, coded_is}
use Rattle.demands.specs.Order.{rank_in}
use Rattle.demands.specs.NlAuth.{mask_of}
use Rattle.demands.specs.Message.{FlagSet}
use Rattle.demands.specs.WrittenExactly.{WrittenExactly, HoldsZero, size_under, name_size_under, request_size, string_of, RequestWritingFails, request_order, NlRequestIsWritten, RoomFails, NlResponseIsWritten}
use Rattle.demands.proofs.Bools.{true_not_false, failed_false, or_left, or_right, or-either, chained, bit1, bit2, bit4, bit8, bit16}
use Rattle.demands.proofs.NlAuth.{before_nonzero, at_zero, five}
use Rattle.demands.proofs.Order.Rank.{FreeBy, JudgedBy, LinksBy, only_in, first_by, skip_by, then_by, over_judged_by}
use Rattle.demands.proofs.WrittenExactly.{rows, free_at_first, next, room_judged, size_judged, only_room, only_room_judged, by_verdict}

-- check 34 at one string
zero_failed : (set : Bool) (x : List ℕ) → no_zero (under set x) ≡ Failed → (set ≡ true) × HoldsZero x
unfolding under
zero_failed true x f = go (holds_zero x) refl (failed_false _ f) where
  go : (b : Bool) → holds_zero x ≡ b → not b ≡ false → (true ≡ true) × HoldsZero x
  go true q e = let l = ltb-true (string_length x) (length x) q in (refl, (string_length x, l, at_zero x l))
  go false q e = absurd (true_not_false e)
zero_failed false x f = absurd (true_not_false (failed_false _ f))

zero_held : (set : Bool) (x : List ℕ) → no_zero (under set x) ≡ Held → set ≡ true → HoldsZero x → ⊥
unfolding under
zero_held true x h on z = go (holds_zero x) refl (held_true _ h) where
  go : (b : Bool) → holds_zero x ≡ b → not b ≡ true → ⊥
  go true q e = true_not_false (sym e)
  go false q e = before_nonzero x z.0 (omega (arith, ltb-false (string_length x) (length x) q, z.1)) z.2
zero_held false x h on z = true_not_false (sym on)

string_under : (t : Bool) (x : List ℕ) → length (bytes_under t x) ≡ cond t (length x + 1) 0
unfolding bytes_under zero_terminated
string_under true x = simp length-append
string_under false x = refl

-- check 50 at one name, and its length
labels_failed : (set : Bool) (x : List ℕ) → text_holds (under set x) ≡ Failed → (set ≡ true) × LabelsFail x
unfolding under text_holds split_labels labels_hold
labels_failed true x f = (refl, text_failed x f)
labels_failed false x f = absurd (let z : ◌≡◌ {A = ℕ} 0 1 = cc in omega arith)

labels_held : (set : Bool) (x : List ℕ) → text_holds (under set x) ≡ Held → set ≡ true → LabelsFail x → ⊥
unfolding under text_holds split_labels labels_hold
labels_held true x h on w = text_held x h w
labels_held false x h on w = true_not_false (sym on)

-- check 53
bytes_are : (x : List ℕ) → length (name_bytes x) ≡ length (coded (split_labels x))
unfolding name_bytes
bytes_are x = refl

coded_failed : (set : Bool) (x : List ℕ) → coded_holds (under set x) ≡ Failed → (set ≡ true) × (255 < coded_size x)
unfolding under coded_holds split_labels
coded_failed true x f =
    (refl, let l = leb-false (coded_length (split_labels x)) 255 (failed_false _ f) in omega (arith, l, coded_is x, coded_size_lem (split_labels x), bytes_are x))
coded_failed false x f = absurd (let z : ◌≡◌ {A = ℕ} 0 1 = cc in omega arith)

coded_held : (set : Bool) (x : List ℕ) → coded_holds (under set x) ≡ Held → set ≡ true → 255 < coded_size x → ⊥
unfolding under coded_holds split_labels
coded_held true x h on w =
    let l = leb-true (coded_length (split_labels x)) 255 (held_true _ h) in omega (arith, l, coded_is x, coded_size_lem (split_labels x), bytes_are x)
coded_held false x h on w = true_not_false (sym on)

name_under : (t : Bool) (x : List ℕ) → length (name_bytes_under t x) ≡ cond t (coded_size x) 0
unfolding name_bytes_under
name_under true x = coded_is x
name_under false x = refl

abbrev order : List ℕ
order = request_order

module _ (room : ℕ) (flags : NlAuthFlags) (a b c d e : List ℕ) where
  abbrev w : NlAuthFlags
  w = known flags

  abbrev bits : ℕ
  bits = flags.bits

  abbrev F : ℕ → ℕ → Type 0
  F = RequestWritingFails room bits a b c d e

  -- the string of a bit, which is the same of the lowest five bits
  size_under_lem : (m : ℕ) (x : List ℕ) → bits % 32 / m % 2 ≡ bits / m % 2 → length (bytes_under (has w.bits m) x) ≡ size_under bits m x
  size_under_lem m x q = string_under (has w.bits m) x ∙ ap (λ (k : ℕ). cond (eqb k 1) (length x + 1) 0) q

  name_size_under_lem : (m : ℕ) (x : List ℕ) → bits % 32 / m % 2 ≡ bits / m % 2 → length (name_bytes_under (has w.bits m) x) ≡ name_size_under bits m x
  name_size_under_lem m x q = name_under (has w.bits m) x ∙ ap (λ (k : ℕ). cond (eqb k 1) (coded_size x) 0) q

  size_is : length (request_bytes w a b c d e) ≡ request_size bits a b c d e
  size_is =
      length-request w a b c d e
      ∙ simp (size_under_lem 0x1 a (bit1 bits), size_under_lem 0x2 b (bit2 bits), name_size_under_lem 0x4 c (bit4 bits), name_size_under_lem 0x8 d (bit8 bits), name_size_under_lem 0x10 e (bit16 bits))

  -- check 14
  abbrev to_c : Bool
  to_c = (nb_domain w || nb_computer w) || dns_domain w

  strings_failed : strings_hold w ≡ Failed → (k : ℕ) → 1 ≤ k → k ≤ 5 → FlagSet bits (mask_of k) → ⊥
  strings_failed f =
      let f5 = failed_false _ f in
      let f4 = or_left (to_c || dns_host w) (utf8_computer w) f5 in
      let f3 = or_left to_c (dns_host w) f4 in
      let f2 = or_left (nb_domain w || nb_computer w) (dns_domain w) f3 in
      five (λ k. FlagSet bits (mask_of k) → ⊥)
      (λ s. eqb-false _ 1 (or_left (nb_domain w) (nb_computer w) f2) (bit1 bits ∙ s))
      (λ s. eqb-false _ 1 (or_right (nb_domain w) (nb_computer w) f2) (bit2 bits ∙ s))
      (λ s. eqb-false _ 1 (or_right (nb_domain w || nb_computer w) (dns_domain w) f3) (bit4 bits ∙ s))
      (λ s. eqb-false _ 1 (or_right to_c (dns_host w) f4) (bit8 bits ∙ s))
      (λ s. eqb-false _ 1 (or_right (to_c || dns_host w) (utf8_computer w) f5) (bit16 bits ∙ s))

  strings_held : strings_hold w ≡ Held → ((k : ℕ) → 1 ≤ k → k ≤ 5 → FlagSet bits (mask_of k) → ⊥) → ⊥
  strings_held h none =
      ⊎_elim (λ h4. ⊎_elim (λ h3. ⊎_elim (λ h2. ⊎_elim
      (λ p. none 1 (omega arith) (omega arith) (sym (bit1 bits) ∙ eqb-true _ 1 p))
      (λ p. none 2 (omega arith) (omega arith) (sym (bit2 bits) ∙ eqb-true _ 1 p))
      (or-either (nb_domain w) (nb_computer w) h2))
      (λ p. none 3 (omega arith) (omega arith) (sym (bit4 bits) ∙ eqb-true _ 1 p))
      (or-either (nb_domain w || nb_computer w) (dns_domain w) h3))
      (λ p. none 4 (omega arith) (omega arith) (sym (bit8 bits) ∙ eqb-true _ 1 p))
      (or-either to_c (dns_host w) h4))
      (λ p. none 5 (omega arith) (omega arith) (sym (bit16 bits) ∙ eqb-true _ 1 p))
      (or-either (to_c || dns_host w) (utf8_computer w) (held_true _ h))

  abbrev c' : List ℕ
  c' = under (dns_domain w) c

  abbrev d' : List ℕ
  d' = under (dns_host w) d

  abbrev e' : List ℕ
  e' = under (utf8_computer w) e

  -- 34, 50 and 53: a check that fails at a string exactly where its bit is set and Bad holds of it
  module _ (ok : List ℕ → Checked) (Bad : List ℕ → Type 0) (k : ℕ) (k3 : k ≤ 3)
      (bad : (set : Bool) (x : List ℕ) → ok (under set x) ≡ Failed → (set ≡ true) × Bad x)
      (good : (set : Bool) (x : List ℕ) → ok (under set x) ≡ Held → set ≡ true → Bad x → ⊥) where
    failed : (i m : ℕ) (x : List ℕ) → k ≤ i → i ≤ 5 → bits % 32 / m % 2 ≡ bits / m % 2 → ok (under (has w.bits m) x) ≡ Failed →
        (k ≤ i) × (i ≤ 5) × FlagSet bits m × Bad x
    failed i m x l r q f = let z = bad (has w.bits m) x f in (l, r, sym q ∙ eqb-true _ 1 z.0, z.1)

    held : {A B : Type 0} (m : ℕ) (x : List ℕ) → bits % 32 / m % 2 ≡ bits / m % 2 → ok (under (has w.bits m) x) ≡ Held → A × B × FlagSet bits m × Bad x → ⊥
    held m x q h y = good (has w.bits m) x h (eq-eqb _ 1 (q ∙ y.2)) y.3

    names_linked : LinksBy (λ n i. (k ≤ i) × (i ≤ 5) × FlagSet bits (mask_of i) × Bad (string_of a b c d e i)) 0 ok 3 (names c' d' e')
    names_linked = (
      refl,
      failed 3 0x4 c k3 (omega arith) (bit4 bits),
      held 0x4 c (bit4 bits),
      (
        refl,
        failed 4 0x8 d (omega arith) (omega arith) (bit8 bits),
        held 0x8 d (bit8 bits),
        (refl, failed 5 0x10 e (omega arith) (omega arith) (bit16 bits), held 0x10 e (bit16 bits), tt),
      ),
    )

  zeros_judged : FreeBy (rank_in order) F 34 0 → JudgedBy (rank_in order) F 50 (check_zeros (under (nb_domain w) a) (under (nb_computer w) b) c' d' e')
  unfolding check_zeros
  zeros_judged free =
      over_judged_by (rank_in order) F 34 50 no_zero ZeroInString refl (only_in order 34 (omega arith)) (λ j. (refl, refl))
      ((1, under (nb_domain w) a) ∷ (2, under (nb_computer w) b) ∷ names c' d' e') 1 (
        refl,
        failed no_zero HoldsZero 1 (omega arith) zero_failed zero_held 1 0x1 a (omega arith) (omega arith) (bit1 bits),
        held no_zero HoldsZero 1 (omega arith) zero_failed zero_held 0x1 a (bit1 bits),
        (
          refl,
          failed no_zero HoldsZero 1 (omega arith) zero_failed zero_held 2 0x2 b (omega arith) (omega arith) (bit2 bits),
          held no_zero HoldsZero 1 (omega arith) zero_failed zero_held 0x2 b (bit2 bits),
          names_linked no_zero HoldsZero 1 (omega arith) zero_failed zero_held,
        ),
      )
      (skip_by (rank_in order) F 34 1 free (λ j l h. omega (arith, l, h.0)))
      (λ j l h. omega (arith, l, h.1))

  labels_judged : FreeBy (rank_in order) F 50 0 → JudgedBy (rank_in order) F 53 (check_labels c' d' e')
  unfolding check_labels
  labels_judged free =
      over_judged_by (rank_in order) F 50 53 text_holds WrongLabel refl (only_in order 50 (omega arith)) (λ j. (refl, refl))
      (names c' d' e') 3 (names_linked text_holds LabelsFail 3 (omega arith) labels_failed labels_held)
      (skip_by (rank_in order) F 50 3 free (λ j l h. omega (arith, l, h.0)))
      (λ j l h. omega (arith, l, h.1))

  coded_judged : FreeBy (rank_in order) F 53 0 → JudgedBy (rank_in order) F 30 (check_coded c' d' e')
  unfolding check_coded
  coded_judged free =
      over_judged_by (rank_in order) F 53 30 coded_holds NameTooLong refl (only_in order 53 (omega arith)) (λ j. (refl, refl))
      (names c' d' e') 3 (names_linked coded_holds (λ x. 255 < coded_size x) 3 (omega arith) coded_failed coded_held)
      (skip_by (rank_in order) F 53 3 free (λ j l h. omega (arith, l, h.0)))
      (λ j l h. omega (arith, l, h.1))

  under_judged : FreeBy (rank_in order) F 34 0 → JudgedBy (rank_in order) F 30 (check_under w a b c d e)
  unfolding check_under check_strings
  under_judged free =
      then_by (rank_in order) F 50 30 (check_zeros (under (nb_domain w) a) (under (nb_computer w) b) c' d' e') _ (zeros_judged free)
      (λ c50. then_by (rank_in order) F 53 30 (check_labels c' d' e') _ (labels_judged c50) coded_judged)

  request_judged : JudgedBy (rank_in order) F 0 (check_request room w a b c d e)
  unfolding check_request
  request_judged =
      let none = free_at_first order F 14 refl in
      chained (JudgedBy (rank_in order) F 0) _ _ _
      (λ f. first_by (rank_in order) F 14 0 none (refl, strings_failed f))
      (λ h14. then_by (rank_in order) F 30 0 (check_under w a b c d e) _
      (under_judged (next order F 14 34 refl (omega arith) none (λ j x. strings_held h14 x.1)))
      (λ c30. size_judged order F (request_size bits a b c d e) (length (request_bytes w a b c d e)) _ size_is
      (λ l. (refl, l)) (λ j x. x.1) refl (omega arith) c30
      (room_judged order F room (request_size bits a b c d e) (length (request_bytes w a b c d e)) size_is
      (λ l. (refl, l)) (λ j x. x.1) refl (omega arith))))

pub nl_request_written : NlRequestIsWritten
unfolding request_answer
nl_request_written room flags a b c d e =
    by_verdict request_order (RequestWritingFails room flags.bits a b c d e)
    (rows request_order (RequestWritingFails room flags.bits a b c d e)
    (λ n i z h. simp (z.0, z.1.0, z.1.1.0, z.1.1.1.0, z.1.1.1.1.0, z.1.1.1.1.1.0) at h)) 0 refl
    (check_request room (known flags) a b c d e) (request_bytes (known flags) a b c d e) (request_size flags.bits a b c d e)
    (size_is room flags a b c d e) (request_judged room flags a b c d e)

pub nl_response_written : NlResponseIsWritten
unfolding response_answer
nl_response_written room =
    rw length-response (go (leb 9 room) (by_verdict (33 ∷ []) (RoomFails room 9) (only_room room 9) 0 refl
    (after (checked (leb 9 room)) (Err NoRoom) (Ok tt)) response_bytes 9 length-response (only_room_judged room 9)))
  where
    go : (t : Bool) → WrittenExactly (answered (after (checked t) (Err NoRoom) (Ok tt)) response_bytes) (33 ∷ []) (RoomFails room 9) 9 →
        WrittenExactly (after (checked t) (Err NoRoom) (Ok 9)) (33 ∷ []) (RoomFails room 9) 9
    go true x = subst (λ (n : ℕ). WrittenExactly (Ok n) (33 ∷ []) (RoomFails room 9) 9) length-response x
    go false x = x
