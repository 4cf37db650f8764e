-- Laws of what is written: the strings of set bits, a message's length, and its checks.
use Rattle.std.specs.Prelude.{Result, Ok, Err, ⊤}
use Prim.Native.Nat.{ℕ, ◌+◌, ◌-◌, ◌≤◌, min}
use mathlib.Core.Path.{◌≡◌, refl, sym, ◌∙◌}
use mathlib.Core.Bool.{Bool, true, false}
use mathlib.Core.List.{List, [], ◌∷◌}
use native.Mathlib.Omega.{arith}
use lib.Dec.{leb}
use lib.ListN.{length, take, drop, length-take, length-drop, length-append}
use borrow.Author.Tests.{leb-true}
use Rattle.wire.specs.declared.check.Checked.{Checked}
use Rattle.wire.specs.declared.check.Checked.TheVariants.{Held, Failed}
use Rattle.wire.specs.declared.refusal.Refusal.{Refusal}
use Rattle.wire.specs.declared.refusal.Refusal.TheVariants.{NoStrings, TooLongToWrite, NoRoom, WrongLabel}
use Rattle.wire.specs.Check.{checked, after, on_clear}
use Rattle.wire.proofs.Laws.{chain, held_true}
use Rattle.place.specs.Place.{Wrote}
use Rattle.place.specs.Written.{size_holds, room_holds, at_front}
use Rattle.place.proofs.Laws.{and_then, kept}
use Rattle.place.proofs.Numbers.{length-le32}
use Rattle.place.proofs.Writings.{whole_length, whole_content}
use Rattle.nl_auth_flags.specs.declared.NlAuthFlags.{NlAuthFlags}
use Rattle.nl_auth_flags.specs.Flags.{nb_domain, nb_computer, dns_domain, dns_host, utf8_computer, no_flags, strings_hold}
use Rattle.write_dns_name.specs.Writing.{name_bytes, text_holds}
use Rattle.write_nl_auth.specs.Writing.{type_and_flags, zero_terminated, bytes_under, oem_bytes, name_bytes_under, utf8_bytes, request_bytes, response_bytes, check_zeros, check_labels, check_coded, check_strings, under, check_under, check_request}

-- the string of a bit that was told to be set
module _ (s : List ℕ) (d : Bool) (h : d ≡ true) where
  set-bytes : bytes_under d s ≡ zero_terminated s
  unfolding bytes_under
  set-bytes = rw h

  set-length : length (bytes_under d s) ≡ length s + 1
  unfolding zero_terminated
  set-length = rw set-bytes (length-append s (0 ∷ []))

  pub set_room : (l : List ℕ) (at : ℕ) → at + length (bytes_under d s) ≤ length l → length s + 1 ≤ length (take (length l - at) (drop at l))
  set_room l at r = simp (length-take, length-drop) (omega (arith, set-length))

  pub set-wrote : (l k : List ℕ) (i p : ℕ) → Wrote l k i p (zero_terminated s) → Wrote l k i p (bytes_under d s)
  set-wrote l k i p w = rw set-bytes w

-- the name of a bit that was told to be set
module _ (s : List ℕ) (d : Bool) (h : d ≡ true) where
  set-name : name_bytes_under d s ≡ name_bytes s
  unfolding name_bytes_under
  set-name = rw h

  pub set_name_wrote : (l k : List ℕ) (i p : ℕ) → Wrote l k i p (name_bytes s) → Wrote l k i p (name_bytes_under d s)
  set_name_wrote l k i p w = rw set-name w

-- check 50 held for each of C, D and E, whose bits' questions were answered
three_held : (k l m : Checked) (f g h : Refusal) → ◌≡◌ {A = Result ⊤ Refusal} (after k (Err f) (after l (Err g) (after m (Err h) (Ok tt)))) (Ok tt) →
    (k ≡ Held) × (l ≡ Held) × (m ≡ Held)
three_held Held Held Held f g h e = (refl, refl, refl)
three_held Held Held Failed f g h e = absurd cc
three_held Held Failed m f g h e = absurd cc
three_held Failed l m f g h e = absurd cc

pub labels_are : (c d e : List ℕ) → check_labels c d e ≡ Ok tt → (text_holds c ≡ Held) × (text_holds d ≡ Held) × (text_holds e ≡ Held)
unfolding check_labels
labels_are c d e h = three_held (text_holds c) (text_holds d) (text_holds e) (WrongLabel 3) (WrongLabel 4) (WrongLabel 5) h

pub asked_held : (s : List ℕ) (b d : Bool) → b ≡ d → text_holds (under d s) ≡ Held → text_holds (under b s) ≡ Held
asked_held s b d q e = rw q e

-- lengths
length-head : (t : ℕ) (flags : NlAuthFlags) → length (type_and_flags t flags) ≡ 8
unfolding type_and_flags
length-head t flags = simp (length-append, length-le32)

pub length-response : length response_bytes ≡ 9
unfolding response_bytes
length-response = simp (length-append, length-head)

module _ (flags : NlAuthFlags) (a b c d e : List ℕ) where
  abbrev request_size : ℕ
  request_size =
      8 + (length (bytes_under (nb_domain flags) a) + (length (bytes_under (nb_computer flags) b) + (length (name_bytes_under (dns_domain flags) c)
      + (length (name_bytes_under (dns_host flags) d) + length (name_bytes_under (utf8_computer flags) e)))))

  pub length-request : length (request_bytes flags a b c d e) ≡ request_size
  unfolding request_bytes oem_bytes utf8_bytes
  length-request = simp (length-append, length-head) (omega arith)

  -- a request whose bytes have room in l: room for its head, for A and B after that, and for C to E after those
  module _ (l : List ℕ) (fits : length (request_bytes flags a b c d e) ≤ length l) where
    parts : 8 + (length (oem_bytes flags a b) + length (utf8_bytes flags c d e)) ≤ length l
    unfolding request_bytes
    parts = simp (length-append, length-head) at fits

    pub head_fits : 8 ≤ length l
    head_fits = omega (arith, parts)

    module _ (h xs : List ℕ) (i : ℕ) (at : i ≡ 8) (u : Wrote l h 0 i xs) where
      pub oem_fits : i + length (oem_bytes flags a b) ≤ length h
      oem_fits = omega (arith, parts, kept l h xs 0 i u)

      pub utf8_fits : (k : List ℕ) (j : ℕ) → Wrote h k i j (oem_bytes flags a b) → j + length (utf8_bytes flags c d e) ≤ length k
      utf8_fits k j w = omega (arith, parts, w.place, kept l h xs 0 i u, kept h k (oem_bytes flags a b) i j w)

  -- its strings, by the answers v to z to their bits' questions
  module _ (v w x y z : Bool) (p : v ≡ nb_domain flags) (q : w ≡ nb_computer flags) (r : x ≡ dns_domain flags) (s : y ≡ dns_host flags) (t : z ≡ utf8_computer flags) where
    answered_size : request_size ≡ 8 + (length (bytes_under v a) + (length (bytes_under w b) + (length (name_bytes_under x c) + (length (name_bytes_under y d) + length (name_bytes_under z e)))))
    answered_size = rw (p, q, r, s, t)

    -- their lengths, counted one by one
    pub size_is : (k l m n o : ℕ) →
        k ≡ min 65536 (8 + length (bytes_under v a)) →
        l ≡ min 65536 (k + length (bytes_under w b)) →
        m ≡ min 65536 (l + length (name_bytes_under x c)) →
        n ≡ min 65536 (m + length (name_bytes_under y d)) →
        o ≡ min 65536 (n + length (name_bytes_under z e)) →
        o ≡ min 65536 (length (request_bytes flags a b c d e))
    size_is k l m n o f g h i j = omega (arith, length-request, answered_size)

-- strings after one another, by the answers to their bits' questions
pub oem_wrote : (flags : NlAuthFlags) (a b l k m : List ℕ) (i j n : ℕ) (v w : Bool) → v ≡ nb_domain flags → w ≡ nb_computer flags →
    Wrote l k i j (bytes_under v a) → Wrote k m j n (bytes_under w b) → Wrote l m i n (oem_bytes flags a b)
unfolding oem_bytes
oem_wrote flags a b l k m i j n v w p q u x = rw (← p, ← q) (and_then l k m _ _ i j n u x)

pub names_wrote : (flags : NlAuthFlags) (c d e l k m o : List ℕ) (i j n r : ℕ) (x y z : Bool) →
    x ≡ dns_domain flags → y ≡ dns_host flags → z ≡ utf8_computer flags →
    Wrote l k i j (name_bytes_under x c) → Wrote k m j n (name_bytes_under y d) → Wrote m o n r (name_bytes_under z e) →
    Wrote l o i r (utf8_bytes flags c d e)
unfolding utf8_bytes
names_wrote flags c d e l k m o i j n r x y z p q s u v w =
    rw (← p, ← q, ← s) (and_then l k o _ _ i j r u (and_then k m o _ _ j n r v w))

-- the head, the OEM strings and the UTF-8 strings
pub request_wrote : (flags : NlAuthFlags) (a b c d e l h k m : List ℕ) (i j n : ℕ) →
    Wrote l h 0 i (type_and_flags 0 flags) → Wrote h k i j (oem_bytes flags a b) → Wrote k m j n (utf8_bytes flags c d e) →
    Wrote l m 0 n (request_bytes flags a b c d e)
unfolding request_bytes
request_wrote flags a b c d e l h k m i j n u v w = and_then l h m _ _ 0 i n u (and_then h k m _ _ i j n v w)

-- ---- the checks

room_held : (k m : Checked) (v : Result ⊤ Refusal) (t : Bool) →
    ◌≡◌ {A = Result ⊤ Refusal} (after k (Err NoStrings) (on_clear Err v (after m (Err TooLongToWrite) (after (checked t) (Err NoRoom) (Ok tt))))) (Ok tt) →
    (v ≡ Ok tt) × (t ≡ true)
room_held Held Held (Ok u) true h = (refl, refl)
room_held Held Held (Ok u) false h = absurd cc
room_held Held Failed (Ok u) t h = absurd cc
room_held Held m (Err e) t h = absurd cc
room_held Failed m v t h = absurd cc

labels_held : (z v w : Result ⊤ Refusal) → on_clear Err z (on_clear Err v w) ≡ Ok tt → v ≡ Ok tt
labels_held (Ok u) (Ok x) w h = refl
labels_held (Ok u) (Err e) w h = absurd cc
labels_held (Err e) v w h = absurd cc

pub under_labels : (flags : NlAuthFlags) (a b c d e : List ℕ) → check_under flags a b c d e ≡ Ok tt →
    check_labels (under (dns_domain flags) c) (under (dns_host flags) d) (under (utf8_computer flags) e) ≡ Ok tt
unfolding check_under check_strings
under_labels flags a b c d e h =
    let c' : List ℕ = under (dns_domain flags) c in
    let d' : List ℕ = under (dns_host flags) d in
    let e' : List ℕ = under (utf8_computer flags) e in
    labels_held (check_zeros (under (nb_domain flags) a) (under (nb_computer flags) b) c' d' e') (check_labels c' d' e') (check_coded c' d' e') h

-- a request whose checks held has its room
module _ (flags : NlAuthFlags) (a b c d e : List ℕ) (room : ℕ) (h : check_request room flags a b c d e ≡ Ok tt) where
  held : (check_under flags a b c d e ≡ Ok tt) × (leb (length (request_bytes flags a b c d e)) room ≡ true)
  unfolding check_request
  held =
      let n : ℕ = length (request_bytes flags a b c d e) in
      room_held (strings_hold flags) (size_holds n) (check_under flags a b c d e) (leb n room) h

  pub request_strings : check_under flags a b c d e ≡ Ok tt
  request_strings = held.0

  pub request_fits : length (request_bytes flags a b c d e) ≤ room
  request_fits = leb-true (length (request_bytes flags a b c d e)) room held.1

-- a response
pub of_response : (room : ℕ) (r : Checked) → r ≡ room_holds 9 room → r ≡ room_holds (length response_bytes) room
of_response room r e = rw length-response e

module _ (l : List ℕ) (r : Checked) (e : r ≡ room_holds 9 (length l)) (h : r ≡ Held) where
  nine : 9 ≤ length l
  nine = leb-true 9 (length l) (held_true (leb 9 (length l)) (sym e ∙ h))

  pub response_fits : length response_bytes ≤ length l
  response_fits = rw length-response nine

module _ (l k m : List ℕ) (p q : ℕ) (v : Wrote l k 0 p (type_and_flags 1 no_flags)) (w : Wrote k m p q (0 ∷ [])) where
  both : Wrote l m 0 q response_bytes
  unfolding response_bytes
  both = and_then l k m _ _ 0 p q v w

  pub response_length : ◌≡◌ {A = Result ℕ Refusal} (Ok q) (Ok (length response_bytes))
  response_length = whole_length l m response_bytes q both

  pub response_content : length response_bytes ≤ length l → m ≡ at_front response_bytes l
  response_content fits = whole_content l m response_bytes q both fits

pub ruleset response = (chain, of_response, response_fits, response_length, response_content)
