-- Laws of the added pairs, of the list's size and of the whole writing.
use Rattle.std.specs.Prelude.{Result, Ok, Err, ⊤}
use Prim.Native.Nat.{ℕ, ◌+◌, ◌%◌, ◌≤◌, min}
use mathlib.Core.Path.{◌≡◌, refl, sym, ap, ◌∙◌}
use mathlib.Core.Bool.{Bool, true, false, ◌&&◌, not, cond}
use mathlib.Core.List.{List, [], ◌∷◌, ◌++◌, append-nil, append_assoc}
use native.Mathlib.Omega.{arith}
use borrow.Author.Tests.{eqb-true, eqb-false, eq-eqb, ne_eqb, leb-true, leb-false, lt-leb}
use lib.Dec.{eqb, leb}
use lib.ListN.{length, length-append}
use Rattle.av_id.specs.AvId.{is_flags, is_timestamp}
use Rattle.av_pairs.specs.AvPairs.{check_pairs, values_of}
use Rattle.read_challenge.specs.declared.FullChallenge.{FullChallenge}
use Rattle.read_challenge.specs.Challenge.{full_reading_of, info_of}
use Rattle.read_challenge.proofs.Laws.{full-reads, refusal_alone, info_clear}
use Rattle.place.specs.Place.{Wrote, le32}
use Rattle.place.proofs.Laws.{and_then, nothing, kept as same_length}
use Rattle.place.proofs.Numbers.{length-le32}
use Rattle.place.proofs.Writings.{written, stored, refused, untouched}
use Rattle.wire.specs.declared.refusal.Refusal.{Refusal}
use Rattle.wire.specs.declared.refusal.Refusal.TheVariants.{TooLongToWrite, OddNameToWrite, NoRoom}
use Rattle.wire.proofs.Laws.{after_clear}
use Rattle.write_response_pairs.specs.ResponsePairs.{pair_with, has_pair, is_none, kept, due_bits, bits_due, with_bits, adds_flags, added_pairs, pairs_back, pairs_for, pair_bytes, pairs_bytes, list_bytes, list_with, list_for, check_list, list_answer, list_out, write_answer, write_out}
use Rattle.write_response_pairs.proofs.Fits.{values_fit, kept_fit, length-pair, bytes_append, bits_size}

-- ---- the added pairs

module _ (adds : Bool) (bits : ℕ) where
  abbrev pub flags_added : List ℕ
  flags_added = pairs_bytes (cond adds (pair_with 6 (le32 bits) ∷ []) [])

  pub flags_none : (l : List ℕ) (i : ℕ) → adds ≡ false → Wrote l l i i flags_added
  flags_none l i h = simp h (nothing l i)

  pub flags_added_lem : (l k : List ℕ) (i q : ℕ) → adds ≡ true → Wrote l k i q (pair_bytes (pair_with 6 (le32 bits))) → Wrote l k i q flags_added
  flags_added_lem l k i q h w = simp (h, append-nil) w

  pub flags_added_room : (i n : ℕ) → adds ≡ true → i + cond adds 8 0 ≤ n → i + 8 ≤ n
  flags_added_room i n h r = simp h at r

  pub length-flags : length flags_added ≡ cond adds 8 0
  length-flags = go adds where
    go : (b : Bool) → length (pairs_bytes (cond b (pair_with 6 (le32 bits) ∷ []) [])) ≡ cond b 8 0
    go true = simp (append-nil, length-pair, length-le32)
    go false = refl

  module _ (name bind : List ℕ) where
    added_are : list_bytes (added_pairs adds bits name bind) ≡ flags_added ++ (pair_bytes (pair_with 10 bind) ++ (pair_bytes (pair_with 9 name) ++ pair_bytes (pair_with 0 [])))
    unfolding list_bytes added_pairs
    added_are = simp (bytes_append, append_assoc, append-nil)

    pub length-added : length (list_bytes (added_pairs adds bits name bind)) ≡ cond adds 8 0 + (12 + (length name + length bind))
    length-added = ap length added_are ∙ simp (length-append, length-flags, length-pair) (omega arith)

    module _ (l : List ℕ) (i : ℕ) (room : i + length (list_bytes (added_pairs adds bits name bind)) ≤ length l) where
      pub room_6 : i + cond adds 8 0 ≤ length l
      room_6 = omega (arith, room, length-added)

      module _ (a : List ℕ) (p : ℕ) (u : Wrote l a i p flags_added) where
        pub room_10 : p + (4 + length bind) ≤ length a
        room_10 = omega (arith, room, length-added, length-flags, u.place, same_length l a flags_added i p u)

        module _ (b : List ℕ) (q : ℕ) (v : Wrote a b p q (pair_bytes (pair_with 10 bind))) where
          pub room_9 : q + (4 + length name) ≤ length b
          room_9 = omega (
            arith,
            room,
            length-added,
            length-flags,
            u.place,
            v.place,
            length-pair (pair_with 10 bind),
            same_length l a flags_added i p u,
            same_length a b (pair_bytes (pair_with 10 bind)) p q v,
          )

          module _ (c : List ℕ) (r : ℕ) (w : Wrote b c q r (pair_bytes (pair_with 9 name))) where
            pub room_end : r + 4 ≤ length c
            room_end = omega (
              arith,
              room,
              length-added,
              length-flags,
              u.place,
              v.place,
              w.place,
              length-pair (pair_with 10 bind),
              length-pair (pair_with 9 name),
              same_length l a flags_added i p u,
              same_length a b (pair_bytes (pair_with 10 bind)) p q v,
              same_length b c (pair_bytes (pair_with 9 name)) q r w,
            )

            pub added_all : (k : List ℕ) (e : ℕ) → Wrote c k r e (pair_bytes (pair_with 0 [])) → Wrote l k i e (list_bytes (added_pairs adds bits name bind))
            added_all k e x =
                rw added_are
                (and_then l a k flags_added _ i p e u
                (and_then a b k (pair_bytes (pair_with 10 bind)) _ p q e v
                (and_then b c k (pair_bytes (pair_with 9 name)) (pair_bytes (pair_with 0 [])) q r e w x)))

-- ---- the size

pub size_empty : (m n size : ℕ) → m ≡ 0 → 4 ≡ min 65536 (cond (eqb m 0) 4 size)
size_empty m n size h = simp (eq-eqb m 0 h)

pub size_whole : (h size f m k r name bind : ℕ) (adds : Bool) → (h ≡ 0 → ⊥) → f ≡ cond adds 8 0 → m ≡ min 65536 (size + (f + 12)) →
    k ≡ min 65536 (m + name) → r ≡ min 65536 (k + bind) → r ≡ min 65536 (cond (eqb h 0) 4 (size + (cond adds 8 0 + (12 + (name + bind)))))
size_whole h size f m k r name bind adds n a b c d = simp (ne_eqb h 0 n) (omega (arith, a, b, c, d))

module _ (bits : ℕ) (info name bind : List ℕ) where
  abbrev adding : Bool
  adding = adds_flags bits (values_of info)

  -- the list for bytes that are none, and for others
  pub list_empty : length info ≡ 0 → list_with bits info name bind ≡ pair_bytes (pair_with 0 [])
  unfolding list_with list_bytes pairs_for
  list_empty h = simp (eq-eqb (length info) 0 h)

  pub list_parts : (length info ≡ 0 → ⊥) →
      list_with bits info name bind ≡ pairs_bytes (with_bits bits (kept (values_of info))) ++ list_bytes (added_pairs adding bits name bind)
  unfolding list_with list_bytes pairs_for pairs_back
  list_parts h = simp (ne_eqb (length info) 0 h, bytes_append, append_assoc)

  kept_size : length (pairs_bytes (with_bits bits (kept (values_of info)))) ≡ length (pairs_bytes (kept (values_of info)))
  kept_size = bits_size bits (kept (values_of info)) (kept_fit (values_of info) (values_fit info))

  pub list_size : length (list_with bits info name bind)
      ≡ cond (is_none info) 4 (length (pairs_bytes (kept (values_of info))) + (cond adding 8 0 + (12 + (length name + length bind))))
  list_size = go (is_none info) refl where
    go : (b : Bool) → is_none info ≡ b → length (list_with bits info name bind)
        ≡ cond b 4 (length (pairs_bytes (kept (values_of info))) + (cond adding 8 0 + (12 + (length name + length bind))))
    go true e = ap length (list_empty (eqb-true (length info) 0 e)) ∙ length-pair (pair_with 0 [])
    go false e =
        ap length (list_parts (eqb-false (length info) 0 e)) ∙ simp (length-append, kept_size, length-added adding bits name bind)

  -- as it is counted
  pub size_counted : (size n : ℕ) (adds : Bool) → adds ≡ adding → size ≡ min 65536 (length (pairs_bytes (kept (values_of info)))) →
      n ≡ min 65536 (cond (is_none info) 4 (size + (cond adds 8 0 + (12 + (length name + length bind))))) → n ≡ min 65536 (length (list_with bits info name bind))
  size_counted size n adds a e h = h ∙ go (is_none info) refl where
    go : (b : Bool) → is_none info ≡ b →
        min 65536 (cond b 4 (size + (cond adds 8 0 + (12 + (length name + length bind))))) ≡ min 65536 (length (list_with bits info name bind))
    go true y = simp (list_size, y)
    go false y = simp (list_size, y, a) (omega (arith, e))

  -- ---- the writing of it

  module _ (l : List ℕ) (room : length (list_with bits info name bind) ≤ length l) where
    pub empty_room : length info ≡ 0 → 0 + 4 ≤ length l
    empty_room h = omega (arith, room, ap length (list_empty h), length-pair (pair_with 0 []))

    module _ (h : length info ≡ 0 → ⊥) where
      parts : length (list_with bits info name bind) ≡ length (pairs_bytes (with_bits bits (kept (values_of info)))) + length (list_bytes (added_pairs adding bits name bind))
      parts = ap length (list_parts h) ∙ simp length-append

      pub kept_room : length (pairs_bytes (with_bits bits (kept (values_of info)))) ≤ length l
      kept_room = omega (arith, room, parts)

      module _ (adds : Bool) (a : adds ≡ adding) where
        pub added_room : (m : List ℕ) (q : ℕ) → Wrote l m 0 q (pairs_bytes (with_bits bits (kept (values_of info)))) →
            q + length (list_bytes (added_pairs adds bits name bind)) ≤ length m
        added_room m q w = rw a (omega (arith, room, parts, w.place, same_length l m _ 0 q w))

        pub parts_are : (m k : List ℕ) (q r : ℕ) → Wrote l m 0 q (pairs_bytes (with_bits bits (kept (values_of info)))) →
            Wrote m k q r (list_bytes (added_pairs adds bits name bind)) → Wrote l k 0 r (list_with bits info name bind)
        parts_are m k q r v w = rw (list_parts h) (and_then l m k _ _ 0 q r v (rw a at w))

    pub empty_is : (k : List ℕ) (q : ℕ) → length info ≡ 0 → Wrote l k 0 q (pair_bytes (pair_with 0 [])) → Wrote l k 0 q (list_with bits info name bind)
    empty_is k q h w = rw (list_empty h) w

  module _ (short : length (list_with bits info name bind) ≤ 65535) (h : length info ≡ 0 → ⊥) where
    long : length (list_with bits info name bind) ≡ length (pairs_bytes (with_bits bits (kept (values_of info)))) + (cond adding 8 0 + (12 + (length name + length bind)))
    long = ap length (list_parts h) ∙ simp (length-append, length-added adding bits name bind)

    pub name_short : length name ≤ 65535
    name_short = omega (arith, short, long)

    pub bind_short : length bind ≤ 65535
    bind_short = omega (arith, short, long)

-- ---- the checks

-- they come out the same for a size as it is counted
same_checks : (room size n : ℕ) (name : List ℕ) → n ≡ min 65536 size → check_list room name n ≡ check_list room name size
unfolding check_list
same_checks room size n name e = go (leb size 65535) refl where
  go : (b : Bool) → leb size 65535 ≡ b → check_list room name n ≡ check_list room name size
  go true f = let m : n ≡ size = omega (arith, e, leb-true size 65535 f) in rw m
  go false f = simp (f, lt-leb n 65535 (omega (arith, e, leb-false size 65535 f)))

module _ (room size : ℕ) (name : List ℕ) (r : Result ⊤ Refusal) (e : r ≡ check_list room name size) (h : r ≡ Ok tt) where
  pub within_size : size ≤ 65535
  unfolding check_list
  within_size =
      let x = after_clear (eqb (length name % 2) 0) (OddNameToWrite 2) _ (sym e ∙ h) in
      leb-true size 65535 (after_clear (leb size 65535) TooLongToWrite _ x.1).0

  pub within_room : size ≤ room
  unfolding check_list
  within_room =
      let x = after_clear (eqb (length name % 2) 0) (OddNameToWrite 2) _ (sym e ∙ h) in
      let y = after_clear (leb size 65535) TooLongToWrite _ x.1 in
      leb-true size room (after_clear (leb size room) NoRoom (Ok tt) y.1).0

-- ---- the list for TargetInfo's bytes

pub seen_few : (size n : ℕ) → size ≡ min 65536 n → size ≤ 65536
seen_few size n e = omega (arith, e)

-- what was seen in a list tells what goes back for it
module _ (info : List ℕ) where
  pub bits_are : (name : List ℕ) (unverified t : Bool) (bits : ℕ) → t ≡ has_pair is_timestamp (values_of info) →
      bits ≡ due_bits t (unverified && not (eqb (length name) 0)) → bits ≡ bits_due info name unverified
  unfolding bits_due
  bits_are name unverified t bits e h = rw e at h

  pub adds_are : (bits : ℕ) (f : Bool) → f ≡ has_pair is_flags (values_of info) → (not (eqb bits 0) && not f) ≡ adds_flags bits (values_of info)
  adds_are bits f e = rw e

  pub size_are : (bits size n : ℕ) (name bind : List ℕ) (f : Bool) → f ≡ has_pair is_flags (values_of info) → size ≡ min 65536 (length (pairs_bytes (kept (values_of info)))) →
      n ≡ min 65536 (cond (eqb (length info) 0) 4 (size + (cond (not (eqb bits 0) && not f) 8 0 + (12 + (length name + length bind))))) →
      n ≡ min 65536 (length (list_with bits info name bind))
  size_are bits size n name bind f e z g = size_counted bits info name bind size n _ (adds_are bits f e) z g

module _ (bits : ℕ) (info name bind : List ℕ) (n : ℕ) (g : n ≡ min 65536 (length (list_with bits info name bind)))
    (room : ℕ) (r : Result ⊤ Refusal) (e : r ≡ check_list room name n) where
  check_is : r ≡ check_list room name (length (list_with bits info name bind))
  check_is = e ∙ same_checks room (length (list_with bits info name bind)) n name g

  module _ (h : r ≡ Ok tt) where
    pub list_short : length (list_with bits info name bind) ≤ 65535
    list_short = within_size room _ name r check_is h

    pub list_room : length (list_with bits info name bind) ≤ room
    list_room = within_room room _ name r check_is h

module _ (bits : ℕ) (info name bind : List ℕ) (unverified : Bool) (d : bits ≡ bits_due info name unverified)
    (n : ℕ) (g : n ≡ min 65536 (length (list_with bits info name bind))) (out : List ℕ) (r : Result ⊤ Refusal) (e : r ≡ check_list (length out) name n) where
  list_is : list_for info name unverified bind ≡ list_with bits info name bind
  unfolding list_for
  list_is = ap (λ (b : ℕ). list_with b info name bind) (sym d)

  check_for : r ≡ check_list (length out) name (length (list_for info name unverified bind))
  check_for = rw list_is (check_is bits info name bind n g (length out) r e)

  pub list_refused : (p : Refusal) → r ≡ Err p → Err p ≡ list_answer (length out) info name unverified bind
  unfolding list_answer
  list_refused p h = refused _ r p check_for h _

  pub list_untouched : (p : Refusal) → r ≡ Err p → out ≡ list_out out info name unverified bind
  unfolding list_out
  list_untouched p h = untouched _ r p check_for h _ out

  module _ (h : r ≡ Ok tt) (k : List ℕ) (q : ℕ) (w : Wrote out k 0 q (list_with bits info name bind)) where
    for : Wrote out k 0 q (list_for info name unverified bind)
    for = rw list_is w

    pub list_written : Ok q ≡ list_answer (length out) info name unverified bind
    unfolding list_answer
    list_written = written _ r check_for h out k _ q for

    pub list_stored : k ≡ list_out out info name unverified bind
    unfolding list_out
    list_stored = stored _ r check_for h out k _ q for (rw list_is (list_room bits info name bind n g (length out) r e h))

-- ---- after the reading

module _ (s name bind : List ℕ) (unverified : Bool) (a : Result FullChallenge Refusal) (e : a ≡ full_reading_of s) where
  module _ (f : Refusal) (h : a ≡ Err f) where
    pub reading_refused : (room : ℕ) → Err f ≡ write_answer room s name unverified bind
    unfolding write_answer
    reading_refused room = simp (← refusal_alone s a e f h)

    pub reading_untouched : (out : List ℕ) → out ≡ write_out out s name unverified bind
    unfolding write_out
    reading_untouched out = simp (← refusal_alone s a e f h)

  module _ (f : FullChallenge) (h : a ≡ Ok f) (l : List ℕ) (i : l ≡ info_of s f.challenge) where
    pub reading_taken : (room : ℕ) (x : Result ℕ Refusal) → x ≡ list_answer room l name unverified bind → x ≡ write_answer room s name unverified bind
    unfolding write_answer
    reading_taken room x q = q ∙ simp (full-reads s a e f h, i)

    pub reading_stored : (out k : List ℕ) → k ≡ list_out out l name unverified bind → k ≡ write_out out s name unverified bind
    unfolding write_out
    reading_stored out k q = q ∙ simp (full-reads s a e f h, i)

-- the pairs of a challenge that was taken were checked
pub taken_clear : (s : List ℕ) (a : Result FullChallenge Refusal) (f : FullChallenge) (l : List ℕ) →
    a ≡ full_reading_of s → a ≡ Ok f → l ≡ info_of s f.challenge → check_pairs l ≡ Ok tt
taken_clear s a f l e h i = info_clear s l f.challenge (full-reads s a e f h) i
