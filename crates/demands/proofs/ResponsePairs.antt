-- The pair list that goes back: what a call leaves, what the list holds, by what a call is refused, and what it keeps.
pub mod PairsBack
use Rattle.wire.specs.Check.{on_ok}
use Rattle.std.specs.Prelude.{Result, Ok, Err, ⊤}
use Prim.Native.Nat.{ℕ, zero, suc, ◌+◌, ◌%◌, ◌≤◌, ◌<◌}
use mathlib.Core.Path.{◌≡◌, refl, sym, ap, ◌∙◌}
use mathlib.Core.Bool.{Bool, true, false, cond}
use mathlib.Core.Logic.{◌⊎◌, inl, inr, ⊎_elim, ◌↔◌}
use mathlib.Core.List.{List, [], ◌∷◌}
use native.Mathlib.Omega.{arith}
use borrow.Author.Tests.{eqb-true, eqb-false, leb-true, eq-eqb, ne_eqb}
use lib.ListN.{length, take, length-append}
use lib.Seq.{take-append_seam}
use Rattle.av_pairs.specs.AvPairs.{id_at, Valued, values_of}
use Rattle.av_pairs.proofs.Walks.{values_at, values_start}
use Rattle.read_challenge.specs.declared.Challenge.{Challenge}
use Rattle.read_challenge.specs.Challenge.{read_challenge, reading_of, info_of}
use Rattle.place.specs.Place.{le16}
use Rattle.place.specs.Written.{answered, out_after, size_holds, room_holds}
use Rattle.write_response_pairs.specs.ResponsePairs.{pair_with, left_out, kept, bits_due, adds_flags, pair_bytes, pairs_bytes, list_for, even_target_name, check_list, list_answer, list_out, write_answer, write_out}
use Rattle.write_response_pairs.proofs.Fits.{length-pair}
use Rattle.write_response_pairs.proofs.Sent.{list_empty, list_parts, list_size}
use Rattle.wire.specs.declared.refusal.Refusal.{Refusal}
use Rattle.wire.specs.declared.refusal.Refusal.TheVariants.{OddNameToWrite, TooLongToWrite, NoRoom}
use Rattle.wire.specs.Refusal.{number_of, field_of, place_of}
use Rattle.wire.proofs.Places.{placeless_number}
use Rattle.wire.proofs.Laws.{held_true}
use Rattle.demands.specs.Order.{FirstIn, rank_in}
use Rattle.demands.specs.PairList.{id_of, size_of, next_of, PairAt, EndAt, WellFormed, end, pair, Holds, empty, listed, FirstWith}
use Rattle.demands.specs.InTurn.{KthPair}
use Rattle.demands.specs.Kept.{Kept}
use Rattle.demands.specs.TakenExactly.{RefusalIs, InfoBytes, ChallengeHolds, ChallengeFails}
use Rattle.demands.specs.WrittenExactly.{WrittenExactly}
use Rattle.demands.specs.ResponsePairs.{TakenOut, ValueAt, LastTwo, with_flags, without_flags, GoesBack, taken_out, first_flags, same, at_end, ListBack, end_alone, from_start, PairsGoBack, CountBack, three_added, two_added, none_back, one_back, ResultHolds, OnlyPair, OneTenOneNine, EndPairAlone, KeptSize, no_more, passed_over, counted, ListSize, of_end, of_flags, of_two, SizeIsThere, ResponsePairsFail, ListRefusedAt, WrittenFrom, ResponsePairsAreWritten, ResponsePairsKept, ResponsePairsIgnored}
use Rattle.demands.proofs.Bools.{both_ways, failed_false, chained, after_held}
use Rattle.demands.proofs.TakenExactly.Challenge as reading
use Rattle.demands.proofs.TakenExactly.Challenge.{holds_or_fails, one_reason}
use Rattle.demands.proofs.Judged.{fails_is}
use Rattle.demands.proofs.Ignored.ChallengeIgnored.{made_same}
use Rattle.demands.proofs.OwnBytes.ChallengeOwn.{info_of_lem}
use Rattle.demands.proofs.OwnBytes.Found.{id_of_lem}
use Rattle.demands.proofs.Kept as kept_laws
use Rattle.demands.proofs.PairList.{pair_or_end}
use Rattle.demands.proofs.ResponsePairs.PairsBack.{adds_is, came, values_pair, values_end, value_long, out_is, in_is, goes_back}
use Rattle.demands.proofs.Order.{on_row}
use Rattle.demands.proofs.Order.Rank.{JudgedBy, first_by, skip_by}
use Rattle.demands.proofs.WrittenExactly.{Rows, rows, free_at_first, next, room_judged, size_judged, by_verdict}

-- ---- the checks that held

pub record Sound (room : ℕ) (name : List ℕ) (size : ℕ) : Type 0 where
  pub even : length name % 2 ≡ 0
  pub short : size ≤ 65535
  pub fits : size ≤ room

pub sound : (room : ℕ) (name : List ℕ) (size : ℕ) → check_list room name size ≡ Ok tt → Sound room name size
unfolding check_list
sound room name size h =
    let a = after_held (even_target_name name) (OddNameToWrite 2) _ h in
    let z = after_held (size_holds size) TooLongToWrite _ a.1 in
    let r = after_held (room_holds size room) NoRoom (Ok tt) z.1 in
    record {
      even = eqb-true (length name % 2) 0 (held_true _ a.0);
      short = leb-true size 65535 (held_true _ z.0);
      fits = leb-true size room (held_true _ r.0);
    }

-- ---- what a call leaves

-- the first n bytes are the list for TargetInfo's bytes
record Left (out s b name bind : List ℕ) (mark : Bool) (n : ℕ) : Type 0 where
  holds : ChallengeHolds s b
  even : length name % 2 ≡ 0
  list : take n (write_out out s name mark bind) ≡ list_for b name mark bind

left : (out s b name bind : List ℕ) (mark : Bool) (n : ℕ) → InfoBytes s b → write_answer (length out) s name mark bind ≡ Ok n → Left out s b name bind mark n
unfolding write_answer write_out list_answer list_out read_challenge
left out s b name bind mark n info h = go (reading_of s) refl (reading.judged s b info) h where
  L : List ℕ
  L = list_for b name mark bind

  checks : Result ⊤ Refusal
  checks = check_list (length out) name (length L)

  pick : (c : Challenge) → reading_of s ≡ Ok c → ChallengeHolds s b → info_of s c ≡ b → (v : Result ⊤ Refusal) → checks ≡ v → answered v L ≡ Ok n → Left out s b name bind mark n
  pick c e j i (Ok tt) y p =
      let m : n ≡ length L = cc in
      record {
        holds = j;
        even = (sound (length out) name (length L) y).even;
        list = simp (e, i, y, m, take-append_seam);
      }
  pick c e j i (Err f) y p = absurd (let z : ◌≡◌ {A = ℕ} 0 1 = cc in omega arith)

  go : (r : Result Challenge Refusal) → reading_of s ≡ r → reading.Judged s b info r →
      on_ok Err r (λ c. answered (check_list (length out) name (length (list_for (info_of s c) name mark bind))) (list_for (info_of s c) name mark bind)) ≡ Ok n →
      Left out s b name bind mark n
  go (Ok c) e j p = let i = info_of_lem s b c info e in pick c e j i checks refl (rw i at p)
  go (Err f) e j p = absurd (let z : ◌≡◌ {A = ℕ} 0 1 = cc in omega arith)

end_bytes : pair_bytes (pair_with 0 []) ≡ 0 ∷ 0 ∷ 0 ∷ 0 ∷ []
unfolding pair_bytes le16
end_bytes = refl

list_back : (b name bind : List ℕ) (mark : Bool) (n : ℕ) → Holds b n → length name % 2 ≡ 0 → length bind ≡ 16 →
    ListBack b (list_for b name mark bind) name mark bind
unfolding list_for
list_back b name bind mark n (empty e q) even sixteen = end_alone e (list_empty (bits_due b name mark) b name bind e ∙ end_bytes)
list_back b name bind mark n (listed some w) even sixteen =
    from_start some
    (goes_back b (list_for b name mark bind) name bind mark some even sixteen n w (list_parts (bits_due b name mark) b name bind (λ z. omega arith)))

pub pairs_go_back : PairsGoBack
pairs_go_back out s b name bind mark n sixteen info h =
    let x = left out s b name bind mark n info h in
    rw x.list (list_back b name bind mark x.holds.count x.holds.list x.even sixteen)

-- ---- what such a list holds

module _ (b l name : List ℕ) (mark : Bool) (bind : List ℕ) where
  one_more : (to k : ℕ) → PairAt l to → WellFormed l (next_of l to) k → WellFormed l to (suc k)
  one_more to k w f = let e : suc k ≡ k + 1 = omega arith in pair {n = suc k} {m = k} w e f

  -- a pair that is the first with id 6 is no 9 and no 10
  kept_flags : (at : ℕ) → FirstWith b 6 at 0 → TakenOut b at → ⊥
  kept_flags at w o =
      let e = id_of_lem b 6 at 0 w in
      ⊎_elim (λ i. omega (arith, e, i)) (λ i. omega (arith, e, i)) o

  two_formed : (to : ℕ) → LastTwo l name bind to → WellFormed l to 2
  two_formed to w = one_more to 1 w.ten.there (one_more (next_of l to) 0 w.nine.there (end w.end_pair refl))

  record Formed (at to : ℕ) : Type 0 where
    number : ℕ
    well_formed : WellFormed l to number
    count : CountBack b name mark at number

  -- a pair of b that goes back as one of l
  one_pair : (at to : ℕ) → PairAt b at → (TakenOut b at → ⊥) → PairAt l to → Formed (next_of b at) (next_of l to) → Formed at to
  one_pair at to w o v r =
      let e : suc r.number ≡ r.number + 1 = omega arith in
      record {
        number = suc r.number;
        well_formed = one_more to r.number v r.well_formed;
        count = one_back {n = suc r.number} {m = r.number} w o e r.count;
      }

  formed : (at to : ℕ) → GoesBack b l name mark bind at to → Formed at to
  formed at to (taken_out w o g) =
      let r = formed (next_of b at) to g in
      record { number = r.number; well_formed = r.well_formed; count = none_back w o r.count }
  formed at to (first_flags w o f g) = one_pair at to w (kept_flags at o) f.there (formed (next_of b at) (next_of l to) g)
  formed at to (same w o n v g) = one_pair at to w o v.there (formed (next_of b at) (next_of l to) g)
  formed at to (at_end e (with_flags y f w)) =
      record { number = 3; well_formed = one_more to 2 f.there (two_formed (next_of l to) w); count = three_added e y refl }
  formed at to (at_end e (without_flags y w)) = record { number = 2; well_formed = two_formed to w; count = two_added e y refl }

  pub list_holds : ListBack b l name mark bind → (k : ℕ) × Holds l k × (((length b ≡ 0) × (k ≡ 0)) ⊎ ((0 < length b) × CountBack b name mark 0 k))
  list_holds (end_alone e q) = (0, rw q (listed (omega arith) (end (record { id = refl; size = refl; last = refl }) refl)), inl (e, refl))
  list_holds (from_start some g) =
      let r = formed 0 0 g in
      (r.number, listed (long r.number r.well_formed) r.well_formed, inr (some, r.count))
    where
      long : (k : ℕ) → WellFormed l 0 k → 0 < length l
      long k (end e q) = omega (arith, e.last)
      long k (pair w q f) = omega (arith, w.whole)

  -- one pair only with an id, from a place on
  record OnlyFrom (id : ℕ) (value : List ℕ) (to : ℕ) : Type 0 where
    place : ℕ
    number : ℕ
    stands : KthPair l place number to
    pair_is : ValueAt l place id value
    only : (found k : ℕ) → KthPair l found k to → id_of l found ≡ id → found ≡ place

  abbrev None : ℕ → ℕ → Type 0
  None id to = (found k : ℕ) → KthPair l found k to → id_of l found ≡ id → ⊥

  past : (id to : ℕ) (value : List ℕ) → PairAt l to → (id_of l to ≡ id → ⊥) → OnlyFrom id value (next_of l to) → OnlyFrom id value to
  past id to value w other o =
      record {
        place = o.place;
        number = suc o.number;
        stands = (w, o.stands);
        pair_is = o.pair_is;
        only = only;
      }
    where
      only : (found k : ℕ) → KthPair l found k to → id_of l found ≡ id → found ≡ o.place
      only found zero h i = absurd (other (ap (λ (x : ℕ). id_of l x) h.0 ∙ i))
      only found (suc k) h i = o.only found k h.1 i

  this_one : (id to : ℕ) (value : List ℕ) → ValueAt l to id value → None id (next_of l to) → OnlyFrom id value to
  this_one id to value v none =
      record {
        place = to;
        number = 0;
        stands = (refl, v.there);
        pair_is = v;
        only = only;
      }
    where
      only : (found k : ℕ) → KthPair l found k to → id_of l found ≡ id → found ≡ to
      only found zero h i = sym h.0
      only found (suc k) h i = absurd (none found k h.1 i)

  none_at_end : (id to : ℕ) → EndAt l to → None id to
  none_at_end id to e found zero h i = pair_or_end l to h.1 e
  none_at_end id to e found (suc k) h i = pair_or_end l to h.0 e

  none_past : (id to : ℕ) → (id_of l to ≡ id → ⊥) → None id (next_of l to) → None id to
  none_past id to other none found zero h i = other (ap (λ (x : ℕ). id_of l x) h.0 ∙ i)
  none_past id to other none found (suc k) h i = none found k h.1 i

  module _ (to : ℕ) (w : LastTwo l name bind to) where
    only_ten : OnlyFrom 10 bind to
    only_ten =
        this_one 10 to bind w.ten
        (none_past 10 (next_of l to) (λ i. omega (arith, i, w.nine.id_same)) (none_at_end 10 (next_of l (next_of l to)) w.end_pair))

    only_nine : OnlyFrom 9 name to
    only_nine =
        past 9 to name w.ten.there (λ i. omega (arith, i, w.ten.id_same))
        (this_one 9 (next_of l to) name w.nine (none_at_end 9 (next_of l (next_of l to)) w.end_pair))

  only_one : (id : ℕ) (value : List ℕ) → (id ≡ 9) ⊎ (id ≡ 10) → ((to : ℕ) → LastTwo l name bind to → OnlyFrom id value to) →
      (at to : ℕ) → GoesBack b l name mark bind at to → OnlyFrom id value to
  only_one id value of last at to (taken_out w o g) = only_one id value of last (next_of b at) to g
  only_one id value of last at to (first_flags w o f g) =
      past id to value f.there (λ i. ⊎_elim (λ e. omega (arith, i, e, f.id_same)) (λ e. omega (arith, i, e, f.id_same)) of) (only_one id value of last (next_of b at) (next_of l to) g)
  only_one id value of last at to (same w o n v g) =
      past id to value v.there (λ i. o (⊎_elim (λ e. inl (sym v.id_same ∙ i ∙ e)) (λ e. inr (sym v.id_same ∙ i ∙ e)) of))
      (only_one id value of last (next_of b at) (next_of l to) g)
  only_one id value of last at to (at_end e (with_flags y f w)) =
      past id to value f.there (λ i. ⊎_elim (λ e. omega (arith, i, e, f.id_same)) (λ e. omega (arith, i, e, f.id_same)) of) (last (next_of l to) w)
  only_one id value of last at to (at_end e (without_flags y w)) = last to w

  whole : (id : ℕ) (value : List ℕ) → OnlyFrom id value 0 → OnlyPair l id value
  whole id value o = record { place = o.place; number = o.number; stands = o.stands; pair_is = o.pair_is; only = o.only }

  pub two_only : 0 < length b → ListBack b l name mark bind → OnlyPair l 10 bind × OnlyPair l 9 name
  two_only some (end_alone e q) = absurd (omega (arith, e))
  two_only some (from_start s g) = (whole 10 bind (only_one 10 bind (inr refl) only_ten 0 0 g), whole 9 name (only_one 9 name (inl refl) only_nine 0 0 g))

  alone : length b ≡ 0 → ListBack b l name mark bind → l ≡ 0 ∷ 0 ∷ 0 ∷ 0 ∷ []
  alone e (end_alone f q) = q
  alone e (from_start some g) = absurd (omega arith)

pub result_holds : ResultHolds
result_holds out s b name bind mark n sixteen info h =
    list_holds b _ name mark bind (pairs_go_back out s b name bind mark n sixteen info h)

pub one_ten_one_nine : OneTenOneNine
one_ten_one_nine out s b name bind mark n sixteen info h some =
    two_only b _ name mark bind some (pairs_go_back out s b name bind mark n sixteen info h)

pub end_pair_alone : EndPairAlone
end_pair_alone out s b name bind mark n sixteen info h none =
    alone b _ name mark bind (ap length (info.absent none)) (pairs_go_back out s b name bind mark n sixteen info h)

-- ---- its size

module _ (b : List ℕ) (some : 0 < length b) where
  abbrev size_at : ℕ → ℕ
  size_at at = length (pairs_bytes (kept (values_at b at)))

  kept_size : (at k : ℕ) → KeptSize b at k → k ≡ size_at at
  kept_size at k (no_more e q) = q ∙ sym (ap (λ (ps : List Valued). length (pairs_bytes (kept ps))) (values_end b some at e))
  kept_size at k (passed_over w o r) =
      kept_size (next_of b at) k r
      ∙ sym (ap (λ (ps : List Valued). length (pairs_bytes (kept ps))) (values_pair b some at w) ∙ go (left_out (id_at b at)) refl)
    where
      go : (t : Bool) → left_out (id_at b at) ≡ t →
          length (pairs_bytes (cond t (kept (values_at b (next_of b at))) (came b some at ∷ kept (values_at b (next_of b at))))) ≡ size_at (next_of b at)
      go true e = refl
      go false e = absurd (in_is b some at e o)
  kept_size at k (counted {m = m} w o q r) =
      q ∙ ap (λ (x : ℕ). 4 + size_of b at + x) (kept_size (next_of b at) m r)
      ∙ sym (ap (λ (ps : List Valued). length (pairs_bytes (kept ps))) (values_pair b some at w) ∙ go (left_out (id_at b at)) refl)
    where
      go : (t : Bool) → left_out (id_at b at) ≡ t →
          length (pairs_bytes (cond t (kept (values_at b (next_of b at))) (came b some at ∷ kept (values_at b (next_of b at))))) ≡ 4 + size_of b at + size_at (next_of b at)
      go true e = absurd (o (out_is b some at e))
      go false e = simp (length-append, length-pair, value_long b some at w)

  size_from : (at n : ℕ) → WellFormed b at n → (k : ℕ) × KeptSize b at k
  size_from at n (end e q) = (0, no_more e refl)
  size_from at n (pair w q r) = go (left_out (id_at b at)) refl (size_from (next_of b at) _ r) where
    go : (t : Bool) → left_out (id_at b at) ≡ t → (k : ℕ) × KeptSize b (next_of b at) k → (k : ℕ) × KeptSize b at k
    go true e x = (x.0, passed_over w (out_is b some at e) x.1)
    go false e x = (4 + size_of b at + x.0, counted {m = x.0} w (in_is b some at e) refl x.1)

pub size_is_there : SizeIsThere
size_is_there s b name mark h = go h.count h.list where
  go : (n : ℕ) → Holds b n → (size : ℕ) × ListSize b name mark size
  go n (empty e q) = (4, of_end e refl)
  go n (listed some w) = by (adds_flags (bits_due b name mark) (values_of b)) refl (size_from b some 0 n w) where
    by : (t : Bool) → adds_flags (bits_due b name mark) (values_of b) ≡ t → (k : ℕ) × KeptSize b 0 k → (size : ℕ) × ListSize b name mark size
    by true e x = (x.0 + 8 + 20 + (4 + length name) + 4, of_flags {k = x.0} some x.1 ((adds_is b name mark).0 e) refl)
    by false e x = (x.0 + 20 + (4 + length name) + 4, of_two {k = x.0} some x.1 (λ f. both_ways (adds_flags (bits_due b name mark) (values_of b)) ((adds_is b name mark).1 f) e) refl)

list_long : (b name bind : List ℕ) (mark : Bool) (size : ℕ) → length bind ≡ 16 → ListSize b name mark size → length (list_for b name mark bind) ≡ size
unfolding list_for
list_long b name bind mark size sixteen (of_end e q) = list_size (bits_due b name mark) b name bind ∙ simp (eq-eqb (length b) 0 e) (sym q)
list_long b name bind mark size sixteen (of_flags {k} some r f q) =
    let m = kept_size b some 0 k r ∙ ap (λ (ps : List Valued). length (pairs_bytes (kept ps))) (values_start b) in
    list_size (bits_due b name mark) b name bind
    ∙ simp (ne_eqb (length b) 0 (λ z. omega arith), (adds_is b name mark).1 f) (omega (arith, m, q, sixteen))
list_long b name bind mark size sixteen (of_two {k} some r f q) =
    let m = kept_size b some 0 k r ∙ ap (λ (ps : List Valued). length (pairs_bytes (kept ps))) (values_start b) in
    let none = go (adds_flags (bits_due b name mark) (values_of b)) refl in
    list_size (bits_due b name mark) b name bind
    ∙ simp (ne_eqb (length b) 0 (λ z. omega arith), none) (omega (arith, m, q, sixteen))
  where
    go : (t : Bool) → adds_flags (bits_due b name mark) (values_of b) ≡ t → adds_flags (bits_due b name mark) (values_of b) ≡ false
    go true e = absurd (f ((adds_is b name mark).0 e))
    go false e = e

-- ---- by what it is refused

module _ (room : ℕ) (name : List ℕ) (size : ℕ) where
  abbrev order : List ℕ
  order = 31 ∷ 30 ∷ 33 ∷ []

  abbrev F : ℕ → ℕ → Type 0
  F = ResponsePairsFail room name size

  abbrev rank : ℕ → ℕ
  rank = rank_in order

  list_rows : Rows order F
  list_rows = rows order F (λ n i z h. simp (z.0, z.1.0, z.1.1.0) at h)

  odd : (length name % 2 ≡ 0 → ⊥) → length name % 2 ≡ 1
  odd d = omega (arith, d)

  list_judged : (m : ℕ) → m ≡ size → JudgedBy rank F 0 (check_list room name m)
  unfolding check_list
  list_judged m e =
      let none = free_at_first order F 31 refl in
      chained (JudgedBy rank F 0) (even_target_name name) (Err (OddNameToWrite 2)) _
      (λ f. first_by rank F 31 2 (skip_by rank F 31 2 none (λ j l x. omega (arith, l, x.0))) (refl, odd (eqb-false (length name % 2) 0 (failed_false _ f))))
      (λ h. size_judged order F size m _ e
      (λ l. (refl, l)) (λ j x. x.1) refl (omega arith)
      (next order F 31 30 refl (omega arith) none (λ j x. omega (arith, x.1, eqb-true (length name % 2) 0 (held_true _ h))))
      (room_judged order F room size m e (λ l. (refl, l)) (λ j x. x.1) refl (omega arith)))

  -- none of its own numbers has a place
  pub no_place : (n i : ℕ) → ResponsePairsFail room name size n i → (10 ≤ n) × (n ≤ 13) → ⊥
  no_place n i h z =
      on_row 31 n _ _ ⊥ (λ e x. omega (arith, z.1, e)) (
      on_row 30 n _ _ ⊥ (λ e x. omega (arith, z.1, e)) (
      on_row 33 n _ _ ⊥ (λ e x. omega (arith, z.1, e)) (λ x. x))) h

pub response_pairs_written : ResponsePairsAreWritten
unfolding write_answer list_answer read_challenge
response_pairs_written room s b name bind mark size sixteen info sized = go (reading_of s) refl (reading.judged s b info) where
  of_list : ChallengeHolds s b → WrittenExactly (answered (check_list room name (length (list_for b name mark bind))) (list_for b name mark bind)) (31 ∷ 30 ∷ 33 ∷ []) (ResponsePairsFail room name size) size
  of_list j =
      let e = list_long b name bind mark size sixteen (sized j) in
      by_verdict (31 ∷ 30 ∷ 33 ∷ []) (ResponsePairsFail room name size) (list_rows room name size) 0 refl
      (check_list room name (length (list_for b name mark bind))) (list_for b name mark bind) size e (list_judged room name size _ e)

  refused_after : ChallengeHolds s b → (e : Refusal) → WrittenExactly (Err e) (31 ∷ 30 ∷ 33 ∷ []) (ResponsePairsFail room name size) size → (n i p : ℕ) →
      RefusalIs e n i p ↔ (ChallengeFails s b n i p ⊎ (ChallengeHolds s b × FirstIn (31 ∷ 30 ∷ 33 ∷ []) (ResponsePairsFail room name size) n i × (p ≡ 0)))
  refused_after j e x n i p =
      let none = placeless_number e (no_place room name size (number_of e) (field_of e) ((x.refused (number_of e) (field_of e)).0 (refl, refl)).fails) in (
        λ t. inr (j, (x.refused n i).0 (t.0, t.1), sym t.2 ∙ none),
        λ z. ⊎_elim (λ f. absurd (holds_or_fails s b n i p j f)) (λ w. let k = (x.refused n i).1 w.1 in (k.0, k.1, none ∙ sym w.2)) z,
      )

  refused_as : ChallengeHolds s b → (a : Result ℕ Refusal) → WrittenExactly a (31 ∷ 30 ∷ 33 ∷ []) (ResponsePairsFail room name size) size → (n i p : ℕ) →
      ListRefusedAt a n i p ↔ (ChallengeFails s b n i p ⊎ (ChallengeHolds s b × FirstIn (31 ∷ 30 ∷ 33 ∷ []) (ResponsePairsFail room name size) n i × (p ≡ 0)))
  refused_as j (Ok m) x n i p = (
    λ t. absurd t,
    λ z. ⊎_elim (λ f. holds_or_fails s b n i p j f) (λ w. (x.refused n i).1 w.1) z,
  )
  refused_as j (Err e) x n i p = refused_after j e x n i p

  after_reading : ChallengeHolds s b → (a : Result ℕ Refusal) → WrittenExactly a (31 ∷ 30 ∷ 33 ∷ []) (ResponsePairsFail room name size) size →
      WrittenFrom a s b (31 ∷ 30 ∷ 33 ∷ []) (ResponsePairsFail room name size) size
  after_reading j a x =
      record {
        refused = λ n i p. refused_as j a x n i p;
        written = λ n. (λ h. let y = (x.written n).0 h in (j, y.0, y.1), λ h. (x.written n).1 (h.1, h.2));
      }

  never : (e : Refusal) (n : ℕ) → ◌≡◌ {A = Result ℕ Refusal} (Err e) (Ok n) → ⊥
  never e n h = let z : ◌≡◌ {A = ℕ} 0 1 = cc in omega arith

  go : (r : Result Challenge Refusal) → reading_of s ≡ r → reading.Judged s b info r →
      WrittenFrom (on_ok Err r (λ c. answered (check_list room name (length (list_for (info_of s c) name mark bind))) (list_for (info_of s c) name mark bind))) s b
      (31 ∷ 30 ∷ 33 ∷ []) (ResponsePairsFail room name size) size
  go (Ok c) e j = rw (info_of_lem s b c info e) (after_reading j _ (of_list j))
  go (Err f) e j =
      record {
        refused = λ n i p. (
          λ t. inl (fails_is (ChallengeFails s b) t j),
          λ z. ⊎_elim (λ w. one_reason s b (number_of f) (field_of f) (place_of f) n i p j w) (λ w. absurd (holds_or_fails s b (number_of f) (field_of f) (place_of f) w.0 j)) z,
        );
        written = λ n. (λ h. absurd (never f n h), λ h. absurd (holds_or_fails s b (number_of f) (field_of f) (place_of f) h.0 j));
      }

-- ---- what it keeps, and what changes nothing

-- what is written has at most 65,535 bytes
pub response_pairs_short : (room : ℕ) (s name : List ℕ) (mark : Bool) (bind : List ℕ) (n : ℕ) → write_answer room s name mark bind ≡ Ok n → n ≤ 65535
unfolding write_answer list_answer
response_pairs_short room s name mark bind n h = go (reading_of s) h where
  by : (v : Result ⊤ Refusal) (l : List ℕ) → (v ≡ Ok tt → length l ≤ 65535) → answered v l ≡ Ok n → n ≤ 65535
  by (Ok tt) l short p = let m : n ≡ length l = cc in rw m (short refl)
  by (Err e) l short p = absurd (let z : ◌≡◌ {A = ℕ} 0 1 = cc in omega arith)

  go : (r : Result Challenge Refusal) → on_ok Err r (λ c. answered (check_list room name (length (list_for (info_of s c) name mark bind))) (list_for (info_of s c) name mark bind)) ≡ Ok n → n ≤ 65535
  go (Ok c) p =
      let l = list_for (info_of s c) name mark bind in
      by (check_list room name (length l)) l (λ y. (sound room name (length l) y).short) p
  go (Err e) p = absurd (let z : ◌≡◌ {A = ℕ} 0 1 = cc in omega arith)

pub response_pairs_kept : ResponsePairsKept
unfolding write_answer write_out list_answer list_out
response_pairs_kept out s name bind mark = go (reading_of s) where
  go : (r : Result Challenge Refusal) →
      Kept (on_ok Err r (λ c. answered (check_list (length out) name (length (list_for (info_of s c) name mark bind))) (list_for (info_of s c) name mark bind))) out
      (on_ok (λ e. out) r (λ c. out_after (check_list (length out) name (length (list_for (info_of s c) name mark bind))) (list_for (info_of s c) name mark bind) out))
  go (Ok c) =
      let L = list_for (info_of s c) name mark bind in
      kept_laws.by_verdict (check_list (length out) name (length L)) L out (λ h. (sound (length out) name (length L) h).fits)
  go (Err e) = kept_laws.by_verdict (Err e) [] out (λ h. absurd (let z : ◌≡◌ {A = ℕ} 0 1 = cc in omega arith))

pub response_pairs_ignored : ResponsePairsIgnored
unfolding write_answer write_out
response_pairs_ignored s t d =
    record {
      answer = λ room name bind mark. made_same s t d Err (λ c l. list_answer room l name mark bind) (λ c l. refl);
      output = λ out name bind mark. made_same s t d (λ e. out) (λ c l. list_out out l name mark bind) (λ c l. refl);
    }
