-- The pair list that goes back: its bytes against those of the list that came in.
use Rattle.std.specs.Prelude.{Result, Option, Ok, Err, Some, None, is_some}
use Rattle.wire.specs.declared.refusal.Refusal.{Refusal}
use Prim.Native.Nat.{ℕ, zero, suc, ◌+◌, ◌/◌, ◌%◌, ◌^◌, ◌<◌}
use mathlib.Core.Path.{◌≡◌, refl, sym, ap, ◌∙◌, subst}
use mathlib.Core.Bool.{Bool, true, false, ◌||◌, ◌&&◌, not, cond}
use mathlib.Core.Logic.{◌⊎◌, inl, inr, ⊎_elim, ◌↔◌}
use mathlib.Core.List.{List, [], ◌∷◌, ◌++◌, append-nil, append_assoc}
use native.Mathlib.Omega.{arith}
use borrow.Author.Tests.{eqb-true, eqb-false, eq-eqb}
use lib.Bits.{bit_or, or_zero_l, or_zero_r, or_shr, or_mod}
use lib.Dec.{eqb}
use lib.ListN.{length, take, drop, length-append, length-take, length-drop}
use Rattle.av_id.specs.declared.AvId.{AvId}
use Rattle.av_id.specs.AvId.{is_end, is_flags, is_timestamp, size_allowed}
use Rattle.av_pairs.specs.declared.AvPair.{AvPair}
use Rattle.av_pairs.specs.AvPairs.{id_at, step_at, end_of, pairs_of, Valued, value_in, with_values, values_of}
use Rattle.av_pairs.proofs.Walks as walks
use Rattle.av_pairs.proofs.Walks.{pairs_at, values_at, pairs_pair}
use Rattle.place.specs.Place.{le32}
use Rattle.place.proofs.Numbers.{length-le32, back32}
use Rattle.write_response_pairs.specs.ResponsePairs.{pair_with, has_pair, is_none, left_out, kept, due_bits, bits_due, flags_set, with_bits, adds_flags, added_pairs, pair_bytes, pairs_bytes, list_bytes}
use Rattle.write_response_pairs.proofs.Fits.{fit_pair, length-pair}
use Rattle.write_response_pairs.proofs.Standing.{id_there, size_there, value_there, long}
use Rattle.target_info.specs.TargetInfo.{first_by}
use Rattle.wire.specs.Number.{u32_at, has}
use Rattle.wire.specs.Refusal.{number_of}
use Rattle.wire.proofs.Bools.{and_left, and_right, and_both}
use Rattle.demands.specs.Message.{FlagSet}
use Rattle.demands.specs.PairList.{id_of, size_of, next_of, SizeAllowed, PairAt, EndAt, WellFormed, end, pair, FirstWith, this, next, PairThere}
use Rattle.demands.specs.ResponsePairs.{pair_value, bits_of, TakenOut, Unverified, BitsBack, FlagsAdded, ValueAt, LastTwo, Added, with_flags, without_flags, GoesBack, taken_out, first_flags, same, at_end}
use Rattle.demands.proofs.Bools.{true_not_false, both_ways, or_left, or_right, or-either}
use Rattle.demands.proofs.OwnBytes.ChallengeOwn.{asks, there_is}
use Rattle.demands.proofs.OwnBytes.Found.{id_of_lem}
use Rattle.demands.proofs.PairList.{size_is, is_size, JudgedS, step_judged, pair_or_end, pair_or_fault, end_or_fault, one_place}

-- ---- whether a pair is there

has_first : (s : List ℕ) (is : AvId → Bool) (ps : List AvPair) → is_some (first_by is ps) ≡ has_pair is (with_values s ps)
has_first s is [] = refl
has_first s is (p ∷ ps) = go (is p.id) (has_first s is ps) where
  go : (b : Bool) → is_some (first_by is ps) ≡ has_pair is (with_values s ps) → is_some (cond b (Some p) (first_by is ps)) ≡ b || has_pair is (with_values s ps)
  go true ih = refl
  go false ih = ih

has_there : (b : List ℕ) (k : ℕ) (is : AvId → Bool) (q : (a : AvId) → (is a ≡ true) ↔ (a.id ≡ k)) → (has_pair is (values_of b) ≡ true) ↔ PairThere b k
unfolding values_of
has_there b k is q =
    let t = there_is b k is q in
    (λ h. t.0 (has_first b is (pairs_of b) ∙ h), λ h. sym (has_first b is (pairs_of b)) ∙ t.1 h)

-- ---- the bits

one_of : (a b : ℕ) → a < 2 → b < 2 → eqb (bit_or a b) 1 ≡ eqb a 1 || eqb b 1
one_of zero zero h g = refl
one_of zero (suc zero) h g = refl
one_of (suc zero) zero h g = refl
one_of (suc zero) (suc zero) h g = refl
one_of (suc (suc a)) b h g = absurd (omega arith)
one_of zero (suc (suc b)) h g = absurd (omega arith)
one_of (suc zero) (suc (suc b)) h g = absurd (omega arith)

-- a bit of two numbers with all their bits
has_or : (a b k : ℕ) → has (bit_or a b) (2 ^ k) ≡ has a (2 ^ k) || has b (2 ^ k)
has_or a b k =
    let e : bit_or a b / 2 ^ k % 2 ≡ bit_or (a / 2 ^ k % 2) (b / 2 ^ k % 2) =
    ap (λ (x : ℕ). x % 2) (or_shr a b k) ∙ or_mod (a / 2 ^ k) (b / 2 ^ k) 1 in
    ap (λ (x : ℕ). eqb x 1) e ∙ one_of (a / 2 ^ k % 2) (b / 2 ^ k % 2) (omega arith) (omega arith)

or-second : (a b : Bool) → b ≡ true → (a || b) ≡ true
or-second true b h = refl
or-second false b h = h

or-first : (a b : Bool) → a ≡ true → (a || b) ≡ true
or-first a b h = rw h

set-bit : (came c k : ℕ) (x : Bool) (P : Type 0) → has c (2 ^ k) ≡ x → (x ≡ true) ↔ P → FlagSet (bit_or came c) (2 ^ k) ↔ (FlagSet came (2 ^ k) ⊎ P)
set-bit came c k x P e q = (
  λ h. ⊎_elim (λ y. inl (eqb-true (came / 2 ^ k % 2) 1 y)) (λ y. inr (q.0 (sym e ∙ y)))
      (or-either (has came (2 ^ k)) (has c (2 ^ k)) (sym (has_or came c k) ∙ eq-eqb (bit_or came c / 2 ^ k % 2) 1 h)),
  λ z. eqb-true (bit_or came c / 2 ^ k % 2) 1
      (has_or came c k
      ∙ ⊎_elim (λ y. or-first (has came (2 ^ k)) (has c (2 ^ k)) (eq-eqb (came / 2 ^ k % 2) 1 y)) (λ p. or-second (has came (2 ^ k)) (has c (2 ^ k)) (e ∙ q.1 p)) z),
)

module _ (b name : List ℕ) (mark : Bool) where
  abbrev timestamp : Bool
  timestamp = has_pair is_timestamp (values_of b)

  abbrev unverified : Bool
  unverified = mark && not (is_none name)

  timestamp_there : (timestamp ≡ true) ↔ PairThere b 7
  timestamp_there = has_there b 7 is_timestamp (asks 7)

  unverified_is : (unverified ≡ true) ↔ Unverified name mark
  unverified_is = go mark (is_none name) refl refl where
    some : (length name ≡ 0 → ⊥) → 0 < length name
    some h = omega (arith, h)

    go : (m z : Bool) → mark ≡ m → is_none name ≡ z → ((m && not z) ≡ true) ↔ Unverified name mark
    go true true p q = (λ h. absurd (true_not_false (sym h)), λ w. absurd (omega (arith, w.1, eqb-true (length name) 0 q)))
    go true false p q = (λ h. (p, some (eqb-false (length name) 0 q)), λ w. refl)
    go false z p q = (λ h. absurd (true_not_false (sym h)), λ w. absurd (both_ways mark w.0 p))

  pub bits_back : (came : ℕ) → BitsBack b name mark came (bit_or came (bits_due b name mark))
  unfolding bits_due due_bits
  bits_back came = go timestamp unverified timestamp_there unverified_is where
    made : (c : ℕ) (x y : Bool) → has c 0x2 ≡ x → has c 0x4 ≡ y → c % 2 ≡ 0 → c / 8 ≡ 0 →
        (x ≡ true) ↔ PairThere b 7 → (y ≡ true) ↔ Unverified name mark → BitsBack b name mark came (bit_or came c)
    made c x y p q low high t u =
        record {
          timestamp_bit = set-bit came c 1 x (PairThere b 7) p t;
          unverified_bit = set-bit came c 2 y (Unverified name mark) q u;
          bit_below = or_mod came c 1 ∙ ap (λ (z : ℕ). bit_or (came % 2) z) low ∙ or_zero_r (came % 2);
          bits_above = or_shr came c 3 ∙ ap (λ (z : ℕ). bit_or (came / 8) z) high ∙ or_zero_r (came / 8);
        }

    go : (x y : Bool) → (x ≡ true) ↔ PairThere b 7 → (y ≡ true) ↔ Unverified name mark → BitsBack b name mark came (bit_or came (cond x 0x2 0 + cond y 0x4 0))
    go true true t u = made 6 true true refl refl refl refl t u
    go true false t u = made 2 true false refl refl refl refl t u
    go false true t u = made 4 false true refl refl refl refl t u
    go false false t u = made 0 false false refl refl refl refl t u

  due_is : (eqb (bits_due b name mark) 0 ≡ false) ↔ (PairThere b 7 ⊎ Unverified name mark)
  unfolding bits_due due_bits
  due_is = go timestamp unverified timestamp_there unverified_is where
    go : (x y : Bool) → (x ≡ true) ↔ PairThere b 7 → (y ≡ true) ↔ Unverified name mark →
        (eqb (cond x 0x2 0 + cond y 0x4 0) 0 ≡ false) ↔ (PairThere b 7 ⊎ Unverified name mark)
    go true true t u = (λ h. inl (t.0 refl), λ w. refl)
    go true false t u = (λ h. inl (t.0 refl), λ w. refl)
    go false true t u = (λ h. inr (u.0 refl), λ w. refl)
    go false false t u = (λ h. absurd (true_not_false h), λ w. absurd (true_not_false (sym (⊎_elim (λ p. t.1 p) (λ p. u.1 p) w))))

  pub adds_is : (adds_flags (bits_due b name mark) (values_of b) ≡ true) ↔ FlagsAdded b name mark
  adds_is = go (eqb (bits_due b name mark) 0) (has_pair is_flags (values_of b)) refl refl where
    flags_there : (has_pair is_flags (values_of b) ≡ true) ↔ PairThere b 6
    flags_there = has_there b 6 is_flags (asks 6)

    go : (z f : Bool) → eqb (bits_due b name mark) 0 ≡ z → has_pair is_flags (values_of b) ≡ f → ((not z && not f) ≡ true) ↔ FlagsAdded b name mark
    go true f p q = (λ h. absurd (true_not_false (sym h)), λ w. absurd (both_ways (eqb (bits_due b name mark) 0) p (due_is.1 w.0)))
    go false true p q = (λ h. absurd (true_not_false (sym h)), λ w. absurd (w.1 (flags_there.0 q)))
    go false false p q = (λ h. (due_is.0 p, λ t. both_ways (has_pair is_flags (values_of b)) (flags_there.1 t) q), λ w. refl)

-- ---- the pairs that came in

module _ (b : List ℕ) (some : 0 < length b) (at : ℕ) where
  abbrev pub came : Valued
  came = (id_at b at, pair_value b at)

  pub values_pair : PairAt b at → values_at b at ≡ came ∷ values_at b (next_of b at)
  unfolding values_at
  values_pair w = go (step_at b at) refl (step_judged b at some) where
    go : (x : Result (Option AvPair) Refusal) → step_at b at ≡ x → JudgedS b at x → with_values b (pairs_at b at) ≡ came ∷ with_values b (pairs_at b (next_of b at))
    go (Ok (Some p)) e j =
        ap (λ (ps : List AvPair). with_values b ps) (pairs_pair b at (Ok (Some p)) (sym e) p refl)
        ∙ ap (λ (q : AvPair). (q.id, value_in b q) ∷ with_values b (pairs_at b (end_of q))) j.1
    go (Ok None) e j = absurd (pair_or_end b at w j)
    go (Err f) e j = absurd (pair_or_fault b at (number_of f) w j.0)

  pub values_end : EndAt b at → values_at b at ≡ []
  unfolding values_at
  values_end w = go (step_at b at) refl (step_judged b at some) where
    go : (x : Result (Option AvPair) Refusal) → step_at b at ≡ x → JudgedS b at x → with_values b (pairs_at b at) ≡ []
    go (Ok (Some p)) e j = absurd (pair_or_end b at j.0 w)
    go (Ok None) e j = ap (λ (ps : List AvPair). with_values b ps) (walks.at_end b at (Ok None) (sym e) refl).0
    go (Err f) e j = absurd (end_or_fault b at (number_of f) w j.0)

  pub value_long : PairAt b at → length (pair_value b at) ≡ size_of b at
  value_long w = simp (length-take, length-drop) (omega (arith, w.whole))

  came_fits : PairAt b at → fit_pair came ≡ true
  came_fits w =
      and_both (not (is_end (id_at b at))) (size_allowed (id_at b at) (length (pair_value b at)))
      (go (is_end (id_at b at)) refl) (rw (value_long w) (is_size (id_at b at) (size_of b at) w.size))
    where
      go : (t : Bool) → is_end (id_at b at) ≡ t → not t ≡ true
      go true e = absurd (w.not_end (eqb-true (id_of b at) 0 e))
      go false e = refl

  pub out_is : left_out (id_at b at) ≡ true → TakenOut b at
  out_is h = ⊎_elim (λ e. inl (eqb-true (id_of b at) 9 e)) (λ e. inr (eqb-true (id_of b at) 10 e)) (or-either (eqb (id_of b at) 9) (eqb (id_of b at) 10) h)

  pub in_is : left_out (id_at b at) ≡ false → TakenOut b at → ⊥
  in_is h w =
      ⊎_elim (λ e. eqb-false (id_of b at) 9 (or_left (eqb (id_of b at) 9) (eqb (id_of b at) 10) h) e)
      (λ e. eqb-false (id_of b at) 10 (or_right (eqb (id_of b at) 9) (eqb (id_of b at) 10) h) e) w

-- ---- the pairs that were written

module _ (l pre rest : List ℕ) (p : Valued) (e : l ≡ pre ++ (pair_bytes p ++ rest)) where
  pub next_place : next_of l (length pre) ≡ length (pre ++ pair_bytes p)
  next_place = omega (arith, size_there l pre rest p e, length-pair p, length-append pre (pair_bytes p))

  pub stands : fit_pair p ≡ true → ValueAt l (length pre) p.0.id p.1
  stands h =
      let i = id_there l pre rest p e in
      let n = size_there l pre rest p e in
      record {
        there = record {
          whole = omega (arith, n, long l pre rest p e);
          not_end = λ z. both_ways (is_end p.0) (eq-eqb p.0.id 0 (sym i ∙ z)) (not_is (is_end p.0) (and_left (not (is_end p.0)) (size_allowed p.0 (length p.1)) h));
          size = subst (λ (k : ℕ). SizeAllowed k (size_of l (length pre))) (sym i)
              (subst (λ (k : ℕ). SizeAllowed p.0.id k) (sym n)
              (size_is p.0 (length p.1) (and_right (not (is_end p.0)) (size_allowed p.0 (length p.1)) h)));
        };
        id_same = i;
        value_same = ap (λ (k : ℕ). take k (drop (length pre + 4) l)) n ∙ value_there l pre rest p e;
      }
    where
      not_is : (t : Bool) → not t ≡ true → t ≡ false
      not_is true q = sym q
      not_is false q = refl

end_stands : (l pre : List ℕ) → l ≡ pre ++ pair_bytes (pair_with 0 []) → EndAt l (length pre)
end_stands l pre e =
    let f : l ≡ pre ++ (pair_bytes (pair_with 0 []) ++ []) = e ∙ simp append-nil in
    record {
      id = id_there l pre [] (pair_with 0 []) f;
      size = size_there l pre [] (pair_with 0 []) f;
      last = omega (arith, long l pre [] (pair_with 0 []) f);
    }

back_number : (v : ℕ) → u32_at (le32 v) 0 ≡ v
back_number v = ap (λ (l : List ℕ). u32_at l 0) (sym (append-nil (le32 v))) ∙ back32 [] [] v 0 refl

flags_fit : (bits : ℕ) → fit_pair (pair_with 6 (le32 bits)) ≡ true
flags_fit bits = simp length-le32

-- ---- the whole

module _ (b l name bind : List ℕ) (mark : Bool) (some : 0 < length b) (even : length name % 2 ≡ 0) (sixteen : length bind ≡ 16) where
  abbrev bits : ℕ
  bits = bits_due b name mark

  abbrev Back : ℕ → ℕ → Type 0
  Back = GoesBack b l name mark bind

  last_two : (pre : List ℕ) → l ≡ pre ++ (pair_bytes (pair_with 10 bind) ++ (pair_bytes (pair_with 9 name) ++ pair_bytes (pair_with 0 []))) → LastTwo l name bind (length pre)
  last_two pre e =
      let f : l ≡ (pre ++ pair_bytes (pair_with 10 bind)) ++ (pair_bytes (pair_with 9 name) ++ pair_bytes (pair_with 0 [])) = e ∙ simp append_assoc in
      let g : l ≡ ((pre ++ pair_bytes (pair_with 10 bind)) ++ pair_bytes (pair_with 9 name)) ++ pair_bytes (pair_with 0 []) = f ∙ simp append_assoc in
      let a = next_place l pre _ (pair_with 10 bind) e in
      let c = next_place l (pre ++ pair_bytes (pair_with 10 bind)) _ (pair_with 9 name) f in
      record {
        ten = stands l pre _ (pair_with 10 bind) e (simp sixteen);
        nine = rw a (stands l (pre ++ pair_bytes (pair_with 10 bind)) _ (pair_with 9 name) f (simp even));
        end_pair = rw (a, c) (end_stands l ((pre ++ pair_bytes (pair_with 10 bind)) ++ pair_bytes (pair_with 9 name)) g);
      }

  abbrev tail : List ℕ
  tail = list_bytes (added_pairs (adds_flags bits (values_of b)) bits name bind)

  added : (pre : List ℕ) → l ≡ pre ++ tail → Added b l name mark bind (length pre)
  unfolding list_bytes added_pairs
  added pre e = go (adds_flags bits (values_of b)) refl e where
    go : (t : Bool) → adds_flags bits (values_of b) ≡ t →
        l ≡ pre ++ (pairs_bytes (cond t (pair_with 6 (le32 bits) ∷ []) [] ++ (pair_with 10 bind ∷ pair_with 9 name ∷ [])) ++ pair_bytes (pair_with 0 [])) →
        Added b l name mark bind (length pre)
    go true y f =
        let g : l ≡ pre ++ (pair_bytes (pair_with 6 (le32 bits)) ++ (pair_bytes (pair_with 10 bind) ++ (pair_bytes (pair_with 9 name) ++ pair_bytes (pair_with 0 [])))) = f ∙ simp (append_assoc, append-nil) in
        let h : l ≡ (pre ++ pair_bytes (pair_with 6 (le32 bits))) ++ (pair_bytes (pair_with 10 bind) ++ (pair_bytes (pair_with 9 name) ++ pair_bytes (pair_with 0 []))) = g ∙ simp append_assoc in
        let v = stands l pre _ (pair_with 6 (le32 bits)) g (flags_fit bits) in
        with_flags ((adds_is b name mark).0 y)
        (record {
          there = v.there;
          id_same = v.id_same;
          bits = subst (BitsBack b name mark 0) (or_zero_l bits ∙ sym (ap (λ (x : List ℕ). u32_at x 0) v.value_same ∙ back_number bits)) (bits_back b name mark 0);
        })
        (rw (next_place l pre _ (pair_with 6 (le32 bits)) g) (last_two (pre ++ pair_bytes (pair_with 6 (le32 bits))) h))
    go false y f =
        without_flags (λ w. both_ways (adds_flags bits (values_of b)) ((adds_is b name mark).1 w) y) (last_two pre (f ∙ simp (append_assoc, append-nil)))

  -- one more pair
  module _ (at : ℕ) (w : PairAt b at) (pre : List ℕ) where
    abbrev vs : List Valued
    vs = values_at b (next_of b at)

    abbrev v : Valued
    v = came b some at

    past : (q : Valued) (more : List Valued) → l ≡ pre ++ (pairs_bytes (q ∷ more) ++ tail) → l ≡ (pre ++ pair_bytes q) ++ (pairs_bytes more ++ tail)
    past q more h = h ∙ simp append_assoc

    here : (q : Valued) (more : List Valued) → l ≡ pre ++ (pairs_bytes (q ∷ more) ++ tail) → l ≡ pre ++ (pair_bytes q ++ (pairs_bytes more ++ tail))
    here q more h = h ∙ simp append_assoc

    as_it_came : (more : List Valued) → (TakenOut b at → ⊥) → (FirstWith b 6 at 0 → ⊥) → l ≡ pre ++ (pairs_bytes (v ∷ more) ++ tail) →
        (l ≡ (pre ++ pair_bytes v) ++ (pairs_bytes more ++ tail) → Back (next_of b at) (length (pre ++ pair_bytes v))) → Back at (length pre)
    as_it_came more kept_in not_first h later =
        same w kept_in not_first (stands l pre _ v (here v more h) (came_fits b some at w))
        (rw (next_place l pre _ v (here v more h)) (later (past v more h)))

  -- behind the first flags pair
  after : (at n : ℕ) → WellFormed b at n → (pre : List ℕ) (f : ℕ) → FirstWith b 6 f 0 → f < at →
      l ≡ pre ++ (pairs_bytes (kept (values_at b at)) ++ tail) → Back at (length pre)
  after at n (end e q) pre f first less h =
      at_end e (added pre (h ∙ ap (λ (ps : List Valued). pre ++ (pairs_bytes (kept ps) ++ tail)) (values_end b some at e)))
  after at n (pair w q rest) pre f first less h = go (left_out (id_at b at)) refl (λ p g. after (next_of b at) _ rest p f first (omega (arith, less)) g) where
    all : l ≡ pre ++ (pairs_bytes (kept (v at w pre ∷ vs at w pre)) ++ tail)
    all = h ∙ ap (λ (ps : List Valued). pre ++ (pairs_bytes (kept ps) ++ tail)) (values_pair b some at w)

    go : (t : Bool) → left_out (id_at b at) ≡ t → ((p : List ℕ) → l ≡ p ++ (pairs_bytes (kept (vs at w pre)) ++ tail) → Back (next_of b at) (length p)) → Back at (length pre)
    go true y later = taken_out w (out_is b some at y) (later pre (all ∙ simp y))
    go false y later =
        as_it_came at w pre (kept (vs at w pre)) (in_is b some at y) (λ g. absurd (omega (arith, less, one_place b 6 f at 0 first g)))
        (all ∙ simp y) (later (pre ++ pair_bytes (v at w pre)))

  none_set : (c : ℕ) → with_bits c [] ≡ []
  none_set c = go (eqb c 0) where
    go : (t : Bool) → cond t [] (flags_set c []) ≡ []
    go true = refl
    go false = refl

  -- up to it
  before : (at n : ℕ) → WellFormed b at n → (pre : List ℕ) → ((f : ℕ) → FirstWith b 6 f 0 ↔ FirstWith b 6 f at) →
      l ≡ pre ++ (pairs_bytes (with_bits bits (kept (values_at b at))) ++ tail) → Back at (length pre)
  before at n (end e q) pre none h =
      at_end e (added pre
      (h ∙ ap (λ (ps : List Valued). pre ++ (pairs_bytes (with_bits bits (kept ps)) ++ tail)) (values_end b some at e)
      ∙ ap (λ (ps : List Valued). pre ++ (pairs_bytes ps ++ tail)) (none_set bits)))
  before at n (pair w q rest) pre none h =
      go (left_out (id_at b at)) (is_flags (id_at b at)) refl refl
      (λ p other g. before (next_of b at) _ rest p (λ f. (λ x. onward other f ((none f).0 x), λ x. (none f).1 (next w other x))) g)
      (λ p first g. after (next_of b at) _ rest p at first (omega arith) g)
    where
      onward : (id_of b at ≡ 6 → ⊥) → (f : ℕ) → FirstWith b 6 f at → FirstWith b 6 f (next_of b at)
      onward other f (this e p i) = absurd (other i)
      onward other f (next p i g) = g

      all : l ≡ pre ++ (pairs_bytes (with_bits bits (kept (v at w pre ∷ vs at w pre))) ++ tail)
      all = h ∙ ap (λ (ps : List Valued). pre ++ (pairs_bytes (with_bits bits (kept ps)) ++ tail)) (values_pair b some at w)

      parts : (ps : List Valued) → with_bits bits (kept (v at w pre ∷ vs at w pre)) ≡ ps → l ≡ pre ++ (pairs_bytes ps ++ tail)
      parts ps e = all ∙ ap (λ (x : List Valued). pre ++ (pairs_bytes x ++ tail)) e

      same_part : left_out (id_at b at) ≡ false → is_flags (id_at b at) ≡ false → with_bits bits (kept (v at w pre ∷ vs at w pre)) ≡ v at w pre ∷ with_bits bits (kept (vs at w pre))
      same_part y z = pick (eqb bits 0) where
        pick : (t : Bool) → cond t (kept (v at w pre ∷ vs at w pre)) (flags_set bits (kept (v at w pre ∷ vs at w pre))) ≡ v at w pre ∷ cond t (kept (vs at w pre)) (flags_set bits (kept (vs at w pre)))
        pick true = simp y
        pick false = simp (y, z)

      -- the first flags pair, with its bits
      flags_part : left_out (id_at b at) ≡ false → is_flags (id_at b at) ≡ true →
          (p : Valued) × (with_bits bits (kept (v at w pre ∷ vs at w pre)) ≡ p ∷ kept (vs at w pre)) × (p.0.id ≡ 6)
          × (u32_at p.1 0 ≡ bit_or (bits_of b at) bits) × (fit_pair p ≡ true)
      flags_part y z = pick (eqb bits 0) refl where
        pick : (t : Bool) → eqb bits 0 ≡ t →
            (p : Valued) × (cond t (kept (v at w pre ∷ vs at w pre)) (flags_set bits (kept (v at w pre ∷ vs at w pre))) ≡ p ∷ kept (vs at w pre)) × (p.0.id ≡ 6)
            × (u32_at p.1 0 ≡ bit_or (bits_of b at) bits) × (fit_pair p ≡ true)
        pick true e = (
          v at w pre,
          simp y,
          eqb-true (id_of b at) 6 z,
          sym (ap (λ (c : ℕ). bit_or (bits_of b at) c) (eqb-true bits 0 e) ∙ or_zero_r (bits_of b at)),
          came_fits b some at w,
        )
        pick false e = (
          pair_with 6 (le32 (bit_or (bits_of b at) bits)),
          simp (y, z),
          refl,
          back_number (bit_or (bits_of b at) bits),
          flags_fit (bit_or (bits_of b at) bits),
        )

      go : (t f : Bool) → left_out (id_at b at) ≡ t → is_flags (id_at b at) ≡ f →
          ((p : List ℕ) → (id_of b at ≡ 6 → ⊥) → l ≡ p ++ (pairs_bytes (with_bits bits (kept (vs at w pre))) ++ tail) → Back (next_of b at) (length p)) →
          ((p : List ℕ) → FirstWith b 6 at 0 → l ≡ p ++ (pairs_bytes (kept (vs at w pre)) ++ tail) → Back (next_of b at) (length p)) → Back at (length pre)
      go true f y z later behind =
          let o = out_is b some at y in
          taken_out w o (later pre (λ i. ⊎_elim (λ e. omega (arith, i, e)) (λ e. omega (arith, i, e)) o) (all ∙ simp y))
      go false true y z later behind =
          let x = flags_part y z in
          let first = (none at).1 (this refl w (eqb-true (id_of b at) 6 z)) in
          let e = parts (x.0 ∷ kept (vs at w pre)) x.1 in
          let u = stands l pre _ x.0 (here at w pre x.0 (kept (vs at w pre)) e) x.4 in
          first_flags w first
          (record {
            there = u.there;
            id_same = u.id_same ∙ x.2;
            bits = subst (BitsBack b name mark (bits_of b at)) (sym (ap (λ (k : List ℕ). u32_at k 0) u.value_same ∙ x.3)) (bits_back b name mark (bits_of b at));
          })
          (rw (next_place l pre _ x.0 (here at w pre x.0 (kept (vs at w pre)) e)) (behind (pre ++ pair_bytes x.0) first (past at w pre x.0 (kept (vs at w pre)) e)))
      go false false y z later behind =
          let other = eqb-false (id_of b at) 6 z in
          as_it_came at w pre (with_bits bits (kept (vs at w pre))) (in_is b some at y) (λ g. other (id_of_lem b 6 at at ((none at).0 g)))
          (parts (v at w pre ∷ with_bits bits (kept (vs at w pre))) (same_part y z)) (later (pre ++ pair_bytes (v at w pre)) other)

  pub goes_back : (n : ℕ) → WellFormed b 0 n → l ≡ pairs_bytes (with_bits bits (kept (values_of b))) ++ tail → Back 0 0
  goes_back n w h =
      before 0 n w [] (λ f. (λ x. x, λ x. x)) (h ∙ ap (λ (ps : List Valued). pairs_bytes (with_bits bits (kept ps)) ++ tail) (sym (walks.values_start b)))
