-- Laws of the searches: what the loop has come to, and what an answer tells of the list and of the pair.
use Rattle.std.specs.Prelude.{Result, Option, Ok, Err, Some, None, ⊤, is_some}
use Prim.Native.Nat.{ℕ, zero, suc, ◌+◌, ◌^◌, ◌≤◌, ◌<◌}
use mathlib.Core.Path.{◌≡◌, refl, sym, ap, ◌∙◌}
use mathlib.Core.Bool.{Bool, true, false, cond}
use mathlib.Core.List.{List, [], ◌∷◌}
use native.Mathlib.Omega.{arith}
use lib.Dec.{eqb}
use lib.ListN.{length}
use mir.Syntax.{w64}
use mir.Val.{Fits}
use borrow.Author.Tests.{eqb-true}
use Rattle.av_id.specs.declared.AvId.{AvId}
use Rattle.wire.specs.declared.refusal.Refusal.{Refusal}
use Rattle.wire.specs.Number.{u64_at}
use Rattle.av_id.specs.AvId.{same_id, is_timestamp, size_allowed}
use Rattle.wire.proofs.Bools.{and_left}
use Rattle.av_pairs.specs.declared.AvPair.{AvPair}
use Rattle.av_pairs.specs.AvPairs.{step_at, end_of, on_step, pair_at, pairs_from, pairs_of, check_pairs}
use Rattle.av_pairs.proofs.Steps.{Gave, gave}
use Rattle.av_pairs.proofs.Walks.{pairs_at, pairs_start, pairs_pair, at_end, ahead_end, ahead_fault, no_pairs, more_pairs, Counted, count_none, count_fits, count_one}
use Rattle.target_info.specs.TargetInfo.{first_by, first_pair, time_of, timestamp_in, time_with, read_list, server_names_in}

-- ---- the loop: what is left decides

pub record Looked (id : AvId) (s : List ℕ) (at : ℕ) : Type 0 where
  pub same : first_pair id s ≡ first_by (same_id id) (pairs_at s at)

pub look : (id : AvId) (s : List ℕ) → Looked id s 0
unfolding first_pair
look id s = record { same = simp (pairs_start s) }

module _ (id : AvId) (s : List ℕ) (at : ℕ) (r : Option AvPair) (w : Looked id s at) (e : r ≡ pair_at s at) where
  pub look_stop : r ≡ None → None ≡ first_pair id s
  look_stop h = sym (w.same ∙ simp (no_pairs s at r e h))

  module _ (p : AvPair) (b : Bool) (h : r ≡ Some p) (q : b ≡ same_id id p.id) where
    pub look_here : b ≡ true → Some p ≡ first_pair id s
    look_here y = sym (w.same ∙ simp (more_pairs s at r e p h, ← q, y))

    pub look_next : b ≡ false → Looked id s (p.at + p.len)
    look_next y = record { same = w.same ∙ simp (more_pairs s at r e p h, ← q, y) }

-- ---- a search

-- the checks that were made are those of the list
pub checks_held : (s : List ℕ) (v : Result ⊤ Refusal) → v ≡ check_pairs s → v ≡ Ok tt → check_pairs s ≡ Ok tt
checks_held s v p h = sym p ∙ h

pub found_is : (id : AvId) (s : List ℕ) (f : Option AvPair) → f ≡ first_pair id s →
    ◌≡◌ {A = Result (Option AvPair) Refusal} (Ok f) (Ok (first_pair id s))
found_is id s f p = rw p

-- ---- what was found

-- a pair that was found stands in the list, and its id is the wanted one
pub record FoundIn (is : AvId → Bool) (s : List ℕ) (p : AvPair) : Type 0 where
  pub place : ℕ
  pub gave : Gave s place p
  pub wanted : is p.id ≡ true

module _ (is : AvId → Bool) (s : List ℕ) (p : AvPair) where
  -- the first of the pairs is the one, or a later one is
  here_or_later : (at : ℕ) (q : AvPair) (b : Bool) (ps : List AvPair) → step_at s at ≡ (Ok (Some q)) → is q.id ≡ b →
      (first_by is ps ≡ Some p → FoundIn is s p) → cond b (Some q) (first_by is ps) ≡ Some p → FoundIn is s p
  here_or_later at q true ps e y later h =
      let same : q ≡ p = cc in
      record { place = at; gave = gave s at (Ok (Some q)) p (sym e) (rw same); wanted = rw same at y }
  here_or_later at q false ps e y later h = later h

  found_from : (k at : ℕ) → first_by is (pairs_from k s at) ≡ Some p → FoundIn is s p
  found_from zero at h = absurd (let z : ◌≡◌ {A = ℕ} 0 1 = cc in omega arith)
  found_from (suc k) at h = go (step_at s at) refl (λ i. found_from k i) h where
    go : (r : Result (Option AvPair) Refusal) → step_at s at ≡ r → ((i : ℕ) → first_by is (pairs_from k s i) ≡ Some p → FoundIn is s p) →
        first_by is (on_step r (λ q. q ∷ pairs_from k s (end_of q)) (λ v. [])) ≡ Some p → FoundIn is s p
    go (Ok (Some q)) e later h = here_or_later at q (is q.id) (pairs_from k s (end_of q)) e refl (later (end_of q)) h
    go (Ok None) e later h = absurd (let z : ◌≡◌ {A = ℕ} 0 1 = cc in omega arith)
    go (Err f) e later h = absurd (let z : ◌≡◌ {A = ℕ} 0 1 = cc in omega arith)

pub found_in : (is : AvId → Bool) (s : List ℕ) (p : AvPair) → first_by is (pairs_of s) ≡ Some p → FoundIn is s p
unfolding pairs_of
found_in is s p h = found_from is s p (suc (length s)) 0 h

-- a timestamp has eight bytes
eight : (a : AvId) (n : ℕ) → is_timestamp a ≡ true → size_allowed a n ≡ true → n ≡ 8
eight a n t h = let i : a.id ≡ 7 = eqb-true a.id 7 t in eqb-true n 8 (and_left (eqb n 8) true (rw i at h))

-- ---- the timestamp with one more pair

module _ (l : List ℕ) (time : Option ℕ) (p : AvPair) where
  pub time_stays : (t : ℕ) → time ≡ Some t → time ≡ time_with time l p
  time_stays t h = h ∙ simp h

  module _ (h : time ≡ None) (b : Bool) (q : b ≡ is_timestamp p.id) where
    pub time_here : (t : ℕ) → b ≡ true → t ≡ u64_at l p.at → Some t ≡ time_with time l p
    time_here t y z = simp (h, ← q, y, z)

    pub time_not_here : b ≡ false → time ≡ time_with time l p
    time_not_here y = h ∙ simp (h, ← q, y)

pub time_wanted : (n : ℕ) (p : AvPair) (b : Bool) → (is_timestamp p.id ≡ true → p.at + 8 ≤ n) → b ≡ is_timestamp p.id → b ≡ true → p.at + 8 ≤ n
time_wanted n p b w q y = w (sym q ∙ y)

-- ---- a list read: what was seen and what is left

-- the timestamp that was seen, or else that of what is left
abbrev or_left : Option ℕ → Option ℕ → Option ℕ
or_left (Some t) u = Some t
or_left None u = u

or-none : (time : Option ℕ) → or_left time None ≡ time
or-none (Some t) = refl
or-none None = refl

pub record Read (s : List ℕ) (at n : ℕ) (time : Option ℕ) : Type 0 where
  pub counted : Counted s at n
  pub timed : timestamp_in s ≡ or_left time (time_of s (first_by is_timestamp (pairs_at s at)))

pub read_none : (s : List ℕ) → Read s 0 0 None
unfolding timestamp_in
read_none s = record { counted = count_none s; timed = simp (pairs_start s) }

module _ (s : List ℕ) (at n : ℕ) (time : Option ℕ) (w : Read s at n time) (r : Result (Option AvPair) Refusal) (e : r ≡ step_at s at) where
  module _ (p : AvPair) (h : r ≡ (Ok (Some p))) where
    pub read_fits : length s < 2 ^ 64 → Fits w64 (n + 1)
    read_fits f = count_fits s at n w.counted r e p h f

    pub time_inside : is_timestamp p.id ≡ true → p.at + 8 ≤ length s
    time_inside y = let g = gave s at r p e h in omega (arith, g.inside, eight p.id p.len y g.size)

    -- one pair on
    timed_on : (u : Option ℕ) (is : Bool) (f : Option AvPair) →
        or_left u (time_of s (cond is (Some p) f)) ≡ or_left (or_left u (cond is (Some (u64_at s p.at)) None)) (time_of s f)
    timed_on (Some t) is f = refl
    timed_on None true f = refl
    timed_on None false f = refl

    with_is : (u : Option ℕ) → time_with u s p ≡ or_left u (cond (is_timestamp p.id) (Some (u64_at s p.at)) None)
    with_is (Some t) = refl
    with_is None = refl

    pub read_one : (u : Option ℕ) → u ≡ time_with time s p → Read s (p.at + p.len) (n + 1) u
    read_one u q =
        record {
          counted = count_one s at n w.counted r e p h;
          timed =
              w.timed
              ∙ ap (λ (ps : List AvPair). or_left time (time_of s (first_by is_timestamp ps))) (pairs_pair s at r e p h)
              ∙ timed_on time (is_timestamp p.id) (first_by is_timestamp (pairs_at s (end_of p)))
              ∙ ap (λ (x : Option ℕ). or_left x (time_of s (first_by is_timestamp (pairs_at s (end_of p))))) (sym (q ∙ with_is time));
        }

  pub read_end : r ≡ Ok None → Ok (record { pairs = n; timestamp = time }) ≡ read_list s
  unfolding read_list
  read_end h =
      let a = at_end s at r e h in
      let m : n ≡ length (pairs_of s) = omega (arith, w.counted.count, ap length a.0) in
      let t : timestamp_in s ≡ time = w.timed ∙ ap (λ (ps : List AvPair). or_left time (time_of s (first_by is_timestamp ps))) a.0 ∙ or-none time in
      simp (← ahead_end s at w.counted.verdict r e h, m, t)

  pub read_fault : (f : Refusal) → r ≡ Err f → Err f ≡ read_list s
  unfolding read_list
  read_fault f h = simp (← ahead_fault s at w.counted.verdict r e f h)

-- the two searches for names
pub names_are : (l : List ℕ) (f g : Option AvPair) (a b : Bool) →
    f ≡ first_pair (record { id = 1 }) l → g ≡ first_pair (record { id = 2 }) l → a ≡ is_some f → b ≡ is_some g →
    record { nb_computer_name = a; nb_domain_name = b } ≡ server_names_in l
unfolding server_names_in first_pair
names_are l f g a b e h p q = simp (p, q, e, h)
