-- A pair that is handed out is the first with its id.
use Rattle.std.specs.Prelude.{Result, Option, Ok, Err, Some, None, ⊤}
use Rattle.av_pairs.specs.declared.AvPair.{AvPair}
use Rattle.wire.specs.declared.refusal.Refusal.{Refusal}
use Prim.Native.Nat.{ℕ, zero, suc, ◌+◌, ◌-◌, ◌<◌}
use mathlib.Core.Path.{◌≡◌, refl, subst}
use mathlib.Core.Logic.{◌↔◌}
use mathlib.Core.Bool.{Bool, true, false, cond}
use mathlib.Core.List.{List, [], ◌∷◌}
use native.Mathlib.Omega.{arith}
use lib.ListN.{length}
use borrow.Author.Tests.{eqb-true, eq-eqb}
use Rattle.av_id.specs.declared.AvId.{AvId}
use Rattle.av_id.specs.AvId.{same_id}
use Rattle.wire.specs.Check.{on_clear}
use Rattle.wire.specs.Refusal.{number_of}
use Rattle.av_pairs.specs.AvPairs.{id_at, step_at, end_of, on_step, pairs_from, pairs_of, check_pairs}
use Rattle.target_info.specs.TargetInfo.{first_by, first_pair, find_pair}
use Rattle.demands.specs.PairList.{id_of, size_of, next_of, PairAt, FirstWith, this, next}
use Rattle.demands.specs.OwnBytes.{OwnPair, FoundOwn, NothingThere}
use Rattle.demands.proofs.PairList.{JudgedS, step_judged, empty_step, pair_or_end, pair_or_fault}
use Rattle.demands.proofs.Bools.{both_ways}

-- a pair is needed for a first one
starts : (s : List ℕ) (id found at : ℕ) → FirstWith s id found at → PairAt s at
starts s id found at (this e p q) = p
starts s id found at (next p q f) = p

-- and the one that is found has the id
pub id_of_lem : (s : List ℕ) (id found at : ℕ) → FirstWith s id found at → id_of s found ≡ id
id_of_lem s id found at (this e p q) = subst (λ (x : ℕ). id_of s x ≡ id) e q
id_of_lem s id found at (next p q f) = id_of_lem s id found (next_of s at) f

-- a question that one id answers with yes
module _ (s : List ℕ) (id : ℕ) (is : AvId → Bool) (asks : (a : AvId) → (is a ≡ true) ↔ (a.id ≡ id)) where
  abbrev pub JudgedW : ℕ → Option AvPair → Type 0
  JudgedW at (Some p) = (found : ℕ) × FirstWith s id found at × PairAt s found × (p ≡ record { id = id_at s found; at = found + 4; len = size_of s found })
  JudgedW at None = (found : ℕ) → FirstWith s id found at → ⊥

  -- past a pair with another id
  past : (at : ℕ) (x : Option AvPair) → PairAt s at → (id_of s at ≡ id → ⊥) → JudgedW (next_of s at) x → JudgedW at x
  past at (Some p) w n j = (j.0, next w n j.1, j.2, j.3)
  past at None w n j = λ found f. other found f where
    other : (found : ℕ) → FirstWith s id found at → ⊥
    other found (this e p q) = n q
    other found (next p q g) = j found g

  first_judged : (k : ℕ) (at : ℕ) → 0 < length s → length s - at < k → JudgedW at (first_by is (pairs_from k s at))
  first_judged zero at h l = absurd (omega arith)
  first_judged (suc k) at h l = go (step_at s at) (step_judged s at h) (λ f. first_judged k (next_of s at) h f) where
    go : (x : Result (Option AvPair) Refusal) → JudgedS s at x →
        (length s - next_of s at < k → JudgedW (next_of s at) (first_by is (pairs_from k s (next_of s at)))) →
        JudgedW at (first_by is (on_step x (λ p. p ∷ pairs_from k s (end_of p)) (λ v. [])))
    go (Ok (Some p)) j rest = rw j.1 (by (is (id_at s at)) refl) where
      by : (b : Bool) → is (id_at s at) ≡ b → JudgedW at (cond b (Some (record { id = id_at s at; at = at + 4; len = size_of s at })) (first_by is (pairs_from k s (next_of s at))))
      by true e = (at, this refl j.0 ((asks (id_at s at)).0 e), j.0, refl)
      by false e = past at (first_by is (pairs_from k s (next_of s at))) j.0 (λ q. both_ways (is (id_at s at)) ((asks (id_at s at)).1 q) e) (rest (omega (arith, j.0.whole)))
    go (Ok None) j rest = λ found f. pair_or_end s at (starts s id found at f) j
    go (Err e) j rest = λ found f. pair_or_fault s at (number_of e) (starts s id found at f) j.0

  pub first_in_list : JudgedW 0 (first_by is (pairs_of s))
  unfolding pairs_of
  first_in_list = go (length s) refl where
    go : (n : ℕ) → length s ≡ n → JudgedW 0 (first_by is (pairs_from (suc (length s)) s 0))
    go zero e = simp (empty_step s 0 e) (λ found f. omega (arith, (starts s id found 0 f).whole))
    go (suc n) e = first_judged (suc (length s)) 0 (omega arith) (omega arith)

done_is : (v : Result ⊤ Refusal) (x y : Option AvPair) → on_clear Err v (Ok x) ≡ Ok y → x ≡ y
done_is (Ok tt) x y h = cc
done_is (Err e) x y h = cc

same_asks : (a c : AvId) → (same_id a c ≡ true) ↔ (c.id ≡ a.id)
same_asks a c = (eqb-true c.id a.id, eq-eqb c.id a.id)

pub found_own : FoundOwn
unfolding find_pair first_pair
found_own s a p h =
    let j = subst (JudgedW s a.id (same_id a) (same_asks a) 0) (done_is (check_pairs s) (first_by (same_id a) (pairs_of s)) (Some p) h) (first_in_list s a.id (same_id a) (same_asks a)) in
    own j
  where
    own : (found : ℕ) × FirstWith s a.id found 0 × PairAt s found × (p ≡ record { id = id_at s found; at = found + 4; len = size_of s found }) → OwnPair s a.id p
    own j =
        rw j.3
        (record { place = j.0; first = j.1; id_same = id_of_lem s a.id j.0 0 j.1; value = refl; size = refl; whole = j.2.whole })

pub nothing_there : NothingThere
unfolding find_pair first_pair
nothing_there s a h =
    subst (JudgedW s a.id (same_id a) (same_asks a) 0) (done_is (check_pairs s) (first_by (same_id a) (pairs_of s)) None h) (first_in_list s a.id (same_id a) (same_asks a))
