-- The pairs of a list stand one after the other, and so the askings of a walk give them.
use Rattle.std.specs.Prelude.{Result, Option, Ok, Err, Some, None}
use Rattle.wire.specs.declared.refusal.Refusal.{Refusal}
use Prim.Native.Nat.{ℕ, zero, suc, ◌+◌, ◌-◌, ◌≤◌, ◌<◌}
use mathlib.Core.Path.{◌≡◌, refl, sym, ap, ◌∙◌, subst}
use mathlib.Core.Logic.{inl, inr, ◌↔◌}
use mathlib.Core.List.{List, [], ◌∷◌}
use native.Mathlib.Omega.{arith}
use lib.ListN.{length}
use denote.Ref.{Bor}
use Rattle.wire.specs.Refusal.{number_of, field_of, place_of}
use Rattle.av_pairs.specs.declared.AvPair.{AvPair}
use Rattle.av_pairs.specs.AvPairs.{step_at, end_of, on_step, pairs_from, stop_from, pairs_of, check_pairs}
use Rattle.av_pairs.specs.Walk.{walk_over, asking, walk_after, pair_or, answer_at}
use Rattle.demands.specs.PairList.{id_of, size_of, next_of, PairAt, WellFormed, end, pair, Holds, empty, listed, FirstFault, here, later}
use Rattle.demands.specs.InTurn.{PairIs, InTurn, PairsInTurn, KthPair, StepRefused, WalkGives, WalkEnds, WalkRefuses}
use Rattle.demands.proofs.PairList.{JudgedS, step_judged, empty_step, pair_or_end, pair_or_fault, one_first, fault_is, holds_or_fault}
use Rattle.demands.proofs.Walk.{walk_answers}

-- ---- the pairs

abbrev made : ℕ → ℕ → ℕ → AvPair
made id value size = record { id = record { id = id }; at = value; len = size }

pub own : (s : List ℕ) (at : ℕ) → PairAt s at → PairIs s at (made (id_of s at) (at + 4) (size_of s at))
own s at w = record { there = w; id = refl; size = refl; value = refl }

-- a place has one pair only
pub one_pair : (s : List ℕ) (at : ℕ) (p q : AvPair) → PairIs s at p → PairIs s at q → p ≡ q
one_pair s at p q v w = is p v ∙ sym (is q w) where
  is : (x : AvPair) → PairIs s at x → x ≡ made (id_of s at) (at + 4) (size_of s at)
  is x u =
      ap (λ (n : ℕ). made n x.at x.len) u.id
      ∙ ap (λ (n : ℕ). made (id_of s at) n x.len) u.value
      ∙ ap (λ (n : ℕ). made (id_of s at) (at + 4) n) u.size

from_place : (k : ℕ) (s : List ℕ) (at : ℕ) → 0 < length s → length s - at < k → InTurn s at (pairs_from k s at)
from_place zero s at h l = absurd (omega arith)
from_place (suc k) s at h l = go (step_at s at) (step_judged s at h) (λ f. from_place k s (next_of s at) h f) where
  go : (x : Result (Option AvPair) Refusal) → JudgedS s at x → (length s - next_of s at < k → InTurn s (next_of s at) (pairs_from k s (next_of s at))) →
      InTurn s at (on_step x (λ p. p ∷ pairs_from k s (end_of p)) (λ v. []))
  go (Ok (Some p)) j rest = rw j.1 (own s at j.0, rest (omega (arith, j.0.whole)))
  go (Ok None) j rest = inl j
  go (Err e) j rest = inr (number_of e, j.0)

pub pairs_in_turn : PairsInTurn
unfolding pairs_of
pairs_in_turn s = (λ e. simp (empty_step s 0 e), λ h. from_place (suc (length s)) s 0 h (omega arith))

-- ---- the askings

-- the k-th answer from a place on
abbrev JudgedA : List ℕ → ℕ → ℕ → Result (Option AvPair) Refusal → Type 0
JudgedA s at k (Ok (Some p)) = (found : ℕ) × KthPair s found k at × PairIs s found p
JudgedA s at k (Ok None) = (n : ℕ) × WellFormed s at n × (n ≤ k)
JudgedA s at k (Err e) = FirstFault s (number_of e) (place_of e) at × (field_of e ≡ 2) × ((found : ℕ) → KthPair s found k at → ⊥)

module _ (s : List ℕ) where
  -- a pair is needed for a k-th one
  starts : (k found at : ℕ) → KthPair s found k at → PairAt s at
  starts zero found at h = h.1
  starts (suc k) found at h = h.0

  one_kth : (k f g at : ℕ) → KthPair s f k at → KthPair s g k at → f ≡ g
  one_kth zero f g at x y = sym x.0 ∙ y.0
  one_kth (suc k) f g at x y = one_kth k f g (next_of s at) x.1 y.1

  -- a well-formed list has no k-th pair past its last
  few : {at n : ℕ} (k found : ℕ) → WellFormed s at n → n ≤ k → KthPair s found k at → ⊥
  few k found (end e p) l h = pair_or_end s _ (starts k found _ h) e
  few zero found (pair e p w) l h = omega arith
  few (suc k) found (pair e p w) l h = few k found w (omega arith) h.1

  past : (at k : ℕ) (x : Result (Option AvPair) Refusal) → PairAt s at → JudgedA s (next_of s at) k x → JudgedA s at (suc k) x
  past at k (Ok (Some p)) w j = (j.0, (w, j.1), j.2)
  past at k (Ok None) w j = let e : suc j.0 ≡ j.0 + 1 = omega arith in (suc j.0, pair {n = suc j.0} {m = j.0} w e j.1, omega (arith, j.2))
  past at k (Err e) w j = (later w j.0, j.1, λ found h. j.2 found h.1)

  answer_judged : (fuel at k : ℕ) → 0 < length s → length s - at < fuel → JudgedA s at k (pair_or (pairs_from fuel s at) k (stop_from fuel s at))
  answer_judged zero at k h l = absurd (omega arith)
  answer_judged (suc fuel) at k h l = go (step_at s at) (step_judged s at h) k (λ m f. answer_judged fuel (next_of s at) m h f) where
    go : (x : Result (Option AvPair) Refusal) → JudgedS s at x → (k : ℕ) →
        ((m : ℕ) → length s - next_of s at < fuel → JudgedA s (next_of s at) m (pair_or (pairs_from fuel s (next_of s at)) m (stop_from fuel s (next_of s at)))) →
        JudgedA s at k (pair_or (on_step x (λ p. p ∷ pairs_from fuel s (end_of p)) (λ v. [])) k (on_step x (λ p. stop_from fuel s (end_of p)) (λ v. v)))
    go (Ok (Some p)) j zero rest = rw j.1 (at, (refl, j.0), own s at j.0)
    go (Ok (Some p)) j (suc m) rest =
        rw j.1
        (past at m (pair_or (pairs_from fuel s (next_of s at)) m (stop_from fuel s (next_of s at))) j.0 (rest m (omega (arith, j.0.whole))))
    go (Ok None) j k rest = (0, end j refl, omega arith)
    go (Err e) j k rest = (here j.2 j.0, j.1, λ found w. pair_or_fault s at (number_of e) (starts k found at w) j.0)

  -- of the whole list
  abbrev JudgedK : ℕ → Result (Option AvPair) Refusal → Type 0
  JudgedK k (Ok (Some p)) = (found : ℕ) × KthPair s found k 0 × PairIs s found p
  JudgedK k (Ok None) = (n : ℕ) × Holds s n × (n ≤ k)
  JudgedK k (Err e) = (0 < length s) × (field_of e ≡ 2) × FirstFault s (number_of e) (place_of e) 0 × ((found : ℕ) → KthPair s found k 0 → ⊥)

  whole : (k : ℕ) (x : Result (Option AvPair) Refusal) → 0 < length s → JudgedA s 0 k x → JudgedK k x
  whole k (Ok (Some p)) h j = j
  whole k (Ok None) h j = (j.0, listed h j.1, j.2)
  whole k (Err e) h j = (h, j.1, j.0, j.2)

  kth_judged : (k : ℕ) → JudgedK k (answer_at s k)
  unfolding answer_at pairs_of check_pairs
  kth_judged k = go (length s) refl where
    go : (n : ℕ) → length s ≡ n → JudgedK k (pair_or (pairs_from (suc (length s)) s 0) k (stop_from (suc (length s)) s 0))
    go zero e = simp (empty_step s 0 e) (0, empty e refl, omega arith)
    go (suc n) e =
        whole k (pair_or (pairs_from (suc (length s)) s 0) k (stop_from (suc (length s)) s 0)) (omega arith)
        (answer_judged (suc (length s)) 0 k (omega arith) (omega arith))

  -- an ended list has no k-th pair
  none_left : (n k found : ℕ) → Holds s n → n ≤ k → KthPair s found k 0 → ⊥
  none_left n k found (empty e p) l h = omega (arith, (starts k found 0 h).whole)
  none_left n k found (listed e w) l h = few k found w l h

asked : (list : Bor (List ℕ)) (k : ℕ) → JudgedK list.now k (asking (walk_after k (walk_over list)))
asked list k = subst (JudgedK list.now k) (sym (walk_answers list k)) (kth_judged list.now k)

pub walk_gives : WalkGives
walk_gives list k p = (λ e. subst (JudgedK list.now k) e (asked list k), λ h. go (asking (walk_after k (walk_over list))) (asked list k) h) where
  go : (x : Result (Option AvPair) Refusal) → JudgedK list.now k x → ((found : ℕ) × KthPair list.now found k 0 × PairIs list.now found p) → x ≡ (Ok (Some p))
  go (Ok (Some q)) j h =
      ap (λ (r : AvPair). Ok (Some r)) (one_pair list.now h.0 q p
      (subst (λ (f : ℕ). PairIs list.now f q) (one_kth list.now k j.0 h.0 0 j.1 h.1) j.2) h.2)
  go (Ok None) j h = absurd (none_left list.now j.0 k h.0 j.1 j.2 h.1)
  go (Err e) j h = absurd (j.3 h.0 h.1)

pub walk_ends : WalkEnds
walk_ends list k = (λ e. subst (JudgedK list.now k) e (asked list k), λ h. go (asking (walk_after k (walk_over list))) (asked list k) h) where
  go : (x : Result (Option AvPair) Refusal) → JudgedK list.now k x → ((n : ℕ) × Holds list.now n × (n ≤ k)) → x ≡ Ok None
  go (Ok (Some q)) j h = absurd (none_left list.now h.0 k j.0 h.1 h.2 j.1)
  go (Ok None) j h = refl
  go (Err e) j h = absurd (holds_or_fault list.now h.0 (number_of e) (place_of e) h.1 j.0 j.2)

pub walk_refuses : WalkRefuses
walk_refuses list k n i place = go (asking (walk_after k (walk_over list))) (asked list k) where
  go : (x : Result (Option AvPair) Refusal) → JudgedK list.now k x →
      StepRefused x n i place ↔ ((0 < length list.now) × (i ≡ 2) × FirstFault list.now n place 0 × ((found : ℕ) → KthPair list.now found k 0 → ⊥))
  go (Ok (Some q)) j = (λ t. absurd t, λ h. h.3 j.0 j.1)
  go (Ok None) j = (λ t. absurd t, λ h. holds_or_fault list.now j.0 n place j.1 h.0 h.2)
  go (Err e) j = (
    λ t. (j.0, sym t.1 ∙ j.1, fault_is list.now t.0 t.2 j.2, j.3),
    λ h. let one = one_first list.now j.2 h.2 in (one.0, j.1 ∙ sym h.1, one.1),
  )
