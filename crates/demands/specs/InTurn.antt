-- The pairs that a list hands out, by the list's bytes alone. Document 01: "one pair at each asking, over the lent bytes: the
-- pairs before the end or the first fault, then the end or that refusal, and the same at each later asking."
use Rattle.wire.specs.declared.refusal.Refusal.{Refusal}
use Rattle.std.specs.Prelude.{Result, Option, Ok, Err, Some, None, ⊤, ℕ, zero, suc, ◌+◌, ◌≤◌, ◌<◌, ◌≡◌, ◌⊎◌, ◌↔◌, List, [], ◌∷◌, length}
use Rattle.std.specs.Borrow.{Bor}
use Rattle.av_pairs.specs.declared.AvPair.{AvPair}
use Rattle.av_pairs.specs.AvPairs.{pairs_of}
use Rattle.av_pairs.specs.Walk.{walk_over, asking, walk_after}
use Rattle.demands.specs.PairList.{id_of, size_of, next_of, PairAt, EndAt, FaultAt, Holds, FirstFault}
use Rattle.demands.specs.TakenExactly.{RefusalIs}

-- p is the pair at a place: its own id and length, and its value four bytes on
pub record PairIs (s : List ℕ) (at : ℕ) (p : AvPair) : Type 0 where
  pub there : PairAt s at
  pub id : p.id.id ≡ id_of s at
  pub size : p.len ≡ size_of s at
  pub value : p.at ≡ at + 4

-- from a place on these pairs stand one after the other, and then comes the end pair or a fault
abbrev pub InTurn : List ℕ → ℕ → List AvPair → Type 0
InTurn s at [] = EndAt s at ⊎ ((n : ℕ) × FaultAt s at n)
InTurn s at (p ∷ ps) = PairIs s at p × InTurn s (next_of s at) ps

-- a list's pairs are those from its start on; an empty list has none. How many they are, `PairsTaken` says
abbrev pub PairsInTurn : Type 0
PairsInTurn = (s : List ℕ) → (length s ≡ 0 → pairs_of s ≡ []) × (0 < length s → InTurn s 0 (pairs_of s))

-- from a place on, the k-th pair, counted from 0, is the one at `found`
abbrev pub KthPair : List ℕ → ℕ → ℕ → ℕ → Type 0
KthPair s found zero at = (at ≡ found) × PairAt s at
KthPair s found (suc k) at = PairAt s at × KthPair s found k (next_of s at)

abbrev pub StepRefused : Result (Option AvPair) Refusal → ℕ → ℕ → ℕ → Type 0
StepRefused (Ok (Some p)) n i place = ⊥
StepRefused (Ok None) n i place = ⊥
StepRefused (Err e) n i place = RefusalIs e n i place

-- an asking is answered with a pair or the end, or refused
abbrev pub step_verdict : Result (Option AvPair) Refusal → Result ⊤ Refusal
step_verdict (Ok (Some p)) = Ok tt
step_verdict (Ok None) = Ok tt
step_verdict (Err e) = Err e

-- the k-th asking of a walk, for every k: the list's k-th pair if and only if there is one before the end and the first fault
abbrev pub WalkGives : Type 0
WalkGives =
    (list : Bor (List ℕ)) (k : ℕ) (p : AvPair) →
    (asking (walk_after k (walk_over list)) ≡ (Ok (Some p))) ↔ ((found : ℕ) × KthPair list.now found k 0 × PairIs list.now found p)

-- the end if and only if the list is empty or well-formed and its pairs have all been asked for
abbrev pub WalkEnds : Type 0
WalkEnds =
    (list : Bor (List ℕ)) (k : ℕ) →
    (asking (walk_after k (walk_over list)) ≡ Ok None) ↔ ((n : ℕ) × Holds list.now n × (n ≤ k))

-- and a refusal if and only if the list has that fault first, at that place, and the pairs before it have all been asked for
abbrev pub WalkRefuses : Type 0
WalkRefuses =
    (list : Bor (List ℕ)) (k n i place : ℕ) →
    StepRefused (asking (walk_after k (walk_over list))) n i place ↔
    ((0 < length list.now) × (i ≡ 2) × FirstFault list.now n place 0 × ((found : ℕ) → KthPair list.now found k 0 → ⊥))
