-- Asking a pair list at a place that the caller keeps, by the list's bytes alone.
use Rattle.std.specs.Prelude.{Ok, Some, None, ℕ, ◌<◌, ◌≡◌, ◌⊎◌, ◌↔◌, List, length}
use Rattle.av_pairs.specs.declared.AvPair.{AvPair}
use Rattle.av_pairs.specs.declared.Asked.{Asked}
use Rattle.av_pairs.specs.AvPairs.{ask_at}
use Rattle.demands.specs.InTurn.{PairIs, StepRefused}
use Rattle.demands.specs.PairList.{next_of, PairAt, EndAt, FaultAt}

-- what asking at a place gives: the pair there, the end, or the fault there; the place to ask at next is past a pair, and else
-- the same. An empty list is at its end
pub record AskedAt (s : List ℕ) (at : ℕ) (a : Asked) : Type 0 where
  pub pair : (p : AvPair) → (a.step ≡ (Ok (Some p))) ↔ PairIs s at p
  pub end : (a.step ≡ Ok None) ↔ ((length s ≡ 0) ⊎ EndAt s at)
  pub refused : (n i p : ℕ) → StepRefused a.step n i p ↔ ((0 < length s) × (i ≡ 2) × FaultAt s at n × (p ≡ at))
  pub onward : PairAt s at → a.next ≡ next_of s at
  pub stays : (PairAt s at → ⊥) → a.next ≡ at

abbrev pub AskingGives : Type 0
AskingGives = (s : List ℕ) (at : ℕ) → AskedAt s at (ask_at s at)
