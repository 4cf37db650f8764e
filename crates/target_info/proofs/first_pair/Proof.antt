-- `first_pair` stops at the first pair with the id: what is left decides.
use Rattle.std.specs.Prelude.{Ok}
use Prim.Native.Nat.{◌-◌}
use mathlib.Core.Path.{◌≡◌}
use borrow.Author.Rules.{rules}
use lib.ListN.{length}
use Rattle.av_pairs.specs.AvPairs.{stop_at}
use Rattle.av_pairs.proofs.Walks.{clear_all, there_clear, there_fits, there_falls}
use Rattle.target_info.proofs.Searches.{Looked, look, look_next, look_stop, look_here}
use Rattle.target_info.proofs.first_pair.Statement.{statement}
use Rattle.target_info.proofs.first_pair.Tie as tie

abbrev invariant-loop-p : tie.invariant-loop-p
invariant-loop-p list id at₀ at = Looked id list at × (stop_at list at ≡ Ok tt)

abbrev decreases-loop-p : tie.decreases-loop-p
decreases-loop-p list id at₀ at = length list - at

pub first_pair_spec : {M : Type 1} → statement M
first_pair_spec =
    tie.close
    (tie.spec
    invariant-loop-p
    decreases-loop-p
    (λ c. search (look, clear_all)) (λ c κs. search rules) (λ c. search rules) (λ c. search rules) (λ c κs. search rules) (λ c. search rules)
    (λ c. search there_fits) (λ c. search there_falls) (λ c. search (look_next, there_clear)) (λ c. search look_stop) (λ c. search look_here))
