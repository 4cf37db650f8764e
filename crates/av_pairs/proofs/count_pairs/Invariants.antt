use Rattle.std.proofs.Common.{◌-◌, length}
use Rattle.av_pairs.proofs.Walks.{Counted}
use Rattle.av_pairs.proofs.count_pairs.Given as goal

abbrev pub invariant-loop-p : goal.invariant-loop-p
invariant-loop-p l = Counted l.list l.at l.n

abbrev pub decreases-loop-p : goal.decreases-loop-p
decreases-loop-p l = length l.list - l.at
