use Rattle.std.proofs.Common.{◌≡◌, ◌-◌, Ok, length}
use Rattle.av_pairs.specs.AvPairs.{stop_at}
use Rattle.write_response_pairs.proofs.Copying.{Seeing}
use Rattle.write_response_pairs.proofs.look_over.Given as goal

abbrev pub invariant-loop-p : goal.invariant-loop-p
invariant-loop-p l = Seeing l.list l.at l.seen.size l.seen.timestamp l.seen.flags × (stop_at l.list l.at ≡ Ok tt)

abbrev pub decreases-loop-p : goal.decreases-loop-p
decreases-loop-p l = length l.list - l.at
