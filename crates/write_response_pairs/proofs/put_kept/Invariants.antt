use Rattle.std.proofs.Common.{◌≡◌, ◌-◌, Ok, length}
use Rattle.av_pairs.specs.AvPairs.{stop_at}
use Rattle.write_response_pairs.proofs.Copying.{Putting}
use Rattle.write_response_pairs.proofs.put_kept.Given as goal

abbrev pub invariant-loop-p : goal.invariant-loop-p
invariant-loop-p l = Putting l.fn.out l.out l.list l.due l.at l.bits l.place.at × (stop_at l.list l.at ≡ Ok tt)

abbrev pub decreases-loop-p : goal.decreases-loop-p
decreases-loop-p l = length l.list - l.at
