use Rattle.std.proofs.Common.{◌-◌, length}
use Rattle.target_info.proofs.Searches.{Read}
use Rattle.target_info.proofs.read_list.Given as goal

abbrev pub invariant-loop-p : goal.invariant-loop-p
invariant-loop-p l = Read l.list l.at l.n l.time

abbrev pub decreases-loop-p : goal.decreases-loop-p
decreases-loop-p l = length l.list - l.at
