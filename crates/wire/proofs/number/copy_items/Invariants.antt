use Rattle.std.proofs.Common.{length}
use Rattle.wire.proofs.Filled.{Filled}
use Rattle.wire.proofs.number.copy_items.Given as goal

abbrev pub invariant-loop-i : goal.invariant-loop-i
invariant-loop-i g l = Filled l.dst l.src l.i (length l.fn.dst)
