use Rattle.mic.proofs.Comparison.{Compared}
use Rattle.mic.proofs.stands_at.Given as goal

abbrev pub invariant-loop-i : goal.invariant-loop-i
invariant-loop-i l = Compared l.s l.at l.xs l.same l.i
