use Rattle.std.proofs.Common.{◌≡◌, ◌+◌, ◌-◌}
use Rattle.md5_digest.specs.Block.{steps, round}
use Rattle.md5_digest.proofs.block.round.Given as goal

abbrev pub invariant-loop-n : goal.invariant-loop-n
invariant-loop-n g l = steps l.x l.q l.n (l.first + 16 - l.n) ≡ round l.x l.fn.p l.first
