use Rattle.std.proofs.Common.{◌-◌, ◌*◌, drop}
use Rattle.md5_digest.proofs.States.{Going}
use Rattle.md5_digest.proofs.state.State.update.Given as goal

abbrev pub invariant-loop-block : goal.invariant-loop-block
invariant-loop-block l = Going l.fn.self l.m (drop (64 * l.block-index) (drop (64 - l.at) l.m)) l.buffer
