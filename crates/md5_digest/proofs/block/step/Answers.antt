use Rattle.std.proofs.Common.{refl, arith}
use Rattle.md5_digest.specs.Block.{step}
use Rattle.md5_digest.proofs.Rounds.{rotated_is}
use Rattle.md5_digest.proofs.block.step.Goals as goal

pub returns : goal.returns
unfolding step
returns c = rw (c.rotate_left.ensures, rotated_is _ c.args.s (omega arith) (omega arith)) refl
