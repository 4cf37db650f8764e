use Rattle.std.proofs.Common.{refl}
use Rattle.md5_digest.specs.Digest.{start}
use Rattle.md5_digest.proofs.States.{of_block}
use Rattle.md5_digest.proofs.state.State.of_block.Goals as goal

pub returns : goal.returns
unfolding start
returns c = (refl, of_block _ _ c.requires c.block_taken.ensures)
