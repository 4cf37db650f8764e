use Rattle.std.proofs.Common.{refl, ◌∙◌}
use Rattle.md5_digest.specs.Digest.{word_bytes}
use Rattle.md5_digest.proofs.Ending.{four_bytes}
use Rattle.md5_digest.proofs.state.word_bytes.Goals as goal

pub returns : goal.returns
unfolding word_bytes
returns c =
    rw (
      c.copy_items.ensures ∙ four_bytes _ _ c.to_le_bytes.ensures,
      c.copy_items-2.ensures ∙ four_bytes _ _ c.to_le_bytes-2.ensures,
      c.copy_items-3.ensures ∙ four_bytes _ _ c.to_le_bytes-3.ensures,
      c.copy_items-4.ensures ∙ four_bytes _ _ c.to_le_bytes-4.ensures,
    ) refl
