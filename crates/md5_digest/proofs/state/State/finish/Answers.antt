use Rattle.std.proofs.Common.{◌∙◌, ◌%◌, ◌+◌, ◌-◌, arith}
use Rattle.md5_digest.proofs.Ending.{Ending, is_marked, same_block, next_block, is_finished}
use Rattle.md5_digest.proofs.state.State.finish.Goals as goal
use Rattle.md5_digest.proofs.state.State.finish.Goals.{then-at-ge56, else-at-ge56}

pub returns : goal.returns
returns c =
    let s = c.args.self in
    let marked = is_marked s.tail _ (s.count % 64) (64 - s.count % 64) (omega arith) (omega arith) (omega arith) c.copy_items.ensures in
    let ending : Ending s c.if-at-ge56.buffer c.if-at-ge56.tail =
    elim c.if-at-ge56.branch [
      | then-at-ge56 w ↦ next_block s _ _ _ (omega arith) w.if-at-ge56.true marked (w.buffer-is ∙ w.block_taken-buffer.ensures) w.tail-is
      | else-at-ge56 w ↦ same_block s _ _ (omega arith) w.if-at-ge56.false w.buffer-is (w.tail-is ∙ marked)
    ] in
    is_finished s _ _ _ _ _ _ ending c.to_le_bytes.ensures c.copy_items-2.ensures c.block_taken.ensures c.word_bytes.ensures
