use Rattle.std.proofs.Common.{refl, sym, ap, ◌∙◌, arith, ◌%◌, ◌-◌, length}
use Rattle.md5_digest.specs.Block.{block_taken}
use Rattle.md5_digest.specs.State.{blank}
use Rattle.md5_digest.proofs.States.{unfilled, put_stored, put_over, begun, block_gone, rest_gone}
use Rattle.md5_digest.proofs.state.State.update.Goals as goal
use Rattle.md5_digest.proofs.state.State.update.Goals.{then-at-eq0, else-at-eq0}

pub returns-in_default : goal.returns-in_default
returns-in_default c =
    let short = c.in_default.ensures.cases in
    (refl, unfilled c.args.self c.args.m.now _ (omega arith) (put_stored c.args.self.tail _ c.args.m.now _ _ c.copy_items.ensures (omega arith) (omega arith)))

pub loop-block-init : goal.loop-block-init
loop-block-init c =
    let split = c.in-Some.ensures.cases in
    let s = c.args.self in
    let first = c.in-Some.first.now in
    let at = s.count % 64 in
    let goes = begun s c.args.m.now first in
    elim c.if-at-eq0.branch [
      | then-at-eq0 w ↦ goes _ c.if-at-eq0.buffer (64 - at) (omega arith) split.0 split.1 refl (w.buffer-is ∙ w.block_taken-buffer.ensures ∙ ap (block_taken s.buffer) (sym (put_over s.tail first at w.if-at-eq0.true (omega arith))))
      | else-at-eq0 w ↦
          goes _ c.if-at-eq0.buffer (64 - at) (omega arith) split.0 split.1
          (put_stored s.tail _ first _ _ w.copy_items-else-at-eq0.ensures (omega arith) (omega arith)) (w.buffer-is ∙ w.block_taken-buffer-else-at-eq0.ensures)
    ]

pub loop-block-preserved : goal.loop-block-preserved
loop-block-preserved c =
    block_gone c.args.self c.args.m.now _ _ _ _ _ _ c.loop-block.invariant c.in-Some.ensures.cases.2 c.as_chunks.ensures.front (omega arith)
    c.block_taken-buffer-in-loop-block.ensures

pub returns : goal.returns
returns c = (
  refl,
  rest_gone c.args.self c.args.m.now _ _ _ _ _ _ c.loop-block.block-index c.loop-block.invariant c.in-Some.ensures.cases.2 (omega arith) (omega arith) c.as_chunks.ensures.back
      (put_stored blank _ _ 0 (length c.as_chunks.result.1.now) c.copy_items-2.ensures refl (omega arith)) refl,
)
