use Rattle.hmac_md5.proofs.Laws.{is_filled, one_more, is_padded}
use Rattle.hmac_md5.proofs.padded.Goals as goal

pub loop-byte-init : goal.loop-byte-init
loop-byte-init c = is_filled c.args.key.now _ c.copy_items.ensures c.requires

pub loop-byte-preserved : goal.loop-byte-preserved
loop-byte-preserved c = one_more c.args.key.now _ c.args.x c.loop-byte.byte-index c.requires c.loop-byte-test.true c.loop-byte.invariant

pub returns : goal.returns
returns c = (c.of_block.ensures.0, is_padded c.args.key.now _ c.args.x c.loop-byte.byte-index _ c.requires c.loop-byte-test.false c.loop-byte.invariant c.of_block.ensures.1)
