-- With each turn one item more is the source's.
use Rattle.std.proofs.Common.{arith, length, refl}
use Rattle.std.proofs.lemmas.List.{get_or_read_under}
use Rattle.wire.proofs.Filled.{none, one, all}
use Rattle.wire.proofs.number.copy_items.Goals as goal

pub loop-i-init : goal.loop-i-init
loop-i-init g c = none _ _

pub loop-i-preserved : goal.loop-i-preserved
loop-i-preserved g c =
    one _ _ _ _ _ c.loop-i.invariant c.loop-i-test.true
    (λ e. get_or_read_under c.args.src.now c.loop-i.i (length c.args.src.now) _ e c.index-src-i.is (omega (arith, c.requires, c.loop-i-test.true)) refl)

pub returns : goal.returns
returns g c = all _ _ _ _ c.loop-i.invariant (omega (arith, c.loop-i.invariant.long)) c.requires
