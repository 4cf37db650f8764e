-- A turn answers one entry more; after the last, the list is filled.
use Rattle.std.proofs.Common.{◌∙◌, refl}
use Rattle.wire.proofs.Laws.{go_on}
use Rattle.batch.proofs.Fill.{fill_all}
use Rattle.batch.proofs.Laws.{one_turn}
use Rattle.batch.proofs.check_messages.Goals as goal

pub loop-e-preserved : goal.loop-e-preserved
loop-e-preserved c = one_turn _ _ _ _ _ _ c.loop-e.invariant c.loop-e-test.true c.answer_to-e.ensures

pub returns-clause-content : goal.returns-clause-content
returns-clause-content c =
    c.loop-e.invariant ∙ fill_all _ _ _ c.loop-e-test.false ∙ go_on _ _ _ _ _ c.length_holds.ensures c.in-Held.is refl
