use borrow.Author.Rules.{rules}
use Rattle.wire.proofs.Laws.{chain, go_on, clear, handed_over}
use Rattle.mic.specs.Mic.{check_inputs}
use Rattle.mic.proofs.check_inputs.Goals as goal

pub returns-in_default : goal.returns-in_default
unfolding check_inputs
returns-in_default c = search chain

pub returns-in_err-read_as : goal.returns-in_err-read_as
unfolding check_inputs
returns-in_err-read_as c =
    go_on _ _ _ _ _ c.check.ensures c.in-Held.is (handed_over _ _ _ _ _ c.from_residual.ensures.1 c.read_as.ensures c.in_err-read_as.was)

pub returns-in_err-read_as-2 : goal.returns-in_err-read_as-2
unfolding check_inputs
returns-in_err-read_as-2 c =
    go_on _ _ _ _ _ c.check.ensures c.in-Held.is (
    clear _ _ _ _ _ _ c.read_as.ensures c.in_ok-read_as.was (
    handed_over _ _ _ _ _ c.from_residual-in_err-read_as-2.ensures.1 c.read_as-2.ensures c.in_err-read_as-2.was))

pub returns : goal.returns
unfolding check_inputs
returns c =
    go_on _ _ _ _ _ c.check.ensures c.in-Held.is (
    clear _ _ _ _ _ _ c.read_as.ensures c.in_ok-read_as.was (
    clear _ _ _ _ _ _ c.read_as-2.ensures c.in_ok-read_as-2.was (search rules)))
