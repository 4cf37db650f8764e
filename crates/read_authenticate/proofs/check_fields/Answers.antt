use borrow.Author.Rules.{rules}
use Rattle.wire.proofs.Laws.{clear, handed_over}
use Rattle.read_authenticate.specs.Authenticate.{check_fields}
use Rattle.read_authenticate.proofs.check_fields.Goals as goal

pub returns-in_err-check_ends : goal.returns-in_err-check_ends
unfolding check_fields
returns-in_err-check_ends c = handed_over _ _ _ _ _ c.from_residual.ensures.1 c.check_ends.ensures c.in_err-check_ends.was

pub returns-in_err-check_begins : goal.returns-in_err-check_begins
unfolding check_fields
returns-in_err-check_begins c =
    clear _ _ _ _ _ _ c.check_ends.ensures c.in_ok-check_ends.was (
    handed_over _ _ _ _ _ c.from_residual-in_err-check_begins.ensures.1 c.check_begins.ensures c.in_err-check_begins.was)

pub returns-in_err-check_names : goal.returns-in_err-check_names
unfolding check_fields
returns-in_err-check_names c =
    clear _ _ _ _ _ _ c.check_ends.ensures c.in_ok-check_ends.was (
    clear _ _ _ _ _ _ c.check_begins.ensures c.in_ok-check_begins.was (
    handed_over _ _ _ _ _ c.from_residual-in_err-check_names.ensures.1 c.check_names.ensures c.in_err-check_names.was))

pub returns : goal.returns
unfolding check_fields
returns c =
    clear _ _ _ _ _ _ c.check_ends.ensures c.in_ok-check_ends.was (
    clear _ _ _ _ _ _ c.check_begins.ensures c.in_ok-check_begins.was (
    clear _ _ _ _ _ _ c.check_names.ensures c.in_ok-check_names.was (search rules)))
