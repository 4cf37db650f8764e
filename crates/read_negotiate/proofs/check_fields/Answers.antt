use borrow.Author.Rules.{rules}
use Rattle.wire.proofs.Laws.{clear, handed_over}
use Rattle.read_negotiate.specs.Negotiate.{check_fields}
use Rattle.read_negotiate.proofs.check_fields.Goals as goal

pub returns-in_err-check_ends : goal.returns-in_err-check_ends
unfolding check_fields
returns-in_err-check_ends c = handed_over _ _ _ _ _ c.from_residual.ensures.1 c.check_ends.ensures c.in_err-check_ends.was

pub returns : goal.returns
unfolding check_fields
returns c = clear _ _ _ _ _ _ c.check_ends.ensures c.in_ok-check_ends.was (search rules)
