use borrow.Author.Rules.{rules}
use Rattle.wire.proofs.Laws.{clear, with_ok, handed_on, handed_over}
use Rattle.head.proofs.Heads.{head_long}
use Rattle.read_negotiate.specs.Negotiate.{layout, read_negotiate}
use Rattle.read_negotiate.proofs.Laws.{of_fields, taken}
use Rattle.read_negotiate.proofs.read.Goals as goal

pub returns-in_err-flags : goal.returns-in_err-flags
unfolding read_negotiate
returns-in_err-flags c = handed_on _ _ _ _ _ c.from_residual.ensures.1 c.read_head.ensures c.in_err-flags.was

pub fields_at-fields-requires : goal.fields_at-fields-requires
fields_at-fields-requires c = head_long 32 layout _ _ _ c.read_head.ensures c.in_ok-flags.was (search rules)

pub returns-in_err-check_fields : goal.returns-in_err-check_fields
unfolding read_negotiate
returns-in_err-check_fields c =
    with_ok _ _ _ _ _ _ c.read_head.ensures c.in_ok-flags.was (
    handed_over _ _ _ _ _ c.from_residual-in_err-check_fields.ensures.1 (of_fields _ _ c.fields_at-fields.ensures _ _ c.check_fields.ensures) c.in_err-check_fields.was)

pub returns : goal.returns
unfolding read_negotiate
returns c =
    with_ok _ _ _ _ _ _ c.read_head.ensures c.in_ok-flags.was (
    clear _ _ _ _ _ _ (of_fields _ _ c.fields_at-fields.ensures _ _ c.check_fields.ensures) c.in_ok-check_fields.was
    (taken _ _ c.fields_at-fields.ensures _))
