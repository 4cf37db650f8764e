use borrow.Author.Rules.{rules}
use Rattle.wire.proofs.Laws.{clear, with_ok, handed_on, handed_over}
use Rattle.head.proofs.Heads.{head_long}
use Rattle.read_challenge.specs.Challenge.{layout, fields_of}
use Rattle.read_challenge.proofs.Laws.{of_fields, taken}
use Rattle.read_challenge.proofs.fields_of.Goals as goal

pub returns-in_err-flags : goal.returns-in_err-flags
unfolding fields_of
returns-in_err-flags c = handed_on _ _ _ _ _ c.from_residual.ensures.1 c.read_head.ensures c.in_err-flags.was

pub fields_at-fields-requires : goal.fields_at-fields-requires
fields_at-fields-requires c = head_long 48 layout _ _ _ c.read_head.ensures c.in_ok-flags.was (search rules)

pub returns-in_err-check_fields : goal.returns-in_err-check_fields
unfolding fields_of
returns-in_err-check_fields c =
    with_ok _ _ _ _ _ _ c.read_head.ensures c.in_ok-flags.was (
    handed_over _ _ _ _ _ c.from_residual-in_err-check_fields.ensures.1 (of_fields _ _ c.fields_at-fields.ensures _ _ _ _ c.unicode.ensures c.check_fields.ensures)
    c.in_err-check_fields.was)

pub returns : goal.returns
unfolding fields_of
returns c =
    with_ok _ _ _ _ _ _ c.read_head.ensures c.in_ok-flags.was (
    clear _ _ _ _ _ _ (of_fields _ _ c.fields_at-fields.ensures _ _ _ _ c.unicode.ensures c.check_fields.ensures) c.in_ok-check_fields.was
    (taken _ _ c.fields_at-fields.ensures _))
