-- `room_after_plain` is what these words leave.
use borrow.Author.Rules.{rules}
use Rattle.line_checks.proofs.Laws.{plain_leaves}
use Rattle.line_checks.proofs.room_after_plain.Statement.{statement}
use Rattle.line_checks.proofs.room_after_plain.Tie as tie

pub room_after_plain_spec : {M : Type 1} → statement M
room_after_plain_spec =
    tie.close
    (tie.spec
    (λ c κs. search rules) (λ c κs. search rules) (λ c. search plain_leaves))
