-- `room_after_failed` is what these words leave.
use borrow.Author.Rules.{rules}
use Rattle.line_checks.proofs.Laws.{failed_leave}
use Rattle.line_checks.proofs.room_after_failed.Statement.{statement}
use Rattle.line_checks.proofs.room_after_failed.Tie as tie

pub room_after_failed_spec : {M : Type 1} → statement M
room_after_failed_spec =
    tie.close
    (tie.spec
    (λ c. search rules) (λ c κs. search rules) (λ c. search rules) (λ c κs. search rules) (λ c κs. search rules)
    (λ c. search failed_leave))
