-- `room_after_message` is what these words leave.
use borrow.Author.Rules.{rules}
use Rattle.line_checks.proofs.Laws.{message_leaves}
use Rattle.line_checks.proofs.room_after_message.Statement.{statement}
use Rattle.line_checks.proofs.room_after_message.Tie as tie

pub room_after_message_spec : {M : Type 1} → statement M
room_after_message_spec =
    tie.close
    (tie.spec
    (λ c κs. search rules) (λ c κs. search rules) (λ c. search message_leaves))
