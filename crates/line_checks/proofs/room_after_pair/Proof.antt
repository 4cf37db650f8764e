-- `room_after_pair` is what a pair's words leave.
use borrow.Author.Rules.{rules}
use Rattle.line_checks.proofs.Laws.{pair_leaves, no_pair_leaves}
use Rattle.line_checks.proofs.room_after_pair.Statement.{statement}
use Rattle.line_checks.proofs.room_after_pair.Tie as tie

pub room_after_pair_spec : {M : Type 1} → statement M
room_after_pair_spec =
    tie.close
    (tie.spec
    (λ c κs. search rules) (λ c κs. search rules) (λ c. search rules) (λ c κs. search rules) (λ c. search rules)
    (λ c κs. search rules) (λ c. search pair_leaves) (λ c. search no_pair_leaves))
