-- `room_after_figures` is what these words leave.
use borrow.Author.Rules.{rules}
use Rattle.line_checks.proofs.Laws.{figures_leave}
use Rattle.line_checks.proofs.room_after_figures.Statement.{statement}
use Rattle.line_checks.proofs.room_after_figures.Tie as tie

pub room_after_figures_spec : {M : Type 1} → statement M
room_after_figures_spec =
    tie.close
    (tie.spec
    (λ c κs. search rules) (λ c. search rules) (λ c κs. search rules) (λ c κs. search rules)
    (λ c. search figures_leave))
