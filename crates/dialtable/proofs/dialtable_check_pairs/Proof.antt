-- The answer is the number of the verdict.
use borrow.Author.Rules.{rules}
use Rattle.c_number.proofs.Laws.{of_verdict}
use Rattle.dialtable.proofs.dialtable_check_pairs.Statement.{statement}
use Rattle.dialtable.proofs.dialtable_check_pairs.Tie as tie

pub dialtable_check_pairs_spec : {M : Type 1} → statement M
dialtable_check_pairs_spec =
    tie.close
    (tie.spec
    (λ c κs. search rules) (λ c κs. search rules) (λ c. search of_verdict))
