-- The answer is the number of what was copied.
use borrow.Author.Rules.{rules}
use Rattle.c_number.proofs.Laws.{of_copied, of_copy}
use Rattle.dialtable.proofs.dialtable_domain_to_send.Statement.{statement}
use Rattle.dialtable.proofs.dialtable_domain_to_send.Tie as tie

pub dialtable_domain_to_send_spec : {M : Type 1} → statement M
dialtable_domain_to_send_spec =
    tie.close
    (tie.spec
    (λ c κs. search rules) (λ c κs. search rules) (λ c κs. search rules) (λ c. search rules)
    (λ c. (search of_copied, search of_copy)))
