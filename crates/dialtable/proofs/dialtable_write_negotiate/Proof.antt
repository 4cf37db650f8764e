-- The answer is the number of what was written.
use borrow.Author.Rules.{rules}
use Rattle.c_number.proofs.Laws.{of_written}
use Rattle.dialtable.proofs.dialtable_write_negotiate.Statement.{statement}
use Rattle.dialtable.proofs.dialtable_write_negotiate.Tie as tie

pub dialtable_write_negotiate_spec : {M : Type 1} → statement M
dialtable_write_negotiate_spec =
    tie.close
    (tie.spec
    (λ c κs. search rules) (λ c κs. search rules) (λ c. search rules) (λ c. (search of_written, search rules)))
