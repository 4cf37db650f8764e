-- The answer is the number of what was written.
use borrow.Author.Rules.{rules}
use Rattle.c_number.proofs.Laws.{no_room, of_written}
use Rattle.dialtable.proofs.dialtable_negotiate_line.Statement.{statement}
use Rattle.dialtable.proofs.dialtable_negotiate_line.Tie as tie

pub dialtable_negotiate_line_spec : {M : Type 1} → statement M
dialtable_negotiate_line_spec =
    tie.close
    (tie.spec
    (λ c κs. search rules) (λ c κs. search no_room) (λ c. search rules) (λ c. (search of_written, search rules)))
