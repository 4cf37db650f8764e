-- `nl_auth_program_line` writes the line, or that of 33 where the line has no room.
use borrow.Author.Rules.{rules}
use Rattle.line.proofs.Programs.{shown_answer, shown_after, instead_answer, instead_after}
use Rattle.line.proofs.nl_auth_program_line.Statement.{statement}
use Rattle.line.proofs.nl_auth_program_line.Tie as tie

pub nl_auth_program_line_spec : {M : Type 1} → statement M
nl_auth_program_line_spec =
    tie.close
    (tie.spec
    (λ c κs. search rules) (λ c. search rules) (λ c. search rules) (λ c κs. search rules) (λ c. search rules)
    (λ c. (search instead_answer, search instead_after)) (λ c. search rules)
    (λ c. (search shown_answer, search shown_after)))
