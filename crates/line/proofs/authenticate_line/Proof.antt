-- `authenticate_line` writes the line of a message that is taken, and that of its refusal.
use borrow.Author.Rules.{rules}
use Rattle.line_words.proofs.Calls.{same_line}
use Rattle.line.proofs.Lines.{auth_read, auth_taken, auth_refused}
use Rattle.line.proofs.Places.{auth_short}
use Rattle.line.proofs.authenticate_line.Statement.{statement}
use Rattle.line.proofs.authenticate_line.Tie as tie

pub authenticate_line_spec : {M : Type 1} → statement M
authenticate_line_spec =
    tie.close
    (tie.spec
    (λ c κs. search rules) (λ c. search rules) (λ c κs. search auth_read) (λ c. search rules)
    (λ c κs. search auth_short) (λ c. search rules) (λ c. (search (same_line, auth_taken), search (same_line, auth_taken)))
    (λ c. search rules) (λ c. (search (same_line, auth_refused), search (same_line, auth_refused))))
