-- `nl_auth_line` writes the line of a message that is taken, and that of its refusal.
use borrow.Author.Rules.{rules}
use Rattle.line_words.proofs.Calls.{same_line}
use Rattle.line.proofs.Lines.{nl_read, nl_taken, nl_refused}
use Rattle.line.proofs.Places.{nl_short}
use Rattle.line.proofs.nl_auth_line.Statement.{statement}
use Rattle.line.proofs.nl_auth_line.Tie as tie

pub nl_auth_line_spec : {M : Type 1} → statement M
nl_auth_line_spec =
    tie.close
    (tie.spec
    (λ c κs. search rules) (λ c. search rules) (λ c κs. search nl_read) (λ c. search rules)
    (λ c κs. search nl_short) (λ c. search rules) (λ c. (search (same_line, nl_taken), search (same_line, nl_taken)))
    (λ c. search rules) (λ c. (search (same_line, nl_refused), search (same_line, nl_refused))))
