-- `negotiate_line` writes the line of a message that is taken, and that of its refusal.
use borrow.Author.Rules.{rules}
use Rattle.line_words.proofs.Calls.{same_line}
use Rattle.line.proofs.Lines.{nego_read, nego_taken, nego_refused}
use Rattle.line.proofs.Places.{nego_short}
use Rattle.line.proofs.negotiate_line.Statement.{statement}
use Rattle.line.proofs.negotiate_line.Tie as tie

pub negotiate_line_spec : {M : Type 1} → statement M
negotiate_line_spec =
    tie.close
    (tie.spec
    (λ c κs. search rules) (λ c. search rules) (λ c κs. search nego_read) (λ c. search rules) (λ c κs. search nego_short)
    (λ c. search rules) (λ c. (search (same_line, nego_taken), search (same_line, nego_taken))) (λ c. search rules)
    (λ c. (search (same_line, nego_refused), search (same_line, nego_refused))))
