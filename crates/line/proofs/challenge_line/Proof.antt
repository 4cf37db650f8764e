-- `challenge_line` writes the line of a message that is taken, and that of its refusal.
use borrow.Author.Rules.{rules}
use Rattle.line.proofs.Challenges.{chal_read, chal_taken, chal_refused}
use Rattle.line_words.proofs.Calls.{same_line}
use Rattle.line.proofs.Places.{chal_short}
use Rattle.line.proofs.challenge_line.Statement.{statement}
use Rattle.line.proofs.challenge_line.Tie as tie

pub challenge_line_spec : {M : Type 1} → statement M
challenge_line_spec =
    tie.close
    (tie.spec
    (λ c κs. search rules) (λ c. search rules) (λ c κs. search chal_read) (λ c. search rules) (λ c κs. search chal_short)
    (λ c. search rules) (λ c. (search (same_line, chal_taken), search (same_line, chal_taken))) (λ c. search rules)
    (λ c. (search (same_line, chal_refused), search (same_line, chal_refused))))
