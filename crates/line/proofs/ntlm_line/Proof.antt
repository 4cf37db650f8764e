-- `ntlm_line` writes the line of the kind that it chose.
use borrow.Author.Rules.{rules}
use Rattle.line_words.proofs.Calls.{same_line}
use Rattle.line.proofs.Programs.{chosen}
use Rattle.line.proofs.ntlm_line.Statement.{statement}
use Rattle.line.proofs.ntlm_line.Tie as tie

pub ntlm_line_spec : {M : Type 1} → statement M
ntlm_line_spec =
    tie.close
    (tie.spec
    (λ c κs. search rules) (λ c. search rules) (λ c κs. search rules) (λ c. search rules) (λ c κs. search rules)
    (λ c. search rules) (λ c κs. search rules) (λ c. search rules)
    (λ c. (search (same_line, chosen), search (same_line, chosen))) (λ c. search rules)
    (λ c. (search (same_line, chosen), search (same_line, chosen))) (λ c. search rules)
    (λ c. (search (same_line, chosen), search (same_line, chosen))))
