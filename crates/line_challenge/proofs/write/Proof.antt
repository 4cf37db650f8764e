-- `write` writes the words with what the reader found.
use borrow.Author.Rules.{rules}
use Rattle.line_words.proofs.Calls.{same_line}
use Rattle.line_challenge.proofs.Laws.{count_fits, words_told}
use Rattle.line_challenge.proofs.write.Statement.{statement}
use Rattle.line_challenge.proofs.write.Tie as tie

pub write_spec : {M : Type 1} → statement M
write_spec =
    tie.close
    (tie.spec
    (λ c κs. search rules) (λ c. search count_fits) (λ c κs. search rules) (λ c. search rules)
    (λ c. (search (same_line, words_told), search (same_line, words_told))))
