-- `put_words` writes the words of a check's line.
use borrow.Author.Rules.{rules}
use Rattle.line_checks.proofs.Laws.{word_rooms, word_wrote}
use Rattle.line_checks.proofs.put_words.Statement.{statement}
use Rattle.line_checks.proofs.put_words.Tie as tie

pub put_words_spec : {M : Type 1} → statement M
put_words_spec =
    tie.close
    (tie.spec
    (λ c κs. search word_rooms) (λ c. search rules) (λ c. search word_wrote) (λ c κs. search word_rooms)
    (λ c. search rules) (λ c. search word_wrote) (λ c κs. search word_rooms) (λ c. search rules)
    (λ c. search word_wrote))
