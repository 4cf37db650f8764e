-- `room_after_words` is what the words of a check's line leave.
use borrow.Author.Rules.{rules}
use Rattle.line_checks.proofs.Laws.{word_leaves}
use Rattle.line_checks.proofs.room_after_words.Statement.{statement}
use Rattle.line_checks.proofs.room_after_words.Tie as tie

pub room_after_words_spec : {M : Type 1} → statement M
room_after_words_spec =
    tie.close
    (tie.spec
    (λ c κs. search rules) (λ c. search word_leaves) (λ c κs. search rules) (λ c. search word_leaves)
    (λ c κs. search rules) (λ c. search word_leaves))
