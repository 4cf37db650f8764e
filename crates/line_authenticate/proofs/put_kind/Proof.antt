-- `put_kind` writes the last word.
use borrow.Author.Rules.{rules}
use Rattle.line_words.proofs.Labels.{kind_rooms, choice}
use Rattle.line_authenticate.proofs.put_kind.Statement.{statement}
use Rattle.line_authenticate.proofs.put_kind.Tie as tie
use Rattle.line_words.specs.Words.{kind_word}

pub put_kind_spec : {M : Type 1} → statement M
unfolding kind_word
put_kind_spec =
    tie.close
    (tie.spec
    (λ c κs. search kind_rooms) (λ c. search rules) (λ c. search choice) (λ c κs. search kind_rooms)
    (λ c. search rules) (λ c. search choice) (λ c κs. search kind_rooms) (λ c. search rules) (λ c. search choice)
    (λ c κs. search kind_rooms) (λ c. search rules) (λ c. search choice))
