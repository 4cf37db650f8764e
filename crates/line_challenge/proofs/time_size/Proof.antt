-- `time_size` is the length of the timestamp's word.
use borrow.Author.Rules.{rules}
use Rattle.line_challenge.proofs.Laws.{time_size, no_time_size}
use Rattle.line_challenge.proofs.time_size.Statement.{statement}
use Rattle.line_challenge.proofs.time_size.Tie as tie

pub time_size_spec : {M : Type 1} → statement M
time_size_spec =
    tie.close
    (tie.spec
    (λ c. search rules) (λ c. search rules) (λ c. (search no_time_size, search rules))
    (λ c. (search time_size, search rules)))
