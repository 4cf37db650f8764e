-- `put_time` writes the timestamp's word, or nothing where there is none.
use borrow.Author.Rules.{rules}
use Rattle.line_challenge.proofs.Laws.{time_room, wrote_time, wrote_no_time}
use Rattle.line_challenge.proofs.put_time.Statement.{statement}
use Rattle.line_challenge.proofs.put_time.Tie as tie

pub put_time_spec : {M : Type 1} → statement M
put_time_spec =
    tie.close
    (tie.spec
    (λ c. search rules) (λ c. search rules) (λ c. search wrote_no_time) (λ c κs. search time_room) (λ c. search rules)
    (λ c. search wrote_time))
