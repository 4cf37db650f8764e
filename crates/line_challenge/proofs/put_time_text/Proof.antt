-- `put_time_text` writes a timestamp.
use borrow.Author.Rules.{rules}
use native.Mathlib.Omega.{arith}
use Rattle.line_challenge.proofs.Laws.{time_text_room}
use Rattle.line_words.proofs.Rooms.{then_lent}
use Rattle.line_challenge.proofs.put_time_text.Statement.{statement}
use Rattle.line_challenge.proofs.put_time_text.Tie as tie
use Rattle.line_challenge.specs.Chal.{time_text}

pub put_time_text_spec : {M : Type 1} → statement M
unfolding time_text
put_time_text_spec =
    tie.close
    (tie.spec
    (λ c κs. omega (arith, time_text_room)) (λ c. omega (arith, time_text_room)) (λ c. omega (arith, time_text_room))
    (λ c. search rules) (λ c κs. omega (arith, time_text_room)) (λ c. search rules) (λ c. search rules)
    (λ c. search then_lent))
