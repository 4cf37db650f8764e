-- `put_message` writes the message's figure and the pair's.
use borrow.Author.Rules.{rules}
use native.Mathlib.Omega.{arith}
use Rattle.line_words.proofs.Rooms.{parts}
use Rattle.place.proofs.Laws.{and_then}
use Rattle.line_checks.specs.Checks.{message_words}
use Rattle.line_checks.proofs.put_message.Statement.{statement}
use Rattle.line_checks.proofs.put_message.Tie as tie

pub put_message_spec : {M : Type 1} → statement M
unfolding message_words
put_message_spec =
    tie.close
    (tie.spec
    (λ c κs. omega (arith, parts)) (λ c κs. omega (arith, parts)) (λ c. search rules) (λ c. search and_then))
