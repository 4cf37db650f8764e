-- `put_plain` writes a check's number and a word.
use borrow.Author.Rules.{rules}
use native.Mathlib.Omega.{arith}
use Rattle.line_words.proofs.Rooms.{parts}
use Rattle.place.proofs.Laws.{and_then}
use Rattle.line_checks.specs.Checks.{plain_words}
use Rattle.line_checks.proofs.put_plain.Statement.{statement}
use Rattle.line_checks.proofs.put_plain.Tie as tie

pub put_plain_spec : {M : Type 1} → statement M
unfolding plain_words
put_plain_spec =
    tie.close
    (tie.spec
    (λ c κs. omega (arith, parts)) (λ c κs. omega (arith, parts)) (λ c. search rules) (λ c. search and_then))
