-- `put_failed` writes the words of the check that failed.
use borrow.Author.Rules.{rules}
use native.Mathlib.Omega.{arith}
use Rattle.line_words.proofs.Rooms.{parts3}
use Rattle.place.proofs.Laws.{and_then}
use Rattle.line_checks.specs.Checks.{failed_words}
use Rattle.line_checks.proofs.put_failed.Statement.{statement}
use Rattle.line_checks.proofs.put_failed.Tie as tie

pub put_failed_spec : {M : Type 1} → statement M
unfolding failed_words
put_failed_spec =
    tie.close
    (tie.spec
    (λ c. search rules) (λ c κs. omega (arith, parts3)) (λ c. search rules) (λ c κs. omega (arith, parts3))
    (λ c κs. omega (arith, parts3)) (λ c. search rules) (λ c. search and_then))
