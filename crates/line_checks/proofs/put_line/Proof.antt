-- `put_line` writes a check's line.
use borrow.Author.Rules.{rules}
use native.Mathlib.Omega.{arith}
use Rattle.line_words.proofs.Rooms.{parts}
use Rattle.place.proofs.Laws.{and_then}
use Rattle.line_checks.specs.Checks.{check_line}
use Rattle.line_checks.proofs.put_line.Statement.{statement}
use Rattle.line_checks.proofs.put_line.Tie as tie

pub put_line_spec : {M : Type 1} → statement M
unfolding check_line
put_line_spec =
    tie.close
    (tie.spec
    (λ c κs. omega (arith, parts)) (λ c κs. omega (arith, parts)) (λ c. search rules) (λ c. search and_then))
