-- `put_figures` writes the figures.
use borrow.Author.Rules.{rules}
use native.Mathlib.Omega.{arith}
use Rattle.line_words.proofs.Rooms.{parts3}
use Rattle.place.proofs.Laws.{and_then}
use Rattle.line_checks.specs.Checks.{figure_words}
use Rattle.line_checks.proofs.put_figures.Statement.{statement}
use Rattle.line_checks.proofs.put_figures.Tie as tie

pub put_figures_spec : {M : Type 1} → statement M
unfolding figure_words
put_figures_spec =
    tie.close
    (tie.spec
    (λ c κs. omega (arith, parts3)) (λ c. search rules) (λ c κs. omega (arith, parts3))
    (λ c κs. omega (arith, parts3)) (λ c. search rules) (λ c. search and_then))
