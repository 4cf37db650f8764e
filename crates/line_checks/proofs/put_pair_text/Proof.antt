-- `put_pair_text` writes a pair's place, id and length number.
use borrow.Author.Rules.{rules}
use native.Mathlib.Omega.{arith}
use Rattle.line_words.proofs.Rooms.{parts3}
use Rattle.place.proofs.Laws.{and_then}
use Rattle.line_checks.specs.Checks.{pair_figures}
use Rattle.line_checks.proofs.put_pair_text.Statement.{statement}
use Rattle.line_checks.proofs.put_pair_text.Tie as tie

pub put_pair_text_spec : {M : Type 1} → statement M
unfolding pair_figures
put_pair_text_spec =
    tie.close
    (tie.spec
    (λ c κs. omega (arith, parts3)) (λ c. search rules) (λ c κs. omega (arith, parts3)) (λ c. search rules)
    (λ c κs. omega (arith, parts3)) (λ c. search rules) (λ c. search and_then))
