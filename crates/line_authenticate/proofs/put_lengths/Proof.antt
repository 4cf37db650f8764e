-- `put_lengths` writes the lengths of LM response, NT response and key.
use borrow.Author.Rules.{rules}
use native.Mathlib.Omega.{arith}
use Rattle.line_words.proofs.Rooms.{parts3}
use Rattle.line_authenticate.proofs.put_lengths.Statement.{statement}
use Rattle.line_authenticate.proofs.put_lengths.Tie as tie
use Rattle.line_authenticate.specs.Auth.{auth_lengths}
use Rattle.place.proofs.Laws.{and_then}

pub put_lengths_spec : {M : Type 1} → statement M
unfolding auth_lengths
put_lengths_spec =
    tie.close
    (tie.spec
    (λ c κs. omega (arith, parts3)) (λ c κs. omega (arith, parts3)) (λ c κs. omega (arith, parts3))
    (λ c. search rules) (λ c. search and_then))
