-- `fits` is check 33.
use borrow.Author.Rules.{rules}
use Rattle.line_negotiate.proofs.Bound.{nego_surely_fits}
use Rattle.line_negotiate.proofs.Laws.{nego_fits}
use Rattle.line_negotiate.proofs.fits.Statement.{statement}
use Rattle.line_negotiate.proofs.fits.Tie as tie

pub fits_spec : {M : Type 1} → statement M
fits_spec =
    tie.close
    (tie.spec
    (λ c κs. search rules) (λ c. search nego_surely_fits) (λ c. search rules) (λ c κs. search rules) (λ c κs. search rules)
    (λ c. search nego_fits))
