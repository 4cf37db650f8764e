-- `fits` is check 33.
use borrow.Author.Rules.{rules}
use Rattle.line_authenticate.proofs.Laws.{auth_surely_fits, auth_fits}
use Rattle.line_authenticate.proofs.fits.Statement.{statement}
use Rattle.line_authenticate.proofs.fits.Tie as tie

pub fits_spec : {M : Type 1} → statement M
fits_spec =
    tie.close
    (tie.spec
    (λ c κs. search rules) (λ c κs. search rules) (λ c. search auth_surely_fits) (λ c κs. search rules)
    (λ c κs. search rules) (λ c κs. search rules) (λ c. search rules) (λ c κs. search rules) (λ c. search rules)
    (λ c. search rules) (λ c κs. search rules) (λ c. search auth_fits))
