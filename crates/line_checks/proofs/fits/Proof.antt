-- `fits` is check 33: where thirteen lines have room at their longest, and else by measuring.
use borrow.Author.Rules.{rules}
use Rattle.line_checks.proofs.Bound.{lines_have_room}
use Rattle.line_checks.proofs.fits.Statement.{statement}
use Rattle.line_checks.proofs.fits.Tie as tie

pub fits_spec : {M : Type 1} → statement M
fits_spec =
    tie.close
    (tie.spec
    (λ c. search rules) (λ c. search rules) (λ c. lines_have_room _
    (record {
      number = search rules;
      field = search rules;
      offset = search rules;
      len = search rules;
      message = search rules;
      at = search rules;
      id = search rules;
      size = search rules;
    })
    _ _ (λ i. (c.before.shared_slice_known-1.given i).fits) (search rules)) (λ c κs. search rules) (λ c. search rules))
