-- The line fits by the most that it may have, or by its length.
use Rattle.line_nl_auth.proofs.Bounds.{nl_surely_fits}
use Rattle.line_nl_auth.proofs.Laws.{nl_fits}
use Rattle.line_nl_auth.proofs.fits.Goals as goal

pub returns-then-surely_fits : goal.returns-then-surely_fits
returns-then-surely_fits c = search nl_surely_fits

pub returns : goal.returns
returns c = search nl_fits
