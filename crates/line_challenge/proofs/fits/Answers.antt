-- Check 33 by what the words leave.
use Rattle.line_challenge.proofs.Laws.{chal_fits}
use Rattle.line_challenge.proofs.fits.Goals as goal

pub returns : goal.returns
returns c = search chal_fits
