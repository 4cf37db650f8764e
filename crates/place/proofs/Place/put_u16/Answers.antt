use Rattle.std.proofs.Common.{◌∙◌}
use Rattle.place.proofs.Bytes.{bytes_16}
use Rattle.place.proofs.Place.put_u16.Goals as goal

pub returns-clause-wrote : goal.returns-clause-wrote
returns-clause-wrote c = rw (c.to_le_bytes.ensures ∙ bytes_16 c.args.v c.ranges.v.fits) at c.put_two.ensures.wrote
