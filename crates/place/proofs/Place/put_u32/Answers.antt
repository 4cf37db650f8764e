use Rattle.std.proofs.Common.{◌∙◌}
use Rattle.place.proofs.Bytes.{bytes_32}
use Rattle.place.proofs.Place.put_u32.Goals as goal

pub returns-clause-wrote : goal.returns-clause-wrote
returns-clause-wrote c = rw (c.to_le_bytes.ensures ∙ bytes_32 c.args.v c.ranges.v.fits) at c.put_four.ensures.wrote
