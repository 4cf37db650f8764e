-- The parts have room, and make the whole.
use Rattle.std.proofs.Common.{arith}
use Rattle.line_max.proofs.Laws.{all_fits, end_wrote}
use Rattle.line_max.proofs.put_max.Goals as goal

pub put_bytes-p-requires : goal.put_bytes-p-requires
put_bytes-p-requires c = omega (arith, all_fits)

pub put_digits-p-requires : goal.put_digits-p-requires
put_digits-p-requires c = record { fits = omega (arith, all_fits) }

pub put_u8-requires : goal.put_u8-requires
put_u8-requires c = omega (arith, all_fits)

pub returns : goal.returns
returns c = search end_wrote
