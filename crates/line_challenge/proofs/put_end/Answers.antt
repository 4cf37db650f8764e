-- The last words have room, and make the whole.
use Rattle.std.proofs.Common.{arith}
use Rattle.line_words.proofs.Rooms.{parts3}
use Rattle.place.proofs.Laws.{and_then}
use Rattle.line_challenge.specs.Chal.{chal_end}
use Rattle.line_challenge.proofs.put_end.Goals as goal

pub put_number_word-p-requires : goal.put_number_word-p-requires
unfolding chal_end
put_number_word-p-requires c = record { fits = omega (arith, parts3) }

pub put_time-p-requires : goal.put_time-p-requires
unfolding chal_end
put_time-p-requires c = record { fits = omega (arith, parts3) }

pub put_max-requires : goal.put_max-requires
unfolding chal_end
put_max-requires c = record { fits = omega (arith, parts3) }

pub returns : goal.returns
unfolding chal_end
returns c = search and_then
