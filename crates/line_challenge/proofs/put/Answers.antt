-- The words have room, and make the line.
use Rattle.std.proofs.Common.{arith}
use Rattle.line_words.proofs.Rooms.{parts3}
use Rattle.place.proofs.Laws.{and_then}
use Rattle.line_challenge.specs.Chal.{chal_words}
use Rattle.line_challenge.proofs.put.Goals as goal

pub put_start-p-requires : goal.put_start-p-requires
unfolding chal_words
put_start-p-requires c = record { fits = omega (arith, parts3) }

pub put_name_word-p-requires : goal.put_name_word-p-requires
unfolding chal_words
put_name_word-p-requires c = record { fits = omega (arith, parts3) }

pub put_end-requires : goal.put_end-requires
unfolding chal_words
put_end-requires c = record { fits = omega (arith, parts3) }

pub returns : goal.returns
unfolding chal_words
returns c = search and_then
