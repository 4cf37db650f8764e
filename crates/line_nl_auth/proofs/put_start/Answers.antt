-- The two words have room, and are written one after the other.
use Rattle.std.proofs.Common.{arith}
use Rattle.line_words.proofs.Rooms.{parts}
use Rattle.place.proofs.Laws.{and_then}
use Rattle.line_nl_auth.specs.Nl.{nl_start}
use Rattle.line_nl_auth.proofs.put_start.Goals as goal

pub put_number_word-p-requires : goal.put_number_word-p-requires
unfolding nl_start
put_number_word-p-requires c = omega (arith, parts)

pub put_flags_word-requires : goal.put_flags_word-requires
unfolding nl_start
put_flags_word-requires c = omega (arith, parts)

pub returns : goal.returns
unfolding nl_start
returns c = search and_then
