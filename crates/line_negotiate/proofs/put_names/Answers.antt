-- Both names have room, and are written.
use Rattle.std.proofs.Common.{arith}
use Rattle.line_words.proofs.Rooms.{parts}
use Rattle.place.proofs.Laws.{and_then}
use Rattle.line_negotiate.specs.Nego.{nego_names}
use Rattle.line_negotiate.proofs.put_names.Goals as goal

pub put_name_word-p-requires : goal.put_name_word-p-requires
unfolding nego_names
put_name_word-p-requires c = record { fits = omega (arith, parts) }

pub put_name_word-requires : goal.put_name_word-requires
unfolding nego_names
put_name_word-requires c = record { fits = omega (arith, parts) }

pub returns : goal.returns
unfolding nego_names
returns c = search and_then
