-- The words have room, and make the line.
use Rattle.std.proofs.Common.{arith}
use Rattle.line_negotiate.proofs.Laws.{nego_room}
use Rattle.place.proofs.Laws.{and_then}
use Rattle.line_negotiate.specs.Nego.{nego_text}
use Rattle.line_negotiate.proofs.put.Goals as goal

pub put_bytes-p-requires : goal.put_bytes-p-requires
unfolding nego_text
put_bytes-p-requires c = omega (arith, nego_room)

pub put_flags_word-p-requires : goal.put_flags_word-p-requires
unfolding nego_text
put_flags_word-p-requires c = record { fits = omega (arith, nego_room) }

pub put_names-p-requires : goal.put_names-p-requires
unfolding nego_text
put_names-p-requires c = record { fits = omega (arith, nego_room) }

pub put_max-requires : goal.put_max-requires
unfolding nego_text
put_max-requires c = record { fits = omega (arith, nego_room) }

pub returns : goal.returns
unfolding nego_text
returns c = search and_then
