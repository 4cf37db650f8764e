-- The line has room for each of its parts, and they are written one after the other.
use Rattle.std.proofs.Common.{arith}
use Rattle.place.proofs.Laws.{and_then}
use Rattle.line_nl_auth.proofs.Laws.{nl_room}
use Rattle.line_nl_auth.specs.Nl.{nl_text}
use Rattle.line_nl_auth.proofs.put.Goals as goal

pub put_start-p-requires : goal.put_start-p-requires
put_start-p-requires c = omega (arith, nl_room)

pub put_oem-p-requires : goal.put_oem-p-requires
put_oem-p-requires c = omega (arith, nl_room)

pub put_utf8-p-requires : goal.put_utf8-p-requires
put_utf8-p-requires c = omega (arith, nl_room)

pub put_u8-requires : goal.put_u8-requires
put_u8-requires c = omega (arith, nl_room)

pub returns : goal.returns
unfolding nl_text
returns c = search and_then depth 8 fits 20000
