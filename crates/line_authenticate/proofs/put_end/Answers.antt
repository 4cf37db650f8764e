-- The last words have room, and make the whole.
use Rattle.std.proofs.Common.{arith}
use Rattle.line_words.proofs.Rooms.{parts3}
use Rattle.place.proofs.Laws.{and_then}
use Rattle.line_authenticate.specs.Auth.{auth_end}
use Rattle.line_authenticate.proofs.put_end.Goals as goal

pub put_mic-p-requires : goal.put_mic-p-requires
unfolding auth_end
put_mic-p-requires c = record { fits = omega (arith, parts3) }

pub put_kind-p-requires : goal.put_kind-p-requires
unfolding auth_end
put_kind-p-requires c = record { fits = omega (arith, parts3) }

pub put_max-requires : goal.put_max-requires
unfolding auth_end
put_max-requires c = record { fits = omega (arith, parts3) }

pub returns : goal.returns
unfolding auth_end
returns c = search and_then
