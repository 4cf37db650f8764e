-- The names have room, and are written.
use Rattle.std.proofs.Common.{arith}
use Rattle.line_words.proofs.Rooms.{parts3}
use Rattle.place.proofs.Laws.{and_then}
use Rattle.line_authenticate.specs.Auth.{auth_names}
use Rattle.line_authenticate.proofs.put_names.Goals as goal

pub put_name_word-p-requires : goal.put_name_word-p-requires
unfolding auth_names
put_name_word-p-requires c = record { fits = omega (arith, parts3) }

pub put_name_word-p-requires-2 : goal.put_name_word-p-requires-2
unfolding auth_names
put_name_word-p-requires-2 c = record { fits = omega (arith, parts3) }

pub put_name_word-requires : goal.put_name_word-requires
unfolding auth_names
put_name_word-requires c = record { fits = omega (arith, parts3) }

pub returns : goal.returns
unfolding auth_names
returns c = search and_then
