-- What the two calls answer: 0 and sixteen bytes at the front of the output, or 1 and the output as it was where it is too short for them
-- or what goes in is over 65,535 bytes.
use Rattle.std.specs.Prelude.{ℕ, Bool, ◌&&◌, cond, List, leb}
use Rattle.place.specs.Written.{at_front}

abbrev pub buffer_fits : ℕ → ℕ → ℕ → Bool
buffer_fits size other room = leb size 65535 && (leb other 65535 && leb 16 room)

unfoldable pub call_answer : Bool → ℕ
call_answer b = cond b 0 1

unfoldable pub call_after : Bool → List ℕ → List ℕ → List ℕ
call_after b bytes out = cond b (at_front bytes out) out
