-- Document 01: "A program whose line doesn't fit 65,536 bytes prints `refused 33 field=0`", with ` at=0` by document 02. What a program prints for a line, by
-- the lengths of the line and of its output.
use Rattle.std.specs.Prelude.{Ok, ℕ, ◌≤◌, ◌<◌, ◌≡◌, List, [], ◌∷◌, ◌++◌, length}
use Rattle.wire.specs.Text.{ascii}
use Rattle.place.specs.Written.{bytes_answer}
use Rattle.line.specs.Line.{shown_line}

pub record Printed (line out : List ℕ) : Type 0 where
  -- a line that has room is printed as it is, and for any other that of 33
  pub whole : length line ≤ length out → shown_line line out ≡ line
  pub instead : length out < length line → shown_line line out ≡ ascii "refused 33 field=0 at=0" ++ (0x0A ∷ [])
  -- an output of 24 bytes has room for that, so that a program always has a line to print
  pub always : 24 ≤ length out → bytes_answer (shown_line line out) out ≡ Ok (length (shown_line line out))

abbrev pub PrintedExactly : Type 0
PrintedExactly = (line out : List ℕ) → Printed line out
