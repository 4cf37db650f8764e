-- What the C interface answers and hands out: every answer is one number, and what a reading found is an array of numbers.
use Rattle.std.specs.Prelude.{Result, Ok, Err, ⊤, ℕ, ◌+◌, ◌*◌, min, Bool, true, false}
use Rattle.wire.specs.declared.refusal.Refusal.{Refusal}
use Rattle.wire.specs.Refusal.{number_of, field_of, place_of}

-- a place has 47 bits there; one that doesn't fit is shown as the largest that does, which only a list lent alone can have
abbrev pub place_shown : ℕ → ℕ
place_shown at = min at 0x7FFFFFFFFFFF

-- a refusal: the top bit of 64, then its place, then eight bits for its number and eight for its field
abbrev pub refusal_number : Refusal → ℕ
refusal_number e = 0x8000000000000000 + (65536 * place_shown (place_of e) + (256 * number_of e + field_of e))

-- a group of checks: 0 where all held
abbrev pub verdict_number : Result ⊤ Refusal → ℕ
verdict_number (Ok tt) = 0
verdict_number (Err e) = refusal_number e

-- a writing: the length written
abbrev pub written_number : Result ℕ Refusal → ℕ
written_number (Ok n) = n
written_number (Err e) = refusal_number e

-- a question's answer
abbrev pub bit : Bool → ℕ
bit true = 1
bit false = 0
