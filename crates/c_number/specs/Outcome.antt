-- What a reading of the C interface hands out: numbers at the front of a lent array, or a refusal. An array that is too
-- short is refused 33 before anything is read; a refusal changes nothing.
use Rattle.std.specs.Prelude.{◌≡◌, Result, Ok, Err, ℕ, ◌&&◌, List, leb, length}
use Rattle.wire.specs.declared.refusal.Refusal.{Refusal}
use Rattle.wire.specs.declared.refusal.Refusal.TheVariants.{NoRoom}
use Rattle.wire.specs.declared.check.Checked.{Checked}
use Rattle.wire.specs.Check.{checked, after}
use Rattle.place.specs.Written.{room_holds, at_front}
use Rattle.c_number.specs.Number.{refusal_number}

pub data Outcome : Type 0 where
  numbers : List ℕ → Outcome
  refused : Refusal → Outcome

-- that this is what comes of a reading: `of` gives the numbers of what it found
abbrev pub Finds : {A : Type 0} → (A → List ℕ) → Result A Refusal → Outcome → Type 0
Finds of (Ok a) h = numbers (of a) ≡ h
Finds of (Err e) h = refused e ≡ h

-- and of one that found bytes too
abbrev pub FindsBoth : {A B : Type 0} → (A → List ℕ) → (B → List ℕ) → Result (A × B) Refusal → Outcome → List ℕ → Type 0
FindsBoth of by (Ok f) h bytes = (numbers (of f.0) ≡ h) × (by f.1 ≡ bytes)
FindsBoth of by (Err e) h bytes = refused e ≡ h

abbrev pub outcome_number : Outcome → ℕ
outcome_number (numbers xs) = 0
outcome_number (refused e) = refusal_number e

-- the array of numbers afterwards
abbrev pub outcome_out : Outcome → List ℕ → List ℕ
outcome_out (numbers xs) out = at_front xs out
outcome_out (refused e) out = out

-- and that of the bytes which go beside them
abbrev pub outcome_bytes : Outcome → List ℕ → List ℕ → List ℕ
outcome_bytes (numbers xs) bytes out = at_front bytes out
outcome_bytes (refused e) bytes out = out

-- ---- a call with one array, of which it needs n places

unfoldable pub call_number : ℕ → Outcome → ℕ → ℕ
call_number n h room = after (room_holds n room) (refusal_number NoRoom) (outcome_number h)

unfoldable pub call_out : ℕ → Outcome → List ℕ → List ℕ
call_out n h out = after (room_holds n (length out)) out (outcome_out h out)

-- ---- a call with a second array, for m bytes beside the numbers

-- check 33: both arrays have their room
abbrev pub rooms_hold : ℕ → ℕ → ℕ → ℕ → Checked
rooms_hold n room m room' = checked (leb n room && leb m room')

unfoldable pub two_array_number : ℕ → ℕ → Outcome → ℕ → ℕ → ℕ
two_array_number n m h room room' = after (rooms_hold n room m room') (refusal_number NoRoom) (outcome_number h)

unfoldable pub two_array_out : ℕ → ℕ → Outcome → List ℕ → ℕ → List ℕ
two_array_out n m h out room' = after (rooms_hold n (length out) m room') out (outcome_out h out)

unfoldable pub two_array_bytes : ℕ → ℕ → Outcome → List ℕ → ℕ → List ℕ → List ℕ
two_array_bytes n m h bytes room out = after (rooms_hold n room m (length out)) out (outcome_bytes h bytes out)
