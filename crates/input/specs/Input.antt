-- Reading an input to its end. A read answers how many bytes it gave, 0 at the end of the input, or that it failed.
use Rattle.std.specs.Prelude.{ℕ, zero, suc, ◌+◌, ◌≤◌, ◌<◌, List, Option, None, Some, Result, Ok, Err, length, take, slice_range, ⊤}
use Rattle.std.specs.Io.KnownBytes.{Consumes, IsAtEnd, Keeps}

-- what a read with this answer leaves, where `at` bytes were there before it: how many are there with more to come, or none at the
-- input's end
abbrev pub after_read : {E : Type 0} → ℕ → Result ℕ E → Result (Option ℕ) E
after_read at (Err e) = Err e
after_read at (Ok zero) = Ok None
after_read at (Ok (suc k)) = Ok (Some (at + suc k))

-- the input's bytes lie within the buffer
abbrev pub InBuffer : {E : Type 0} → Result ℕ E → List ℕ → Type 0
InBuffer (Ok n) buffer = n ≤ length buffer
InBuffer (Err e) buffer = ⊤

-- the same after a read; where reading goes on, more bytes are there than before
abbrev pub Further : {E : Type 0} → ℕ → Result (Option ℕ) E → List ℕ → Type 0
Further at (Ok (Some n)) buffer = (at < n) × (n ≤ length buffer)
Further at (Ok None) buffer = at ≤ length buffer
Further at (Err e) buffer = ⊤

-- what the reader lost by one read, of the bytes that it is known to have had: those that lie in the buffer from `at` on, and none where
-- reading is over. It ends only where the reader has none left or the buffer no room
abbrev pub OnceRead : {E : Type 0} → Option (List ℕ) → Option (List ℕ) → ℕ → Result (Option ℕ) E → List ℕ → Type 0
OnceRead old new at (Ok (Some n)) buffer = Consumes old new (slice_range buffer at n)
OnceRead old new at (Ok None) buffer = Keeps old new × (at < length buffer → IsAtEnd new)
OnceRead old new at (Err e) buffer = Keeps old new

-- what it lost by all of them: the input's bytes. Where the buffer has room for more, it has none left. Where reading failed, the bytes
-- that were read before stand at the buffer's start
abbrev pub WasRead : {E : Type 0} → Option (List ℕ) → Option (List ℕ) → Result ℕ E → List ℕ → Type 0
WasRead old new (Ok n) buffer = Consumes old new (take n buffer) × (n < length buffer → IsAtEnd new)
WasRead old new (Err e) buffer = (n : ℕ) × (n ≤ length buffer) × Consumes old new (take n buffer)
