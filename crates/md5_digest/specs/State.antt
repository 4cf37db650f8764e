-- A message is taken byte by byte: what the state is after each. This serves the code; a reader need not believe it, since what is
-- finished after a message is that message's digest (`is_md5`, proofs/Whole.antt).
use Rattle.std.specs.Prelude.{ℕ, ◌+◌, ◌%◌, cond, List, [], ◌∷◌, ltb, set, replicate}
use Rattle.md5_digest.specs.Block.{block_taken}
use Rattle.md5_digest.specs.Digest.{padding, start, word_bytes}
use Rattle.md5_digest.specs.declared.state.State.{State}

-- a block of which no byte has come yet
abbrev pub blank : List ℕ
blank = replicate 64 0

-- the state before the first byte
unfoldable pub fresh : State
fresh = record { buffer = start; tail = blank; count = 0 }

-- a byte goes into the block that is being filled; with its last byte the block goes into the buffer, and the next one is begun
unfoldable pub byte_taken : State → ℕ → State
byte_taken s x =
    let tail : List ℕ = set s.tail (s.count % 64) x in
    cond (ltb (s.count % 64) 63)
    (record { buffer = s.buffer; tail = tail; count = s.count + 1 })
    (record { buffer = block_taken s.buffer tail; tail = blank; count = s.count + 1 })

abbrev pub taken : State → List ℕ → State
taken s [] = s
taken s (x ∷ m) = taken (byte_taken s x) m

-- the digest of what was taken
unfoldable pub finished : State → List ℕ
finished s = word_bytes (taken s (padding s.count)).buffer
