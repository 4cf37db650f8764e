-- A night's messages in one buffer (document 02, 8/12): "a lent list of places, each a start, a length and room for its answer .. its
-- answer is the number, field and pair place that a single call on those bytes gives, all 0 if taken; no other part of the entry
-- changes".
use Rattle.wire.specs.declared.refusal.Refusal.{Refusal}
use Rattle.std.specs.Prelude.{Result, Ok, Err, ⊤, ℕ, ◌+◌, List, map, cond, leb, eqb, length, take, drop}
use Rattle.wire.specs.declared.check.Checked.{Checked}
use Rattle.wire.specs.declared.refusal.Refusal.TheVariants.{TooLong, WrongType, PlaceOutside}
use Rattle.wire.specs.Check.{checked, after}
use Rattle.wire.specs.Refusal.{number_of, field_of, place_of}
use Rattle.head.specs.Head.{length_holds}
use Rattle.head.specs.declared.Kind.TheVariants.{Negotiate, Challenge, Authenticate}
use Rattle.verdict.specs.Verdict.{read_as}
use Rattle.batch.specs.declared.Answer.{Answer}
use Rattle.batch.specs.declared.Entry.{Entry}

-- a message's answer: all 0 if it is taken
abbrev pub answer_of : Result ⊤ Refusal → Answer
answer_of (Ok tt) = record { number = 0; field = 0; place = 0 }
answer_of (Err e) = record { number = number_of e; field = field_of e; place = place_of e }

-- check 54: start plus length doesn't pass the end of a buffer of n bytes
abbrev pub place_inside : ℕ → ℕ → ℕ → Checked
place_inside n start len = checked (leb (start + len) n)

-- the bytes at a place
abbrev pub message_at : List ℕ → ℕ → ℕ → List ℕ
message_at s start len = take len (drop start s)

-- a place: 54 before all others, then what the single call gives on its bytes
abbrev pub at_place : List ℕ → ℕ → ℕ → (List ℕ → Result ⊤ Refusal) → Result ⊤ Refusal
at_place s start len read = after (place_inside (length s) start len) (Err PlaceOutside) (read (message_at s start len))

-- check 1, of the buffer
abbrev pub buffer_verdict : List ℕ → Result ⊤ Refusal
buffer_verdict s = after (length_holds s) (Err TooLong) (Ok tt)

-- ---- a list

-- 1, 2 and 3; any other mark gets 4, since no kind has that type
abbrev pub read_marked : ℕ → List ℕ → Result ⊤ Refusal
read_marked mark s =
    cond (eqb mark 1) (read_as Negotiate s) (
    cond (eqb mark 2) (read_as Challenge s) (
    cond (eqb mark 3) (read_as Authenticate s)
    (Err WrongType)))

-- the verdict of an entry's message, and its answer
abbrev pub verdict_of : List ℕ → Entry → Result ⊤ Refusal
verdict_of s e = at_place s e.start e.length (read_marked e.mark)

abbrev pub answer_to : List ℕ → Entry → Answer
answer_to s e = answer_of (verdict_of s e)

-- the entry with its answer
unfoldable pub with_answer : List ℕ → Entry → Entry
with_answer s e = record { start = e.start; length = e.length; mark = e.mark; answer = answer_to s e }

-- the list afterwards: no entry changes where the buffer is refused
abbrev pub filled : List ℕ → List Entry → List Entry
filled s es = after (length_holds s) es (map (with_answer s) es)
