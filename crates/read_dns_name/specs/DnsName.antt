-- A name in a buffer (RFC 1035 section 4.1.4): labels of 1 to 63 bytes after a length byte, ended by a zero byte or by a
-- two-byte jump, whose top two bits are set and whose other 14 are a place of the buffer.
use Rattle.std.specs.Prelude.{Result, Ok, Err, ℕ, zero, suc, ◌+◌, ◌-◌, ◌*◌, ◌%◌, cond, List, [], ◌∷◌, leb, ltb, eqb, length, get_or, take, drop}
use Rattle.wire.specs.Check.{checked, after}
use Rattle.read_dns_name.specs.declared.Cursor.{Cursor}
use Rattle.read_dns_name.specs.declared.Fault.{Fault}
use Rattle.read_dns_name.specs.declared.Fault.TheVariants.{CutShort, WrongTopBits, PlaceNotBefore, TooManyJumps, NameTooLong}
use Rattle.read_dns_name.specs.declared.Step.{Step}
use Rattle.read_dns_name.specs.declared.Step.TheVariants.{Label, Jump, End}
use Rattle.read_dns_name.specs.declared.Name.{Name}

-- how many bytes are left from a place on
unfoldable pub left : List ℕ → ℕ → ℕ
left s at = length s - at

-- ---- what stands at the cursor

-- "15 for a label cut short" and "53 for over 255", at a label of n bytes
unfoldable pub label_of : Cursor → ℕ → ℕ → Result Step Fault
label_of c n left =
    after (checked (leb (1 + n) left)) (Err CutShort) (
    after (checked (leb (c.coded + 1 + n) 255)) (Err NameTooLong)
    (Ok (Label n)))

-- "51 for a place not before" the run that the jump ends, and "52 for a seventeenth jump"
unfoldable pub jump_to : Cursor → ℕ → Result Step Fault
jump_to c to =
    after (checked (ltb to c.run)) (Err PlaceNotBefore) (
    after (checked (ltb c.jumps 16)) (Err TooManyJumps)
    (Ok (Jump to)))

-- the 14 bits of a jump, high byte first
abbrev pub jump_place : ℕ → ℕ → ℕ
jump_place high low = 256 * (high % 64) + low

-- "15 for a jump cut short", 51 and 52
unfoldable pub jump_at : List ℕ → Cursor → Result Step Fault
jump_at s c =
    after (checked (leb 2 (left s c.at))) (Err CutShort)
    (jump_to c (jump_place (get_or s c.at 0) (get_or s (c.at + 1) 0)))

-- "15 for a length byte cut short"; then the byte's top bits decide: 00 a length, 11 a jump, "50 for other top bits"
unfoldable pub step_at : List ℕ → Cursor → Result Step Fault
step_at s c =
    after (checked (leb 1 (left s c.at))) (Err CutShort) (
    cond (eqb (get_or s c.at 0) 0) (Ok End) (
    cond (ltb (get_or s c.at 0) 64) (label_of c (get_or s c.at 0) (left s c.at)) (
    cond (ltb (get_or s c.at 0) 192) (Err WrongTopBits)
    (jump_at s c))))

-- ---- how the cursor moves

abbrev pub begin : ℕ → Cursor
begin start = record { at = start; run = start; jumps = 0; coded = 1; next = 0 }

abbrev pub past_label : Cursor → ℕ → Cursor
past_label c n =
    record { at = c.at + 1 + n; run = c.run; jumps = c.jumps; coded = c.coded + 1 + n; next = c.next }

-- a new run starts at the place jumped to; behind the first jump the next string starts
abbrev pub jumped : Cursor → ℕ → Cursor
jumped c to =
    record { at = to; run = to; jumps = c.jumps + 1; coded = c.coded; next = cond (eqb c.jumps 0) (c.at + 2) c.next }

-- the zero byte at the cursor ends the name; with no jump the next string starts behind it
abbrev pub ended : Cursor → Name
ended c = record { jumps = c.jumps; next = cond (eqb c.jumps 0) (c.at + 1) c.next }

-- ---- the name

abbrev pub on_step : {A : Type 0} → Result Step Fault → (ℕ → A) → (ℕ → A) → A → (Fault → A) → A
on_step (Ok (Label n)) label jump end fault = label n
on_step (Ok (Jump to)) label jump end fault = jump to
on_step (Ok End) label jump end fault = end
on_step (Err e) label jump end fault = fault e

-- the name from a cursor on, in at most so many steps
abbrev pub name_from : ℕ → List ℕ → Cursor → Result Name Fault
name_from zero s c = Err NameTooLong
name_from (suc k) s c =
    on_step (step_at s c) (λ n. name_from k s (past_label c n)) (λ to. name_from k s (jumped c to)) (Ok (ended c)) (λ e. Err e)

-- its labels before the end or the fault
abbrev pub labels_from : ℕ → List ℕ → Cursor → List (List ℕ)
labels_from zero s c = []
labels_from (suc k) s c =
    on_step (step_at s c) (λ n. take n (drop (c.at + 1) s) ∷ labels_from k s (past_label c n)) (λ to. labels_from k s (jumped c to)) [] (λ e. [])

-- a label adds two or more to the coded length, which is 1 at first and at most 255, and a jump one to the jumps, which are at
-- most 16: so this many steps do, in any buffer
unfoldable pub max_steps : ℕ
max_steps = 270

unfoldable pub read_name : List ℕ → ℕ → Result Name Fault
read_name s start = name_from (suc max_steps) s (begin start)

unfoldable pub labels_at : List ℕ → ℕ → List (List ℕ)
labels_at s start = labels_from (suc max_steps) s (begin start)

-- the number of each refusal
abbrev pub number_of : Fault → ℕ
number_of CutShort = 15
number_of WrongTopBits = 50
number_of PlaceNotBefore = 51
number_of TooManyJumps = 52
number_of NameTooLong = 53
