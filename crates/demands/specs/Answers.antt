-- Demand 1: "A refusal gives its number and field". From C it gives them, and the place of a pair, by the macros of
-- include/dialtable.h, whose `>>` and `&` are `/` and `%` here, and no length is taken for a refusal.
use Rattle.std.specs.Prelude.{Result, Ok, Err, ⊤, ℕ, ◌/◌, ◌%◌, ◌≤◌, ◌<◌, ◌≡◌, Bool, ◌⊎◌, List, length}
use Rattle.wire.specs.declared.refusal.Refusal.{Refusal}
use Rattle.wire.specs.declared.refusal.Refusal.TheVariants.{NoRoom}
use Rattle.wire.specs.Refusal.{number_of, field_of, place_of}
use Rattle.field.specs.declared.Field.{Field}
use Rattle.place.specs.Written.{bytes_answer}
use Rattle.av_pairs.specs.AvPairs.{check_pairs}
use Rattle.write_authenticate.specs.Writing.{write_answer}
use Rattle.line.specs.Line.{negotiate_line, authenticate_line, challenge_line, nl_auth_line, ntlm_line, shown_line}
use Rattle.negotiate_flags.specs.declared.NegotiateFlags.{NegotiateFlags}
use Rattle.write_negotiate.specs.Writing.{write_answer as negotiate_answer}
use Rattle.nl_auth_flags.specs.declared.NlAuthFlags.{NlAuthFlags}
use Rattle.nl_auth_flags.specs.Flags.{known}
use Rattle.write_nl_auth.specs.Writing.{request_answer, response_answer}
use Rattle.respond.specs.declared.answer.Answer.{Answer}
use Rattle.respond.specs.declared.decision.Settings.{Settings}
use Rattle.respond.specs.Answer.{Supplied, respond_to}
use Rattle.write_response_pairs.specs.ResponsePairs.{write_answer as pairs_answer}
use Rattle.c_number.specs.Number.{verdict_number, written_number}
use Rattle.c_number.specs.Outcome.{Outcome, numbers, refused, call_number, two_array_number}
use Rattle.c_read.specs.FieldCopy.{field_copy_answer}
use Rattle.c_respond.specs.Respond.{respond_from_c}
use Rattle.demands.specs.FromC.{Call, count, outcome, TwoArrayCall, number_count, byte_count, two_array_outcome}

-- DIALTABLE_IS_REFUSED, DIALTABLE_NUMBER, DIALTABLE_FIELD and DIALTABLE_PLACE
abbrev pub is_refused : ℕ → ℕ
is_refused answer = answer / 0x8000000000000000

abbrev pub number_in : ℕ → ℕ
number_in answer = answer / 0x100 % 0x100

abbrev pub field_in : ℕ → ℕ
field_in answer = answer % 0x100

abbrev pub place_in : ℕ → ℕ
place_in answer = answer / 0x10000 % 0x800000000000

-- a success: the top bit is clear, and the answer is the length of what was written, or 0
pub record DecodesLength (answer n : ℕ) : Type 0 where
  pub top_bit : is_refused answer ≡ 0
  pub is_length : answer ≡ n

-- a refusal: the top bit is set, and the macros give document 01's number and field, and the place; a place that has no room there is
-- told as the largest that has
pub record DecodesRefusal (answer : ℕ) (e : Refusal) : Type 0 where
  pub top_bit : is_refused answer ≡ 1
  pub number : number_in answer ≡ number_of e
  pub field : field_in answer ≡ field_of e
  pub place : place_of e ≤ 0x7FFFFFFFFFFF → place_in answer ≡ place_of e
  pub far_place : 0x7FFFFFFFFFFF < place_of e → place_in answer ≡ 0x7FFFFFFFFFFF

-- ---- the calls that hand out numbers: 33 where an array is too short, and else what the outcome is

abbrev pub DecodesOutcome : ℕ → Outcome → Type 0
DecodesOutcome answer (numbers xs) = DecodesLength answer 0
DecodesOutcome answer (refused e) = DecodesRefusal answer e

abbrev pub CallDecodes : Type 0
CallDecodes =
    (c : Call) (room : ℕ) →
    (room < count c → DecodesRefusal (call_number (count c) (outcome c) room) NoRoom)
    × (count c ≤ room → DecodesOutcome (call_number (count c) (outcome c) room) (outcome c))

abbrev pub TwoArraysDecode : Type 0
TwoArraysDecode =
    (c : TwoArrayCall) (room room' : ℕ) →
    ((room < number_count c) ⊎ (room' < byte_count c) → DecodesRefusal (two_array_number (number_count c) (byte_count c) (two_array_outcome c) room room') NoRoom)
    × (number_count c ≤ room → byte_count c ≤ room' → DecodesOutcome (two_array_number (number_count c) (byte_count c) (two_array_outcome c) room room') (two_array_outcome c))

abbrev pub DecodesVerdict : ℕ → Result ⊤ Refusal → Type 0
DecodesVerdict answer (Ok tt) = DecodesLength answer 0
DecodesVerdict answer (Err e) = DecodesRefusal answer e

abbrev pub CheckPairsDecodes : Type 0
CheckPairsDecodes = (list : List ℕ) → DecodesVerdict (verdict_number (check_pairs list)) (check_pairs list)

-- ---- the calls that write

abbrev pub DecodesWritten : ℕ → Result ℕ Refusal → Type 0
DecodesWritten answer (Ok n) = DecodesLength answer n
DecodesWritten answer (Err e) = DecodesRefusal answer e

-- a message, or the pair list of request 2/12; Version and MIC are of 8 and 16 bytes, as the calls take them
pub data Writing : Type 0 where
  write_negotiate : (room : ℕ) (flags : NegotiateFlags) (version domain workstation : List ℕ) → length version ≡ 8 → Writing
  write_authenticate : (room : ℕ) (flags : NegotiateFlags) (version mic lm nt domain user workstation key : List ℕ) →
      length version ≡ 8 → length mic ≡ 16 → Writing
  write_nl_auth_request : (room : ℕ) (flags : NlAuthFlags) (a b c d e : List ℕ) → Writing
  write_nl_auth_response : (room : ℕ) → Writing
  write_response_pairs : (room : ℕ) (challenge name : List ℕ) (unverified : Bool) (bindings : List ℕ) → Writing

abbrev pub writing_answer : Writing → Result ℕ Refusal
writing_answer (write_negotiate room flags version domain workstation v8) = negotiate_answer room flags version domain workstation
writing_answer (write_authenticate room flags version mic lm nt domain user workstation key v8 m16) =
    write_answer room flags version mic lm nt domain user workstation key
writing_answer (write_nl_auth_request room flags a b c d e) = request_answer room (known flags) a b c d e
writing_answer (write_nl_auth_response room) = response_answer room
writing_answer (write_response_pairs room s name unverified bindings) = pairs_answer room s name unverified bindings

-- what is written has at most 65,535 bytes
abbrev pub WritingShort : Type 0
WritingShort = (w : Writing) (n : ℕ) → writing_answer w ≡ Ok n → n ≤ 65535

abbrev pub WritingDecodes : Type 0
WritingDecodes = (w : Writing) → DecodesWritten (written_number (writing_answer w)) (writing_answer w)

-- a line; `out` is the output of a program's call
pub data LineCall : Type 0 where
  negotiate_line_call : (msg : List ℕ) → LineCall
  authenticate_line_call : (msg : List ℕ) → LineCall
  challenge_line_call : (msg : List ℕ) → LineCall
  nl_auth_line_call : (msg : List ℕ) → LineCall
  ntlm_line_call : (msg : List ℕ) → LineCall
  ntlm_program_line : (msg out : List ℕ) → LineCall
  nl_auth_program_line : (msg out : List ℕ) → LineCall

abbrev pub called_line : LineCall → List ℕ
called_line (negotiate_line_call msg) = negotiate_line msg
called_line (authenticate_line_call msg) = authenticate_line msg
called_line (challenge_line_call msg) = challenge_line msg
called_line (nl_auth_line_call msg) = nl_auth_line msg
called_line (ntlm_line_call msg) = ntlm_line msg
called_line (ntlm_program_line msg out) = shown_line (ntlm_line msg) out
called_line (nl_auth_program_line msg out) = shown_line (nl_auth_line msg) out

-- a line has under 2^20 bytes
abbrev pub LineShort : Type 0
LineShort = (l : LineCall) → length (called_line l) < 0x100000

abbrev pub LineDecodes : Type 0
LineDecodes = (l : LineCall) (out : List ℕ) → DecodesWritten (written_number (bytes_answer (called_line l) out)) (bytes_answer (called_line l) out)

-- a copy, of a field's bytes or of the domain to send: no longer than the output that the caller lends
abbrev pub CopyFits : Type 0
CopyFits = (bytes out : List ℕ) (n : ℕ) → bytes_answer bytes out ≡ Ok n → n ≤ length out

-- so that its top bit is clear where the output has under 2^63 bytes
abbrev pub CopyDecodes : Type 0
CopyDecodes = (bytes out : List ℕ) → length out < 0x8000000000000000 → DecodesWritten (written_number (bytes_answer bytes out)) (bytes_answer bytes out)

-- the whole copy of a field, with check 6 before 33
abbrev pub FieldCopyDecodes : Type 0
FieldCopyDecodes =
    (s out : List ℕ) (f : Field) → length out < 0x8000000000000000 →
    DecodesWritten (written_number (field_copy_answer s f out)) (field_copy_answer s f out)

-- ---- answering a challenge, with every settings

abbrev pub RespondShort : Type 0
RespondShort =
    (settings : Settings) (s : List ℕ) (x : Supplied) (y : Answer) → length x.version ≡ 8 → length x.mic ≡ 16 →
    (respond_to settings s x).answer ≡ Ok y → y.len ≤ 65535

abbrev pub DecodesAnswered : ℕ → Result Answer Refusal → Type 0
DecodesAnswered answer (Ok x) = DecodesLength answer x.len
DecodesAnswered answer (Err e) = DecodesRefusal answer e

pub record AnswerDecodes (answer : Result Answer Refusal) (room number : ℕ) : Type 0 where
  pub short : room < 2 → DecodesRefusal number NoRoom
  pub decoded : 2 ≤ room → DecodesAnswered number answer

abbrev pub RespondDecodes : Type 0
RespondDecodes =
    (settings : Settings) (s : List ℕ) (x : Supplied) (xs : List ℕ) → length x.version ≡ 8 → length x.mic ≡ 16 →
    AnswerDecodes (respond_to settings s x).answer (length xs) (respond_from_c settings s x xs).number
