-- Demand 1: "A refusal gives its number and field and changes no lent byte; a success changes only the bytes of what it
-- writes."
use Rattle.std.specs.Prelude.{Result, Ok, Err, ℕ, ◌≤◌, ◌<◌, ◌≡◌, ◌⊎◌, List, [], ◌∷◌, length, take, drop}
use Rattle.wire.specs.declared.refusal.Refusal.{Refusal}
use Rattle.negotiate_flags.specs.declared.NegotiateFlags.{NegotiateFlags}
use Rattle.write_authenticate.specs.Writing.{write_answer, write_out}
use Rattle.write_negotiate.specs.Writing.{write_answer as negotiate_answer, write_out as negotiate_out}
use Rattle.respond.specs.declared.answer.Answer.{Answer}
use Rattle.respond.specs.declared.decision.Settings.{Settings}
use Rattle.respond.specs.Answer.{Supplied, respond_to}
use Rattle.place.specs.Written.{bytes_answer, bytes_after}
use Rattle.c_number.specs.Number.{bit}
use Rattle.c_number.specs.Outcome.{Outcome, numbers, call_number, call_out, two_array_number, two_array_out, two_array_bytes}
use Rattle.c_respond.specs.Respond.{EffectFromC, respond_from_c}
use Rattle.nl_auth_flags.specs.declared.NlAuthFlags.{NlAuthFlags}
use Rattle.nl_auth_flags.specs.Flags.{known}
use Rattle.write_nl_auth.specs.Writing.{request_answer, request_out, response_answer, response_out}
use Rattle.demands.specs.FromC.{Call, count, outcome, TwoArrayCall, number_count, byte_count, two_array_outcome, bytes_beside}

-- a call's answer, and the lent output before and after it
pub record Kept (answer : Result ℕ Refusal) (before after : List ℕ) : Type 0 where
  pub refused : (e : Refusal) → answer ≡ Err e → after ≡ before
  pub same_length : (n : ℕ) → answer ≡ Ok n → length after ≡ length before
  pub rest : (n : ℕ) → answer ≡ Ok n → drop n after ≡ drop n before

abbrev pub NlRequestKept : Type 0
NlRequestKept =
    (out : List ℕ) (flags : NlAuthFlags) (a b c d e : List ℕ) →
    Kept (request_answer (length out) (known flags) a b c d e) out (request_out out (known flags) a b c d e)

abbrev pub NlResponseKept : Type 0
NlResponseKept = (out : List ℕ) → Kept (response_answer (length out)) out (response_out out)

-- every call of a line, whatever the line
abbrev pub LineKept : Type 0
LineKept = (line out : List ℕ) → Kept (bytes_answer line out) out (bytes_after line out)

-- Version and MIC are of 8 and 16 bytes, as the call takes them
abbrev pub AuthenticateKept : Type 0
AuthenticateKept =
    (out : List ℕ) (flags : NegotiateFlags) (version mic lm nt domain user workstation key : List ℕ) → length version ≡ 8 → length mic ≡ 16 →
    Kept (write_answer (length out) flags version mic lm nt domain user workstation key) out (write_out out flags version mic lm nt domain user workstation key)

abbrev pub NegotiateKept : Type 0
NegotiateKept =
    (out : List ℕ) (flags : NegotiateFlags) (version domain workstation : List ℕ) → length version ≡ 8 →
    Kept (negotiate_answer (length out) flags version domain workstation) out (negotiate_out out flags version domain workstation)

-- the same of answering a challenge, with every settings
pub record KeptAnswer (answer : Result Answer Refusal) (before after : List ℕ) : Type 0 where
  pub refused : (d : Refusal) → answer ≡ Err d → after ≡ before
  pub same_length : (x : Answer) → answer ≡ Ok x → length after ≡ length before
  pub rest : (x : Answer) → answer ≡ Ok x → drop x.len after ≡ drop x.len before

abbrev pub RespondKept : Type 0
RespondKept =
    (settings : Settings) (s : List ℕ) (x : Supplied) → length x.version ≡ 8 → length x.mic ≡ 16 →
    KeptAnswer (respond_to settings s x).answer x.out (respond_to settings s x).output

-- the C interface: a call that hands out numbers is answered 0, or leaves its arrays as they were
abbrev pub CallKept : Type 0
CallKept = (n : ℕ) (h : Outcome) (out : List ℕ) → (call_number n h (length out) ≡ 0) ⊎ (call_out n h out ≡ out)

abbrev pub TwoArraysKept : Type 0
TwoArraysKept =
    (n m : ℕ) (h : Outcome) (bytes out beside : List ℕ) →
    (two_array_number n m h (length out) (length beside) ≡ 0)
    ⊎ ((two_array_out n m h out (length beside) ≡ out) × (two_array_bytes n m h bytes (length out) beside ≡ beside))

-- what a call hands out stands at the front of an array, which is as long as it was and the same after that
pub record Front (xs before after : List ℕ) : Type 0 where
  pub same_length : length after ≡ length before
  pub front : take (length xs) after ≡ xs
  pub rest : drop (length xs) after ≡ drop (length xs) before

-- a call that is answered 0 hands out as many numbers as it asks room for
pub record Handed (h : Outcome) (n : ℕ) (before after : List ℕ) : Type 0 where
  pub given : List ℕ
  pub outcome_is : h ≡ numbers given
  pub count_is : length given ≡ n
  pub array : Front given before after

abbrev pub CallFront : Type 0
CallFront =
    (c : Call) (out : List ℕ) → call_number (count c) (outcome c) (length out) ≡ 0 →
    Handed (outcome c) (count c) out (call_out (count c) (outcome c) out)

-- and one with two arrays as many numbers and bytes
pub record HandedBoth (c : TwoArrayCall) (out beside : List ℕ) : Type 0 where
  pub numbers_given : Handed (two_array_outcome c) (number_count c) out (two_array_out (number_count c) (byte_count c) (two_array_outcome c) out (length beside))
  pub byte_count_is : length (bytes_beside c) ≡ byte_count c
  pub bytes_given : Front (bytes_beside c) beside (two_array_bytes (number_count c) (byte_count c) (two_array_outcome c) (bytes_beside c) (length out) beside)

abbrev pub TwoArraysFront : Type 0
TwoArraysFront =
    (c : TwoArrayCall) (out beside : List ℕ) → two_array_number (number_count c) (byte_count c) (two_array_outcome c) (length out) (length beside) ≡ 0 →
    HandedBoth c out beside

-- an answer from C: where its array is too short, or where it is refused, array and output are as they were; an answer that
-- is sent hands out Time and whether a MIC is due, and nothing after its message changes in the output
pub record KeptFromC (answer : Result Answer Refusal) (sent out xs : List ℕ) (y : EffectFromC) : Type 0 where
  pub short : length xs < 2 → (y.numbers ≡ xs) × (y.output ≡ out)
  pub refused : (e : Refusal) → answer ≡ Err e → (y.numbers ≡ xs) × (y.output ≡ out)
  pub number : (x : Answer) → answer ≡ Ok x → 2 ≤ length xs → y.number ≡ x.len
  pub front : (x : Answer) → answer ≡ Ok x → 2 ≤ length xs → Front (x.time ∷ bit x.mic_due ∷ []) xs y.numbers
  pub output : 2 ≤ length xs → y.output ≡ sent
  pub same_length : (x : Answer) → answer ≡ Ok x → length y.output ≡ length out
  pub rest : (x : Answer) → answer ≡ Ok x → drop x.len y.output ≡ drop x.len out

abbrev pub RespondedKept : Type 0
RespondedKept =
    (settings : Settings) (s : List ℕ) (x : Supplied) (xs : List ℕ) → length x.version ≡ 8 → length x.mic ≡ 16 →
    KeptFromC (respond_to settings s x).answer (respond_to settings s x).output x.out xs (respond_from_c settings s x xs)
