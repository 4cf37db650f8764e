-- The MIC from C: the sixteen bytes in a lent array, and the answer of a check as one number.
use Rattle.wire.specs.declared.refusal.Refusal.{Refusal}
use Rattle.std.specs.Prelude.{Result, Ok, Err, ⊤, Bool, ℕ, List}
use Rattle.c_number.specs.Number.{refusal_number, bit}
use Rattle.c_number.specs.Outcome.{Outcome, numbers, refused}
use Rattle.mic.specs.declared.Computed.{Computed}

-- what is handed out: the MIC's bytes, or the refusal
abbrev pub handed_out : Result ⊤ Refusal → List ℕ → Outcome
handed_out (Ok tt) mic = numbers mic
handed_out (Err e) mic = refused e

abbrev pub mic_outcome : Computed → Outcome
mic_outcome w = handed_out w.verdict w.mic

-- 1 where the message has the MIC, 0 where it has another
abbrev pub checking_number : Result Bool Refusal → ℕ
checking_number (Ok b) = bit b
checking_number (Err e) = refusal_number e
