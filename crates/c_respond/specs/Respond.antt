-- Answering a challenge by the C interface: the decision and the answer as numbers.
use Rattle.respond.specs.declared.answer.Answer.{Answer}
use Rattle.respond.specs.declared.decision.Decision.{Decision}
use Rattle.wire.specs.declared.refusal.Refusal.{Refusal}
use Rattle.std.specs.Prelude.{Result, Option, Ok, Err, Some, None, ℕ, ◌≡◌, List, [], ◌∷◌, length}
use Rattle.wire.specs.declared.refusal.Refusal.TheVariants.{NoRoom}
use Rattle.wire.specs.Check.{after}
use Rattle.place.specs.Written.{room_holds, at_front}
use Rattle.respond.specs.declared.decision.Settings.{Settings}
use Rattle.respond.specs.Answer.{Supplied, Effect, respond_to}
use Rattle.c_number.specs.Number.{refusal_number, bit}
use Rattle.c_number.specs.Outcome.{Outcome, numbers, refused}

-- ---- the decision: flags, whether a timestamp is there, and its value

unfoldable pub decision_numbers : ℕ → Option ℕ → List ℕ
decision_numbers flags (Some t) = flags ∷ 1 ∷ t ∷ []
decision_numbers flags None = flags ∷ 0 ∷ 0 ∷ []

abbrev pub decided_outcome : Result Decision Refusal → Outcome
decided_outcome (Ok d) = numbers (decision_numbers d.flags.bits d.timestamp)
decided_outcome (Err e) = refused e

-- ---- the answer: its length; beside it Time and whether a MIC is due

abbrev pub answered_number : Result Answer Refusal → ℕ
answered_number (Ok a) = a.len
answered_number (Err e) = refusal_number e

abbrev pub answered_out : Result Answer Refusal → List ℕ → List ℕ
answered_out (Ok a) out = at_front (a.time ∷ bit a.mic_due ∷ []) out
answered_out (Err e) out = out

-- what comes of a call: its answer, the output and the array of numbers afterwards
pub record EffectFromC : Type 0 where
  pub number : ℕ
  pub output : List ℕ
  pub numbers : List ℕ

-- an answer as numbers
abbrev pub as_numbers : Effect → List ℕ → EffectFromC
as_numbers x array = record { number = answered_number x.answer; output = x.output; numbers = answered_out x.answer array }

-- the whole call: 33 before anything else where the array is too short
unfoldable pub respond_from_c : Settings → List ℕ → Supplied → List ℕ → EffectFromC
respond_from_c settings s x array =
    after (room_holds 2 (length array)) (record { number = refusal_number NoRoom; output = x.out; numbers = array })
    (as_numbers (respond_to settings s x) array)

-- a call's answer, and what then lies in the output and in the array of numbers, which held `before`
abbrev pub RespondsFromC : Settings → List ℕ → Supplied → ℕ → List ℕ → List ℕ → List ℕ → Type 0
RespondsFromC settings challenge x answer out before array =
    record { number = answer; output = out; numbers = array } ≡ respond_from_c settings challenge x before
