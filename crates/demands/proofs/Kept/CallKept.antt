-- A refused call of the C interface leaves its arrays as they were, and an answer that is sent changes only what it hands out.
use Rattle.std.specs.Prelude.{Result, Err}
use Rattle.respond.specs.declared.answer.Answer.{Answer}
use Prim.Native.Nat.{ℕ}
use mathlib.Core.Path.{◌≡◌, refl}
use mathlib.Core.Logic.{◌⊎◌, inl, inr}
use mathlib.Core.Bool.{Bool, true, false, ◌&&◌}
use mathlib.Core.List.{List, [], ◌∷◌}
use lib.Dec.{leb}
use lib.ListN.{length, drop}
use borrow.Author.Tests.{le-leb, lt-leb}
use Rattle.wire.specs.declared.refusal.Refusal.{Refusal}
use Rattle.wire.specs.declared.refusal.Refusal.TheVariants.{NoRoom}
use Rattle.wire.specs.Check.{checked, after}
use Rattle.respond.specs.Answer.{respond_to}
use Rattle.c_number.specs.Number.{refusal_number, bit}
use Rattle.c_number.specs.Outcome.{Outcome, numbers, refused, outcome_number, outcome_out, outcome_bytes, call_number, call_out, two_array_number, two_array_out, two_array_bytes}
use Rattle.c_respond.specs.Respond.{EffectFromC, as_numbers, respond_from_c}
use Rattle.demands.specs.Kept.{CallKept, TwoArraysKept, KeptAnswer, RespondedKept}
use Rattle.demands.proofs.Kept.AnswerKept.{respond_kept}
use Rattle.demands.proofs.Kept.CallFront.{at_front_lem}
use Rattle.demands.proofs.Bools.{true_not_false}

pub call_kept : CallKept
unfolding call_number call_out
call_kept n h out = go (leb n (length out)) h where
  go : (t : Bool) (h : Outcome) →
      (after (checked t) (refusal_number NoRoom) (outcome_number h) ≡ 0) ⊎ (after (checked t) out (outcome_out h out) ≡ out)
  go true (numbers xs) = inl refl
  go true (refused e) = inr refl
  go false h = inr refl

pub beside_kept : TwoArraysKept
unfolding two_array_number two_array_out two_array_bytes
beside_kept n m h bytes out beside = go (leb n (length out) && leb m (length beside)) h where
  go : (t : Bool) (h : Outcome) →
      (after (checked t) (refusal_number NoRoom) (outcome_number h) ≡ 0)
      ⊎ ((after (checked t) out (outcome_out h out) ≡ out) × (after (checked t) beside (outcome_bytes h bytes beside) ≡ beside))
  go true (numbers xs) = inl refl
  go true (refused e) = inr (refl, refl)
  go false h = inr (refl, refl)

pub responded_kept : RespondedKept
unfolding respond_from_c
responded_kept settings s x xs v8 m16 =
    record {
      short = λ l. by_room (leb 2 (length xs)) (lt-leb 2 (length xs) l) a sent;
      refused = λ e h. by_answer (leb 2 (length xs)) a sent e h (kept.refused e h);
      number = λ y h l. rw (le-leb 2 (length xs) l, h);
      front = λ y h l. rw (le-leb 2 (length xs) l, h) (at_front_lem (y.time ∷ bit y.mic_due ∷ []) xs l);
      output = λ l. rw (le-leb 2 (length xs) l);
      same_length = λ y h. by_length (leb 2 (length xs)) (kept.same_length y h);
      rest = λ y h. by_rest (leb 2 (length xs)) y.len (kept.rest y h);
    }
  where
    a : Result Answer Refusal
    a = (respond_to settings s x).answer

    out : List ℕ
    out = x.out

    sent : List ℕ
    sent = (respond_to settings s x).output

    kept : KeptAnswer a out sent
    kept = respond_kept settings s x v8 m16

    -- what comes of a call, by whether its array has its room
    whole : Bool → Result Answer Refusal → List ℕ → EffectFromC
    whole t b l =
        after (checked t) (record { number = refusal_number NoRoom; output = out; numbers = xs })
        (as_numbers (record { answer = b; output = l }) xs)

    by_room : (t : Bool) → t ≡ false → (b : Result Answer Refusal) (l : List ℕ) →
        ((whole t b l).numbers ≡ xs) × ((whole t b l).output ≡ out)
    by_room true p b l = absurd (true_not_false p)
    by_room false p b l = (refl, refl)

    by_length : (t : Bool) → length sent ≡ length out → length (whole t a sent).output ≡ length out
    by_length true e = e
    by_length false e = refl

    by_rest : (t : Bool) (n : ℕ) → drop n sent ≡ drop n out → drop n (whole t a sent).output ≡ drop n out
    by_rest true n e = e
    by_rest false n e = refl

    by_answer : (t : Bool) (b : Result Answer Refusal) (l : List ℕ) (e : Refusal) → b ≡ Err e → l ≡ out →
        ((whole t b l).numbers ≡ xs) × ((whole t b l).output ≡ out)
    by_answer true b l e h k = (rw h refl, k)
    by_answer false b l e h k = (refl, refl)
