-- Asking at a place.
use Rattle.std.specs.Prelude.{Result, Option, Ok, Err, Some, None}
use Rattle.wire.specs.declared.refusal.Refusal.{Refusal}
use Prim.Native.Nat.{ℕ, zero, suc, ◌<◌}
use mathlib.Core.Path.{◌≡◌, refl, sym, ap, ◌∙◌, subst}
use mathlib.Core.Logic.{◌⊎◌, inl, inr, ⊎_elim}
use mathlib.Core.List.{List}
use native.Mathlib.Omega.{arith}
use lib.ListN.{length}
use Rattle.wire.specs.Refusal.{number_of, field_of, place_of}
use Rattle.av_pairs.specs.declared.AvPair.{AvPair}
use Rattle.av_pairs.specs.AvPairs.{step_at, end_of, on_step, ask_at}
use Rattle.demands.specs.Asking.{AskedAt, AskingGives}
use Rattle.demands.specs.InTurn.{PairIs}
use Rattle.demands.specs.PairList.{PairAt, EndAt, FaultAt, here}
use Rattle.demands.proofs.InTurn.{own, one_pair}
use Rattle.demands.proofs.PairList.{JudgedS, step_judged, empty_step, pair_or_end, pair_or_fault, end_or_fault, one_first}

-- what stands at a place, by the step
abbrev At : List ℕ → ℕ → Result (Option AvPair) Refusal → Type 0
At s at (Ok (Some p)) = PairIs s at p
At s at (Ok None) = (length s ≡ 0) ⊎ EndAt s at
At s at (Err e) = (0 < length s) × (field_of e ≡ 2) × FaultAt s at (number_of e) × (place_of e ≡ at)

step_is : (s : List ℕ) (at : ℕ) → At s at (step_at s at)
step_is s at = go (length s) refl where
  full : (x : Result (Option AvPair) Refusal) → 0 < length s → JudgedS s at x → At s at x
  full (Ok (Some p)) h j = rw j.1 (own s at j.0)
  full (Ok None) h j = inr j
  full (Err e) h j = (h, j.1, j.0, j.2)

  go : (n : ℕ) → length s ≡ n → At s at (step_at s at)
  go zero e = rw (empty_step s at e) (inl e)
  go (suc n) e = full (step_at s at) (omega arith) (step_judged s at (omega arith))

pub pair_or_stop : (s : List ℕ) (at : ℕ) → PairAt s at → (length s ≡ 0) ⊎ EndAt s at → ⊥
pair_or_stop s at w h = ⊎_elim (λ e. omega (arith, w.whole, e)) (λ e. pair_or_end s at w e) h

stop_or_fault : (s : List ℕ) (at n : ℕ) → (length s ≡ 0) ⊎ EndAt s at → 0 < length s → FaultAt s at n → ⊥
stop_or_fault s at n h l f = ⊎_elim (λ e. omega arith) (λ e. end_or_fault s at n e f) h

asked : (s : List ℕ) (at : ℕ) (x : Result (Option AvPair) Refusal) → At s at x → AskedAt s at (record { step = x; next = on_step x end_of (λ v. at) })
asked s at (Ok (Some p)) j =
    record {
      pair = λ q. (λ e. subst (PairIs s at) (same e) j, λ w. ap (λ (r : AvPair). Ok (Some r)) (one_pair s at p q j w));
      end = (λ e. other e, λ h. absurd (pair_or_stop s at j.there h));
      refused = λ n i p. (λ t. absurd t, λ h. pair_or_fault s at n j.there h.2);
      onward = λ w. omega (arith, j.size, j.value);
      stays = λ no. absurd (no j.there);
    }
  where
    same : {q : AvPair} → ◌≡◌ {A = Result (Option AvPair) Refusal} (Ok (Some p)) (Ok (Some q)) → p ≡ q
    same e = cc

    other : {A : Type 0} → ◌≡◌ {A = Result (Option AvPair) Refusal} (Ok (Some p)) (Ok None) → A
    other e = absurd (let z : ◌≡◌ {A = ℕ} 0 1 = cc in omega arith)
asked s at (Ok None) j =
    record {
      pair = λ q. (λ e. other e, λ w. absurd (pair_or_stop s at w.there j));
      end = (λ e. j, λ h. refl);
      refused = λ n i p. (λ t. absurd t, λ h. stop_or_fault s at n j h.0 h.2);
      onward = λ w. absurd (pair_or_stop s at w j);
      stays = λ no. refl;
    }
  where
    other : {A : Type 0} {q : AvPair} → ◌≡◌ {A = Result (Option AvPair) Refusal} (Ok None) (Ok (Some q)) → A
    other e = absurd (let z : ◌≡◌ {A = ℕ} 0 1 = cc in omega arith)
asked s at (Err x) j =
    record {
      pair = λ q. (λ e. other e, λ w. absurd (pair_or_fault s at (number_of x) w.there j.2));
      end = (λ e. ended e, λ h. absurd (stop_or_fault s at (number_of x) h j.0 j.2));
      refused = λ n i p. (
        λ t. (j.0, sym t.1 ∙ j.1, subst (λ (m : ℕ). FaultAt s at m) t.0 j.2, sym t.2 ∙ j.3),
        λ h. ((one_first s (here refl j.2) (here refl h.2)).0, j.1 ∙ sym h.1, j.3 ∙ sym h.3),
      );
      onward = λ w. absurd (pair_or_fault s at (number_of x) w j.2);
      stays = λ no. refl;
    }
  where
    other : {A : Type 0} {q : AvPair} → ◌≡◌ {A = Result (Option AvPair) Refusal} (Err x) (Ok (Some q)) → A
    other e = absurd (let z : ◌≡◌ {A = ℕ} 0 1 = cc in omega arith)

    ended : {A : Type 0} → ◌≡◌ {A = Result (Option AvPair) Refusal} (Err x) (Ok None) → A
    ended e = absurd (let z : ◌≡◌ {A = ℕ} 0 1 = cc in omega arith)

pub asking_gives : AskingGives
unfolding ask_at
asking_gives s at = asked s at (step_at s at) (step_is s at)
