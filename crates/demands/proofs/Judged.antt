-- A verdict that goes by what holds and what fails is taken exactly and refused exactly.
use Rattle.std.specs.Prelude.{Result, Ok, Err, ⊤}
use Prim.Native.Nat.{ℕ, ◌≤◌}
use mathlib.Core.Path.{◌≡◌, refl, sym, ◌∙◌, subst}
use mathlib.Core.Logic.{◌⊎◌, inl, inr, ⊎_elim, ◌↔◌}
use mathlib.Core.Bool.{Bool, true, false}
use native.Mathlib.Omega.{arith}
use Rattle.wire.specs.declared.check.Checked.{Checked}
use Rattle.wire.specs.declared.check.Checked.TheVariants.{Held, Failed}
use Rattle.wire.specs.declared.refusal.Refusal.{Refusal}
use Rattle.wire.specs.Refusal.{number_of, field_of, place_of}
use Rattle.wire.specs.Check.{checked, after, on_clear}
use Rattle.wire.proofs.Places.{placeless_number}
use Rattle.demands.specs.Order.{First}
use Rattle.demands.specs.TakenExactly.{IsTaken, RefusalIs, RefusedWith, Judged, NoneFails, FirstFails}
use Rattle.demands.proofs.Order.{only_first}

-- what fails, where its number, field and place are known to be others
pub fails_is : (F : ℕ → ℕ → ℕ → Type 0) {m j o n i p : ℕ} → (m ≡ n) × (j ≡ i) × (o ≡ p) → F m j o → F n i p
fails_is F {m} {j} {o} {n} {i} {p} e f =
    subst (λ (x : ℕ). F x i p) e.0 (subst (λ (x : ℕ). F m x p) e.1 (subst (λ (x : ℕ). F m j x) e.2 f))

-- H holds where the verdict is clear, and F where it is a refusal
abbrev pub By : Type 0 → (ℕ → ℕ → ℕ → Type 0) → Result ⊤ Refusal → Type 0
By H F (Ok tt) = H
By H F (Err e) = F (number_of e) (field_of e) (place_of e)

-- not both hold, and F holds of one refusal only
pub judged_by : (H : Type 0) (F : ℕ → ℕ → ℕ → Type 0) → ((n i p : ℕ) → H → F n i p → ⊥) →
    ((m j o n i p : ℕ) → F m j o → F n i p → (m ≡ n) × (j ≡ i) × (o ≡ p)) → (v : Result ⊤ Refusal) → By H F v → Judged v H F
judged_by H F both one (Ok tt) h = record { taken = (λ t. h, λ x. tt); refused = λ n i p. (λ t. absurd t, λ f. both n i p h f) }
judged_by H F both one (Err e) f =
    record {
      taken = (λ t. absurd t, λ h. both (number_of e) (field_of e) (place_of e) h f);
      refused = λ n i p. (λ t. fails_is F t f, λ g. one (number_of e) (field_of e) (place_of e) n i p f g);
    }

-- checks that go by number up to 9 have no place
abbrev pub FirstBy : (ℕ → ℕ → Type 0) → Result ⊤ Refusal → Type 0
FirstBy F (Ok tt) = NoneFails F
FirstBy F (Err e) = First F (number_of e) (field_of e)

pub judged_first : (F : ℕ → ℕ → Type 0) → ((n i : ℕ) → F n i → n ≤ 9) → (v : Result ⊤ Refusal) → FirstBy F v → Judged v (NoneFails F) (FirstFails F)
judged_first F small v j = judged_by (NoneFails F) (FirstFails F) (λ n i p h f. h n i f.0.fails) one v (go v j) where
  one : (m j o n i p : ℕ) → FirstFails F m j o → FirstFails F n i p → (m ≡ n) × (j ≡ i) × (o ≡ p)
  one m j o n i p f g = let x = only_first F m j n i f.0 g.0 in (x.0, x.1, f.1 ∙ sym g.1)

  go : (v : Result ⊤ Refusal) → FirstBy F v → By (NoneFails F) (FirstFails F) v
  go (Ok tt) h = h
  go (Err e) f = (f, placeless_number e (λ b. omega (arith, b.0, small (number_of e) (field_of e) f.fails)))

-- ---- checks in a row

pub judged_same : {H K : Type 0} {F G : ℕ → ℕ → ℕ → Type 0} (v : Result ⊤ Refusal) → H ↔ K → ((n i p : ℕ) → F n i p ↔ G n i p) → Judged v H F → Judged v K G
judged_same v h f j =
    record {
      taken = (λ t. h.0 (j.taken.0 t), λ k. j.taken.1 (h.1 k));
      refused = λ n i p. (λ t. (f n i p).0 ((j.refused n i p).0 t), λ g. (j.refused n i p).1 ((f n i p).1 g));
    }

-- one check
pub check_judged : (H : Type 0) (b : Bool) (e : Refusal) → (b ≡ true → H) → (b ≡ false → H → ⊥) →
    Judged (after (checked b) (Err e) (Ok tt)) H (λ n i p. (H → ⊥) × RefusalIs e n i p)
check_judged H true e f g = record { taken = (λ t. f refl, λ h. tt); refused = λ n i p. (λ t. absurd t, λ w. w.0 (f refl)) }
check_judged H false e f g = record { taken = (λ t. absurd t, λ h. g refl h); refused = λ n i p. (λ t. (g refl, t), λ w. w.1) }

pub as_verdict : (c : Checked) (e : Refusal) (x : Result ⊤ Refusal) → on_clear Err (after c (Err e) (Ok tt)) x ≡ after c (Err e) x
as_verdict Held e x = refl
as_verdict Failed e x = refl

-- and what is judged after it
pub judged_then : {H K : Type 0} {F G : ℕ → ℕ → ℕ → Type 0} (v w : Result ⊤ Refusal) → Judged v H F → (IsTaken v → Judged w K G) →
    Judged (on_clear Err v w) (H × K) (λ n i p. F n i p ⊎ (H × G n i p))
judged_then (Ok tt) w j k =
    record {
      taken = (λ t. (j.taken.0 tt, (k tt).taken.0 t), λ x. (k tt).taken.1 x.1);
      refused = λ n i p. (λ t. inr (j.taken.0 tt, ((k tt).refused n i p).0 t), ⊎_elim (λ f. absurd ((j.refused n i p).1 f)) (λ g. ((k tt).refused n i p).1 g.1));
    }
judged_then (Err e) w j k =
    record {
      taken = (λ t. absurd t, λ x. j.taken.1 x.0);
      refused = λ n i p. (λ t. inl ((j.refused n i p).0 t), ⊎_elim (λ f. (j.refused n i p).1 f) (λ g. absurd (j.taken.1 g.0)));
    }

-- ---- every verdict is a clear one or a refusal

pub taken_clear : (v : Result ⊤ Refusal) → IsTaken v → v ≡ Ok tt
taken_clear (Ok tt) t = refl
taken_clear (Err e) t = absurd t

pub refused_not : (v : Result ⊤ Refusal) (n i p : ℕ) → RefusedWith v n i p → (e : Refusal) × (v ≡ Err e) × RefusalIs e n i p
refused_not (Ok tt) n i p t = absurd t
refused_not (Err e) n i p t = (e, refl, t)

pub refused_as : (v : Result ⊤ Refusal) (e : Refusal) → v ≡ Err e → RefusedWith v (number_of e) (field_of e) (place_of e)
refused_as v e h = rw h (refl, refl, refl)

abbrev pub Either : Result ⊤ Refusal → Type 0
Either v = IsTaken v ⊎ ((e : Refusal) × RefusedWith v (number_of e) (field_of e) (place_of e))

pub either : (v : Result ⊤ Refusal) → Either v
either (Ok tt) = inl tt
either (Err e) = inr (e, (refl, refl, refl))
