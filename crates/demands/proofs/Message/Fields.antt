-- Checks 6 and 7 over all fields, against document 01's table, for every kind of message.
use Prim.Native.Nat.{ℕ, ◌+◌}
use mathlib.Core.Path.{◌≡◌, refl}
use mathlib.Core.List.{List, [], ◌∷◌}
use native.Mathlib.Omega.{arith}
use lib.ListN.{length}
use Rattle.wire.specs.declared.check.Checked.{Checked}
use Rattle.wire.specs.declared.check.Checked.TheVariants.{Held, Failed}
use Rattle.wire.specs.declared.refusal.Refusal.TheVariants.{PastEnd, InFixedPart}
use Rattle.wire.specs.Check.{over_all}
use Rattle.field.specs.declared.Field.{Field}
use Rattle.field.specs.Field.{ends_inside, begins_after}
use Rattle.demands.specs.Message.{Format, Fails}
use Rattle.demands.proofs.Order.{Free, skip}
use Rattle.demands.proofs.Message.{Stands, ends_failed, ends_held, begins_failed, begins_held}
use Rattle.demands.proofs.Message.Chain.{JudgedV, Links, over_judged}

-- numbered fields, from field i on, each as the reader makes it of its head
abbrev pub AllStand : Format → List ℕ → ℕ → List (ℕ × Field) → Type 0
AllStand k s i [] = Unit
AllStand k s i (f ∷ fs) = (f.0 ≡ i) × Stands k s i f.1 × AllStand k s (i + 1) fs

-- a check's test at field i is the table's row n at i
abbrev pub Link : Format → List ℕ → ℕ → (Field → Checked) → ℕ → Field → Type 0
Link k s n ok i f = (ok f ≡ Failed → Fails k s n i) × (ok f ≡ Held → Fails k s n i → ⊥)

links : (k : Format) (s : List ℕ) (n : ℕ) (ok : Field → Checked) → ((i : ℕ) (f : Field) → Stands k s i f → Link k s n ok i f) →
    (fs : List (ℕ × Field)) (i : ℕ) → AllStand k s i fs → Links k s n ok i fs
links k s n ok l [] i a = tt
links k s n ok l (f ∷ fs) i a = (a.0, (l i f.1 a.1).0, (l i f.1 a.1).1, links k s n ok l fs (i + 1) a.2)

module _ (k : Format) (s : List ℕ) (fs : List (ℕ × Field)) (all : AllStand k s 1 fs) (count : length fs ≡ k.last) where
  pub ends_judged : Free (Fails k s) 6 0 → JudgedV k s 7 (over_all (ends_inside (length s)) PastEnd fs)
  ends_judged free =
      over_judged k s 6 7 (ends_inside (length s)) PastEnd refl (λ j. (refl, refl)) fs 1
      (links k s 6 (ends_inside (length s)) (λ i f w. (ends_failed k s i f w, ends_held k s i f w)) fs 1 all)
      (skip (Fails k s) 6 1 free (λ j l h. omega (arith, h.0.first)))
      (λ j l h. omega (arith, h.0.last))

  pub begins_judged : Free (Fails k s) 7 0 → JudgedV k s 8 (over_all (begins_after k.fixed) InFixedPart fs)
  begins_judged free =
      over_judged k s 7 8 (begins_after k.fixed) InFixedPart refl (λ j. (refl, refl)) fs 1
      (links k s 7 (begins_after k.fixed) (λ i f w. (begins_failed k s i f w, begins_held k s i f w)) fs 1 all)
      (skip (Fails k s) 7 1 free (λ j l h. omega (arith, h.0.first)))
      (λ j l h. omega (arith, h.0.last))
