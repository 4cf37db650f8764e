-- The digits of a line's last word are what the heads say.
use Prim.Native.Nat.{ℕ, suc, ◌+◌, ◌-◌, ◌≤◌, ◌<◌}
use mathlib.Core.Path.{◌≡◌, refl, sym, ap, ◌∙◌, subst}
use mathlib.Core.Bool.{Bool, true, false}
use mathlib.Core.List.{List, [], ◌∷◌}
use native.Mathlib.Omega.{arith}
use lib.Dec.{eqb}
use lib.ListN.{length, get_or}
use borrow.Author.Tests.{eqb-true, eqb-false}
use Rattle.field.specs.declared.Field.{Field}
use Rattle.line_max.specs.Max.{max_digit, max_digits}
use Rattle.line_max.proofs.Laws.{alike, unlike}
use Rattle.demands.specs.MaxLen.{Unlike, MaxDigits}
use Rattle.demands.specs.Message.{Format}
use Rattle.demands.proofs.Message.{Stands}
use Rattle.demands.proofs.Message.Fields.{AllStand}

module _ (k : Format) (s : List ℕ) where
  -- one field's digit
  digit_one : (i : ℕ) (f : Field) → Stands k s i f → Unlike k s i → max_digit f ≡ 0x31
  digit_one i f w u =
      let c = w.counted u.0 in
      sym (unlike f (λ e. u.1 (sym c.1 ∙ e ∙ c.0)))

  digit_else : (i : ℕ) (f : Field) → Stands k s i f → (Unlike k s i → ⊥) → max_digit f ≡ 0x30
  digit_else i f w same = go (eqb f.max_len f.len) refl where
    go : (b : Bool) → eqb f.max_len f.len ≡ b → max_digit f ≡ 0x30
    go true p = sym (alike f (eqb-true f.max_len f.len p))
    go false p =
        let differ = eqb-false f.max_len f.len p in
        let none = w.uncounted (λ c. same (c, λ e. differ ((w.counted c).1 ∙ e ∙ sym (w.counted c).0))) in
        absurd (differ (ap (λ (x : Field). x.max_len) none ∙ sym (ap (λ (x : Field). x.len) none)))

  -- the digit of field j, among those from field i on
  at : (P : ℕ → ℕ → Type 0) → ((j : ℕ) (f : Field) → Stands k s j f → P j (max_digit f)) →
      (fs : List (ℕ × Field)) (i : ℕ) → AllStand k s i fs → (j : ℕ) → i ≤ j → j < i + length fs → P j (get_or (max_digits fs) (j - i) 0)
  at P h [] i all j l m = absurd (omega arith)
  at P h (f ∷ fs) i all j l m = go (eqb j i) refl (at P h fs (i + 1) all.2 j) where
    go : (b : Bool) → eqb j i ≡ b → (i + 1 ≤ j → j < i + 1 + length fs → P j (get_or (max_digits fs) (j - (i + 1)) 0)) →
        P j (get_or (max_digit f.1 ∷ max_digits fs) (j - i) 0)
    go true p later =
        let e = eqb-true j i p in
        let z : j - i ≡ 0 = omega (arith, e) in
        rw z (h j f.1 (subst (λ (x : ℕ). Stands k s x f.1) (sym e) all.1))
    go false p later =
        let n : j - i ≡ suc (j - (i + 1)) = omega (arith, eqb-false j i p) in
        rw n (later (omega (arith, eqb-false j i p)) (omega arith))

  digits_count : (fs : List (ℕ × Field)) → length (max_digits fs) ≡ length fs
  digits_count [] = refl
  digits_count (f ∷ fs) = ap (λ (n : ℕ). suc n) (digits_count fs)

  pub digits_said : (fs : List (ℕ × Field)) → AllStand k s 1 fs → length fs ≡ k.last → MaxDigits k s (max_digits fs)
  digits_said fs all count =
      record {
        count = digits_count fs ∙ count;
        one = λ i a b. at (λ j d. Unlike k s j → d ≡ 0x31) digit_one fs 1 all i a (omega (arith, count));
        else = λ i a b. at (λ j d. (Unlike k s j → ⊥) → d ≡ 0x30) digit_else fs 1 all i a (omega (arith, count));
      }
