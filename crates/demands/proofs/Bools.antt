-- Tests and what they say.
use Rattle.std.specs.Prelude.{Result, Ok, Err, ⊤}
use Prim.Native.Nat.{ℕ, ◌/◌, ◌%◌}
use mathlib.Core.Path.{◌≡◌, refl, sym, ◌∙◌}
use mathlib.Core.Logic.{◌⊎◌, inl, inr}
use mathlib.Core.Bool.{Bool, true, false, ◌||◌}
use native.Mathlib.Omega.{arith}
use Rattle.wire.specs.declared.check.Checked.TheVariants.{Held, Failed}
use Rattle.wire.specs.declared.check.Checked.{Checked}
use Rattle.wire.specs.declared.refusal.Refusal.{Refusal}
use Rattle.wire.specs.Check.{checked, after}

pub true_not_false : true ≡ false → ⊥
true_not_false h = let z : ◌≡◌ {A = ℕ} 0 1 = cc in omega arith

pub both_ways : (b : Bool) → b ≡ true → b ≡ false → ⊥
both_ways b p q = true_not_false (sym p ∙ q)

pub failed_false : (b : Bool) → checked b ≡ Failed → b ≡ false
failed_false true h = cc
failed_false false h = refl

pub or_left : (a b : Bool) → (a || b) ≡ false → a ≡ false
or_left true b h = h
or_left false b h = refl

pub or_right : (a b : Bool) → (a || b) ≡ false → b ≡ false
or_right true b h = absurd (true_not_false h)
or_right false b h = h

pub or-either : (a b : Bool) → (a || b) ≡ true → (a ≡ true) ⊎ (b ≡ true)
or-either true b h = inl refl
or-either false b h = inr h

-- a chain of checks, a check at a time
pub chained : {A : Type 0} (P : A → Type 0) (c : Checked) (e x : A) → (c ≡ Failed → P e) → (c ≡ Held → P x) → P (after c e x)
chained P Held e x f h = h refl
chained P Failed e x f h = f refl

-- a chain that came to its end: its first check held
pub after_held : (c : Checked) (e : Refusal) (x : Result ⊤ Refusal) → after c (Err e) x ≡ Ok tt → (c ≡ Held) × (x ≡ Ok tt)
after_held Held e x h = (refl, h)
after_held Failed e x h = (cc, cc)

-- bits A to E of a number are those of its lowest five bits
module _ (v : ℕ) where
  pub bit1 : v % 32 / 0x1 % 2 ≡ v / 0x1 % 2
  bit1 = omega arith

  pub bit2 : v % 32 / 0x2 % 2 ≡ v / 0x2 % 2
  bit2 = omega arith

  pub bit4 : v % 32 / 0x4 % 2 ≡ v / 0x4 % 2
  bit4 = omega arith

  pub bit8 : v % 32 / 0x8 % 2 ≡ v / 0x8 % 2
  bit8 = omega arith

  pub bit16 : v % 32 / 0x10 % 2 ≡ v / 0x10 % 2
  bit16 = omega arith
