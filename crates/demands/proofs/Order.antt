-- The first failure of a table of checks that go by number, for any table.
pub mod Rank
use Prim.Native.Nat.{ℕ, ◌+◌, ◌≤◌, ◌<◌}
use mathlib.Core.Path.{◌≡◌, refl, sym, subst}
use mathlib.Core.Bool.{Bool, true, false}
use lib.Dec.{eqb}
use borrow.Author.Tests.{eqb-true}
use Rattle.demands.specs.Order.{First, row, check}
use Rattle.demands.proofs.Order.Rank.{FreeBy, only_first_by, first_by, next_field_by, next_check_by, skip_by}

module _ (F : ℕ → ℕ → Type 0) where
  pub only_first : (n i m j : ℕ) → First F n i → First F m j → (n ≡ m) × (i ≡ j)
  only_first n i m j = only_first_by (λ x. x) F n i m j (λ x e. e)

  abbrev pub Free : ℕ → ℕ → Type 0
  Free = FreeBy (λ x. x) F

  pub first : (n i : ℕ) → Free n i → F n i → First F n i
  first = first_by (λ x. x) F

  pub next_field : (n i k : ℕ) → k ≡ i + 1 → Free n i → (F n i → ⊥) → Free n k
  next_field = next_field_by (λ x. x) F

  pub next_check : (n i k : ℕ) → k ≡ n + 1 → Free n i → ((j : ℕ) → i ≤ j → F n j → ⊥) → Free k 0
  next_check n i k e = next_check_by (λ x. x) F n i k e (λ x q. q)

  pub skip : (n i : ℕ) → Free n 0 → ((j : ℕ) → j < i → F n j → ⊥) → Free n i
  skip = skip_by (λ x. x) F

-- a table by its first row: the number is that of the row, or the rest of the table holds
pub on_row : (k n : ℕ) (P rest Q : Type 0) → (n ≡ k → P → Q) → (rest → Q) → check k n P rest → Q
on_row k n P rest Q f g h = go (eqb n k) refl h where
  go : (t : Bool) → eqb n k ≡ t → row t P rest → Q
  go true p x = f (eqb-true n k p) x
  go false p x = g x

-- the same of what goes by the number
pub at_row : (P : ℕ → Type 0) (k n : ℕ) (Q rest : Type 0) → (Q → P k) → (rest → P n) → check k n Q rest → P n
at_row P k n Q rest f g = on_row k n Q rest (P n) (λ e x. subst P (sym e) (f x)) g
