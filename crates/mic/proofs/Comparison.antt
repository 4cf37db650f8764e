-- Sixteen bytes that are compared one by one.
use Prim.Native.Nat.{ℕ, ◌+◌, ◌≤◌, ◌<◌}
use mathlib.Core.Path.{◌≡◌, sym, ap, ◌∙◌}
use mathlib.Core.Bool.{Bool, true, ◌&&◌}
use mathlib.Core.List.{List, ◌∷◌}
use native.Mathlib.Nat.{add-zero, add_assoc}
use native.Mathlib.Numerals.{add-one}
use native.Mathlib.Omega.{arith}
use lib.Dec.{eqb}
use lib.ListN.{length, get_or, drop, drop_of_length-le}
use lib.Seq.{drop-cons}
use Rattle.wire.proofs.Bools.{and_assoc, and-true}
use Rattle.wire.specs.Number.{stands_at}

-- sixteen bytes, of which i have been compared
pub record Compared (s : List ℕ) (at : ℕ) (xs : List ℕ) (same : Bool) (i : ℕ) : Type 0 where
  pub rest : same && stands_at s (at + i) (drop i xs) ≡ stands_at s at xs

pub stands_start : (s : List ℕ) (at : ℕ) (xs : List ℕ) → Compared s at xs true 0
stands_start s at xs = record { rest = simp (add-zero at) }

pub stands_next : (s : List ℕ) (at : ℕ) (xs : List ℕ) (same : Bool) (i : ℕ) → Compared s at xs same i → length xs ≡ 16 → i < 16 →
    Compared s at xs (same && eqb (get_or s (at + i) 0) (get_or xs i 0)) (i + 1)
stands_next s at xs same i c l h =
    let k : i < length xs = omega arith in
    let d : drop i xs ≡ get_or xs i 0 ∷ drop (i + 1) xs = rw (add-one, drop-cons xs i 0) in
    record {
      rest =
          and_assoc same (eqb (get_or s (at + i) 0) (get_or xs i 0)) (stands_at s (at + (i + 1)) (drop (i + 1) xs))
          ∙ ap (λ (n : ℕ). same && (eqb (get_or s (at + i) 0) (get_or xs i 0) && stands_at s n (drop (i + 1) xs))) (sym (add_assoc at i 1))
          ∙ ap (λ (m : List ℕ). same && stands_at s (at + i) m) (sym d) ∙ c.rest;
    }

pub stands_end : (s : List ℕ) (at : ℕ) (xs : List ℕ) (same : Bool) (i : ℕ) → Compared s at xs same i → length xs ≡ 16 → 16 ≤ i → same ≡ stands_at s at xs
stands_end s at xs same i c l h =
    sym (and-true same) ∙ ap (λ (m : List ℕ). same && stands_at s (at + i) m) (sym (drop_of_length-le xs {i = i} (omega arith))) ∙ c.rest

pub all_compared : (s : List ℕ) (at : ℕ) (xs : List ℕ) (same : Bool) → Compared s at xs same 16 → length xs ≡ 16 → same ≡ stands_at s at xs
all_compared s at xs same c l = stands_end s at xs same 16 c l (omega arith)

pub ruleset compared = (stands_start, stands_next, all_compared)
