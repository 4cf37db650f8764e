-- Checks 10 to 13 at the places to which pairs without fault lead.
use Prim.Native.Nat.{ℕ, ◌<◌}
use mathlib.Core.Path.{sym, subst}
use mathlib.Core.Logic.{⊎_elim}
use mathlib.Core.List.{List}
use native.Mathlib.Omega.{arith}
use lib.ListN.{length}
use Rattle.head.specs.declared.Kind.TheVariants.{Challenge}
use Rattle.demands.specs.Order.{rank_in}
use Rattle.demands.specs.PairList.{id_of, size_of, SizeAllowed, PairAt, EndAt, WellFormed, end, pair, Holds, empty, listed, Fails10, Fails11, Fails12, Fails13, FaultAt, fault10, fault11, fault12, fault13, FirstFault, here, later}
use Rattle.demands.specs.Explained.{printed_checks, PairFails, Leads, there, past, Before}
use Rattle.demands.proofs.Order.{at_row}
use Rattle.demands.proofs.PairList.{pair_or_end, pair_or_fault}

-- a table's row by its number
pub of_row : (P : ℕ → Type 0) (b : List ℕ) (at m : ℕ) → (Fails10 b at → P 10) → (Fails11 b at → P 11) → (Fails12 b at → P 12) → (Fails13 b at → P 13) →
    PairFails b at m → P m
of_row P b at m f10 f11 f12 f13 = at_row P 10 m _ _ f10 (at_row P 11 m _ _ f11 (at_row P 12 m _ _ f12 (at_row P 13 m _ _ f13 (λ x. absurd x))))

module _ (b : List ℕ) where
  -- none fails at a pair without fault, nor at the end pair
  pair_holds : (at m : ℕ) → PairAt b at → PairFails b at m → ⊥
  pair_holds at m w =
      of_row (λ x. ⊥) b at m (λ f. omega (arith, w.whole)) (λ f. omega (arith, w.whole)) (λ f. w.not_end f.0) (λ f. f w.size)

  end_size : (at : ℕ) → EndAt b at → SizeAllowed (id_of b at) (size_of b at)
  end_size at w =
      record {
        names = λ h. ⊎_elim (λ q. absurd (omega (arith, w.id, q.0))) (λ q. absurd (omega (arith, w.id))) h;
        flags = λ h. absurd (omega (arith, w.id));
        timestamp = λ h. absurd (omega (arith, w.id));
        bindings = λ h. absurd (omega (arith, w.id));
      }

  end_holds : (at m : ℕ) → EndAt b at → PairFails b at m → ⊥
  end_holds at m w =
      of_row (λ x. ⊥) b at m (λ f. omega (arith, w.last, w.size)) (λ f. omega (arith, w.last))
      (λ f. ⊎_elim (λ q. q w.size) (λ q. omega (arith, w.last)) f.1) (λ f. f (end_size at w))

  -- so none fails in a well-formed list
  formed_holds : {at n : ℕ} (q m : ℕ) → WellFormed b at n → Leads b q at → PairFails b q m → ⊥
  formed_holds q m (end e p) (there x) f = end_holds _ m e (subst (λ (z : ℕ). PairFails b z m) x f)
  formed_holds q m (end e p) (past w l) f = pair_or_end b _ w e
  formed_holds q m (pair w p v) (there x) f = pair_holds _ m w (subst (λ (z : ℕ). PairFails b z m) x f)
  formed_holds q m (pair w p v) (past u l) f = formed_holds q m v l f

  pub list_holds : (n q m : ℕ) → Holds b n → 0 < length b → Leads b q 0 → PairFails b q m → ⊥
  list_holds n q m (empty e p) h l f = omega arith
  list_holds n q m (listed g w) h l f = formed_holds q m w l f

  -- at a faulty pair, none of those before its number fails
  fault_before : (at n m : ℕ) → FaultAt b at n → Before (printed_checks Challenge) m n → PairFails b at m → ⊥
  fault_before at n m (fault11 e f) h w =
      of_row (λ x. Before (printed_checks Challenge) x 11 → ⊥) b at m (λ g l. omega arith) (λ g l. omega arith) (λ g l. omega arith) (λ g l. omega arith) w (rw e at h)
  fault_before at n m (fault12 e no11 f) h w =
      of_row (λ x. Before (printed_checks Challenge) x 12 → ⊥) b at m (λ g l. omega arith) (λ g l. no11 g) (λ g l. omega arith) (λ g l. omega arith) w (rw e at h)
  fault_before at n m (fault10 e no11 no12 f) h w =
      of_row (λ x. Before (printed_checks Challenge) x 10 → ⊥) b at m (λ g l. omega arith) (λ g l. no11 g) (λ g l. no12 g) (λ g l. omega arith) w (rw e at h)
  fault_before at n m (fault13 e no11 no12 no10 f) h w =
      of_row (λ x. Before (printed_checks Challenge) x 13 → ⊥) b at m (λ g l. no10 g) (λ g l. no11 g) (λ g l. no12 g) (λ g l. omega arith) w (rw e at h)

  pub first_holds : {n p at : ℕ} (q m : ℕ) → FirstFault b n p at → Leads b q at → Before (printed_checks Challenge) m n → PairFails b q m → ⊥
  first_holds q m (here x f) (there y) h w = fault_before _ _ m f h (subst (λ (z : ℕ). PairFails b z m) y w)
  first_holds q m (here x f) (past u l) h w = pair_or_fault b _ _ u f
  first_holds q m (later u f) (there y) h w = pair_holds _ m u (subst (λ (z : ℕ). PairFails b z m) y w)
  first_holds q m (later u f) (past v l) h w = first_holds q m f l h w

  -- and its number does
  fault_fails : (at n : ℕ) → FaultAt b at n → PairFails b at n
  fault_fails at n (fault11 e f) = rw e f
  fault_fails at n (fault12 e a f) = rw e f
  fault_fails at n (fault10 e a c f) = rw e f
  fault_fails at n (fault13 e a c d f) = rw e f

  pub first_fails : {n p at : ℕ} → FirstFault b n p at → PairFails b p n
  first_fails {n} {p} (here x f) = subst (λ (z : ℕ). PairFails b z n) (sym x) (fault_fails _ n f)
  first_fails (later u f) = first_fails f

  pub first_leads : {n p at : ℕ} → FirstFault b n p at → Leads b p at
  first_leads (here x f) = there x
  first_leads (later u f) = past u (first_leads f)

  -- it is one of the checks of a challenge
  fault_listed : (at n : ℕ) → FaultAt b at n → rank_in (printed_checks Challenge) n < 12
  fault_listed at n (fault11 e f) = rw e (omega arith)
  fault_listed at n (fault12 e a f) = rw e (omega arith)
  fault_listed at n (fault10 e a c f) = rw e (omega arith)
  fault_listed at n (fault13 e a c d f) = rw e (omega arith)

  pub first_listed : {n p at : ℕ} → FirstFault b n p at → rank_in (printed_checks Challenge) n < 12
  first_listed (here x f) = fault_listed _ _ f
  first_listed (later u f) = first_listed f
