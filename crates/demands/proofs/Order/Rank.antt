-- The first failure of a table of checks, for any table and any order of its checks.
use Rattle.std.specs.Prelude.{Result, Ok, Err, ⊤}
use Prim.Native.Nat.{ℕ, ◌+◌, ◌≤◌, ◌<◌}
use mathlib.Core.Path.{◌≡◌, refl, sym, ◌∙◌, subst}
use mathlib.Core.Logic.{◌⊎◌, inl, inr, ⊎_elim}
use mathlib.Core.Bool.{Bool, true, false, cond}
use mathlib.Core.List.{List, [], ◌∷◌}
use native.Mathlib.Omega.{arith}
use lib.Dec.{eqb, ltb}
use lib.ListN.{length}
use borrow.Author.Tests.{ltb-true, ltb-false, eqb-true}
use Rattle.wire.specs.declared.check.Checked.{Checked}
use Rattle.wire.specs.declared.check.Checked.TheVariants.{Held, Failed}
use Rattle.wire.specs.declared.refusal.Refusal.{Refusal}
use Rattle.wire.specs.Check.{over_all, on_clear}
use Rattle.wire.specs.Refusal.{number_of, field_of}
use Rattle.demands.specs.Order.{BeforeBy, FirstBy, rank_in}
use Rattle.demands.proofs.Bools.{chained}

pub either_way : (a c : ℕ) → (a < c) ⊎ ((a ≡ c) ⊎ (c < a))
either_way a c = go (ltb a c) (ltb c a) refl refl where
  go : (s t : Bool) → ltb a c ≡ s → ltb c a ≡ t → (a < c) ⊎ ((a ≡ c) ⊎ (c < a))
  go true t p q = inl (ltb-true a c p)
  go false true p q = inr (inr (ltb-true c a q))
  go false false p q = inr (inl (omega (arith, ltb-false a c p, ltb-false c a q)))

module _ (rank : ℕ → ℕ) where
  -- no other number has the rank of n
  abbrev pub Only : ℕ → Type 0
  Only n = (m : ℕ) → rank m ≡ rank n → m ≡ n

module _ (rank : ℕ → ℕ) (F : ℕ → ℕ → Type 0) where
  -- there is only one first failure
  pub only_first_by : (n i m j : ℕ) → Only rank m → FirstBy rank F n i → FirstBy rank F m j → (n ≡ m) × (i ≡ j)
  only_first_by n i m j only f g =
      ⊎_elim (λ l. absurd (g.none_before n i (inl l) f.fails))
      (⊎_elim (λ e. same (only n e)) (λ l. absurd (f.none_before m j (inl l) g.fails)))
      (either_way (rank n) (rank m))
    where
      same : n ≡ m → (n ≡ m) × (i ≡ j)
      same e =
          ⊎_elim (λ l. absurd (g.none_before n i (inr (e, l)) f.fails))
          (⊎_elim (λ q. (e, q)) (λ l. absurd (f.none_before m j (inr (sym e, l)) g.fails)))
          (either_way i j)

  -- nothing before field i of check n fails
  abbrev pub FreeBy : ℕ → ℕ → Type 0
  FreeBy n i = (m j : ℕ) → BeforeBy rank m j n i → F m j → ⊥

  -- a failure where nothing before it failed is the first
  pub first_by : (n i : ℕ) → FreeBy n i → F n i → FirstBy rank F n i
  first_by n i f h = record { fails = h; none_before = f }

  -- past one field
  pub next_field_by : (n i k : ℕ) → k ≡ i + 1 → FreeBy n i → (F n i → ⊥) → FreeBy n k
  next_field_by n i k e f h m j b w =
      ⊎_elim (λ l. f m j (inl l) w)
      (λ q. ⊎_elim (λ l. f m j (inr (q.0, l)) w)
      (⊎_elim (λ z. h (subst (λ (x : ℕ). F n x) z (subst (λ (x : ℕ). F x j) q.0 w))) (λ l. absurd (omega (arith, q.1))))
      (either_way j i))
      b

  -- past all fields from i on, and so past the check
  pub next_check_by : (n i k : ℕ) → rank k ≡ rank n + 1 → Only rank n → FreeBy n i → ((j : ℕ) → i ≤ j → F n j → ⊥) → FreeBy k 0
  next_check_by n i k e only f h m j b w =
      ⊎_elim
      (λ l. ⊎_elim (λ r. f m j (inl r) w) (⊎_elim (λ q. of_n (only m q)) (λ r. absurd (omega (arith, e)))) (either_way (rank m) (rank n)))
      (λ q. absurd (omega (arith, q.1))) b
    where
      of_n : m ≡ n → ⊥
      of_n q =
          ⊎_elim (λ l. f m j (inr (q, l)) w)
          (⊎_elim (λ z. h j (omega arith) (subst (λ (x : ℕ). F x j) q w)) (λ l. h j (omega arith) (subst (λ (x : ℕ). F x j) q w)))
          (either_way j i)

  -- before the first field that a check looks at
  pub skip_by : (n i : ℕ) → FreeBy n 0 → ((j : ℕ) → j < i → F n j → ⊥) → FreeBy n i
  skip_by n i f h m j b w =
      ⊎_elim (λ l. f m j (inl l) w) (λ q. h j q.1 (subst (λ (x : ℕ). F x j) q.0 w)) b

  -- what a verdict says: nothing fails up to the next check, or its refusal is the first failure
  abbrev pub JudgedBy : ℕ → Result ⊤ Refusal → Type 0
  JudgedBy next (Ok tt) = FreeBy next 0
  JudgedBy next (Err e) = FirstBy rank F (number_of e) (field_of e)

  -- a group of checks, and what follows it
  pub then_by : (m next : ℕ) (v x : Result ⊤ Refusal) → JudgedBy m v → (FreeBy m 0 → JudgedBy next x) → JudgedBy next (on_clear Err v x)
  then_by m next (Ok tt) x j f = f j
  then_by m next (Err e) x j f = j

-- a check over numbered things, against the table's row n, from number i on
abbrev pub LinksBy : {A : Type 0} → (ℕ → ℕ → Type 0) → ℕ → (A → Checked) → ℕ → List (ℕ × A) → Type 0
LinksBy F n ok i [] = Unit
LinksBy F n ok i (f ∷ fs) =
    (f.0 ≡ i) × (ok f.1 ≡ Failed → F n i) × (ok f.1 ≡ Held → F n i → ⊥) × LinksBy F n ok (i + 1) fs

pub over_judged_by : {A : Type 0} (rank : ℕ → ℕ) (F : ℕ → ℕ → Type 0) (n next : ℕ) (ok : A → Checked) (e : ℕ → Refusal) →
    rank next ≡ rank n + 1 → Only rank n → ((j : ℕ) → (number_of (e j) ≡ n) × (field_of (e j) ≡ j)) →
    (fs : List (ℕ × A)) (i : ℕ) → LinksBy F n ok i fs → FreeBy rank F n i →
    ((j : ℕ) → i + length fs ≤ j → F n j → ⊥) → JudgedBy rank F next (over_all ok e fs)
over_judged_by rank F n next ok e is-next only named [] i links free rest =
    next_check_by rank F n i next is-next only free (λ j l. rest j (omega arith))
over_judged_by rank F n next ok e is-next only named (f ∷ fs) i links free rest =
    chained (JudgedBy rank F next) (ok f.1) (Err (e f.0)) (over_all ok e fs)
    (λ failed. rw ((named f.0).0, (named f.0).1, links.0) (first_by rank F n i free (links.1 failed)))
    (λ held.
    over_judged_by rank F n next ok e is-next only named fs (i + 1) links.3
    (next_field_by rank F n i (i + 1) refl free (links.2 held))
    (λ j l. rest j (omega arith)))

-- ---- the order of a list

-- a number of the list is the only one at its place
pub only_in : (ks : List ℕ) (n : ℕ) → rank_in ks n < length ks → Only (rank_in ks) n
only_in [] n l m e = absurd (omega arith)
only_in (k ∷ ks) n l m e = go (λ r. only_in ks n r m) (eqb n k) (eqb m k) refl refl l e where
  go : (rank_in ks n < length ks → rank_in ks m ≡ rank_in ks n → m ≡ n) → (x y : Bool) → eqb n k ≡ x → eqb m k ≡ y → cond x 0 (1 + rank_in ks n) < length (k ∷ ks) →
      cond y 0 (1 + rank_in ks m) ≡ cond x 0 (1 + rank_in ks n) → m ≡ n
  go rest true true p q r s = eqb-true m k q ∙ sym (eqb-true n k p)
  go rest true false p q r s = absurd (omega (arith, s))
  go rest false true p q r s = absurd (omega (arith, s))
  go rest false false p q r s = rest (omega (arith, r)) (omega (arith, s))

-- a number that is not one of the list's
abbrev pub Outside : List ℕ → ℕ → Type 0
Outside [] n = Unit
Outside (k ∷ ks) n = (eqb n k ≡ false) × Outside ks n

pub outside : (ks : List ℕ) (n : ℕ) → length ks ≤ rank_in ks n → Outside ks n
outside [] n l = tt
outside (k ∷ ks) n l = go (outside ks n) (eqb n k) refl l where
  go : (length ks ≤ rank_in ks n → Outside ks n) → (x : Bool) → eqb n k ≡ x → length (k ∷ ks) ≤ cond x 0 (1 + rank_in ks n) → Outside (k ∷ ks) n
  go rest true p r = absurd (omega (arith, r))
  go rest false p r = (p, rest (omega (arith, r)))
