-- What the refusal of a list of pairs is: one of 10 to 13, at a place within the list, with the pair's head there but for 11.
use Rattle.std.specs.Prelude.{Result, Option, Ok, Err, Some, None}
use Prim.Native.Nat.{ℕ, zero, suc, ◌+◌, ◌-◌, ◌≤◌}
use mathlib.Core.Path.{◌≡◌, refl, sym}
use mathlib.Core.Bool.{Bool, true, false, cond, ◌&&◌}
use mathlib.Core.List.{List, []}
use native.Mathlib.Omega.{arith}
use lib.Dec.{leb, eqb}
use lib.ListN.{length, take, drop, length-take, length-drop}
use borrow.Author.Tests.{leb-true}
use Rattle.wire.specs.declared.refusal.Refusal.{Refusal}
use Rattle.wire.specs.declared.refusal.Refusal.TheVariants.{PairPastEnd, PairMissing, WrongEndPair, WrongPairSize}
use Rattle.wire.specs.Check.{checked, after}
use Rattle.wire.specs.Number.{u16_at}
use Rattle.field.specs.declared.Field.{Field}
use Rattle.field.specs.Field.{field_bytes}
use Rattle.av_id.specs.AvId.{is_end, size_allowed, implies}
use Rattle.av_pairs.specs.declared.AvPair.{AvPair}
use Rattle.av_pairs.specs.AvPairs.{left, pair_of, id_at, step_at, end_of, on_step, stop_from, check_pairs}
use Rattle.av_pairs.proofs.Steps.{gave}

-- a fault in a list of n bytes
pub data Fault (n : ℕ) (e : Refusal) : Type 0 where
  past_end : (at : ℕ) → e ≡ PairPastEnd at → at + 4 ≤ n → Fault n e
  missing : (at : ℕ) → e ≡ PairMissing at → at ≤ n → Fault n e
  end_pair : (at : ℕ) → e ≡ WrongEndPair at → at + 4 ≤ n → Fault n e
  pair_size : (at : ℕ) → e ≡ WrongPairSize at → at + 4 ≤ n → Fault n e

is : (x r : Refusal) → ◌≡◌ {A = Result (Option AvPair) Refusal} (Err x) (Err r) → r ≡ x
is x r h = cc

ended : (r : Refusal) → ◌≡◌ {A = Result (Option AvPair) Refusal} (Ok None) (Err r) → ⊥
ended r h = let z : ◌≡◌ {A = ℕ} 0 1 = cc in omega arith

given : (q : AvPair) (r : Refusal) → ◌≡◌ {A = Result (Option AvPair) Refusal} (Ok (Some q)) (Err r) → ⊥
given q r h = let z : ◌≡◌ {A = ℕ} 0 1 = cc in omega arith

told : (n at : ℕ) (a b c d e f : Bool) (q : AvPair) (r : Refusal) → at ≤ n → (b ≡ true → at + 4 ≤ n) →
    cond a (Ok None) (
    after (checked b) (Err (PairMissing at)) (
    after (checked c) (Err (WrongEndPair at)) (
    after (checked d) (Err (PairPastEnd at)) (
    after (checked e) (Err (WrongPairSize at)) (cond f (Ok None) (Ok (Some q))))))) ≡ Err r →
    Fault n r
told n at true b c d e f q r i j h = absurd (ended r h)
told n at false false c d e f q r i j h = missing at (is (PairMissing at) r h) i
told n at false true false d e f q r i j h = end_pair at (is (WrongEndPair at) r h) (j refl)
told n at false true true false e f q r i j h = past_end at (is (PairPastEnd at) r h) (j refl)
told n at false true true true false f q r i j h = pair_size at (is (WrongPairSize at) r h) (j refl)
told n at false true true true true true q r i j h = absurd (ended r h)
told n at false true true true true false q r i j h = absurd (given q r h)

fault_at : (s : List ℕ) (at : ℕ) (e : Refusal) → at ≤ length s → step_at s at ≡ Err e → Fault (length s) e
unfolding step_at pair_of left
fault_at s at e i h =
    let n : ℕ = u16_at s (at + 2) in
    told (length s) at (eqb (length s) 0) (leb 4 (length s - at)) (implies (is_end (id_at s at)) (eqb n 0 && eqb (length s - at) 4)) (leb (4 + n) (length s - at)) (size_allowed (id_at s at) n) (is_end (id_at s at)) (record { id = id_at s at; at = at + 4; len = n }) e i
    (λ b. omega (arith, leb-true 4 (length s - at) b)) h

fault_from : (k : ℕ) (s : List ℕ) (at : ℕ) (e : Refusal) → at ≤ length s → stop_from k s at ≡ Err e → Fault (length s) e
fault_from zero s at e h q = absurd (let z : ◌≡◌ {A = ℕ} 0 1 = cc in omega arith)
fault_from (suc k) s at e h q = go (step_at s at) refl q (λ i. fault_from k s i e) where
  go : (r : Result (Option AvPair) Refusal) → step_at s at ≡ r → on_step r (λ p. stop_from k s (end_of p)) (λ v. v) ≡ Err e →
      ((i : ℕ) → i ≤ length s → stop_from k s i ≡ Err e → Fault (length s) e) → Fault (length s) e
  go (Ok (Some p)) w q later = later (end_of p) (gave s at (Ok (Some p)) p (sym w) refl).inside q
  go (Ok None) w q later = absurd (let z : ◌≡◌ {A = ℕ} 0 1 = cc in omega arith)
  go (Err f) w q later = let same : f ≡ e = cc in fault_at s at e h (rw same at w)

pub fault_of : (s : List ℕ) (e : Refusal) → check_pairs s ≡ Err e → Fault (length s) e
unfolding check_pairs
fault_of s e h = fault_from (suc (length s)) s 0 e (omega arith) h

no_fault : (e : Refusal) → check_pairs [] ≡ Err e → ⊥
unfolding check_pairs step_at
no_fault e h = let z : ◌≡◌ {A = ℕ} 0 1 = cc in omega arith

-- a field whose bytes as a list have a fault lies within its message
pub list_inside : (s : List ℕ) (f : Field) (e : Refusal) → check_pairs (field_bytes s f) ≡ Err e → f.offset + length (field_bytes s f) ≤ length s
unfolding field_bytes
list_inside s f e h = go (leb (f.offset + f.len) (length s)) refl h where
  go : (t : Bool) → leb (f.offset + f.len) (length s) ≡ t → check_pairs (cond t (take f.len (drop f.offset s)) []) ≡ Err e →
      f.offset + length (cond t (take f.len (drop f.offset s)) []) ≤ length s
  go true p q = simp (length-take, length-drop) (omega (arith, leb-true (f.offset + f.len) (length s) p))
  go false p q = absurd (no_fault e q)
