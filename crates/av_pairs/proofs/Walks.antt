-- Laws of a walk over a list: what is left of it from a place on.
use Rattle.std.specs.Prelude.{Result, Option, Ok, Err, Some, None, ⊤}
use Prim.Native.Nat.{ℕ, zero, suc, ◌+◌, ◌-◌, ◌^◌, ◌≤◌, ◌<◌}
use mathlib.Core.Path.{◌≡◌, refl, sym, ap, ◌∙◌}
use mathlib.Core.Bool.{Bool, true, false}
use mathlib.Core.List.{List, [], ◌∷◌}
use native.Mathlib.Omega.{arith}
use lib.ListN.{length, length-take, length-drop}
use mir.Syntax.{w64}
use mir.Val.{Fits}
use borrow.Author.Tests.{eq-eqb, ne_eqb}
use Rattle.wire.specs.declared.refusal.Refusal.{Refusal}
use Rattle.av_id.specs.AvId.{is_end}
use Rattle.wire.specs.Number.{u16_at}
use Rattle.wire.specs.Check.{on_clear}
use Rattle.wire.specs.Refusal.{place_of}
use Rattle.av_pairs.specs.declared.AvPair.{AvPair}
use Rattle.av_pairs.specs.AvPairs.{step_at, end_of, on_step, ask_at, pair_at, pairs_from, stop_from, stop_at, pairs_of, check_pairs, count_pairs, Valued, value_in, with_values, values_of}
use Rattle.av_pairs.proofs.Steps.{Gave, gave, fault_place, Sound, sound}

-- ---- a step

-- what a pattern in another found
pub two_in : (r : Result (Option AvPair) Refusal) (o : Option AvPair) (p : Option AvPair) → r ≡ Ok o → o ≡ p → r ≡ Ok p
two_in r o p h q = rw (← q) h

module _ (s : List ℕ) (at : ℕ) (r : Result (Option AvPair) Refusal) (e : r ≡ step_at s at) (p : AvPair) (h : r ≡ (Ok (Some p))) where
  pub end_fits : length s < 2 ^ 64 → Fits w64 (p.at + p.len)
  end_fits f = record { fits = omega (arith, (gave s at r p e h).inside) }

  -- each pair takes bytes
  pub onward : at + 4 ≤ end_of p
  onward = omega (arith, ap (λ (x : AvPair). x.at) (gave s at r p e h).pair)

  pub falls : length s - (p.at + p.len) < length s - at
  falls = omega (arith, onward, (gave s at r p e h).inside)

-- an asking that gives a pair, one at the end, and one at a fault
module _ (s : List ℕ) (at : ℕ) (r : Result (Option AvPair) Refusal) (e : r ≡ step_at s at) where
  pub ask_pair : (p : AvPair) → r ≡ Ok (Some p) → record { step = r; next = p.at + p.len } ≡ ask_at s at
  unfolding ask_at
  ask_pair p h = simp (← e, h)

  pub ask_end : r ≡ Ok None → record { step = r; next = at } ≡ ask_at s at
  unfolding ask_at
  ask_end h = simp (← e, h)

  pub ask_fault : (f : Refusal) → r ≡ Err f → record { step = r; next = at } ≡ ask_at s at
  unfolding ask_at
  ask_fault f h = simp (← e, h)

-- ---- what is left from a place on: its pairs and its verdict, with steps for the bytes that are left

unfoldable pub pairs_at : List ℕ → ℕ → List AvPair
pairs_at s at = pairs_from (suc (length s - at)) s at

unfoldable pub values_at : List ℕ → ℕ → List Valued
values_at s at = with_values s (pairs_at s at)

-- steps to spare change nothing: each pair takes bytes
enough : (k m : ℕ) (s : List ℕ) (at : ℕ) → length s - at ≤ k → length s - at ≤ m → stop_from (suc k) s at ≡ stop_from (suc m) s at
enough zero m s at a b = go (step_at s at) refl where
  go : (r : Result (Option AvPair) Refusal) → step_at s at ≡ r → on_step r (λ p. (Ok tt)) (λ v. v) ≡ on_step r (λ p. stop_from m s (end_of p)) (λ v. v)
  go (Ok (Some p)) e = absurd (omega (arith, falls s at (Ok (Some p)) (sym e) p refl))
  go (Ok None) e = refl
  go (Err f) e = refl
enough (suc k) m s at a b = go m (step_at s at) refl b (λ n i. enough k n s i) where
  go : (m : ℕ) (r : Result (Option AvPair) Refusal) → step_at s at ≡ r → length s - at ≤ m →
      ((n i : ℕ) → length s - i ≤ k → length s - i ≤ n → stop_from (suc k) s i ≡ stop_from (suc n) s i) →
      on_step r (λ p. stop_from (suc k) s (end_of p)) (λ v. v) ≡ on_step r (λ p. stop_from m s (end_of p)) (λ v. v)
  go zero (Ok (Some p)) e b later = absurd (omega (arith, falls s at (Ok (Some p)) (sym e) p refl))
  go (suc m) (Ok (Some p)) e b later =
      later m (end_of p) (omega (arith, falls s at (Ok (Some p)) (sym e) p refl)) (omega (arith, falls s at (Ok (Some p)) (sym e) p refl))
  go m (Ok None) e b later = refl
  go m (Err f) e b later = refl

enough_pairs : (k m : ℕ) (s : List ℕ) (at : ℕ) → length s - at ≤ k → length s - at ≤ m → pairs_from (suc k) s at ≡ pairs_from (suc m) s at
enough_pairs zero m s at a b = go (step_at s at) refl where
  go : (r : Result (Option AvPair) Refusal) → step_at s at ≡ r → on_step r (λ p. p ∷ []) (λ v. []) ≡ on_step r (λ p. p ∷ pairs_from m s (end_of p)) (λ v. [])
  go (Ok (Some p)) e = absurd (omega (arith, falls s at (Ok (Some p)) (sym e) p refl))
  go (Ok None) e = refl
  go (Err f) e = refl
enough_pairs (suc k) m s at a b = go m (step_at s at) refl b (λ n i. enough_pairs k n s i) where
  go : (m : ℕ) (r : Result (Option AvPair) Refusal) → step_at s at ≡ r → length s - at ≤ m →
      ((n i : ℕ) → length s - i ≤ k → length s - i ≤ n → pairs_from (suc k) s i ≡ pairs_from (suc n) s i) →
      on_step r (λ p. p ∷ pairs_from (suc k) s (end_of p)) (λ v. []) ≡ on_step r (λ p. p ∷ pairs_from m s (end_of p)) (λ v. [])
  go zero (Ok (Some p)) e b later = absurd (omega (arith, falls s at (Ok (Some p)) (sym e) p refl))
  go (suc m) (Ok (Some p)) e b later =
      ap (λ (ps : List AvPair). p ∷ ps)
      (later m (end_of p) (omega (arith, falls s at (Ok (Some p)) (sym e) p refl)) (omega (arith, falls s at (Ok (Some p)) (sym e) p refl)))
  go m (Ok None) e b later = refl
  go m (Err f) e b later = refl

few_from : (k : ℕ) (s : List ℕ) (at : ℕ) → length (pairs_from k s at) ≤ length s - at
few_from zero s at = omega arith
few_from (suc k) s at = go (step_at s at) refl (λ i. few_from k s i) where
  go : (r : Result (Option AvPair) Refusal) → step_at s at ≡ r → ((i : ℕ) → length (pairs_from k s i) ≤ length s - i) →
      length (on_step r (λ p. p ∷ pairs_from k s (end_of p)) (λ v. [])) ≤ length s - at
  go (Ok (Some p)) e later = omega (arith, later (end_of p), falls s at (Ok (Some p)) (sym e) p refl)
  go (Ok None) e later = omega arith
  go (Err f) e later = omega arith

-- so there are no more pairs than bytes
pub few_pairs : (s : List ℕ) → length (pairs_of s) ≤ length s
unfolding pairs_of
few_pairs s = omega (arith, few_from (suc (length s)) s 0)

-- at the start, all is left
pub pairs_start : (s : List ℕ) → pairs_at s 0 ≡ pairs_of s
unfolding pairs_at pairs_of
pairs_start s = enough_pairs (length s - 0) (length s) s 0 (omega arith) (omega arith)

pub stop_start : (s : List ℕ) → stop_at s 0 ≡ check_pairs s
unfolding stop_at check_pairs
stop_start s = enough (length s - 0) (length s) s 0 (omega arith) (omega arith)

-- of a list that was checked, all is clear
pub clear_all : (s : List ℕ) → check_pairs s ≡ Ok tt → stop_at s 0 ≡ Ok tt
clear_all s h = stop_start s ∙ h

pub values_start : (s : List ℕ) → values_at s 0 ≡ values_of s
unfolding values_at values_of
values_start s = ap (λ (ps : List AvPair). with_values s ps) (pairs_start s)

module _ (s : List ℕ) (at : ℕ) (r : Result (Option AvPair) Refusal) (e : r ≡ step_at s at) where
  module _ (p : AvPair) (h : r ≡ (Ok (Some p))) where
    fuel : length s - at ≡ suc (length s - at - 1)
    fuel = omega (arith, falls s at r e p h)

    pub pairs_pair : pairs_at s at ≡ p ∷ pairs_at s (end_of p)
    unfolding pairs_at
    pairs_pair =
        simp (← e, h)
        (ap (λ (ps : List AvPair). p ∷ ps)
        (ap (λ (n : ℕ). pairs_from n s (end_of p)) fuel
        ∙ enough_pairs (length s - at - 1) (length s - end_of p) s (end_of p) (omega (arith, falls s at r e p h)) (omega arith)))

    pub stop_pair : stop_at s at ≡ stop_at s (end_of p)
    unfolding stop_at
    stop_pair =
        simp (← e, h)
        (ap (λ (n : ℕ). stop_from n s (end_of p)) fuel
        ∙ enough (length s - at - 1) (length s - end_of p) s (end_of p) (omega (arith, falls s at r e p h)) (omega arith))

  pub at_end : r ≡ Ok None → (pairs_at s at ≡ []) × (stop_at s at ≡ Ok tt)
  unfolding pairs_at stop_at
  at_end h = (simp (← e, h), simp (← e, h))

  pub at_fault : (f : Refusal) → r ≡ Err f → (pairs_at s at ≡ []) × (stop_at s at ≡ Err f)
  unfolding pairs_at stop_at
  at_fault f h = (simp (← e, h), simp (← e, h))

  -- what `pair_at` answers
  pub gives_pair : (p : AvPair) → r ≡ (Ok (Some p)) → Some p ≡ pair_at s at
  unfolding pair_at
  gives_pair p h = simp (← e, h)

  pub gives_end : r ≡ Ok None → None ≡ pair_at s at
  unfolding pair_at
  gives_end h = simp (← e, h)

  pub gives_fault : (f : Refusal) → r ≡ Err f → None ≡ pair_at s at
  unfolding pair_at
  gives_fault f h = simp (← e, h)

-- where the checks hold from a place on, what `pair_at` reads is there, and it answers as with the checks
pub gives_none : (s : List ℕ) (at : ℕ) → length s ≡ 0 → None ≡ pair_at s at
unfolding pair_at step_at
gives_none s at h = simp (eq-eqb (length s) 0 h)

module _ (s : List ℕ) (at : ℕ) (w : stop_at s at ≡ Ok tt) (z : length s ≡ 0 → ⊥) where
  held : Sound s at
  held = sound s at (ne_eqb (length s) 0 z) (λ f h. let g : (Ok tt) ≡ Err f = sym w ∙ (at_fault s at (Err f) (sym h) f refl).1 in cc)

  pub held_id : at + 2 ≤ length s
  held_id = omega (arith, held.there)

  pub held_len : at + 2 + 2 ≤ length s
  held_len = omega (arith, held.there)

  pub held_fits : length s < 2 ^ 64 → Fits w64 (at + 2)
  held_fits f = record { fits = omega (arith, held.there) }

  pub held_value : length s < 2 ^ 64 → Fits w64 (at + 4)
  held_value f = record { fits = omega (arith, held.there) }

  module _ (i : ℕ) (q : i ≡ u16_at s at) (b : Bool) (y : b ≡ is_end (record { id = i })) where
    pub held_end : b ≡ true → None ≡ pair_at s at
    unfolding pair_at
    held_end h = simp (held.step, ← q, ← y, h)

    pub held_pair : (l : ℕ) → b ≡ false → l ≡ u16_at s (at + 2) → Some (record { id = record { id = i }; at = at + 4; len = l }) ≡ pair_at s at
    unfolding pair_at
    held_pair l h x = simp (held.step, ← q, ← y, h, ← x)

pub ruleset held_head = (held_id, held_len, held_fits, held_value)

pub ruleset held_gives = (gives_none, held_end, held_pair)

-- ---- the same for `pair_at`: a pair or nothing

stood : (s : List ℕ) (at : ℕ) (p : AvPair) → pair_at s at ≡ Some p → step_at s at ≡ (Ok (Some p))
unfolding pair_at
stood s at p h = go (step_at s at) h where
  go : (r : Result (Option AvPair) Refusal) → on_step r Some (λ v. None) ≡ Some p → r ≡ (Ok (Some p))
  go (Ok (Some q)) h = cc
  go (Ok None) h = cc
  go (Err f) h = cc

module _ (s : List ℕ) (at : ℕ) (r : Option AvPair) (e : r ≡ pair_at s at) where
  pub no_pairs : r ≡ None → pairs_at s at ≡ []
  unfolding pair_at
  no_pairs h = go (step_at s at) refl (sym e ∙ h) where
    go : (x : Result (Option AvPair) Refusal) → step_at s at ≡ x → on_step x Some (λ v. None) ≡ None → pairs_at s at ≡ []
    go (Ok (Some q)) y h = cc
    go (Ok None) y h = (at_end s at (Ok None) (sym y) refl).0
    go (Err f) y h = (at_fault s at (Err f) (sym y) f refl).0

  pub no_values : r ≡ None → values_at s at ≡ []
  unfolding values_at
  no_values h = ap (λ (ps : List AvPair). with_values s ps) (no_pairs h)

  module _ (p : AvPair) (h : r ≡ Some p) where
    step : (Ok (Some p)) ≡ step_at s at
    step = sym (stood s at p (sym e ∙ h))

    pub gave_there : Gave s at p
    gave_there = gave s at (Ok (Some p)) p step refl

    pub there_inside : p.at + p.len ≤ length s
    there_inside = gave_there.inside

    pub there_fits : length s < 2 ^ 64 → Fits w64 (p.at + p.len)
    there_fits f = end_fits s at (Ok (Some p)) step p refl f

    pub there_clear : stop_at s at ≡ Ok tt → stop_at s (p.at + p.len) ≡ Ok tt
    there_clear w = sym (stop_pair s at (Ok (Some p)) step p refl) ∙ w

    pub there_falls : length s - (p.at + p.len) < length s - at
    there_falls = falls s at (Ok (Some p)) step p refl

    pub more_pairs : pairs_at s at ≡ p ∷ pairs_at s (end_of p)
    more_pairs = pairs_pair s at (Ok (Some p)) step p refl

    pub more_values : values_at s at ≡ (p.id, value_in s p) ∷ values_at s (end_of p)
    unfolding values_at
    more_values = ap (λ (ps : List AvPair). with_values s ps) more_pairs

-- how much of a list a part from a place on is, and how long a pair's value
pub span : (at n : ℕ) → at + n - at ≡ n
span at n = omega arith

pub value_long : (s : List ℕ) (p : AvPair) → p.at + p.len ≤ length s → length (value_in s p) ≡ p.len
value_long s p h = simp (length-take, length-drop) (omega arith)

-- ---- the checks: what is left decides

abbrev pub Ahead : List ℕ → ℕ → Type 0
Ahead s at = check_pairs s ≡ stop_at s at

pub ahead_all : (s : List ℕ) → Ahead s 0
ahead_all s = sym (stop_start s)

module _ (s : List ℕ) (at : ℕ) (w : Ahead s at) (r : Result (Option AvPair) Refusal) (e : r ≡ step_at s at) where
  pub ahead_pair : (p : AvPair) → r ≡ (Ok (Some p)) → Ahead s (p.at + p.len)
  ahead_pair p h = w ∙ stop_pair s at r e p h

  pub ahead_end : r ≡ Ok None → (Ok tt) ≡ check_pairs s
  ahead_end h = sym (w ∙ (at_end s at r e h).1)

  pub ahead_fault : (f : Refusal) → r ≡ Err f → Err f ≡ check_pairs s
  ahead_fault f h = sym (w ∙ (at_fault s at r e f h).1)

-- a refusal's place is within the list, or at its end
inside_from : (k : ℕ) (s : List ℕ) (at : ℕ) (e : Refusal) → at ≤ length s → stop_from k s at ≡ Err e → place_of e ≤ length s
inside_from zero s at e h q = absurd (let z : ◌≡◌ {A = ℕ} 0 1 = cc in omega arith)
inside_from (suc k) s at e h q = go (step_at s at) refl q (λ i. inside_from k s i e) where
  go : (r : Result (Option AvPair) Refusal) → step_at s at ≡ r → on_step r (λ p. stop_from k s (end_of p)) (λ v. v) ≡ Err e →
      ((i : ℕ) → i ≤ length s → stop_from k s i ≡ Err e → place_of e ≤ length s) → place_of e ≤ length s
  go (Ok (Some p)) w q later = later (end_of p) (gave s at (Ok (Some p)) p (sym w) refl).inside q
  go (Ok None) w q later = absurd (let z : ◌≡◌ {A = ℕ} 0 1 = cc in omega arith)
  go (Err f) w q later = let same : f ≡ e = cc in omega (arith, fault_place s at e (rw same at w))

pub place_inside : (s : List ℕ) (e : Refusal) → check_pairs s ≡ Err e → place_of e ≤ length s
unfolding check_pairs
place_inside s e h = inside_from (suc (length s)) s 0 e (omega arith) h

-- ---- the count: what is passed and what is left

pub record Counted (s : List ℕ) (at n : ℕ) : Type 0 where
  pub count : n + length (pairs_at s at) ≡ length (pairs_of s)
  pub verdict : Ahead s at
  pub few : n ≤ at

pub count_none : (s : List ℕ) → Counted s 0 0
count_none s = record { count = omega (arith, ap length (pairs_start s)); verdict = ahead_all s; few = omega arith }

module _ (s : List ℕ) (at n : ℕ) (w : Counted s at n) (r : Result (Option AvPair) Refusal) (e : r ≡ step_at s at) where
  pub count_fits : (p : AvPair) → r ≡ (Ok (Some p)) → length s < 2 ^ 64 → Fits w64 (n + 1)
  count_fits p h f = record { fits = omega (arith, w.few, onward s at r e p h, (gave s at r p e h).inside) }

  pub count_one : (p : AvPair) → r ≡ (Ok (Some p)) → Counted s (p.at + p.len) (n + 1)
  count_one p h =
      record {
        count = omega (arith, w.count, ap length (pairs_pair s at r e p h));
        verdict = ahead_pair s at w.verdict r e p h;
        few = omega (arith, w.few, onward s at r e p h);
      }

  pub count_end : r ≡ Ok None → Ok n ≡ count_pairs s
  unfolding count_pairs
  count_end h =
      let m : n ≡ length (pairs_of s) = omega (arith, w.count, ap length (at_end s at r e h).0) in
      simp (← ahead_end s at w.verdict r e h, m)

  pub count_fault : (f : Refusal) → r ≡ Err f → Err f ≡ count_pairs s
  unfolding count_pairs
  count_fault f h = simp (← ahead_fault s at w.verdict r e f h)

-- a list is refused alike with and without the count
pub refused_alike : (s : List ℕ) (r : Result ℕ Refusal) (f : Refusal) → r ≡ count_pairs s → r ≡ Err f → Err f ≡ check_pairs s
unfolding count_pairs
refused_alike s r f e h = go (check_pairs s) (sym e ∙ h) where
  go : (v : Result ⊤ Refusal) → on_clear Err v (Ok (length (pairs_of s))) ≡ Err f → Err f ≡ v
  go (Ok u) q = absurd (let z : ◌≡◌ {A = ℕ} 0 1 = cc in omega arith)
  go (Err d) q = let same : d ≡ f = cc in rw same

pub taken_alike : (s : List ℕ) (r : Result ℕ Refusal) (n : ℕ) → r ≡ count_pairs s → r ≡ Ok n → Ok tt ≡ check_pairs s
unfolding count_pairs
taken_alike s r n e h = go (check_pairs s) (sym e ∙ h) where
  go : (v : Result ⊤ Refusal) → on_clear Err v (Ok (length (pairs_of s))) ≡ Ok n → Ok tt ≡ v
  go (Ok u) q = refl
  go (Err d) q = absurd (let z : ◌≡◌ {A = ℕ} 0 1 = cc in omega arith)
