-- A pair list is taken exactly when it is well-formed, and refused by its earliest fault.
use Rattle.std.specs.Prelude.{Result, Option, Ok, Err, Some, None, ⊤}
use Rattle.av_pairs.specs.declared.AvPair.{AvPair}
use Rattle.wire.specs.declared.refusal.Refusal.{Refusal}
use Prim.Native.Nat.{ℕ, zero, suc, ◌+◌, ◌-◌, ◌%◌, ◌≤◌, ◌<◌}
use mathlib.Core.Path.{◌≡◌, refl, sym, ap, ◌∙◌, subst}
use mathlib.Core.Logic.{◌⊎◌, inl, inr, ⊎_elim, ◌↔◌}
use mathlib.Core.Bool.{Bool, true, false, ◌&&◌, ◌||◌, cond}
use mathlib.Core.List.{List, [], ◌∷◌}
use native.Mathlib.Omega.{arith}
use lib.Dec.{eqb}
use lib.ListN.{length}
use borrow.Author.Tests.{leb-true, leb-false, eqb-true, eqb-false, eq-eqb, ne_eqb}
use Rattle.av_id.specs.declared.AvId.{AvId}
use Rattle.wire.proofs.Laws.{held_true}
use Rattle.av_id.specs.AvId.{is_end, is_text, size_allowed, implies}
use Rattle.wire.specs.Check.{on_clear}
use Rattle.wire.specs.Refusal.{number_of, field_of, place_of}
use Rattle.av_pairs.specs.AvPairs.{left, id_at, pair_of, step_at, end_of, on_step, pairs_from, stop_from, pairs_of, check_pairs, count_pairs}
use Rattle.demands.specs.PairList.{id_of, size_of, next_of, SizeAllowed, PairAt, EndAt, WellFormed, end, pair, Holds, empty, listed, Fails10, Fails11, Fails12, FaultAt, fault10, fault11, fault12, fault13, FirstFault, FirstWith, this, next, here, later, ListFails}
use Rattle.demands.specs.TakenExactly.{RefusedWith, count_verdict, PairsTaken, PairsRefused}
use Rattle.wire.proofs.Bools.{and_left, and_right, and_both}
use Rattle.demands.proofs.Bools.{true_not_false, both_ways, failed_false, or_left, or_right, or-either, chained}

-- a test that an id other than the asked one passes
implied : (a b : Bool) → implies a b ≡ true → a ≡ true → b ≡ true
implied true b h p = h
implied false b h p = absurd (true_not_false (sym p))

to_imply : (a b : Bool) → (a ≡ true → b ≡ true) → implies a b ≡ true
to_imply true b h = h refl
to_imply false b h = refl

-- check 13's question is document 01's
module _ (a : AvId) where
  text_is : ((1 ≤ a.id) × (a.id ≤ 5)) ⊎ (a.id ≡ 9) → is_text a ≡ true
  text_is h = go (is_text a) refl where
    go : (t : Bool) → is_text a ≡ t → is_text a ≡ true
    go true p = p
    go false p =
        let n9 = eqb-false a.id 9 (or_right ((((eqb a.id 1 || eqb a.id 2) || eqb a.id 3) || eqb a.id 4) || eqb a.id 5) (eqb a.id 9) p) in
        let p5 = or_left ((((eqb a.id 1 || eqb a.id 2) || eqb a.id 3) || eqb a.id 4) || eqb a.id 5) (eqb a.id 9) p in
        let n5 = eqb-false a.id 5 (or_right (((eqb a.id 1 || eqb a.id 2) || eqb a.id 3) || eqb a.id 4) (eqb a.id 5) p5) in
        let p4 = or_left (((eqb a.id 1 || eqb a.id 2) || eqb a.id 3) || eqb a.id 4) (eqb a.id 5) p5 in
        let n4 = eqb-false a.id 4 (or_right ((eqb a.id 1 || eqb a.id 2) || eqb a.id 3) (eqb a.id 4) p4) in
        let p3 = or_left ((eqb a.id 1 || eqb a.id 2) || eqb a.id 3) (eqb a.id 4) p4 in
        let n3 = eqb-false a.id 3 (or_right (eqb a.id 1 || eqb a.id 2) (eqb a.id 3) p3) in
        let p2 = or_left (eqb a.id 1 || eqb a.id 2) (eqb a.id 3) p3 in
        let n2 = eqb-false a.id 2 (or_right (eqb a.id 1) (eqb a.id 2) p2) in
        let n1 = eqb-false a.id 1 (or_left (eqb a.id 1) (eqb a.id 2) p2) in
        absurd (⊎_elim (λ r. omega arith) (λ r. n9 r) h)

  is_text_lem : is_text a ≡ true → ((1 ≤ a.id) × (a.id ≤ 5)) ⊎ (a.id ≡ 9)
  is_text_lem h =
      ⊎_elim
      (λ h5. ⊎_elim
      (λ h4. ⊎_elim
      (λ h3. ⊎_elim
      (λ h2. ⊎_elim (λ e. near 1 e (omega arith) (omega arith)) (λ e. near 2 e (omega arith) (omega arith)) (or-either (eqb a.id 1) (eqb a.id 2) h2))
      (λ e. near 3 e (omega arith) (omega arith)) (or-either (eqb a.id 1 || eqb a.id 2) (eqb a.id 3) h3))
      (λ e. near 4 e (omega arith) (omega arith)) (or-either ((eqb a.id 1 || eqb a.id 2) || eqb a.id 3) (eqb a.id 4) h4))
      (λ e. near 5 e (omega arith) (omega arith)) (or-either (((eqb a.id 1 || eqb a.id 2) || eqb a.id 3) || eqb a.id 4) (eqb a.id 5) h5))
      (λ e. inr (eqb-true a.id 9 e)) (or-either ((((eqb a.id 1 || eqb a.id 2) || eqb a.id 3) || eqb a.id 4) || eqb a.id 5) (eqb a.id 9) h)
    where
      near : (k : ℕ) → eqb a.id k ≡ true → 1 ≤ k → k ≤ 5 → ((1 ≤ a.id) × (a.id ≤ 5)) ⊎ (a.id ≡ 9)
      near k e l r = inl (omega (arith, eqb-true a.id k e), omega (arith, eqb-true a.id k e))

module _ (a : AvId) (n : ℕ) where
  pub size_is : size_allowed a n ≡ true → SizeAllowed a.id n
  size_is h =
      let text = implies (is_text a) (eqb (n % 2) 0) in
      let flags = implies (eqb a.id 6) (eqb n 4) in
      let time = implies (eqb a.id 7) (eqb n 8) in
      let bind = implies (eqb a.id 10) (eqb n 16) in
      let h3 = and_left ((text && flags) && time) bind h in
      let h2 = and_left (text && flags) time h3 in
      record {
        names = λ x. eqb-true (n % 2) 0 (implied (is_text a) (eqb (n % 2) 0) (and_left text flags h2) (text_is a x));
        flags = λ e. eqb-true n 4 (implied (eqb a.id 6) (eqb n 4) (and_right text flags h2) (eq-eqb a.id 6 e));
        timestamp = λ e. eqb-true n 8 (implied (eqb a.id 7) (eqb n 8) (and_right (text && flags) time h3) (eq-eqb a.id 7 e));
        bindings = λ e. eqb-true n 16 (implied (eqb a.id 10) (eqb n 16) (and_right ((text && flags) && time) bind h) (eq-eqb a.id 10 e));
      }

  pub is_size : SizeAllowed a.id n → size_allowed a n ≡ true
  is_size w =
      let text = implies (is_text a) (eqb (n % 2) 0) in
      let flags = implies (eqb a.id 6) (eqb n 4) in
      let time = implies (eqb a.id 7) (eqb n 8) in
      let bind = implies (eqb a.id 10) (eqb n 16) in
      and_both ((text && flags) && time) bind
      (and_both (text && flags) time
      (and_both text flags
      (to_imply (is_text a) (eqb (n % 2) 0) (λ e. eq-eqb (n % 2) 0 (w.names (is_text_lem a e))))
      (to_imply (eqb a.id 6) (eqb n 4) (λ e. eq-eqb n 4 (w.flags (eqb-true a.id 6 e)))))
      (to_imply (eqb a.id 7) (eqb n 8) (λ e. eq-eqb n 8 (w.timestamp (eqb-true a.id 7 e)))))
      (to_imply (eqb a.id 10) (eqb n 16) (λ e. eq-eqb n 16 (w.bindings (eqb-true a.id 10 e))))

-- what a step is: a pair, the end, or the fault at its place
abbrev pub JudgedS : List ℕ → ℕ → Result (Option AvPair) Refusal → Type 0
JudgedS s at (Ok (Some p)) = PairAt s at × (p ≡ record { id = id_at s at; at = at + 4; len = size_of s at })
JudgedS s at (Ok None) = EndAt s at
JudgedS s at (Err e) = FaultAt s at (number_of e) × (field_of e ≡ 2) × (place_of e ≡ at)

module _ (s : List ℕ) (at : ℕ) where
  not-both : (a b : Bool) → (a && b) ≡ false → (a ≡ false) ⊎ (b ≡ false)
  not-both true b h = inr h
  not-both false b h = inl refl

  end_failed : at + 4 ≤ length s → implies (is_end (id_at s at)) (eqb (size_of s at) 0 && eqb (left s at) 4) ≡ false → Fails12 s at
  unfolding left
  end_failed l h = go (eqb (id_of s at) 0) refl h where
    go : (e : Bool) → eqb (id_of s at) 0 ≡ e → implies e (eqb (size_of s at) 0 && eqb (length s - at) 4) ≡ false → Fails12 s at
    go true p q = (
      eqb-true (id_of s at) 0 p,
      ⊎_elim (λ f. inl (eqb-false (size_of s at) 0 f)) (λ f. inr (longer (eqb-false (length s - at) 4 f)))
          (not-both (eqb (size_of s at) 0) (eqb (length s - at) 4) q),
    )
      where
        longer : (length s - at ≡ 4 → ⊥) → at + 4 < length s
        longer n = omega (arith, n)
    go false p q = absurd (true_not_false q)

  end_held : implies (is_end (id_at s at)) (eqb (size_of s at) 0 && eqb (left s at) 4) ≡ true → id_of s at ≡ 0 → EndAt s at
  unfolding left
  end_held h e =
      let both = implied (is_end (id_at s at)) (eqb (size_of s at) 0 && eqb (length s - at) 4) h (eq-eqb (id_of s at) 0 e) in
      record {
        id = e;
        size = eqb-true (size_of s at) 0 (and_left (eqb (size_of s at) 0) (eqb (length s - at) 4) both);
        last = omega (arith, eqb-true (length s - at) 4 (and_right (eqb (size_of s at) 0) (eqb (length s - at) 4) both));
      }

  no_fault12 : implies (is_end (id_at s at)) (eqb (size_of s at) 0 && eqb (left s at) 4) ≡ true → Fails12 s at → ⊥
  no_fault12 h f =
      let e = end_held h f.0 in
      ⊎_elim (λ n. n e.size) (λ l. omega (arith, l, e.last)) f.1

  pub step_judged : 0 < length s → JudgedS s at (step_at s at)
  unfolding step_at pair_of left
  step_judged nonempty =
      rw (ne_eqb (length s) 0 (λ e. omega arith))
      (chained (JudgedS s at) _ _ _
      (λ f. (fault11 refl (short (leb-false 4 (length s - at) (failed_false _ f))), refl, refl))
      (λ h11. let there = room (leb-true 4 (length s - at) (held_true _ h11)) in
      let no11 : Fails11 s at → ⊥ = λ l. omega (arith, there, l) in
      chained (JudgedS s at) _ _ _
      (λ f. (fault12 refl no11 (end_failed there (failed_false _ f)), refl, refl))
      (λ h12. let no12 = no_fault12 (held_true _ h12) in
      chained (JudgedS s at) _ _ _
      (λ f. (fault10 refl no11 no12 (past (leb-false (4 + size_of s at) (length s - at) (failed_false _ f))), refl, refl))
      (λ h10. let whole = inside (leb-true (4 + size_of s at) (length s - at) (held_true _ h10)) there in
      let no10 : Fails10 s at → ⊥ = λ l. omega (arith, whole, l) in
      chained (JudgedS s at) _ _ _
      (λ f. (fault13 refl no11 no12 no10 (λ w. both_ways (size_allowed (id_at s at) (size_of s at)) (is_size (id_at s at) (size_of s at) w) (failed_false _ f)), refl, refl))
      (λ h13. last (eqb (id_of s at) 0) refl (held_true _ h12) whole (size_is (id_at s at) (size_of s at) (held_true _ h13)))))))
    where
      short : length s - at < 4 → length s < at + 4
      short l = omega arith

      room : 4 ≤ length s - at → at + 4 ≤ length s
      room l = omega arith

      past : length s - at < 4 + size_of s at → length s < next_of s at
      past l = omega arith

      inside : 4 + size_of s at ≤ length s - at → at + 4 ≤ length s → next_of s at ≤ length s
      inside l r = omega arith

      last : (e : Bool) → eqb (id_of s at) 0 ≡ e → implies (is_end (id_at s at)) (eqb (size_of s at) 0 && eqb (left s at) 4) ≡ true →
          next_of s at ≤ length s → SizeAllowed (id_of s at) (size_of s at) →
          JudgedS s at (cond e (Ok None) (Ok (Some (record { id = id_at s at; at = at + 4; len = size_of s at }))))
      last true p h w z = end_held h (eqb-true (id_of s at) 0 p)
      last false p h w z = (record { whole = w; not_end = eqb-false (id_of s at) 0 p; size = z }, refl)

-- a list from a place on, in steps
abbrev JudgedL : List ℕ → ℕ → ℕ → Result ⊤ Refusal → Type 0
JudgedL s at n (Ok tt) = WellFormed s at n
JudgedL s at n (Err e) = FirstFault s (number_of e) (place_of e) at × (field_of e ≡ 2)

one_more : (s : List ℕ) (at n : ℕ) (v : Result ⊤ Refusal) → PairAt s at → JudgedL s (next_of s at) n v → JudgedL s at (suc n) v
one_more s at n (Ok tt) w j = let e : suc n ≡ n + 1 = omega arith in pair {n = suc n} {m = n} w e j
one_more s at n (Err e) w j = (later w j.0, j.1)

list_judged : (k : ℕ) (s : List ℕ) (at : ℕ) → 0 < length s → length s - at < k → JudgedL s at (length (pairs_from k s at)) (stop_from k s at)
list_judged zero s at h l = absurd (omega arith)
list_judged (suc k) s at h l = go (step_at s at) (step_judged s at h) (λ f. list_judged k s (next_of s at) h f) where
  go : (x : Result (Option AvPair) Refusal) → JudgedS s at x →
      (length s - next_of s at < k → JudgedL s (next_of s at) (length (pairs_from k s (next_of s at))) (stop_from k s (next_of s at))) →
      JudgedL s at (length (on_step x (λ p. p ∷ pairs_from k s (end_of p)) (λ v. []))) (on_step x (λ p. stop_from k s (end_of p)) (λ v. v))
  go (Ok (Some p)) j rest =
      rw j.1
      (one_more s at (length (pairs_from k s (next_of s at))) (stop_from k s (next_of s at)) j.0 (rest (omega (arith, j.0.whole))))
  go (Ok None) j rest = end j refl
  go (Err e) j rest = (here j.2 j.0, j.1)

-- an empty list is at its end
pub empty_step : (s : List ℕ) (at : ℕ) → length s ≡ 0 → step_at s at ≡ Ok None
unfolding step_at
empty_step s at e = simp (eq-eqb (length s) 0 e)

-- the whole list
abbrev pub JudgedC : List ℕ → Result ℕ Refusal → Type 0
JudgedC s (Ok n) = Holds s n
JudgedC s (Err e) = (0 < length s) × (field_of e ≡ 2) × FirstFault s (number_of e) (place_of e) 0

pub count_judged : (s : List ℕ) → JudgedC s (count_pairs s)
unfolding count_pairs check_pairs pairs_of
count_judged s = go (length s) refl where
  of_list : (n : ℕ) (v : Result ⊤ Refusal) → 0 < length s → JudgedL s 0 n v → JudgedC s (on_clear Err v (Ok n))
  of_list n (Ok tt) h j = listed h j
  of_list n (Err e) h j = (h, j.1, j.0)

  go : (k : ℕ) → length s ≡ k → JudgedC s (on_clear Err (stop_from (suc (length s)) s 0) (Ok (length (pairs_from (suc (length s)) s 0))))
  go zero p = simp (empty_step s 0 p) (empty p refl)
  go (suc k) p =
      of_list (length (pairs_from (suc (length s)) s 0)) (stop_from (suc (length s)) s 0) (omega arith)
      (list_judged (suc (length s)) s 0 (omega arith) (omega arith))

-- a place has one answer only
module _ (s : List ℕ) where
  pub pair_or_end : (at : ℕ) → PairAt s at → EndAt s at → ⊥
  pair_or_end at p e = p.not_end e.id

  pub pair_or_fault : (at n : ℕ) → PairAt s at → FaultAt s at n → ⊥
  pair_or_fault at n p (fault11 e f) = omega (arith, p.whole, f)
  pair_or_fault at n p (fault12 e a f) = p.not_end f.0
  pair_or_fault at n p (fault10 e a b f) = omega (arith, p.whole, f)
  pair_or_fault at n p (fault13 e a b c f) = f p.size

  pub end_or_fault : (at n : ℕ) → EndAt s at → FaultAt s at n → ⊥
  end_or_fault at n p (fault11 e f) = omega (arith, p.last, f)
  end_or_fault at n p (fault12 e a f) = ⊎_elim (λ z. z p.size) (λ l. omega (arith, l, p.last)) f.1
  end_or_fault at n p (fault10 e a b f) = omega (arith, p.last, p.size, f)
  end_or_fault at n p (fault13 e a b c f) =
      f (record { names = λ x. absurd (⊎_elim (λ y. omega (arith, y.0, p.id)) (λ y. omega (arith, y, p.id)) x); flags = λ x. absurd (omega (arith, x, p.id)); timestamp = λ x. absurd (omega (arith, x, p.id)); bindings = λ x. absurd (omega (arith, x, p.id)) })

  one_fault : (at n m : ℕ) → FaultAt s at n → FaultAt s at m → n ≡ m
  one_fault at n m (fault11 e f) (fault11 d g) = e ∙ sym d
  one_fault at n m (fault11 e f) (fault12 d a g) = absurd (a f)
  one_fault at n m (fault11 e f) (fault10 d a b g) = absurd (a f)
  one_fault at n m (fault11 e f) (fault13 d a b c g) = absurd (a f)
  one_fault at n m (fault12 e x f) (fault11 d g) = absurd (x g)
  one_fault at n m (fault12 e x f) (fault12 d a g) = e ∙ sym d
  one_fault at n m (fault12 e x f) (fault10 d a b g) = absurd (b f)
  one_fault at n m (fault12 e x f) (fault13 d a b c g) = absurd (b f)
  one_fault at n m (fault10 e x y f) (fault11 d g) = absurd (x g)
  one_fault at n m (fault10 e x y f) (fault12 d a g) = absurd (y g)
  one_fault at n m (fault10 e x y f) (fault10 d a b g) = e ∙ sym d
  one_fault at n m (fault10 e x y f) (fault13 d a b c g) = absurd (c f)
  one_fault at n m (fault13 e x y z f) (fault11 d g) = absurd (x g)
  one_fault at n m (fault13 e x y z f) (fault12 d a g) = absurd (y g)
  one_fault at n m (fault13 e x y z f) (fault10 d a b g) = absurd (z g)
  one_fault at n m (fault13 e x y z f) (fault13 d a b c g) = e ∙ sym d

  one_count : {at n m : ℕ} → WellFormed s at n → WellFormed s at m → n ≡ m
  one_count (end e p) (end f q) = p ∙ sym q
  one_count (end e p) (pair f q w) = absurd (pair_or_end _ f e)
  one_count (pair e p v) (end f q) = absurd (pair_or_end _ e f)
  one_count (pair e p v) (pair f q w) = p ∙ ap (λ (x : ℕ). x + 1) (one_count v w) ∙ sym q

  no_fault : {at n m q : ℕ} → WellFormed s at n → FirstFault s m q at → ⊥
  no_fault (end e p) (here x f) = end_or_fault _ _ e f
  no_fault (end e p) (later w f) = pair_or_end _ w e
  no_fault (pair e p v) (here x f) = pair_or_fault _ _ e f
  no_fault (pair e p v) (later w f) = no_fault v f

  pub one_first : {n m p q at : ℕ} → FirstFault s n p at → FirstFault s m q at → (n ≡ m) × (p ≡ q)
  one_first (here x f) (here y g) = (one_fault _ _ _ f g, x ∙ sym y)
  one_first (here x f) (later w g) = absurd (pair_or_fault _ _ w f)
  one_first (later v f) (here y g) = absurd (pair_or_fault _ _ v g)
  one_first (later v f) (later w g) = one_first f g

  pub one_holds : (n m : ℕ) → Holds s n → Holds s m → n ≡ m
  one_holds n m (empty e p) (empty f q) = p ∙ sym q
  one_holds n m (empty e p) (listed l w) = absurd (omega arith)
  one_holds n m (listed l w) (empty e p) = absurd (omega arith)
  one_holds n m (listed l w) (listed r v) = one_count w v

  pub holds_or_fault : (n m q : ℕ) → Holds s n → 0 < length s → FirstFault s m q 0 → ⊥
  holds_or_fault n m q (empty e p) h f = omega arith
  holds_or_fault n m q (listed l w) h f = no_fault w f

  -- the fault of a number and a place that are known to be others
  pub fault_is : {n m p q : ℕ} → n ≡ m → p ≡ q → FirstFault s n p 0 → FirstFault s m q 0
  fault_is {n} {m} {p} {q} a b f = subst (λ (x : ℕ). FirstFault s x q 0) a (subst (λ (x : ℕ). FirstFault s n x 0) b f)

  -- it is one of 10 to 13
  fault_number : {n at : ℕ} → FaultAt s at n → (10 ≤ n) × (n ≤ 13)
  fault_number (fault11 e f) = (omega (arith, e), omega (arith, e))
  fault_number (fault12 e a f) = (omega (arith, e), omega (arith, e))
  fault_number (fault10 e a b f) = (omega (arith, e), omega (arith, e))
  fault_number (fault13 e a b c f) = (omega (arith, e), omega (arith, e))

  pub first_number : {n p at : ℕ} → FirstFault s n p at → (10 ≤ n) × (n ≤ 13)
  first_number (here x f) = fault_number f
  first_number (later w f) = first_number f

-- and an id one first pair
pub one_place : (s : List ℕ) (id p q at : ℕ) → FirstWith s id p at → FirstWith s id q at → p ≡ q
one_place s id p q at (this e x i) (this f y j) = sym e ∙ f
one_place s id p q at (this e x i) (next y j g) = absurd (j i)
one_place s id p q at (next x i f) (this e y j) = absurd (i j)
one_place s id p q at (next x i f) (next y j g) = one_place s id p q (next_of s at) f g

pub pairs_taken : PairsTaken
pairs_taken s n = (λ e. subst (JudgedC s) e (count_judged s), λ h. go (count_pairs s) (count_judged s) h) where
  go : (c : Result ℕ Refusal) → JudgedC s c → Holds s n → c ≡ Ok n
  go (Ok m) j h = ap Ok (one_holds s m n j h)
  go (Err e) j h = absurd (holds_or_fault s n (number_of e) (place_of e) h j.0 j.2)

pub pairs_refused : PairsRefused
pairs_refused s n i p = go (count_pairs s) (count_judged s) where
  go : (c : Result ℕ Refusal) → JudgedC s c → RefusedWith (count_verdict c) n i p ↔ ListFails s n i p
  go (Ok m) j = (λ t. absurd t, λ f. holds_or_fault s m n p j f.0 f.2)
  go (Err e) j = (
    λ t. (j.0, sym t.1 ∙ j.1, fault_is s t.0 t.2 j.2),
    λ f. let one = one_first s j.2 f.2 in (one.0, j.1 ∙ sym f.1, one.1),
  )
