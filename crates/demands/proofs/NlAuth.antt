-- NL_AUTH is taken exactly when every check holds, and its strings are its own.
use Rattle.std.specs.Prelude.{Result, Ok, Err, Some, None}
use Rattle.read_nl_auth.specs.declared.NlAuth.{NlAuth}
use Prim.Native.Nat.{ℕ, zero, suc, ◌+◌, ◌-◌, ◌/◌, ◌%◌, ◌≤◌, ◌<◌}
use mathlib.Core.Path.{◌≡◌, refl, sym, ap, ◌∙◌, subst}
use mathlib.Core.Logic.{◌⊎◌, inl, inr, ⊎_elim}
use mathlib.Core.Bool.{Bool, true, false, ◌||◌, ◌&&◌, cond}
use mathlib.Core.List.{List, [], ◌∷◌, ◌++◌}
use native.Mathlib.Omega.{arith}
use lib.Dec.{ltb, eqb}
use lib.ListN.{length, take, drop, get_or, length-drop}
use lib.Seq.{get_or-drop}
use borrow.Author.Tests.{leb-true, leb-false, ltb-true, ltb-false, eqb-true, eqb-false, eq-eqb, ne_eqb}
use Rattle.wire.specs.declared.check.Checked.TheVariants.{Held, Failed}
use Rattle.wire.proofs.Laws.{held_true}
use Rattle.wire.specs.declared.refusal.Refusal.{Refusal}
use Rattle.wire.specs.declared.refusal.Refusal.TheVariants.{Unterminated}
use Rattle.wire.specs.Check.{checked}
use Rattle.wire.specs.Number.{u32_at}
use Rattle.wire.specs.Refusal.{number_of, field_of}
use Rattle.wire.proofs.Bools.{and_left, and_right, and_both}
use Rattle.read_nl_auth.specs.declared.string.NlString.{NlString}
use Rattle.read_dns_name.specs.declared.Fault.{Fault}
use Rattle.read_dns_name.specs.declared.Fault.TheVariants.{CutShort, WrongTopBits, PlaceNotBefore, TooManyJumps, NameTooLong}
use Rattle.read_dns_name.specs.declared.Name.{Name}
use Rattle.read_dns_name.specs.DnsName.{read_name, number_of as fault_number}
use Rattle.read_dns_name.proofs.Exact.{taken, refused}
use Rattle.read_nl_auth.proofs.Names.{own_bytes_lem}
use Rattle.read_nl_auth.proofs.Places.{nl_auth_placeless}
use Rattle.nl_auth_flags.specs.Flags.{nb_domain, nb_computer, dns_domain, dns_host, utf8_computer, strings_hold}
use Rattle.read_nl_auth.specs.NlAuth.{no_string, string_length, holds_zero, string_at, string_under, on_found, refusal_in, name_string, on_name, name_at, name_under, on_named, flags_at, read_utf8, read_request, read_response, read_nl_auth}
use Rattle.demands.specs.Order.{check}
use Rattle.demands.specs.NlAuth.{type_of, numbered, mask_of, BitSet, ZeroAt, StandsAt, plain, name, FaultIn, no_zero_lem, in_name, Strings, StartsAt, StringFails, NlFails, step_of, NlFirst}
use Rattle.demands.specs.OwnBytes.{OwnString, OwnName, OwnRequest, OwnResponse, NlAuthOwn}
use Rattle.demands.specs.TakenExactly.{NoneFails, nl_verdict, NlAuthJudged}
use Rattle.demands.proofs.DnsName.{one_name, name_or_fault, one_name_fault, name_ends}
use Rattle.demands.proofs.Order.{Free, next_field, next_check, skip, at_row}
use Rattle.demands.proofs.Judged.{By, judged_by}
use Rattle.demands.proofs.Order.Rank.{either_way}
use Rattle.demands.proofs.Bools.{both_ways, failed_false, or_left, or_right, or-either, bit1, bit2, bit4, bit8, bit16, chained}

-- ---- one string

-- before the first zero byte of a list there is none
pub before_nonzero : (l : List ℕ) (k : ℕ) → k < string_length l → get_or l k 0 ≡ 0 → ⊥
before_nonzero [] k h e = omega arith
before_nonzero (b ∷ bs) zero h e = go (eqb b 0) refl h where
  go : (t : Bool) → eqb b 0 ≡ t → 0 < cond t 0 (suc (string_length bs)) → ⊥
  go true p q = omega arith
  go false p q = eqb-false b 0 p e
before_nonzero (b ∷ bs) (suc k) h e = go (eqb b 0) h (λ l. before_nonzero bs k l e) where
  go : (t : Bool) → suc k < cond t 0 (suc (string_length bs)) → (k < string_length bs → ⊥) → ⊥
  go true q rest = omega arith
  go false q rest = rest (omega arith)

-- and where it is inside the list, it is zero
pub at_zero : (l : List ℕ) → string_length l < length l → get_or l (string_length l) 0 ≡ 0
at_zero [] h = refl
at_zero (b ∷ bs) h = go (eqb b 0) refl h (at_zero bs) where
  go : (t : Bool) → eqb b 0 ≡ t → cond t 0 (suc (string_length bs)) < suc (length bs) →
      (string_length bs < length bs → get_or bs (string_length bs) 0 ≡ 0) → get_or (b ∷ bs) (cond t 0 (suc (string_length bs))) 0 ≡ 0
  go true p q rest = eqb-true b 0 p
  go false p q rest = rest (omega arith)

-- what holds for each of 1 to 5
pub above : (k n : ℕ) → n ≤ k → eqb k n ≡ false → n + 1 ≤ k
above k n l h = go (eqb-false k n h) where
  go : (k ≡ n → ⊥) → n + 1 ≤ k
  go d = omega (arith, d)

pub five : (P : ℕ → Type 0) → P 1 → P 2 → P 3 → P 4 → P 5 → (k : ℕ) → 1 ≤ k → k ≤ 5 → P k
five P a b c d e k l r = go (eqb k 1) (eqb k 2) (eqb k 3) (eqb k 4) refl refl refl refl where
  is_5 : 5 ≤ k → 5 ≡ k
  is_5 h = omega arith

  go : (x y z w : Bool) → eqb k 1 ≡ x → eqb k 2 ≡ y → eqb k 3 ≡ z → eqb k 4 ≡ w → P k
  go true y z w p q u v = subst P (sym (eqb-true k 1 p)) a
  go false true z w p q u v = subst P (sym (eqb-true k 2 q)) b
  go false false true w p q u v = subst P (sym (eqb-true k 3 u)) c
  go false false false true p q u v = subst P (sym (eqb-true k 4 v)) d
  go false false false false p q u v = subst P (is_5 (above k 4 (above k 3 (above k 2 (above k 1 l p) q) u) v)) e

module _ (s : List ℕ) where
  -- what stands from a place on
  zero_found : (at : ℕ) → at ≤ length s → holds_zero (drop at s) ≡ true → ZeroAt s at (at + string_length (drop at s))
  zero_found at l h =
      let inside : string_length (drop at s) < length (drop at s) = ltb-true (string_length (drop at s)) (length (drop at s)) h in
      record {
        from = omega arith;
        inside = omega (arith, inside, length-drop at s);
        zero = rw get_or-drop at (at_zero (drop at s) inside);
        first = λ k a b e. before_nonzero (drop at s) (k - at) (omega arith) (rw get_or-drop (back k a e));
      }
    where
      back : (k : ℕ) → at ≤ k → get_or s k 0 ≡ 0 → get_or s (at + (k - at)) 0 ≡ 0
      back k a e = let q : at + (k - at) ≡ k = omega arith in rw q e

  zero_missing : (at : ℕ) → holds_zero (drop at s) ≡ false → (q : ℕ) → ZeroAt s at q → ⊥
  zero_missing at h q z =
      before_nonzero (drop at s) (q - at)
      (omega (arith, ltb-false (string_length (drop at s)) (length (drop at s)) h, length-drop at s, z.from, z.inside))
      (rw get_or-drop (back z.from z.zero))
    where
      back : at ≤ q → get_or s q 0 ≡ 0 → get_or s (at + (q - at)) 0 ≡ 0
      back a e = let w : at + (q - at) ≡ q = omega arith in rw w e

  pub one_zero : (p q r : ℕ) → ZeroAt s p q → ZeroAt s p r → q ≡ r
  one_zero p q r a b = go (ltb q r) (ltb r q) refl refl where
    go : (x y : Bool) → ltb q r ≡ x → ltb r q ≡ y → q ≡ r
    go true y e f = absurd (b.first q a.from (ltb-true q r e) a.zero)
    go false true e f = absurd (a.first r b.from (ltb-true r q f) b.zero)
    go false false e f = omega (arith, ltb-false q r e, ltb-false r q f)

  -- a string ends at one place only, or has one fault only
  one_stand : (i p q r : ℕ) → StandsAt s i p q → StandsAt s i p r → q ≡ r
  one_stand i p q r (plain {q = x} l z e) (plain {q = y} m w f) = let h = one_zero p x y z w in omega arith
  one_stand i p q r (plain l z e) (name m w f) = absurd (omega arith)
  one_stand i p q r (name l w e) (plain m z f) = absurd (omega arith)
  one_stand i p q r (name {n = x} l w e) (name {n = y} m v f) = let h : x ≡ y = one_name (drop 8 s) (p - 8) _ _ _ _ x y w v in omega arith

  stand_or_fault : (i p q n : ℕ) → StandsAt s i p q → FaultIn s i p n → ⊥
  stand_or_fault i p q n (plain {q = x} l z e) (no_zero_lem m f g) = g x z
  stand_or_fault i p q n (plain l z e) (in_name m f) = absurd (omega arith)
  stand_or_fault i p q n (name l w e) (no_zero_lem m f g) = absurd (omega arith)
  stand_or_fault i p q n (name {n = x} l w e) (in_name m f) = name_or_fault (drop 8 s) (p - 8) _ _ x n w f

  one_fault : (i p m n : ℕ) → FaultIn s i p m → FaultIn s i p n → m ≡ n
  one_fault i p m n (no_zero_lem l e f) (no_zero_lem k g h) = e ∙ sym g
  one_fault i p m n (no_zero_lem l e f) (in_name k g) = absurd (omega arith)
  one_fault i p m n (in_name l f) (no_zero_lem k g h) = absurd (omega arith)
  one_fault i p m n (in_name l f) (in_name k g) = one_name_fault (drop 8 s) (p - 8) m n f g

  -- it ends inside the message, behind its start
  stand_ends : (i p q : ℕ) → 8 ≤ p → p ≤ length s → StandsAt s i p q → (p < q) × (q ≤ length s)
  stand_ends i p q a b (plain l z e) = (omega (arith, z.from), omega (arith, z.inside))
  stand_ends i p q a b (name {n = x} l w e) =
      let h = name_ends (drop 8 s) (p - 8) _ _ x w in
      (omega (arith, h.0), omega (arith, h.0, h.1, length-drop 8 s))

  pub one_place : (is : List ℕ) (p q r : ℕ) → Strings s is p q → Strings s is p r → q ≡ r
  one_place [] p q r a b = sym a ∙ b
  one_place (i ∷ is) p q r (inl a) (inl b) =
      let e = one_stand i p a.1.0 b.1.0 a.1.1 b.1.1 in
      one_place is b.1.0 q r (subst (λ (x : ℕ). Strings s is x q) e a.1.2) b.1.2
  one_place (i ∷ is) p q r (inl a) (inr b) = absurd (b.0 a.0)
  one_place (i ∷ is) p q r (inr a) (inl b) = absurd (a.0 b.0)
  one_place (i ∷ is) p q r (inr a) (inr b) = one_place is p q r a.1 b.1

  -- one string more, or one clear bit more
  add_string : (is : List ℕ) (i p q r : ℕ) → Strings s is p q → BitSet s (mask_of i) → StandsAt s i q r → Strings s (is ++ (i ∷ [])) p r
  add_string [] i p q r a b z = inl (b, (r, subst (λ (x : ℕ). StandsAt s i x r) (sym a) z, refl))
  add_string (n ∷ is) i p q r (inl a) b z = inl (a.0, (a.1.0, a.1.1, add_string is i a.1.0 q r a.1.2 b z))
  add_string (n ∷ is) i p q r (inr a) b z = inr (a.0, add_string is i p q r a.1 b z)

  add_clear : (is : List ℕ) (i p q : ℕ) → Strings s is p q → (BitSet s (mask_of i) → ⊥) → Strings s (is ++ (i ∷ [])) p q
  add_clear [] i p q a b = inr (b, a)
  add_clear (n ∷ is) i p q (inl a) b = inl (a.0, (a.1.0, a.1.1, add_clear is i a.1.0 q a.1.2 b))
  add_clear (n ∷ is) i p q (inr a) b = inr (a.0, add_clear is i p q a.1 b)

  -- places stay inside the message
  pub inside : (is : List ℕ) (p q : ℕ) → 8 ≤ p → p ≤ length s → Strings s is p q → (8 ≤ q) × (q ≤ length s)
  inside [] p q k l a = (omega (arith, a), omega (arith, a))
  inside (i ∷ is) p q k l (inl a) =
      let h = stand_ends i p a.1.0 k l a.1.1 in
      inside is a.1.0 q (omega (arith, h.0)) h.1 a.1.2
  inside (i ∷ is) p q k l (inr a) = inside is p q k l a.1

  -- ---- the checks in their order: 15 and 50 to 53 are one step

  abbrev StepFails : ℕ → ℕ → Type 0
  StepFails n i =
      check 1 n ((i ≡ 0) × (65535 < length s)) (
      check 2 n ((i ≡ 0) × (length s < 8)) (
      check 4 n ((i ≡ 0) × (type_of s ≡ 0 → ⊥) × (type_of s ≡ 1 → ⊥)) (
      check 14 n ((i ≡ 0) × (type_of s ≡ 0) × ((k : ℕ) → 1 ≤ k → k ≤ 5 → BitSet s (mask_of k) → ⊥)) (
      check 15 n ((k : ℕ) × StringFails s k i) (
      check 16 n ((i ≡ 0) × (type_of s ≡ 0) × ((p : ℕ) × StartsAt s 6 p × (p ≡ length s → ⊥))) (
      check 17 n ((i ≡ 0) × (type_of s ≡ 1) × ((length s ≡ 9) × (get_or s 8 0 ≡ 0) → ⊥))
      ⊥))))))

  -- a failure that is one of a single number, or one of a string
  abbrev Sorted : ℕ → ℕ → Type 0
  Sorted n i = ((step_of n ≡ n) × (n ≡ 15 → ⊥) × StepFails n i) ⊎ ((step_of n ≡ 15) × StringFails s n i)

  sorted : (n i : ℕ) → NlFails s n i → Sorted n i
  sorted n i =
      at_row (λ x. Sorted x i) 1 n _ _ (λ w. inl (refl, (λ z. omega arith), w))
      (at_row (λ x. Sorted x i) 2 n _ _ (λ w. inl (refl, (λ z. omega arith), w))
      (at_row (λ x. Sorted x i) 4 n _ _ (λ w. inl (refl, (λ z. omega arith), w))
      (at_row (λ x. Sorted x i) 14 n _ _ (λ w. inl (refl, (λ z. omega arith), w))
      (at_row (λ x. Sorted x i) 15 n _ _ (λ w. inr (refl, w))
      (at_row (λ x. Sorted x i) 50 n _ _ (λ w. inr (refl, w))
      (at_row (λ x. Sorted x i) 51 n _ _ (λ w. inr (refl, w))
      (at_row (λ x. Sorted x i) 52 n _ _ (λ w. inr (refl, w))
      (at_row (λ x. Sorted x i) 53 n _ _ (λ w. inr (refl, w))
      (at_row (λ x. Sorted x i) 16 n _ _ (λ w. inl (refl, (λ z. omega arith), w))
      (at_row (λ x. Sorted x i) 17 n _ _ (λ w. inl (refl, (λ z. omega arith), w))
      (λ z. absurd z)))))))))))

  to_step : (n i : ℕ) → NlFails s n i → StepFails (step_of n) i
  to_step n i h = go (sorted n i h) where
    go : Sorted n i → StepFails (step_of n) i
    go (inl w) = subst (λ (x : ℕ). StepFails x i) (sym w.0) w.2
    go (inr w) = subst (λ (x : ℕ). StepFails x i) (sym w.0) (n, w.1)

  -- a failure before whose step none failed
  raise : (n i : ℕ) → Free StepFails (step_of n) i → NlFails s n i → NlFirst s n i
  raise n i free h = record { fails = h; none_before = λ m j b w. free (step_of m) j b (to_step m j w) }

  -- a step has one number at one string
  same_number : (m n i : ℕ) → step_of m ≡ step_of n → NlFails s m i → NlFails s n i → m ≡ n
  same_number m n i e a b = go (sorted m i a) (sorted n i b) where
    go : Sorted m i → Sorted n i → m ≡ n
    go (inl x) (inl y) = sym x.0 ∙ e ∙ y.0
    go (inl x) (inr y) = absurd (x.1 (sym x.0 ∙ e ∙ y.0))
    go (inr x) (inl y) = absurd (y.1 (sym y.0 ∙ sym e ∙ x.0))
    go (inr x) (inr y) =
        let q = one_place (take (i - 1) numbered) 8 x.1.4.0 y.1.4.0 x.1.4.1 y.1.4.1 in
        one_fault i y.1.4.0 m n (subst (λ (p : ℕ). FaultIn s i p m) q x.1.4.2) y.1.4.2

  only_one : (m j n i : ℕ) → NlFirst s m j → NlFirst s n i → (m ≡ n) × (j ≡ i)
  only_one m j n i f g =
      ⊎_elim (λ l. absurd (g.none_before m j (inl l) f.fails))
      (⊎_elim same (λ l. absurd (f.none_before n i (inl l) g.fails)))
      (either_way (step_of m) (step_of n))
    where
      same : step_of m ≡ step_of n → (m ≡ n) × (j ≡ i)
      same e =
          ⊎_elim (λ l. absurd (g.none_before m j (inr (e, l)) f.fails))
          (⊎_elim (λ q. (same_number m n i e (subst (λ (x : ℕ). NlFails s m x) q f.fails) g.fails, q)) (λ l. absurd (f.none_before n i (inr (sym e, l)) g.fails)))
          (either_way j i)

  -- the table has no row but these
  no_row : (n i : ℕ) → (n ≡ 1 → ⊥) → (n ≡ 2 → ⊥) → (n ≡ 4 → ⊥) → (n ≡ 14 → ⊥) → (n ≡ 15 → ⊥) → (n ≡ 16 → ⊥) → (n ≡ 17 → ⊥) → StepFails n i → ⊥
  no_row n i a b c d e f g h =
      simp (ne_eqb n 1 a, ne_eqb n 2 b, ne_eqb n 4 c, ne_eqb n 14 d, ne_eqb n 15 e, ne_eqb n 16 f, ne_eqb n 17 g) at h

  -- over numbers that have no row
  jump : (n m : ℕ) → Free StepFails n 0 → ((k i : ℕ) → n ≤ k → k < m → StepFails k i → ⊥) → Free StepFails m 0
  jump n m free empty k j b h = ⊎_elim (λ l. go (ltb k n) refl l) (λ q. omega arith) b where
    go : (t : Bool) → ltb k n ≡ t → k < m → ⊥
    go true p l = free k j (inl (ltb-true k n p)) h
    go false p l = empty k j (ltb-false k n p) l h

  beyond : Free StepFails 18 0 → (n i : ℕ) → NlFails s n i → ⊥
  beyond free n i w = none (step_of n) (to_step n i w) where
    none : (k : ℕ) → StepFails k i → ⊥
    none k h = go (ltb k 18) refl where
      go : (t : Bool) → ltb k 18 ≡ t → ⊥
      go true p = free k i (inl (ltb-true k 18 p)) h
      go false p =
          let l = ltb-false k 18 p in
          no_row k i (λ e. omega arith) (λ e. omega arith) (λ e. omega arith) (λ e. omega arith) (λ e. omega arith) (λ e. omega arith) (λ e. omega arith) h

  abbrev pub Judged : Result NlAuth Refusal → Type 0
  Judged (Ok m) =
      ((n i : ℕ) → NlFails s n i → ⊥)
      × (((type_of s ≡ 0) × OwnRequest s m) ⊎ ((type_of s ≡ 1) × OwnResponse s m))
  Judged (Err e) = NlFirst s (number_of e) (field_of e)

  -- string i of a request: where it stands, and what is known after it
  module _ (t0 : type_of s ≡ 0) (long : 8 ≤ length s) (i : ℕ) (is is' : List ℕ) (at : ℕ) (h1 : 1 ≤ i) (h5 : i ≤ 5)
      (is_ms : is ≡ take (i - 1) numbered) (is_ms' : is' ≡ is ++ (i ∷ [])) (free : Free StepFails 15 i) (starts : Strings s is 8 at) where
    starts_at : StartsAt s i at
    starts_at = subst (λ (l : List ℕ). Strings s l 8 at) is_ms starts

    at_behind : (8 ≤ at) × (at ≤ length s)
    at_behind = inside is 8 at (omega arith) long starts

    passed : (next : ℕ) → BitSet s (mask_of i) → StandsAt s i at next → Free StepFails 15 (i + 1) × Strings s is' 8 next
    passed next set z = (
      next_field StepFails 15 i (i + 1) refl free
          (λ w. stand_or_fault i at next w.0 z
          (subst (λ (k : ℕ). FaultIn s i k w.0) (one_place (take (i - 1) numbered) 8 w.1.4.0 at w.1.4.1 starts_at) w.1.4.2)),
      subst (λ (l : List ℕ). Strings s l 8 next) (sym is_ms') (add_string is i 8 at next starts set z),
    )

    over : (BitSet s (mask_of i) → ⊥) → Free StepFails 15 (i + 1) × Strings s is' 8 at
    over off = (
      next_field StepFails 15 i (i + 1) refl free (λ w. off w.1.3),
      subst (λ (l : List ℕ). Strings s l 8 at) (sym is_ms') (add_clear is i 8 at starts off),
    )

    fails : (n : ℕ) → BitSet s (mask_of i) → FaultIn s i at n → StringFails s n i
    fails n set f = (h1, h5, t0, set, (at, starts_at, f))

    -- A and B
    abbrev here : NlString
    here = record { offset = at; len = string_length (drop at s); jumps = 0 }

    string : i ≤ 2 → (b : Bool) (e : Refusal) (x : NlString → ℕ → Result NlAuth Refusal) →
        (b ≡ true → BitSet s (mask_of i)) → (b ≡ false → BitSet s (mask_of i) → ⊥) → e ≡ Unterminated i →
        ((f : NlString) (next : ℕ) → OwnString s i f → Free StepFails 15 (i + 1) → Strings s is' 8 next → Judged (x f next)) →
        Judged (on_found (string_under b s at) (Err e) x)
    unfolding string_under string_at
    string i2 b e x on off is-e rest = go b on off where
      found : (z : ZeroAt s at (at + string_length (drop at s))) → BitSet s (mask_of i) → Judged (x here (at + string_length (drop at s) + 1))
      found z set =
          let k = passed (at + string_length (drop at s) + 1) set (plain i2 z refl) in
          rest here (at + string_length (drop at s) + 1)
          (record {
            there = λ h.
                let w : at + string_length (drop at s) - at ≡ string_length (drop at s) = omega arith in (
                  at,
                  at + string_length (drop at s),
                  starts_at,
                  z,
                  refl,
                  sym w,
                  own_bytes_lem s here (omega (arith, z.inside)) ∙ ap (λ (n : ℕ). take n (drop at s)) (sym w),
                );
            none = λ h. absurd (h set);
            no_jumps = refl;
          })
          k.0 k.1

      go : (c : Bool) → (c ≡ true → BitSet s (mask_of i)) → (c ≡ false → BitSet s (mask_of i) → ⊥) →
          Judged (on_found (cond c (cond (holds_zero (drop at s)) (Some (here, (at + string_length (drop at s) + 1))) None) (Some (no_string, at))) (Err e) x)
      go true y n = by (holds_zero (drop at s)) refl where
        by : (t : Bool) → holds_zero (drop at s) ≡ t → Judged (on_found (cond t (Some (here, (at + string_length (drop at s) + 1))) None) (Err e) x)
        by true p = found (zero_found at at_behind.1 p) (y refl)
        by false p = rw is-e (raise 15 i free (fails 15 (y refl) (no_zero_lem i2 refl (zero_missing at p))))
      go false y n =
          rest no_string at
          (record { there = λ h. absurd (n refl h); none = λ h. (refl, refl, own_bytes_lem s no_string (omega arith)); no_jumps = refl })
          (over (n refl)).0 (over (n refl)).1

    -- C, D and E
    named : 3 ≤ i → (b : Bool) (x : NlString → ℕ → Result NlAuth Refusal) → (b ≡ true → BitSet s (mask_of i)) → (b ≡ false → BitSet s (mask_of i) → ⊥) →
        ((f : NlString) (next : ℕ) → OwnName s i f → Free StepFails 15 (i + 1) → Strings s is' 8 next → Judged (x f next)) →
        Judged (on_named (name_under b s at i) x)
    unfolding name_under name_at
    named i3 b x on off rest = go b on off where
      found : (m : Name) → read_name (drop 8 s) (at - 8) ≡ Ok m → BitSet s (mask_of i) → Judged (x (name_string at m) (8 + m.next))
      found m e set =
          let w = taken (drop 8 s) (at - 8) m e in
          let k = passed (8 + m.next) set (name i3 w refl) in
          let ends = name_ends (drop 8 s) (at - 8) _ _ m.next w in
          rest (name_string at m) (8 + m.next)
          (record {
            there = λ h.
                record {
                  next = m.next;
                  starts = starts_at;
                  name = w;
                  whole = omega (arith, ends.0, at_behind.0);
                  bytes = own_bytes_lem s (name_string at m) (omega (arith, ends.0, ends.1, at_behind.0, length-drop 8 s));
                  few = w.few;
                };
            none = λ h. absurd (h set);
          })
          k.0 k.1

      faulty : (e : Fault) → read_name (drop 8 s) (at - 8) ≡ Err e → BitSet s (mask_of i) → Judged (Err (refusal_in e i))
      faulty e h set = by e (in_name i3 (refused (drop 8 s) (at - 8) e h)) where
        by : (f : Fault) → FaultIn s i at (fault_number f) → Judged (Err (refusal_in f i))
        by CutShort w = raise 15 i free (fails 15 set w)
        by WrongTopBits w = raise 50 i free (fails 50 set w)
        by PlaceNotBefore w = raise 51 i free (fails 51 set w)
        by TooManyJumps w = raise 52 i free (fails 52 set w)
        by NameTooLong w = raise 53 i free (fails 53 set w)

      go : (c : Bool) → (c ≡ true → BitSet s (mask_of i)) → (c ≡ false → BitSet s (mask_of i) → ⊥) →
          Judged (on_named (cond c (on_name (read_name (drop 8 s) (at - 8)) (λ m. (Ok ((name_string at m), (8 + m.next)))) (λ e. Err (refusal_in e i))) (Ok (no_string, at))) x)
      go true y n = by (read_name (drop 8 s) (at - 8)) refl where
        by : (r : Result Name Fault) → read_name (drop 8 s) (at - 8) ≡ r →
            Judged (on_named (on_name r (λ m. (Ok ((name_string at m), (8 + m.next)))) (λ e. Err (refusal_in e i))) x)
        by (Ok m) p = found m p (y refl)
        by (Err e) p = faulty e p (y refl)
      go false y n =
          rest no_string at
          (record { there = λ h. absurd (n refl h); none = λ h. (refl, refl, refl, own_bytes_lem s no_string (omega arith)) })
          (over (n refl)).0 (over (n refl)).1

  -- the reader's flags are the message's
  on : (m : ℕ) → u32_at s 4 % 32 / m % 2 ≡ u32_at s 4 / m % 2 → eqb (u32_at s 4 % 32 / m % 2) 1 ≡ true → BitSet s m
  on m e h = sym e ∙ eqb-true _ 1 h

  off : (m : ℕ) → u32_at s 4 % 32 / m % 2 ≡ u32_at s 4 / m % 2 → eqb (u32_at s 4 % 32 / m % 2) 1 ≡ false → BitSet s m → ⊥
  off m e h b = eqb-false _ 1 h (e ∙ b)

  -- check 14
  none_set : strings_hold (flags_at s) ≡ Failed → (k : ℕ) → 1 ≤ k → k ≤ 5 → BitSet s (mask_of k) → ⊥
  none_set f =
      let a = nb_domain (flags_at s) in
      let b = nb_computer (flags_at s) in
      let c = dns_domain (flags_at s) in
      let d = dns_host (flags_at s) in
      let e = utf8_computer (flags_at s) in
      let h4 = failed_false ((((a || b) || c) || d) || e) f in
      let h3 = or_left (((a || b) || c) || d) e h4 in
      let h2 = or_left ((a || b) || c) d h3 in
      let h1 = or_left (a || b) c h2 in
      five (λ k. BitSet s (mask_of k) → ⊥)
      (off 0x1 (bit1 (u32_at s 4)) (or_left a b h1)) (off 0x2 (bit2 (u32_at s 4)) (or_right a b h1)) (off 0x4 (bit4 (u32_at s 4)) (or_right (a || b) c h2))
      (off 0x8 (bit8 (u32_at s 4)) (or_right ((a || b) || c) d h3)) (off 0x10 (bit16 (u32_at s 4)) (or_right (((a || b) || c) || d) e h4))

  some_set : strings_hold (flags_at s) ≡ Held → ((k : ℕ) → 1 ≤ k → k ≤ 5 → BitSet s (mask_of k) → ⊥) → ⊥
  some_set h none =
      let a = nb_domain (flags_at s) in
      let b = nb_computer (flags_at s) in
      let c = dns_domain (flags_at s) in
      let d = dns_host (flags_at s) in
      let e = utf8_computer (flags_at s) in
      ⊎_elim
      (λ h3. ⊎_elim
      (λ h2. ⊎_elim
      (λ h1. ⊎_elim (λ q. none 1 (omega arith) (omega arith) (on 0x1 (bit1 (u32_at s 4)) q)) (λ q. none 2 (omega arith) (omega arith) (on 0x2 (bit2 (u32_at s 4)) q)) (or-either a b h1))
      (λ q. none 3 (omega arith) (omega arith) (on 0x4 (bit4 (u32_at s 4)) q)) (or-either (a || b) c h2))
      (λ q. none 4 (omega arith) (omega arith) (on 0x8 (bit8 (u32_at s 4)) q)) (or-either ((a || b) || c) d h3))
      (λ q. none 5 (omega arith) (omega arith) (on 0x10 (bit16 (u32_at s 4)) q)) (or-either (((a || b) || c) || d) e (held_true _ h))

  utf8_judged : type_of s ≡ 0 → 8 ≤ length s → (a b : NlString) (at : ℕ) → OwnString s 1 a → OwnString s 2 b →
      Free StepFails 15 3 → Strings s (1 ∷ 2 ∷ []) 8 at → Judged (read_utf8 (flags_at s) s a b at)
  unfolding read_utf8
  utf8_judged t0 long a b at oa ob free starts =
      named t0 long 3 (1 ∷ 2 ∷ []) (1 ∷ 2 ∷ 3 ∷ []) at (omega arith) (omega arith) refl refl free starts (omega arith) (dns_domain (flags_at s)) _
      (on 0x4 (bit4 (u32_at s 4))) (off 0x4 (bit4 (u32_at s 4))) (λ c c' oc free4 starts4.
      named t0 long 4 (1 ∷ 2 ∷ 3 ∷ []) (1 ∷ 2 ∷ 3 ∷ 4 ∷ []) c' (omega arith) (omega arith) refl refl free4 starts4 (omega arith) (dns_host (flags_at s)) _
      (on 0x8 (bit8 (u32_at s 4))) (off 0x8 (bit8 (u32_at s 4))) (λ d d' od free5 starts5.
      named t0 long 5 (1 ∷ 2 ∷ 3 ∷ 4 ∷ []) numbered d' (omega arith) (omega arith) refl refl free5 starts5 (omega arith) (utf8_computer (flags_at s)) _
      (on 0x10 (bit16 (u32_at s 4))) (off 0x10 (bit16 (u32_at s 4))) (λ e e' oe free6 starts6.
      let c15 = next_check StepFails 15 6 16 refl free6 (λ j l w. omega (arith, w.1.1, l)) in
      chained Judged _ _ _
      (λ f. raise 16 0 c15 (refl, t0, (e', starts6, eqb-false e' (length s) (failed_false _ f))))
      (λ h. (
        beyond (last (next_check StepFails 16 0 17 refl c15 (λ j l w.
            w.2.2 (one_place numbered 8 w.2.0 e' w.2.1 starts6 ∙ eqb-true e' (length s) (held_true _ h))))),
        inl (t0, record { message_type = refl; flags = refl; a = oa; b = ob; c = oc; d = od; e = oe }),
      )))))
    where
      last : Free StepFails 17 0 → Free StepFails 18 0
      last f = next_check StepFails 17 0 18 refl f (λ j l w. omega (arith, t0, w.1))

  request_judged : type_of s ≡ 0 → 8 ≤ length s → Free StepFails 14 0 → Judged (read_request (flags_at s) s)
  unfolding read_request
  request_judged t0 long free =
      chained Judged _ _ _
      (λ f. raise 14 0 free (refl, t0, none_set f))
      (λ h. let c14 = next_check StepFails 14 0 15 refl free (λ j l w. some_set h w.2) in
      string t0 long 1 [] (1 ∷ []) 8 (omega arith) (omega arith) refl refl (skip StepFails 15 1 c14 (λ j l w. omega (arith, w.1.0, l))) refl
      (omega arith) (nb_domain (flags_at s)) (Unterminated 1) _ (on 0x1 (bit1 (u32_at s 4))) (off 0x1 (bit1 (u32_at s 4))) refl (λ a a' oa free2 starts2.
      string t0 long 2 (1 ∷ []) (1 ∷ 2 ∷ []) a' (omega arith) (omega arith) refl refl free2 starts2
      (omega arith) (nb_computer (flags_at s)) (Unterminated 2) _ (on 0x2 (bit2 (u32_at s 4))) (off 0x2 (bit2 (u32_at s 4))) refl (λ b b' ob free3 starts3.
      utf8_judged t0 long a b b' oa ob free3 starts3)))

  response_judged : type_of s ≡ 1 → Free StepFails 14 0 → Judged (read_response s)
  unfolding read_response
  response_judged t1 free =
      let c16 = jump 14 17 free rows in
      chained Judged _ _ _
      (λ f. raise 17 0 c16 (refl, t1, not-one f))
      (λ h. (
        beyond (next_check StepFails 17 0 18 refl c16 (λ j l w.
            w.2 (eqb-true (length s) 9 (and_left (eqb (length s) 9) (eqb (get_or s 8 0) 0) (held_true _ h)), eqb-true (get_or s 8 0) 0 (and_right (eqb (length s) 9) (eqb (get_or s 8 0) 0) (held_true _ h))))),
        inr (t1, record { message_type = refl; flags = refl; a = refl; b = refl; c = refl; d = refl; e = refl; no_bytes = own_bytes_lem s no_string (omega arith) }),
      ))
    where
      -- a request's rows say nothing of a response
      rows : (k i : ℕ) → 14 ≤ k → k < 17 → StepFails k i → ⊥
      rows k i l r h = go (eqb k 14) (eqb k 15) refl refl where
        go : (x y : Bool) → eqb k 14 ≡ x → eqb k 15 ≡ y → ⊥
        go true y p q = omega (arith, t1, (subst (λ (z : ℕ). StepFails z i) (eqb-true k 14 p) h).1)
        go false true p q = omega (arith, t1, (subst (λ (z : ℕ). StepFails z i) (eqb-true k 15 q) h).1.2)
        go false false p q = omega (arith, t1, (subst (λ (z : ℕ). StepFails z i) (last (eqb-false k 14 p) (eqb-false k 15 q)) h).1)
          where
            last : (k ≡ 14 → ⊥) → (k ≡ 15 → ⊥) → k ≡ 16
            last a b = omega (arith, a, b)

      not-one : checked (eqb (length s) 9 && eqb (get_or s 8 0) 0) ≡ Failed → (length s ≡ 9) × (get_or s 8 0 ≡ 0) → ⊥
      not-one f w = both_ways (eqb (length s) 9 && eqb (get_or s 8 0) 0) (and_both (eqb (length s) 9) (eqb (get_or s 8 0) 0) (eq-eqb (length s) 9 w.0) (eq-eqb (get_or s 8 0) 0 w.1)) (failed_false _ f)

  pub judged : Judged (read_nl_auth s)
  unfolding read_nl_auth
  judged =
      chained Judged _ _ _
      (λ f. raise 1 0 none_at_0 (refl, leb-false (length s) 65535 (failed_false _ f)))
      (λ h1. let c1 = next_check StepFails 1 0 2 refl none_at_0 (λ j l w. omega (arith, leb-true (length s) 65535 (held_true _ h1), w.1)) in
      chained Judged _ _ _
      (λ f. raise 2 0 c1 (refl, leb-false 8 (length s) (failed_false _ f)))
      (λ h2. let long = leb-true 8 (length s) (held_true _ h2) in
      let c2 = next_check StepFails 2 0 3 refl c1 (λ j l w. omega (arith, long, w.1)) in
      let c3 = next_check StepFails 3 0 4 refl c2 (λ j l w. absurd w) in
      chained Judged _ _ _
      (λ f. raise 4 0 c3 (refl, (wrong_type f).0, (wrong_type f).1))
      (λ h4. kind (eqb (type_of s) 0) refl (held_true _ h4) long
      (jump 5 14 (next_check StepFails 4 0 5 refl c3 (λ j l w. right_type (held_true _ h4) w.1 w.2))
      (λ k i l r. no_row k i (λ e. omega arith) (λ e. omega arith) (λ e. omega arith) (λ e. omega arith) (λ e. omega arith) (λ e. omega arith) (λ e. omega arith))))))
    where
      none_at_0 : Free StepFails 1 0
      none_at_0 m j b h = ⊎_elim (λ l. subst (λ (x : ℕ). StepFails x j) (zero_is m l) h) (λ q. omega arith) b where
        zero_is : (x : ℕ) → x < 1 → x ≡ 0
        zero_is x l = omega arith

      wrong_type : checked (eqb (type_of s) 0 || eqb (type_of s) 1) ≡ Failed → (type_of s ≡ 0 → ⊥) × (type_of s ≡ 1 → ⊥)
      wrong_type f = (
        eqb-false (type_of s) 0 (or_left (eqb (type_of s) 0) (eqb (type_of s) 1) (failed_false _ f)),
        eqb-false (type_of s) 1 (or_right (eqb (type_of s) 0) (eqb (type_of s) 1) (failed_false _ f)),
      )

      right_type : (eqb (type_of s) 0 || eqb (type_of s) 1) ≡ true → (type_of s ≡ 0 → ⊥) → (type_of s ≡ 1 → ⊥) → ⊥
      right_type h a b =
          ⊎_elim (λ e. a (eqb-true (type_of s) 0 e)) (λ e. b (eqb-true (type_of s) 1 e)) (or-either (eqb (type_of s) 0) (eqb (type_of s) 1) h)

      kind : (t : Bool) → eqb (type_of s) 0 ≡ t → (eqb (type_of s) 0 || eqb (type_of s) 1) ≡ true → 8 ≤ length s → Free StepFails 14 0 →
          Judged (cond t (read_request (flags_at s) s) (read_response s))
      kind true p h long free = request_judged (eqb-true (type_of s) 0 p) long free
      kind false p h long free =
          response_judged (⊎_elim (λ e. absurd (both_ways (eqb (type_of s) 0) e p)) (λ e. eqb-true (type_of s) 1 e) (or-either (eqb (type_of s) 0) (eqb (type_of s) 1) h)) free

abbrev FirstAt : List ℕ → ℕ → ℕ → ℕ → Type 0
FirstAt s n i p = NlFirst s n i × (p ≡ 0)

pub nl_auth_judged : NlAuthJudged
nl_auth_judged s =
    judged_by (NoneFails (NlFails s)) (FirstAt s) (λ n i p h f. h n i f.0.fails) one (nl_verdict (read_nl_auth s)) (go (read_nl_auth s) refl (judged s))
  where
    one : (m j o n i p : ℕ) → FirstAt s m j o → FirstAt s n i p → (m ≡ n) × (j ≡ i) × (o ≡ p)
    one m j o n i p f g = let x = only_one s m j n i f.0 g.0 in (x.0, x.1, f.1 ∙ sym g.1)

    go : (r : Result NlAuth Refusal) → read_nl_auth s ≡ r → Judged s r → By (NoneFails (NlFails s)) (FirstAt s) (nl_verdict r)
    go (Ok m) e j = j.0
    go (Err d) e j = (j, nl_auth_placeless s (read_nl_auth s) d refl e)

pub nl_auth_own : NlAuthOwn
nl_auth_own s m h = (subst (Judged s) h (judged s)).1
