-- A reader's fields against the heads' own bytes, and each check's test at one field, for every kind of message.
pub mod Chain
pub mod Fields
pub mod Unchanged
pub mod Apart
pub mod Mic
use Prim.Native.Nat.{ℕ, ◌+◌, ◌%◌, ◌≤◌, max}
use mathlib.Core.Path.{◌≡◌, refl, sym, ap, ◌∙◌}
use mathlib.Core.Logic.{◌⊎◌, inl, inr, ⊎_elim}
use mathlib.Core.Bool.{Bool, true, false, ◌||◌, ◌&&◌, not, cond}
use mathlib.Core.List.{List, []}
use native.Mathlib.Omega.{arith}
use lib.Dec.{leb, ltb, eqb}
use lib.ListN.{length, take, drop}
use borrow.Author.Tests.{leb-true, leb-false, ltb-true, lt-ltb, eqb-true, eqb-false}
use Rattle.wire.specs.declared.check.Checked.TheVariants.{Held, Failed}
use Rattle.wire.proofs.Laws.{held_true}
use Rattle.field.specs.declared.Field.{Field}
use Rattle.field.specs.Field.{head_at, is_empty, empty_field, no_field, field_at, field_bytes, ends_inside, begins_after, even_name, share}
use Rattle.field.proofs.Fields.{own_bytes_lem}
use Rattle.wire.proofs.Bools.{and_left, and_right, and_both}
use Rattle.demands.specs.Message.{Format, len_of, max_len_of, offset_of, Set, Counts, Nonempty, Covers, Fails}
use Rattle.demands.proofs.Bools.{true_not_false, both_ways, failed_false}

-- f is what the reader makes of the head of field i
pub record Stands (k : Format) (s : List ℕ) (i : ℕ) (f : Field) : Type 0 where
  pub empty : is_empty f ≡ true → Nonempty k s i → ⊥
  pub none : is_empty f ≡ true → f.offset ≡ 0
  pub full : is_empty f ≡ false → Nonempty k s i
  pub offset : is_empty f ≡ false → f.offset ≡ offset_of k s i
  pub len : is_empty f ≡ false → f.len ≡ len_of k s i
  pub counted : Counts k s i → (f.len ≡ len_of k s i) × (f.max_len ≡ max_len_of k s i)
  pub uncounted : (Counts k s i → ⊥) → f ≡ no_field

pub stands : (k : Format) (s : List ℕ) (i : ℕ) (b : Bool) → 1 ≤ i → i ≤ k.last → (b ≡ true → Counts k s i) → (b ≡ false → Counts k s i → ⊥) →
    Stands k s i (field_at s (k.head i) b)
unfolding field_at
stands k s i b h1 h6 on off = go b (eqb (len_of k s i) 0) refl on off where
  go : (b e : Bool) → eqb (len_of k s i) 0 ≡ e → (b ≡ true → Counts k s i) → (b ≡ false → Counts k s i → ⊥) →
      Stands k s i (cond b (cond e (empty_field (max_len_of k s i)) (head_at s (k.head i))) no_field)
  go true true p y n =
      record {
        empty = λ h w. omega (arith, eqb-true (len_of k s i) 0 p, w.some);
        none = λ h. refl;
        full = λ h. absurd (true_not_false h);
        offset = λ h. absurd (true_not_false h);
        len = λ h. absurd (true_not_false h);
        counted = λ c. (sym (eqb-true (len_of k s i) 0 p), refl);
        uncounted = λ c. absurd (c (y refl));
      }
  go true false p y n =
      record {
        empty = λ h. absurd (both_ways _ h p);
        none = λ h. absurd (both_ways _ h p);
        full = λ h. record { first = h1; last = h6; counts = y refl; some = omega (arith, eqb-false (len_of k s i) 0 p) };
        offset = λ h. refl;
        len = λ h. refl;
        counted = λ c. (refl, refl);
        uncounted = λ c. absurd (c (y refl));
      }
  go false e p y n =
      record {
        empty = λ h w. n refl w.counts;
        none = λ h. refl;
        full = λ h. absurd (true_not_false h);
        offset = λ h. absurd (true_not_false h);
        len = λ h. absurd (true_not_false h);
        counted = λ c. absurd (n refl c);
        uncounted = λ c. refl;
      }

-- an empty field has no bytes
pub empty_bytes : (k : Format) (s : List ℕ) (i : ℕ) (f : Field) → Stands k s i f → is_empty f ≡ true → (t : List ℕ) → field_bytes t f ≡ []
empty_bytes k s i f w p t =
    let l = eqb-true f.len 0 p in
    own_bytes_lem t f (omega (arith, l, w.none p)) ∙ ap (λ (n : ℕ). take n (drop f.offset t)) l

-- a test that an empty field passes
module _ (k : Format) (s : List ℕ) (i : ℕ) (f : Field) (w : Stands k s i f) where
  -- what a nonempty field is, with the test's answer
  pub record Tested (b : Bool) : Type 0 where
    pub field : Nonempty k s i
    pub offset : f.offset ≡ offset_of k s i
    pub len : f.len ≡ len_of k s i
    pub answer : b ≡ false

  pub test_failed : (b : Bool) → (is_empty f || b) ≡ false → Tested b
  test_failed b h = go (is_empty f) refl h where
    go : (e : Bool) → is_empty f ≡ e → (e || b) ≡ false → Tested b
    go true p q = absurd (true_not_false q)
    go false p q = record { field = w.full p; offset = w.offset p; len = w.len p; answer = q }

  pub test_held : (b : Bool) → (is_empty f || b) ≡ true → Nonempty k s i → (f.offset ≡ offset_of k s i) × (f.len ≡ len_of k s i) × (b ≡ true)
  test_held b h ne = go (is_empty f) refl h where
    go : (e : Bool) → is_empty f ≡ e → (e || b) ≡ true → (f.offset ≡ offset_of k s i) × (f.len ≡ len_of k s i) × (b ≡ true)
    go true p q = absurd (w.empty p ne)
    go false p q = (w.offset p, w.len p, q)

  -- check 6
  pub ends_failed : ends_inside (length s) f ≡ Failed → Fails k s 6 i
  ends_failed h =
      let t = test_failed (leb (f.offset + f.len) (length s)) (failed_false _ h) in
      (t.field, omega (arith, leb-false (f.offset + f.len) (length s) t.answer, t.offset, t.len))

  pub ends_held : ends_inside (length s) f ≡ Held → Fails k s 6 i → ⊥
  ends_held h fails =
      let t = test_held (leb (f.offset + f.len) (length s)) (held_true _ h) fails.0 in
      omega (arith, leb-true (f.offset + f.len) (length s) t.2, t.0, t.1, fails.1)

  -- check 7
  pub begins_failed : begins_after k.fixed f ≡ Failed → Fails k s 7 i
  begins_failed h =
      let t = test_failed (leb k.fixed f.offset) (failed_false _ h) in
      (t.field, omega (arith, leb-false k.fixed f.offset t.answer, t.offset))

  pub begins_held : begins_after k.fixed f ≡ Held → Fails k s 7 i → ⊥
  begins_held h fails =
      let t = test_held (leb k.fixed f.offset) (held_true _ h) fails.0 in
      omega (arith, leb-true k.fixed f.offset t.2, t.0, fails.1)

  -- check 8
  pub even_failed : (u : Bool) → (u ≡ true → Set k s 0x1) → k.Name i → even_name u f ≡ Failed → Fails k s 8 i
  even_failed u unicode name h = go u refl (failed_false _ h) where
    even : (a c : ℕ) → (eqb (a % 2) 0 && eqb (c % 2) 0) ≡ false → (a % 2 ≡ 1) ⊎ (c % 2 ≡ 1)
    even a c = odd (eqb (a % 2) 0) (eqb (c % 2) 0) refl refl where
      odd : (x y : Bool) → eqb (a % 2) 0 ≡ x → eqb (c % 2) 0 ≡ y → (x && y) ≡ false → (a % 2 ≡ 1) ⊎ (c % 2 ≡ 1)
      odd true true p q e = absurd (true_not_false e)
      odd true false p q e = inr (omega (arith, eqb-false (c % 2) 0 q))
      odd false y p q e = inl (omega (arith, eqb-false (a % 2) 0 p))

    go : (v : Bool) → u ≡ v → (not v || (is_empty f || (eqb (f.offset % 2) 0 && eqb (f.len % 2) 0))) ≡ false → Fails k s 8 i
    go true p q =
        let t = test_failed (eqb (f.offset % 2) 0 && eqb (f.len % 2) 0) q in
        (t.field, name, unicode p, rw (← t.offset, ← t.len) (even f.offset f.len t.answer))
    go false p q = absurd (true_not_false q)

  pub even_held : (u : Bool) → (Set k s 0x1 → u ≡ true) → even_name u f ≡ Held → Fails k s 8 i → ⊥
  even_held u unicode h fails = go u (unicode fails.2) (held_true _ h) where
    go : (v : Bool) → v ≡ true → (not v || (is_empty f || (eqb (f.offset % 2) 0 && eqb (f.len % 2) 0))) ≡ true → ⊥
    go true p q =
        let t = test_held (eqb (f.offset % 2) 0 && eqb (f.len % 2) 0) q fails.0 in
        let a = eqb-true (f.offset % 2) 0 (and_left (eqb (f.offset % 2) 0) _ t.2) in
        let c = eqb-true (f.len % 2) 0 (and_right (eqb (f.offset % 2) 0) _ t.2) in
        ⊎_elim (λ o. omega (arith, a, ap (λ (x : ℕ). x % 2) t.0)) (λ o. omega (arith, c, ap (λ (x : ℕ). x % 2) t.1)) fails.3
    go false p q = true_not_false (sym p)

-- check 9's question, of the reader's fields f and g for i and j: whether a byte lies in both
module _ (k : Format) (s : List ℕ) (i j : ℕ) (f g : Field) (w : Stands k s i f) (v : Stands k s j g) where
  pub share_true : share f g ≡ true → Nonempty k s i × Nonempty k s j × ((p : ℕ) × Covers k s i p × Covers k s j p)
  share_true h = go (is_empty f) (is_empty g) refl refl h where
    go : (a b : Bool) → is_empty f ≡ a → is_empty g ≡ b →
        (((not a && not b) && ltb f.offset (g.offset + g.len)) && ltb g.offset (f.offset + f.len)) ≡ true →
        Nonempty k s i × Nonempty k s j × ((p : ℕ) × Covers k s i p × Covers k s j p)
    go true b p q e = absurd (true_not_false (sym e))
    go false true p q e = absurd (true_not_false (sym e))
    go false false p q e =
        let l = ltb-true f.offset (g.offset + g.len) (and_left _ (ltb g.offset (f.offset + f.len)) e) in
        let r = ltb-true g.offset (f.offset + f.len) (and_right (ltb f.offset (g.offset + g.len)) _ e) in (
          w.full p,
          v.full q,
          (
            max (offset_of k s i) (offset_of k s j),
            (omega arith, omega (arith, l, r, w.offset p, w.len p, v.offset q, v.len q, (w.full p).some)),
            (omega arith, omega (arith, l, r, w.offset p, w.len p, v.offset q, v.len q, (v.full q).some)),
          ),
        )

  pub share_false : share f g ≡ false → Nonempty k s i → Nonempty k s j → (p : ℕ) → Covers k s i p → Covers k s j p → ⊥
  share_false h ni nj p ci cj = go (is_empty f) (is_empty g) refl refl h where
    go : (a b : Bool) → is_empty f ≡ a → is_empty g ≡ b →
        (((not a && not b) && ltb f.offset (g.offset + g.len)) && ltb g.offset (f.offset + f.len)) ≡ false → ⊥
    go true b p q e = w.empty p ni
    go false true p q e = v.empty q nj
    go false false p q e = both_ways _
        (and_both (ltb f.offset (g.offset + g.len)) (ltb g.offset (f.offset + f.len))
        (lt-ltb f.offset (g.offset + g.len) (omega (arith, w.offset p, v.offset q, v.len q, ci.0, cj.1)))
        (lt-ltb g.offset (f.offset + f.len) (omega (arith, w.offset p, w.len p, v.offset q, ci.1, cj.0))))
        e
