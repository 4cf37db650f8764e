-- The reader's rule for the MIC is document 01's.
use Prim.Native.Nat.{ℕ, ◌+◌, ◌≤◌, ◌<◌}
use mathlib.Core.Path.{◌≡◌, refl, sym, ◌∙◌, subst}
use mathlib.Core.Logic.{◌↔◌}
use mathlib.Core.Bool.{Bool, true, false, ◌||◌, not}
use mathlib.Core.List.{List, [], ◌∷◌}
use native.Mathlib.Omega.{arith}
use lib.Dec.{leb, ltb}
use lib.ListN.{length}
use borrow.Author.Tests.{leb-true, le-leb, ltb-true, ltb-false}
use Rattle.field.specs.declared.Field.{Field}
use Rattle.field.specs.Field.{is_empty, begins}
use Rattle.head.specs.Head.{flags_at}
use Rattle.wire.proofs.Bools.{and_left, and_right, and_both}
use Rattle.read_authenticate.specs.Authenticate.{fields_at, all_fields, mic_present}
use Rattle.read_authenticate.proofs.Mic.{room, some, lowest}
use Rattle.demands.specs.Message.{authenticate, offset_of, Nonempty, MicThere}
use Rattle.demands.proofs.Message.{Stands, test_held}
use Rattle.demands.proofs.TakenExactly.{six}
use Rattle.demands.proofs.Bools.{true_not_false}

-- the reader's fields from number i on
abbrev Numbered : List ℕ → ℕ → List (ℕ × Field) → Type 0
Numbered s i [] = Unit
Numbered s i (f ∷ fs) = Stands authenticate s i f.1 × Numbered s (i + 1) fs

module _ (s : List ℕ) where
  -- j is i, or later
  at_or_after : (P : Type 0) (i j : ℕ) → i ≤ j → (j ≡ i → P) → (i + 1 ≤ j → P) → P
  at_or_after P i j l here later = go (ltb i j) refl where
    go : (t : Bool) → ltb i j ≡ t → P
    go true p = later (omega (arith, ltb-true i j p))
    go false p = here (omega (arith, ltb-false i j p))

  room_true : (k i : ℕ) (fs : List (ℕ × Field)) → Numbered s i fs → room k fs ≡ true →
      (j : ℕ) → i ≤ j → j < i + length fs → Nonempty authenticate s j → k ≤ offset_of authenticate s j
  room_true k i [] n h j l m ne = omega arith
  room_true k i (f ∷ fs) n h j l m ne =
      at_or_after (k ≤ offset_of authenticate s j) i j l
      (λ e.
      let t = test_held authenticate s i f.1 n.0 (leb k f.1.offset) (and_left (begins k f.1) (room k fs) h) (subst (λ (x : ℕ). Nonempty authenticate s x) e ne) in
      rw e (omega (arith, leb-true k f.1.offset t.2, t.0)))
      (λ a. room_true k (i + 1) fs n.1 (and_right (begins k f.1) (room k fs) h) j a (omega arith) ne)

  room_is : (k i : ℕ) (fs : List (ℕ × Field)) → Numbered s i fs →
      ((j : ℕ) → i ≤ j → j < i + length fs → Nonempty authenticate s j → k ≤ offset_of authenticate s j) → room k fs ≡ true
  room_is k i [] n h = refl
  room_is k i (f ∷ fs) n h =
      and_both (begins k f.1) (room k fs) (go (is_empty f.1) refl)
      (room_is k (i + 1) fs n.1 (λ j a b. h j (omega arith) (omega arith)))
    where
      go : (e : Bool) → is_empty f.1 ≡ e → (is_empty f.1 || leb k f.1.offset) ≡ true
      go true p = rw p
      go false p = rw p (le-leb k f.1.offset (omega (arith, h i (omega arith) (omega arith) (n.0.full p), n.0.offset p)))

  some_false : (i : ℕ) (fs : List (ℕ × Field)) → Numbered s i fs → some fs ≡ false →
      (j : ℕ) → i ≤ j → j < i + length fs → Nonempty authenticate s j → ⊥
  some_false i [] n h j l m ne = omega arith
  some_false i (f ∷ fs) n h j l m ne =
      go (is_empty f.1) refl h (λ q a. some_false (i + 1) fs n.1 q j a (omega arith) ne)
    where
      go : (e : Bool) → is_empty f.1 ≡ e → (not e || some fs) ≡ false → (some fs ≡ false → i + 1 ≤ j → ⊥) → ⊥
      go true p q later =
          at_or_after ⊥ i j l (λ e. n.0.empty p (subst (λ (x : ℕ). Nonempty authenticate s x) e ne)) (later q)
      go false p q later = true_not_false q

  some_true : (i : ℕ) (fs : List (ℕ × Field)) → Numbered s i fs → some fs ≡ true → (j : ℕ) × Nonempty authenticate s j
  some_true i [] n h = absurd (true_not_false (sym h))
  some_true i (f ∷ fs) n h = go (is_empty f.1) refl h (some_true (i + 1) fs n.1) where
    go : (e : Bool) → is_empty f.1 ≡ e → (not e || some fs) ≡ true → (some fs ≡ true → (j : ℕ) × Nonempty authenticate s j) → (j : ℕ) × Nonempty authenticate s j
    go true p q later = later q
    go false p q later = (i, n.0.full p)

  six_stand : Numbered s 1 (all_fields (fields_at s (flags_at s 60)))
  six_stand =
      let x = six s (λ i f. Stands authenticate s i f) (λ i f w. w) in
      (x.0, (x.1, (x.2, (x.3, (x.4, (x.5, tt))))))

  pub mic_there : (mic_present (length s) (fields_at s (flags_at s 60)) ≡ true) ↔ MicThere authenticate s
  unfolding mic_present
  mic_there = (to, from)
    where
      list : List (ℕ × Field)
      list = all_fields (fields_at s (flags_at s 60))

      to : mic_present (length s) (fields_at s (flags_at s 60)) ≡ true → MicThere authenticate s
      to h =
          let both = sym (lowest 88 list (length s)) ∙ h in
          record {
            kind = tt;
            fields = λ i ne. room_true 88 1 list six_stand (and_left (room 88 list) _ both) i ne.first (omega (arith, ne.last)) ne;
            message = λ empty. leb-true 88 (length s) (go (some list) refl (and_right (room 88 list) _ both) empty);
          }
        where
          go : (t : Bool) → some list ≡ t → (t || leb 88 (length s)) ≡ true → ((i : ℕ) → Nonempty authenticate s i → ⊥) → leb 88 (length s) ≡ true
          go true p q empty = absurd (let w = some_true 1 list six_stand p in empty w.0 w.1)
          go false p q empty = q

      from : MicThere authenticate s → mic_present (length s) (fields_at s (flags_at s 60)) ≡ true
      from m =
          lowest 88 list (length s)
          ∙ and_both (room 88 list) (some list || leb 88 (length s))
          (room_is 88 1 list six_stand (λ j a b ne. m.fields j ne))
          (go (some list) refl)
        where
          go : (t : Bool) → some list ≡ t → (some list || leb 88 (length s)) ≡ true
          go true p = rw p
          go false p =
              rw p (le-leb 88 (length s) (m.message (λ i ne. some_false 1 list six_stand p i ne.first (omega (arith, ne.last)) ne)))
