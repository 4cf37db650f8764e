-- An AUTHENTICATE is written canonically exactly when no check of its reading fails, nor 32, 30 or 33.
use Rattle.std.specs.Prelude.{Result, Ok, Err}
use Rattle.wire.specs.declared.refusal.Refusal.{Refusal}
use Prim.Native.Nat.{ℕ, ◌+◌, ◌/◌, ◌%◌, ◌≤◌, ◌<◌}
use mathlib.Core.Path.{◌≡◌, refl, sym, ap, ◌∙◌, subst}
use mathlib.Core.Logic.{◌⊎◌, inl, inr, ⊎_elim}
use mathlib.Core.Bool.{Bool, true, false, cond}
use mathlib.Core.List.{List}
use native.Mathlib.Omega.{arith}
use lib.Dec.{eqb, ltb}
use lib.ListN.{length, replicate, length-take, length-drop, length-replicate}
use borrow.Author.Tests.{eqb-true, eqb-false, eq-eqb, ne_eqb, ltb-true, ltb-false}
use Rattle.wire.specs.Number.{u32_at}
use Rattle.wire.specs.Refusal.{number_of, field_of, place_of}
use Rattle.field.specs.declared.Field.{Field}
use Rattle.field.specs.Field.{field_bytes}
use Rattle.read_authenticate.specs.declared.Authenticate.{Authenticate}
use Rattle.read_authenticate.specs.Authenticate.{read_authenticate}
use Rattle.write_canonical.specs.Canonical.{Meaning, meaning_of, zero_version, meaning_answer, canonical_answer}
use Rattle.demands.specs.Canonical.{key_len, canonical_size, CanonicalFails, canonical_order, CanonicalIsWritten, NoOtherRefusal}
use Rattle.demands.specs.Message.{authenticate, FlagSet, len_of, Nonempty, Fails}
use Rattle.demands.specs.Order.{BeforeBy, First, FirstIn, rank_in}
use Rattle.demands.specs.OwnBytes.{OwnField, OwnAnswer}
use Rattle.demands.specs.WrittenExactly.{WrittenExactly, Fails5, Fails30, Fails33, name_of, authenticate_size, authenticate_order, AuthenticateWritingFails}
use Rattle.demands.proofs.Canonical.{each_means, answer_of, mic_long, answer_refused}
use Rattle.demands.proofs.Order.{on_row}
use Rattle.demands.proofs.OwnBytes.{authenticate_own, none_fails}
use Rattle.demands.proofs.ReadBack.WriteBack.{three}
use Rattle.demands.proofs.TakenExactly.{authenticate_judged}
use Rattle.demands.proofs.WrittenExactly.{Rows, rows, by_verdict}
use Rattle.demands.proofs.WrittenExactly.MessagesWritten.{authenticate_written}

-- the same failures under another table and another order, in which each stands d places further on
module _ (answer : Result ℕ Refusal) (o p : List ℕ) (F G : ℕ → ℕ → Type 0) (size size' d : ℕ) (sizes : size ≡ size')
    (to : (n i : ℕ) → F n i → G n i) (from : (n i : ℕ) → G n i → F n i) (moved : (n i : ℕ) → F n i → rank_in p n ≡ rank_in o n + d) where
  back : (m j n i : ℕ) → F m j → F n i → BeforeBy (rank_in p) m j n i → BeforeBy (rank_in o) m j n i
  back m j n i f g b = ⊎_elim (λ l. inl (omega (arith, moved m j f, moved n i g, l))) (λ q. inr q) b

  on : (m j n i : ℕ) → F m j → F n i → BeforeBy (rank_in o) m j n i → BeforeBy (rank_in p) m j n i
  on m j n i f g b = ⊎_elim (λ l. inl (omega (arith, moved m j f, moved n i g, l))) (λ q. inr q) b

  same_failures : WrittenExactly answer o F size → WrittenExactly answer p G size'
  same_failures x =
      record {
        refused = λ n i. (
          λ t. let f = (x.refused n i).0 t in
              record { fails = to n i f.fails; none_before = λ m j b g. f.none_before m j (back m j n i (from m j g) f.fails b) (from m j g) },
          λ f. (x.refused n i).1
              (record { fails = from n i f.fails; none_before = λ m j b g. f.none_before m j (on m j n i g (from n i f.fails) b) (to m j g) }),
        );
        written = λ n. (
          λ h. let y = (x.written n).0 h in (λ m j g. y.0 m j (from m j g), y.1 ∙ sizes),
          λ h. (x.written n).1 (λ m j f. h.0 m j (to m j f), h.1 ∙ sym sizes),
        );
      }

-- the length of a field's own bytes is its head's
own_long : (s : List ℕ) (i : ℕ) (f : Field) → OwnField authenticate s i f → (0 < len_of authenticate s i → Nonempty authenticate s i) →
    length (field_bytes s f) ≡ len_of authenticate s i
own_long s i f o full = go (ltb 0 (len_of authenticate s i)) refl where
  go : (t : Bool) → ltb 0 (len_of authenticate s i) ≡ t → length (field_bytes s f) ≡ len_of authenticate s i
  go true p =
      let ne = full (ltb-true 0 (len_of authenticate s i) p) in
      ap length (o.bytes ne) ∙ simp (length-take, length-drop) (omega (arith, o.whole ne))
  go false p =
      let l : len_of authenticate s i ≤ 0 = ltb-false 0 (len_of authenticate s i) p in
      ap length (o.none (λ ne. omega (arith, ne.some, l))).2 ∙ omega (arith, l)

module _ (s : List ℕ) where
  -- fields 1 to 5 always count
  full : (i : ℕ) → 1 ≤ i → i ≤ 5 → 0 < len_of authenticate s i → Nonempty authenticate s i
  full i l r some = record { first = l; last = omega arith; counts = λ e. absurd (omega arith); some = some }

  -- a reading's failure has the place of its number
  reading_place : (n i : ℕ) → Fails authenticate s n i → (rank_in canonical_order n + 1 ≡ n) × (n ≤ 9)
  reading_place n i =
      on_row 1 n _ _ (Q n) (λ e x. at 1 e (refl, omega arith)) (
      on_row 2 n _ _ (Q n) (λ e x. at 2 e (refl, omega arith)) (
      on_row 3 n _ _ (Q n) (λ e x. at 3 e (refl, omega arith)) (
      on_row 4 n _ _ (Q n) (λ e x. at 4 e (refl, omega arith)) (
      on_row 5 n _ _ (Q n) (λ e x. at 5 e (refl, omega arith)) (
      on_row 6 n _ _ (Q n) (λ e x. at 6 e (refl, omega arith)) (
      on_row 7 n _ _ (Q n) (λ e x. at 7 e (refl, omega arith)) (
      on_row 8 n _ _ (Q n) (λ e x. at 8 e (refl, omega arith)) (
      on_row 9 n _ _ (Q n) (λ e x. at 9 e (refl, omega arith)) (λ x. absurd x)))))))))
    where
      Q : ℕ → Type 0
      Q k = (rank_in canonical_order k + 1 ≡ k) × (k ≤ 9)

      at : (k : ℕ) → n ≡ k → Q k → Q n
      at k e q = subst Q (sym e) q

module _ (room : ℕ) (s : List ℕ) where
  abbrev G : ℕ → ℕ → Type 0
  G = CanonicalFails room s

  canonical_rows : Rows canonical_order G
  canonical_rows =
      rows canonical_order G (λ n i z h. simp (
        z.0,
        z.1.0,
        z.1.1.0,
        z.1.1.1.0,
        z.1.1.1.1.0,
        z.1.1.1.1.1.0,
        z.1.1.1.1.1.1.0,
        z.1.1.1.1.1.1.1.0,
        z.1.1.1.1.1.1.1.1.0,
        z.1.1.1.1.1.1.1.1.1.0,
        z.1.1.1.1.1.1.1.1.1.1.0,
        z.1.1.1.1.1.1.1.1.1.1.1.0,
      ) at h)

  -- a reading's failure is one of this table
  of_reading : (n i : ℕ) → Fails authenticate s n i → G n i
  of_reading n i h =
      let l = (reading_place s n i h).1 in
      rw (ne_eqb n 32 (λ e. omega arith), ne_eqb n 30 (λ e. omega arith), ne_eqb n 33 (λ e. omega arith)) h

  -- and its first failure is the first here
  first_of_reading : (n i : ℕ) → First (Fails authenticate s) n i → FirstIn canonical_order G n i
  first_of_reading n i f = record { fails = of_reading n i f.fails; none_before = none } where
    here : (rank_in canonical_order n + 1 ≡ n) × (n ≤ 9)
    here = reading_place s n i f.fails

    later : (k m j : ℕ) → 9 ≤ rank_in canonical_order k → 9 < k → m ≡ k → BeforeBy (rank_in canonical_order) m j n i → ⊥
    later k m j l g e b =
        ⊎_elim (λ q. omega (arith, l, here.0, here.1, subst (λ (x : ℕ). rank_in canonical_order x < rank_in canonical_order n) e q))
        (λ q. omega (arith, e, g, q.0, here.1)) b

    before : (m j : ℕ) → Fails authenticate s m j → BeforeBy (rank_in canonical_order) m j n i → ⊥
    before m j h b =
        f.none_before m j (⊎_elim (λ l. inl (omega (arith, l, here.0, (reading_place s m j h).0))) (λ q. inr q) b) h

    none : (m j : ℕ) → BeforeBy (rank_in canonical_order) m j n i → G m j → ⊥
    none m j b =
        on_row 32 m _ _ ⊥ (λ e x. later 32 m j (omega arith) (omega arith) e b) (
        on_row 30 m _ _ ⊥ (λ e x. later 30 m j (omega arith) (omega arith) e b) (
        on_row 33 m _ _ ⊥ (λ e x. later 33 m j (omega arith) (omega arith) e b) (λ h. before m j h b)))

  module _ (a : Authenticate) (h : (read_authenticate s).reading ≡ Ok a) where
    m : Meaning
    m = meaning_of s (read_authenticate s).mic a

    own : OwnAnswer s a
    own = authenticate_own s a h

    none : (n i : ℕ) → Fails authenticate s n i → ⊥
    none = none_fails s a h

    lm_long : length m.lm ≡ len_of authenticate s 1
    unfolding m meaning_of
    lm_long = own_long s 1 a.fields.lm own.lm (full s 1 (omega arith) (omega arith))

    nt_long : length m.nt ≡ len_of authenticate s 2
    unfolding m meaning_of
    nt_long = own_long s 2 a.fields.nt own.nt (full s 2 (omega arith) (omega arith))

    domain_long : length m.domain ≡ len_of authenticate s 3
    unfolding m meaning_of
    domain_long = own_long s 3 a.fields.domain own.domain (full s 3 (omega arith) (omega arith))

    user_long : length m.user ≡ len_of authenticate s 4
    unfolding m meaning_of
    user_long = own_long s 4 a.fields.user own.user (full s 4 (omega arith) (omega arith))

    workstation_long : length m.workstation ≡ len_of authenticate s 5
    unfolding m meaning_of
    workstation_long = own_long s 5 a.fields.workstation own.workstation (full s 5 (omega arith) (omega arith))

    -- the key, where it counts
    counted : eqb (u32_at s 60 / 0x40000000 % 2) 1 ≡ true → 0 < len_of authenticate s 6 → Nonempty authenticate s 6
    counted p some = record { first = omega arith; last = omega arith; counts = λ e. eqb-true _ 1 p; some = some }

    key_long : length m.key ≡ key_len s
    unfolding m meaning_of
    key_long = go (eqb (u32_at s 60 / 0x40000000 % 2) 1) refl where
      go : (t : Bool) → eqb (u32_at s 60 / 0x40000000 % 2) 1 ≡ t → length (field_bytes s a.fields.key) ≡ cond t (len_of authenticate s 6) 0
      go true p = own_long s 6 a.fields.key own.key (counted p)
      go false p = ap length (own.key.none (λ ne. eqb-false _ 1 p (ne.counts refl))).2

    size_same : authenticate_size m.lm m.nt m.domain m.user m.workstation m.key ≡ canonical_size s
    size_same = omega (arith, lm_long, nt_long, domain_long, user_long, workstation_long, key_long)

    flags_same : m.flags.bits ≡ u32_at s 60
    unfolding m meaning_of
    flags_same = own.flags

    abbrev F : ℕ → ℕ → Type 0
    F = AuthenticateWritingFails room m.flags.bits m.lm m.nt m.domain m.user m.workstation m.key

    -- 5 can't come: the reading's own 5 held
    no_5 : (i : ℕ) → Fails5 m.flags.bits i → ⊥
    no_5 i x = none 5 i (subst (λ (b : ℕ). Fails5 b i) flags_same x)

    -- nor can 31: 8 held
    no_31 : (i : ℕ) → (3 ≤ i) × (i ≤ 5) × FlagSet m.flags.bits 0x1 × (length (name_of m.domain m.user m.workstation i) % 2 ≡ 1) → ⊥
    no_31 i x = three (λ (k : ℕ). length (name_of m.domain m.user m.workstation k) % 2 ≡ 1 → ⊥)
        (odd 3 (length m.domain) domain_long (omega arith) (omega arith))
        (odd 4 (length m.user) user_long (omega arith) (omega arith))
        (odd 5 (length m.workstation) workstation_long (omega arith) (omega arith))
        i x.0 x.1 x.3
      where
        odd : (k n : ℕ) → n ≡ len_of authenticate s k → 3 ≤ k → k ≤ 5 → n % 2 ≡ 1 → ⊥
        odd k n e l r q =
            none 8 k (
              full s k (omega arith) (omega arith) (omega (arith, e, q)),
              (l, r),
              subst (λ (b : ℕ). FlagSet b 0x1) flags_same x.2,
              inr (sym (ap (λ (z : ℕ). z % 2) e) ∙ q),
            )

    -- 32, by the message's head
    key_counts : 0 < length m.key → eqb (u32_at s 60 / 0x40000000 % 2) 1 ≡ true
    key_counts l = go (eqb (u32_at s 60 / 0x40000000 % 2) 1) refl key_long where
      go : (t : Bool) → eqb (u32_at s 60 / 0x40000000 % 2) 1 ≡ t → length m.key ≡ cond t (len_of authenticate s 6) 0 → eqb (u32_at s 60 / 0x40000000 % 2) 1 ≡ true
      go true p q = p
      go false p q = absurd (omega (arith, l, q))

    key_is : eqb (u32_at s 60 / 0x40000000 % 2) 1 ≡ true → length m.key ≡ len_of authenticate s 6
    key_is p = key_long ∙ rw p refl

    to_32 : (i : ℕ) → F 32 i → G 32 i
    to_32 i x =
        let c = key_counts x.1 in
        let l = key_is c in (
          x.0,
          counted c (omega (arith, l, x.1)),
          ⊎_elim (λ no e. no (l ∙ e)) (λ no e. no (subst (λ (b : ℕ). FlagSet b 0x40000000) (sym flags_same) (eqb-true _ 1 c))) x.2,
        )

    from_32 : (i : ℕ) → G 32 i → F 32 i
    from_32 i x =
        let l = key_is (eq-eqb _ 1 (x.1.counts refl)) in
        (x.0, omega (arith, l, x.1.some), inl (λ e. x.2 (sym l ∙ e)))

    to : (n i : ℕ) → F n i → G n i
    to n i =
        on_row 5 n _ _ (G n i) (λ e x. absurd (no_5 i x)) (
        on_row 31 n _ _ (G n i) (λ e x. absurd (no_31 i x)) (
        on_row 32 n _ _ (G n i) (λ e x. at 32 e (to_32 i x)) (
        on_row 30 n _ _ (G n i) (λ e x. at 30 e (subst (λ (z : ℕ). Fails30 z i) size_same x)) (
        on_row 33 n _ _ (G n i) (λ e x. at 33 e (subst (λ (z : ℕ). Fails33 room z i) size_same x)) (λ x. absurd x)))))
      where
        at : (k : ℕ) → n ≡ k → G k i → G n i
        at k e g = subst (λ (z : ℕ). G z i) (sym e) g

    from : (n i : ℕ) → G n i → F n i
    from n i =
        on_row 32 n _ _ (F n i) (λ e x. at 32 e (from_32 i x)) (
        on_row 30 n _ _ (F n i) (λ e x. at 30 e (subst (λ (z : ℕ). Fails30 z i) (sym size_same) x)) (
        on_row 33 n _ _ (F n i) (λ e x. at 33 e (subst (λ (z : ℕ). Fails33 room z i) (sym size_same) x)) (λ x. absurd (none n i x))))
      where
        at : (k : ℕ) → n ≡ k → F k i → F n i
        at k e g = subst (λ (z : ℕ). F z i) (sym e) g

    moved : (n i : ℕ) → F n i → rank_in canonical_order n ≡ rank_in authenticate_order n + 7
    moved n i =
        on_row 5 n _ _ (Q n) (λ e x. absurd (no_5 i x)) (
        on_row 31 n _ _ (Q n) (λ e x. absurd (no_31 i x)) (
        on_row 32 n _ _ (Q n) (λ e x. subst Q (sym e) refl) (
        on_row 30 n _ _ (Q n) (λ e x. subst Q (sym e) refl) (
        on_row 33 n _ _ (Q n) (λ e x. subst Q (sym e) refl) (λ x. absurd x)))))
      where
        Q : ℕ → Type 0
        Q k = rank_in canonical_order k ≡ rank_in authenticate_order k + 7

    taken_written : WrittenExactly (meaning_answer room m) canonical_order G (canonical_size s)
    unfolding meaning_answer m
    taken_written =
        same_failures _ authenticate_order canonical_order F G _ (canonical_size s) 7 size_same to from moved
        (authenticate_written room m.flags zero_version m.mic m.lm m.nt m.domain m.user m.workstation m.key refl
        (mic_long s m (each_means s a h)))

pub canonical_written : CanonicalIsWritten
unfolding m
canonical_written room s = go (read_authenticate s).reading refl where
  go : (r : Result Authenticate Refusal) → (read_authenticate s).reading ≡ r → WrittenExactly (canonical_answer room s) canonical_order (CanonicalFails room s) (canonical_size s)
  go (Ok a) p =
      let k = meaning_of s (read_authenticate s).mic a in
      rw (answer_of s k (each_means s a p) room) (taken_written room s a p)
  go (Err e) p =
      rw (answer_refused s e p room)
      (by_verdict canonical_order (CanonicalFails room s) (canonical_rows room s) 0 refl (Err e) (replicate (canonical_size s) 0) (canonical_size s)
      (length-replicate (canonical_size s) 0)
      (first_of_reading room s (number_of e) (field_of e) (((authenticate_judged s).refused (number_of e) (field_of e) (place_of e)).0 (rw p (refl, refl, refl))).0))

pub no_other_refusal : NoOtherRefusal
no_other_refusal room s n i taken t =
    on_row 32 n _ _ Q (λ e x. inl e) (
    on_row 30 n _ _ Q (λ e x. inr (inl e)) (
    on_row 33 n _ _ Q (λ e x. inr (inr e)) (λ x. absurd ((authenticate_judged s).taken.0 taken n i x)))) (((canonical_written room s).refused n i).0 t).fails
  where
    Q : Type 0
    Q = (n ≡ 32) ⊎ ((n ≡ 30) ⊎ (n ≡ 33))
