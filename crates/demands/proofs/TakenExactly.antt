-- AUTHENTICATE is taken exactly when every check holds, and refused by the first that fails.
pub mod Challenge
pub mod Negotiate
pub mod Places
use Rattle.wire.specs.Check.{on_ok}
use Rattle.std.specs.Prelude.{Result, Ok, Err, ⊤}
use Rattle.wire.specs.declared.refusal.Refusal.{Refusal}
use Prim.Native.Nat.{ℕ, ◌≤◌}
use mathlib.Core.Path.{◌≡◌, refl, sym, subst}
use mathlib.Core.Logic.{inl, inr, ⊎_elim}
use mathlib.Core.Bool.{Bool, true, false, ◌||◌, not}
use mathlib.Core.List.{List}
use native.Mathlib.Omega.{arith}
use lib.ListN.{length}
use borrow.Author.Tests.{eqb-true, eqb-false, eq-eqb}
use Rattle.wire.specs.declared.check.Checked.{Checked}
use Rattle.wire.specs.declared.check.Checked.TheVariants.{Held, Failed}
use Rattle.wire.proofs.Laws.{held_true}
use Rattle.field.specs.declared.Field.{Field}
use Rattle.negotiate_flags.specs.declared.NegotiateFlags.{NegotiateFlags}
use Rattle.wire.specs.declared.refusal.Refusal.TheVariants.{OddName, NameOverSecret}
use Rattle.wire.specs.Check.{on_clear}
use Rattle.field.specs.Field.{field_at, even_name, share}
use Rattle.negotiate_flags.specs.Flags.{unicode, key_exch}
use Rattle.head.specs.Head.{flags_at, read_head}
use Rattle.wire.specs.Refusal.{number_of, field_of}
use Rattle.read_authenticate.specs.declared.Authenticate.{Authenticate}
use Rattle.read_authenticate.specs.declared.Fields.{Fields}
use Rattle.read_authenticate.specs.Authenticate.{layout, fields_at, all_fields, names, check_ends, check_begins, check_names, check_shared, check_fields, apart, mic_present, reading_of, read_authenticate}
use Rattle.verdict.specs.Verdict.{auth_verdict}
use Rattle.demands.specs.Order.{First}
use Rattle.demands.specs.Message.{authenticate, Nonempty, Covers, Fails}
use Rattle.demands.specs.TakenExactly.{AuthenticateJudged}
use Rattle.demands.proofs.Order.{Free, skip}
use Rattle.demands.proofs.Message.{Stands, even_failed, even_held, share_true, share_false}
use Rattle.demands.proofs.Message.Fields.{AllStand, Link, ends_judged, begins_judged}
use Rattle.demands.proofs.Message as fields
use Rattle.demands.proofs.Message.Chain.{JudgedV, JudgedH, Links, over_judged, head_judged, then, beyond, up_to_9}
use Rattle.demands.proofs.Bools.{true_not_false, failed_false}
use Rattle.demands.proofs.Judged.{FirstBy, judged_first}

module _ (s : List ℕ) where
  -- each field of the reader is its head's
  always : (i : ℕ) → 1 ≤ i → i ≤ 5 → Stands authenticate s i (field_at s (authenticate.head i) true)
  always i h l = fields.stands authenticate s i true h (omega arith) (λ t e. absurd (omega arith)) (λ t. absurd (true_not_false t))

  keyed : Stands authenticate s 6 (field_at s 52 (key_exch (flags_at s 60)))
  keyed =
      fields.stands authenticate s 6 (key_exch (flags_at s 60)) (omega arith) (omega arith)
      (λ h e. eqb-true _ 1 h) (λ h c. eqb-false _ 1 h (c refl))

  pub six : (P : ℕ → Field → Type 0) → ((i : ℕ) (f : Field) → Stands authenticate s i f → P i f) →
      P 1 (fields_at s (flags_at s 60)).lm × P 2 (fields_at s (flags_at s 60)).nt × P 3 (fields_at s (flags_at s 60)).domain ×
      P 4 (fields_at s (flags_at s 60)).user × P 5 (fields_at s (flags_at s 60)).workstation × P 6 (fields_at s (flags_at s 60)).key
  unfolding fields_at
  six P h = (
    h 1 _ (always 1 (omega arith) (omega arith)),
    h 2 _ (always 2 (omega arith) (omega arith)),
    h 3 _ (always 3 (omega arith) (omega arith)),
    h 4 _ (always 4 (omega arith) (omega arith)),
    h 5 _ (always 5 (omega arith) (omega arith)),
    h 6 _ keyed,
  )

  pub all : AllStand authenticate s 1 (all_fields (fields_at s (flags_at s 60)))
  all =
      let x = six (Stands authenticate s) (λ i f w. w) in
      (refl, x.0, (refl, x.1, (refl, x.2, (refl, x.3, (refl, x.4, (refl, x.5, tt))))))

  name_links : (n : ℕ) (ok : Field → Checked) → ((i : ℕ) (f : Field) → Stands authenticate s i f → authenticate.Name i → Link authenticate s n ok i f) →
      Links authenticate s n ok 3 (names (fields_at s (flags_at s 60)))
  name_links n ok l =
      let x = six (λ i f. authenticate.Name i → Link authenticate s n ok i f) l in
      let d = x.2 (omega arith, omega arith) in
      let u = x.3 (omega arith, omega arith) in
      let w = x.4 (omega arith, omega arith) in
      (refl, d.0, d.1, (refl, u.0, u.1, (refl, w.0, w.1, tt)))

  -- checks 8 and 9
  names_judged : Free (Fails authenticate s) 8 0 → JudgedV authenticate s 9 (check_names (unicode (flags_at s 60)) (fields_at s (flags_at s 60)))
  unfolding check_names
  names_judged free =
      over_judged authenticate s 8 9 (even_name (unicode (flags_at s 60))) OddName refl (λ j. (refl, refl)) (names (fields_at s (flags_at s 60))) 3
      (name_links 8 (even_name (unicode (flags_at s 60)))
      (λ i f w n. (even_failed authenticate s i f w _ (eqb-true _ 1) n, even_held authenticate s i f w _ (eq-eqb _ 1))))
      (skip (Fails authenticate s) 8 3 free (λ j l h. omega (arith, h.1.0)))
      (λ j l h. omega (arith, h.1.1))

  shared_link : (i : ℕ) (f : Field) → Stands authenticate s i f → authenticate.Name i → Link authenticate s 9 (apart (fields_at s (flags_at s 60))) i f
  shared_link i f w n = let x = six (λ k g. Stands authenticate s k g) (λ k g v. v) in (failed x.0 x.1 x.5, held x.0 x.1 x.5)
    where
      all : Fields
      all = fields_at s (flags_at s 60)

      hit : (k : ℕ) (g : Field) → Stands authenticate s k g → authenticate.Secret k → share f g ≡ true → Fails authenticate s 9 i
      hit k g v k-secret h =
          let t = share_true authenticate s i k f g w v h in
          (t.0, n, (k, t.2.0, t.1, k-secret, t.2.1, t.2.2))

      miss : (k : ℕ) (g : Field) → Stands authenticate s k g → share f g ≡ false → (j p : ℕ) → j ≡ k → Nonempty authenticate s i → Nonempty authenticate s j → Covers authenticate s i p → Covers authenticate s j p → ⊥
      miss k g v h j p e a b c d =
          share_false authenticate s i k f g w v h a (subst (λ (x : ℕ). Nonempty authenticate s x) e b) p c (subst (λ (x : ℕ). Covers authenticate s x p) e d)

      failed : Stands authenticate s 1 all.lm → Stands authenticate s 2 all.nt → Stands authenticate s 6 all.key → apart all f ≡ Failed → Fails authenticate s 9 i
      failed a b c h = go (share f all.lm) (share f all.nt) (share f all.key) refl refl refl (failed_false _ h) where
        go : (x y z : Bool) → share f all.lm ≡ x → share f all.nt ≡ y → share f all.key ≡ z → not ((x || y) || z) ≡ false → Fails authenticate s 9 i
        go true y z p q r e = hit 1 all.lm a (inl refl) p
        go false true z p q r e = hit 2 all.nt b (inr (inl refl)) q
        go false false true p q r e = hit 6 all.key c (inr (inr refl)) r
        go false false false p q r e = absurd (true_not_false e)

      held : Stands authenticate s 1 all.lm → Stands authenticate s 2 all.nt → Stands authenticate s 6 all.key → apart all f ≡ Held → Fails authenticate s 9 i → ⊥
      held a b c h fails = go (share f all.lm) (share f all.nt) (share f all.key) refl refl refl (held_true _ h) where
        go : (x y z : Bool) → share f all.lm ≡ x → share f all.nt ≡ y → share f all.key ≡ z → not ((x || y) || z) ≡ true → ⊥
        go true y z p q r e = true_not_false (sym e)
        go false true z p q r e = true_not_false (sym e)
        go false false true p q r e = true_not_false (sym e)
        go false false false p q r e =
            let v = fails.2 in
            ⊎_elim (λ k. miss 1 all.lm a p v.0 v.1 k fails.0 v.2 v.4 v.5)
            (⊎_elim (λ k. miss 2 all.nt b q v.0 v.1 k fails.0 v.2 v.4 v.5)
            (λ k. miss 6 all.key c r v.0 v.1 k fails.0 v.2 v.4 v.5))
            v.3

  shared_judged : Free (Fails authenticate s) 9 0 → JudgedV authenticate s 10 (check_shared (fields_at s (flags_at s 60)))
  unfolding check_shared
  shared_judged free =
      over_judged authenticate s 9 10 (apart (fields_at s (flags_at s 60))) NameOverSecret refl (λ j. (refl, refl)) (names (fields_at s (flags_at s 60))) 3
      (name_links 9 (apart (fields_at s (flags_at s 60))) shared_link)
      (skip (Fails authenticate s) 9 3 free (λ j l h. omega (arith, h.1.0)))
      (λ j l h. omega (arith, h.1.1))

  fields_judged : Free (Fails authenticate s) 6 0 → JudgedV authenticate s 10 (check_fields (length s) (unicode (flags_at s 60)) (fields_at s (flags_at s 60)))
  unfolding check_fields check_ends check_begins
  fields_judged free =
      let f = fields_at s (flags_at s 60) in
      let u = unicode (flags_at s 60) in
      then authenticate s 7 10 (check_ends (length s) f) (on_clear Err (check_begins f) (on_clear Err (check_names u f) (check_shared f))) (ends_judged authenticate s (all_fields f) all refl free) (λ c7.
      then authenticate s 8 10 (check_begins f) (on_clear Err (check_names u f) (check_shared f)) (begins_judged authenticate s (all_fields f) all refl c7) (λ c8.
      then authenticate s 9 10 (check_names u f) (check_shared f) (names_judged c8) shared_judged))

  -- the whole reading
  abbrev Judged : Result Authenticate Refusal → Type 0
  Judged (Ok a) = (n i : ℕ) → Fails authenticate s n i → ⊥
  Judged (Err e) = First (Fails authenticate s) (number_of e) (field_of e)

  pub judged : Judged (read_authenticate s).reading
  unfolding read_authenticate reading_of
  judged = go (read_head layout s) (head_judged authenticate s (omega arith)) where
    answer : NegotiateFlags → Authenticate
    answer w = record { flags = w; fields = fields_at s w; mic_present = mic_present (length s) (fields_at s w) }

    rest : NegotiateFlags → Result Authenticate Refusal
    rest w = on_clear Err (check_fields (length s) (unicode w) (fields_at s w)) (Ok (answer w))

    last : (v : Result ⊤ Refusal) (a : Authenticate) → JudgedV authenticate s 10 v → Judged (on_clear Err v (Ok a))
    last (Ok tt) a free = beyond authenticate s free
    last (Err e) a f = f

    go : (h : Result NegotiateFlags Refusal) → JudgedH authenticate s h → Judged (on_ok Err h rest)
    go (Ok w) j = subst (λ (x : NegotiateFlags). Judged (rest x)) (sym j.0) (last (check_fields (length s) (unicode (flags_at s 60)) (fields_at s (flags_at s 60))) (answer (flags_at s 60)) (fields_judged j.1))
    go (Err e) j = j

pub authenticate_judged : AuthenticateJudged
authenticate_judged s =
    judged_first (Fails authenticate s) (up_to_9 authenticate s) (auth_verdict (read_authenticate s).reading) (go (read_authenticate s).reading (judged s))
  where
    go : (r : Result Authenticate Refusal) → Judged s r → FirstBy (Fails authenticate s) (auth_verdict r)
    go (Ok a) j = j
    go (Err e) j = j
