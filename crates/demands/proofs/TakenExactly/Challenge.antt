-- CHALLENGE is taken exactly when every check holds, and refused by the first that fails.
use Rattle.wire.specs.Check.{on_ok}
use Rattle.std.specs.Prelude.{Result, Ok, Err, ⊤}
use Rattle.wire.specs.declared.refusal.Refusal.{Refusal}
use Prim.Native.Nat.{ℕ, ◌+◌, ◌<◌}
use mathlib.Core.Path.{◌≡◌, refl, sym, ap, ◌∙◌, subst}
use mathlib.Core.Bool.{Bool, true, false}
use mathlib.Core.List.{List, []}
use native.Mathlib.Omega.{arith}
use lib.ListN.{length, take, drop}
use borrow.Author.Tests.{eqb-true, eqb-false, eq-eqb}
use Rattle.field.specs.declared.Field.{Field}
use Rattle.negotiate_flags.specs.declared.NegotiateFlags.{NegotiateFlags}
use Rattle.wire.specs.declared.refusal.Refusal.TheVariants.{OddName}
use Rattle.wire.specs.Check.{on_clear}
use Rattle.field.specs.Field.{is_empty, field_at, even_name, field_bytes}
use Rattle.negotiate_flags.specs.Flags.{unicode, request_target, target_info}
use Rattle.head.specs.Head.{flags_at, read_head}
use Rattle.wire.specs.Refusal.{number_of, field_of, place_of}
use Rattle.wire.proofs.Places.{moved_number, moved_at, placeless_number}
use Rattle.av_pairs.specs.AvPairs.{check_pairs, count_pairs, pairs_of}
use Rattle.read_challenge.specs.declared.Challenge.{Challenge}
use Rattle.read_challenge.specs.Challenge.{layout, fields_at, all_fields, names, check_ends, check_begins, check_names, check_fields, fields_of, info_of, in_message, check_info, reading_of, read_challenge}
use Rattle.verdict.specs.Verdict.{chal_verdict}
use Rattle.demands.specs.Order.{First}
use Rattle.demands.specs.Message.{challenge, Fails, len_of, offset_of}
use Rattle.demands.specs.PairList.{Holds, ListFails}
use Rattle.demands.specs.TakenExactly.{InfoBytes, InfoIsThere, ChallengeHolds, ChallengeFails, in_fields, in_list, ChallengeJudged}
use Rattle.demands.proofs.Order.{Free, only_first, next_check, skip}
use Rattle.demands.proofs.Message.{Stands, even_failed, even_held}
use Rattle.demands.proofs.Message.Fields.{AllStand, Link, ends_judged, begins_judged}
use Rattle.demands.proofs.Message as fields
use Rattle.demands.proofs.Message.Chain.{JudgedV, JudgedH, over_judged, head_judged, then, beyond, up_to_9}
use Rattle.demands.proofs.Judged.{By, judged_by}
use Rattle.demands.proofs.OwnBytes.{own_field}
use Rattle.demands.proofs.PairList.{JudgedC, count_judged, holds_or_fault, one_first, first_number}

module _ (s : List ℕ) where
  -- each field of the reader is its head's
  target_name : Stands challenge s 1 (field_at s 12 (request_target (flags_at s 20)))
  target_name =
      fields.stands challenge s 1 (request_target (flags_at s 20)) (omega arith) (omega arith)
      (λ h. (λ e. eqb-true _ 1 h, λ e. absurd (omega arith))) (λ h c. eqb-false _ 1 h (c.0 refl))

  target_info_is : Stands challenge s 2 (field_at s 40 (target_info (flags_at s 20)))
  target_info_is =
      fields.stands challenge s 2 (target_info (flags_at s 20)) (omega arith) (omega arith)
      (λ h. (λ e. absurd (omega arith), λ e. eqb-true _ 1 h)) (λ h c. eqb-false _ 1 h (c.1 refl))

  pub two : (P : ℕ → Field → Type 0) → ((i : ℕ) (f : Field) → Stands challenge s i f → P i f) →
      P 1 (fields_at s (flags_at s 20)).target_name × P 2 (fields_at s (flags_at s 20)).target_info
  unfolding fields_at
  two P h = (h 1 _ target_name, h 2 _ target_info_is)

  pub all : AllStand challenge s 1 (all_fields (fields_at s (flags_at s 20)))
  all = let x = two (Stands challenge s) (λ i f w. w) in (refl, x.0, (refl, x.1, tt))

  -- check 8; check 9 has no row for a kind with no secrets
  names_judged : Free (Fails challenge s) 8 0 → JudgedV challenge s 9 (check_names (unicode (flags_at s 20)) (fields_at s (flags_at s 20)))
  unfolding check_names
  names_judged free =
      let x = two (λ i f. challenge.Name i → Link challenge s 8 (even_name (unicode (flags_at s 20))) i f)
      (λ i f w n. (even_failed challenge s i f w _ (eqb-true _ 1) n, even_held challenge s i f w _ (eq-eqb _ 1))) in
      over_judged challenge s 8 9 (even_name (unicode (flags_at s 20))) OddName refl (λ j. (refl, refl)) (names (fields_at s (flags_at s 20))) 1
      (refl, (x.0 refl).0, (x.0 refl).1, tt)
      (skip (Fails challenge s) 8 1 free (λ j l h. omega (arith, h.0.first)))
      (λ j l h. omega (arith, h.1))

  fields_judged : Free (Fails challenge s) 6 0 → JudgedV challenge s 9 (check_fields (length s) (unicode (flags_at s 20)) (fields_at s (flags_at s 20)))
  unfolding check_fields check_ends check_begins
  fields_judged free =
      let f = fields_at s (flags_at s 20) in
      let u = unicode (flags_at s 20) in
      then challenge s 7 9 (check_ends (length s) f) (on_clear Err (check_begins f) (check_names u f)) (ends_judged challenge s (all_fields f) all refl free) (λ c7.
      then challenge s 8 9 (check_begins f) (check_names u f) (begins_judged challenge s (all_fields f) all refl c7) names_judged)

  -- checks 1 to 8
  abbrev pub JudgedF : Result Challenge Refusal → Type 0
  JudgedF (Ok c) = ((n i : ℕ) → Fails challenge s n i → ⊥) × (c ≡ record { flags = flags_at s 20; fields = fields_at s (flags_at s 20) })
  JudgedF (Err e) = First (Fails challenge s) (number_of e) (field_of e)

  pub fields_of_judged : JudgedF (fields_of s)
  unfolding fields_of
  fields_of_judged = go (read_head layout s) (head_judged challenge s (omega arith)) where
    rest : NegotiateFlags → Result Challenge Refusal
    rest w = on_clear Err (check_fields (length s) (unicode w) (fields_at s w)) (Ok (record { flags = w; fields = fields_at s w }))

    last : (v : Result ⊤ Refusal) → JudgedV challenge s 9 v → JudgedF (on_clear Err v (Ok (record { flags = flags_at s 20; fields = fields_at s (flags_at s 20) })))
    last (Ok tt) free = (beyond challenge s (next_check (Fails challenge s) 9 0 10 refl free (λ j l h. absurd h.2.3)), refl)
    last (Err e) f = f

    go : (h : Result NegotiateFlags Refusal) → JudgedH challenge s h → JudgedF (on_ok Err h rest)
    go (Ok w) j = subst (λ (x : NegotiateFlags). JudgedF (rest x)) (sym j.0) (last (check_fields (length s) (unicode (flags_at s 20)) (fields_at s (flags_at s 20))) (fields_judged j.1))
    go (Err e) j = j

  -- TargetInfo's bytes of a message that passed them
  pub info_is : (b : List ℕ) → InfoBytes s b → ((n i : ℕ) → Fails challenge s n i → ⊥) → field_bytes s (fields_at s (flags_at s 20)).target_info ≡ b
  info_is b info none = go (two (λ i f. Stands challenge s i f) (λ i f w. w)).1 where
    f : Field
    f = (fields_at s (flags_at s 20)).target_info

    go : Stands challenge s 2 f → field_bytes s f ≡ b
    go w = by (is_empty f) refl where
      by : (e : Bool) → is_empty f ≡ e → field_bytes s f ≡ b
      by true p = ((own_field challenge s 2 f w (none 6 2)).none (w.empty p)).2 ∙ sym (info.absent (w.empty p))
      by false p = (own_field challenge s 2 f w (none 6 2)).bytes (w.full p) ∙ sym (info.there (w.full p))

pub info_there : InfoIsThere
info_there s = go (two s (Stands challenge s) (λ i f w. w)).1 where
  go : Stands challenge s 2 (fields_at s (flags_at s 20)).target_info → (b : List ℕ) × InfoBytes s b
  go w = by (is_empty (fields_at s (flags_at s 20)).target_info) refl where
    by : (e : Bool) → is_empty (fields_at s (flags_at s 20)).target_info ≡ e → (b : List ℕ) × InfoBytes s b
    by true p = ([], record { there = λ ne. absurd (w.empty p ne); absent = λ none. refl })
    by false p = (take (len_of challenge s 2) (drop (offset_of challenge s 2) s), record { there = λ ne. refl; absent = λ none. absurd (none (w.full p)) })

-- checks 10 to 13 over a list
abbrev pub JudgedP : List ℕ → Result ⊤ Refusal → Type 0
JudgedP b (Ok tt) = (n : ℕ) × Holds b n
JudgedP b (Err e) = ListFails b (number_of e) (field_of e) (place_of e)

pub pairs_judged : (b : List ℕ) → JudgedP b (check_pairs b)
unfolding count_pairs
pairs_judged b = go (check_pairs b) (count_judged b) where
  go : (v : Result ⊤ Refusal) → JudgedC b (on_clear Err v (Ok (length (pairs_of b)))) → JudgedP b v
  go (Ok tt) j = (length (pairs_of b), j)
  go (Err e) j = j

module _ (s b : List ℕ) (info : InfoBytes s b) where
  abbrev pub Judged : Result Challenge Refusal → Type 0
  Judged (Ok c) = ChallengeHolds s b
  Judged (Err e) = ChallengeFails s b (number_of e) (field_of e) (place_of e)

  abbrev field : Field
  field = (fields_at s (flags_at s 20)).target_info

  -- a list that isn't empty begins at the offset of its head
  offset_is : 0 < length b → field.offset ≡ offset_of challenge s 2
  offset_is l = go (is_empty field) refl (two s (Stands challenge s) (λ i f w. w)).1 where
    go : (e : Bool) → is_empty field ≡ e → Stands challenge s 2 field → field.offset ≡ offset_of challenge s 2
    go true p w = absurd (let z = ap length (info.absent (w.empty p)) in omega (arith, z))
    go false p w = w.offset p

  pub judged : Judged (read_challenge s).reading
  unfolding read_challenge reading_of check_info
  judged = go (fields_of s) (fields_of_judged s) where
    last : (c : Challenge) (v : Result ⊤ Refusal) → ((n i : ℕ) → Fails challenge s n i → ⊥) → JudgedP b v → Judged (on_clear Err (in_message field v) (Ok c))
    last c (Ok tt) none j = record { fields = none; count = j.0; list = j.1 }
    last c (Err e) none j =
        let same = moved_number field.offset e in
        let moved = moved_at field.offset e (first_number b j.2) in
        rw (same.0, same.1) (in_list none j (moved ∙ ap (λ (x : ℕ). x + place_of e) (offset_is j.0)))

    go : (r : Result Challenge Refusal) → JudgedF s r →
        Judged (on_ok Err r (λ c. on_clear Err (in_message c.fields.target_info (check_pairs (info_of s c))) (Ok c)))
    go (Ok c) j =
        rw (j.1, info_is s b info j.0) (last (record { flags = flags_at s 20; fields = fields_at s (flags_at s 20) }) (check_pairs b) j.0 (pairs_judged b))
    go (Err e) j = in_fields (placeless_number e (λ b. omega (arith, b.0, up_to_9 challenge s (number_of e) (field_of e) j.fails))) j

-- not both; and there is one reason only
pub holds_or_fails : (s b : List ℕ) (n i p : ℕ) → ChallengeHolds s b → ChallengeFails s b n i p → ⊥
holds_or_fails s b n i p h (in_fields z f) = h.fields n i f.fails
holds_or_fails s b n i p h (in_list {q = q} none f z) = holds_or_fault b h.count n q h.list f.0 f.2

pub one_reason : (s b : List ℕ) (m j o n i p : ℕ) → ChallengeFails s b m j o → ChallengeFails s b n i p → (m ≡ n) × (j ≡ i) × (o ≡ p)
one_reason s b m j o n i p (in_fields x f) (in_fields y g) = let one = only_first (Fails challenge s) m j n i f g in (one.0, one.1, x ∙ sym y)
one_reason s b m j o n i p (in_fields x f) (in_list none g y) = absurd (none m j f.fails)
one_reason s b m j o n i p (in_list none f x) (in_fields y g) = absurd (none n i g.fails)
one_reason s b m j o n i p (in_list u f x) (in_list v g y) =
    let one = one_first b f.2 g.2 in
    (one.0, f.1 ∙ sym g.1, x ∙ ap (λ (z : ℕ). offset_of challenge s 2 + z) one.1 ∙ sym y)

pub challenge_judged : ChallengeJudged
challenge_judged s b info =
    judged_by (ChallengeHolds s b) (ChallengeFails s b) (holds_or_fails s b) (one_reason s b)
    (chal_verdict (read_challenge s).reading) (go (read_challenge s).reading (judged s b info))
  where
    go : (r : Result Challenge Refusal) → Judged s b info r → By (ChallengeHolds s b) (ChallengeFails s b) (chal_verdict r)
    go (Ok c) j = j
    go (Err e) j = j
