-- The domain to send is the settings', or the bytes of the challenge's first pair 2.
use Rattle.wire.specs.Check.{on_ok}
use Rattle.std.specs.Prelude.{Result, Option, Ok, Err, Some, None}
use Rattle.av_pairs.specs.declared.AvPair.{AvPair}
use Rattle.wire.specs.declared.refusal.Refusal.{Refusal}
use Prim.Native.Nat.{ℕ, ◌+◌, ◌≤◌, ◌<◌}
use mathlib.Core.Path.{◌≡◌, refl, sym, ap, ◌∙◌, subst}
use mathlib.Core.Logic.{◌⊎◌, inl, inr}
use mathlib.Core.Bool.{Bool, true, false, cond}
use mathlib.Core.List.{List, [], ◌∷◌}
use native.Mathlib.Omega.{arith}
use lib.Dec.{eqb}
use lib.ListN.{length, take, drop, get_or, length-take, length-drop}
use lib.Seq.{ext_get_or, get_or-take, get_or-drop, drop-drop, length-take-le}
use borrow.Author.Tests.{eqb-true, eqb-false, eq-eqb, ne_eqb, le-leb}
use Rattle.av_id.specs.AvId.{is_nb_domain_name}
use Rattle.av_pairs.specs.AvPairs.{pairs_of}
use Rattle.field.specs.declared.Field.{Field}
use Rattle.field.specs.Field.{is_empty, field_start}
use Rattle.head.specs.Head.{flags_at}
use Rattle.negotiate_flags.specs.Flags.{unicode}
use Rattle.read_challenge.specs.declared.Challenge.{Challenge}
use Rattle.read_challenge.specs.Challenge.{fields_at, reading_of, read_challenge, info_of}
use Rattle.respond.specs.Domain.{Part, own_part, value_part, on_pair_found, domain_part}
use Rattle.target_info.specs.TargetInfo.{first_by}
use Rattle.demands.specs.Message.{challenge, Set, Nonempty, len_of, offset_of, Fails}
use Rattle.demands.specs.PairList.{size_of, PairAt, FirstWith, PairThere}
use Rattle.demands.specs.TakenExactly.{InfoBytes, ChallengeHolds}
use Rattle.demands.specs.Answering.{DomainIs, DomainOwn, DomainBytes}
use Rattle.demands.proofs.Bools.{true_not_false, both_ways}
use Rattle.demands.proofs.Message.{Stands}
use Rattle.demands.proofs.OwnBytes.{own_field}
use Rattle.demands.proofs.PairList.{one_place}
use Rattle.demands.proofs.OwnBytes.Found.{JudgedW, first_in_list}
use Rattle.demands.proofs.TakenExactly.Challenge as reading
use Rattle.demands.proofs.TakenExactly.Challenge.{two, holds_or_fails}
use Rattle.demands.proofs.OwnBytes.ChallengeOwn.{taken_as, info_of_lem, asks}

-- a part of a part
part_of : (l : List ℕ) (n at k : ℕ) → at + k ≤ n → take k (drop at (take n l)) ≡ take k (drop at l)
part_of l n at k h =
    ext_get_or 0 (take k (drop at (take n l))) (take k (drop at l)) (simp (length-take, length-drop) (omega arith))
    (λ q b. same q (omega (arith, (simp length-take at b))))
  where
    same : (q : ℕ) → q < k → get_or (take k (drop at (take n l))) q 0 ≡ get_or (take k (drop at l)) q 0
    same q b =
        get_or-take k (drop at (take n l)) q 0 b ∙ get_or-drop at (take n l) q 0 ∙ get_or-take n l (at + q) 0 (omega arith)
        ∙ sym (get_or-take k (drop at l) q 0 b ∙ get_or-drop at l q 0)

pub none_of : (l : List ℕ) → length l ≡ 0 → l ≡ []
none_of [] h = refl
none_of (x ∷ xs) h = absurd (omega arith)

module _ (s b : List ℕ) (info : InfoBytes s b) where
  -- the first pair 2 of a challenge that passed its checks: where its value stands
  module _ (none : (n i : ℕ) → Fails challenge s n i → ⊥) (place : ℕ) (pair : PairAt b place) where
    abbrev f : Field
    f = (fields_at s (flags_at s 20)).target_info

    there : Nonempty challenge s 2
    there = go (two s (Stands challenge s) (λ i g w. w)).1 where
      go : Stands challenge s 2 f → Nonempty challenge s 2
      go w = by (is_empty f) refl where
        by : (e : Bool) → is_empty f ≡ e → Nonempty challenge s 2
        by true p = absurd (omega (arith, pair.whole, ap length (info.absent (w.empty p))))
        by false p = w.full p

    start_is : field_start s f ≡ offset_of challenge s 2
    unfolding field_start
    start_is =
        let o = own_field challenge s 2 f (two s (Stands challenge s) (λ i g w. w)).1 (none 6 2) in
        simp ((o.place there).0, (o.place there).1, le-leb (offset_of challenge s 2 + len_of challenge s 2) (length s) (o.whole there))

    stands : take (size_of b place) (drop (place + 4) b) ≡
        take (length (take (size_of b place) (drop (place + 4) b))) (drop (offset_of challenge s 2 + (place + 4)) s)
    stands =
        let e = info.there there in
        let inside : place + 4 + size_of b place ≤ length b = pair.whole in
        let size : length (take (size_of b place) (drop (place + 4) b)) ≡ size_of b place = length-take-le (size_of b place) (drop (place + 4) b) (simp length-drop (omega arith)) in
        ap (λ (x : List ℕ). take (size_of b place) (drop (place + 4) x)) e
        ∙ part_of (drop (offset_of challenge s 2) s) (len_of challenge s 2) (place + 4) (size_of b place) (omega (arith, inside, ap length e ∙ length-take (len_of challenge s 2) (drop (offset_of challenge s 2) s)))
        ∙ ap (take (size_of b place)) (drop-drop (place + 4) (offset_of challenge s 2) s)
        ∙ ap (λ (x : ℕ). take x (drop (offset_of challenge s 2 + (place + 4)) s)) (sym size)

  abbrev pub theirs : ℕ → Part
  theirs place = record { of_challenge = true; start = offset_of challenge s 2 + (place + 4); bytes = take (size_of b place) (drop (place + 4) b) }

  -- where the settings have none: the first pair 2, or there is none to send
  abbrev pub Judged : List ℕ → Part → Type 0
  Judged own part =
      ((place : ℕ) × FirstWith b 2 place 0 × (part ≡ theirs place) × ChallengeHolds s b × Set challenge s 0x1 × (part.bytes ≡ take (length part.bytes) (drop part.start s)))
      ⊎ ((ChallengeHolds s b → Set challenge s 0x1 → PairThere b 2 → ⊥) × (part ≡ own_part own))

  part_judged : (own : List ℕ) → Judged own
      (on_ok (λ e. own_part own) (reading_of s) (λ c.
      cond (unicode c.flags)
      (on_pair_found (first_by is_nb_domain_name (pairs_of (info_of s c))) (value_part s c) (own_part own))
      (own_part own)))
  unfolding read_challenge
  part_judged own = go (reading_of s) refl (reading.judged s b info) where
    at_place : ChallengeHolds s b → Set challenge s 0x1 → (none : (n i : ℕ) → Fails challenge s n i → ⊥) (place : ℕ) → FirstWith b 2 place 0 → (pair : PairAt b place) → (start : ℕ) →
        start ≡ field_start s (fields_at s (flags_at s 20)).target_info →
        Judged own (record { of_challenge = true; start = start + (place + 4); bytes = take (size_of b place) (drop (place + 4) b) })
    at_place holds set none place first pair start e =
        rw (e ∙ start_is none place pair) (inl (place, first, refl, holds, set, stands none place pair))

    found : ChallengeHolds s b → Set challenge s 0x1 → (none : (n i : ℕ) → Fails challenge s n i → ⊥) (start : ℕ) → start ≡ field_start s (fields_at s (flags_at s 20)).target_info →
        (x : Option AvPair) → JudgedW b 2 is_nb_domain_name (asks 2) 0 x →
        Judged own (on_pair_found x (λ p. record { of_challenge = true; start = start + p.at; bytes = take p.len (drop p.at b) }) (own_part own))
    found holds set none start e (Some p) j = rw j.3 (at_place holds set none j.0 j.1 j.2 start e)
    found holds set none start e None j = inr (λ h u p. j p.0 p.1, refl)

    made : Challenge → List ℕ → Part
    made c l =
        cond (unicode c.flags)
        (on_pair_found (first_by is_nb_domain_name (pairs_of l)) (λ p. record { of_challenge = true; start = field_start s c.fields.target_info + p.at; bytes = take p.len (drop p.at l) }) (own_part own))
        (own_part own)

    wide : (u : Bool) → unicode (flags_at s 20) ≡ u → ChallengeHolds s b → (none : (n i : ℕ) → Fails challenge s n i → ⊥) →
        Judged own (cond u
        (on_pair_found (first_by is_nb_domain_name (pairs_of b)) (λ p. record { of_challenge = true; start = field_start s (fields_at s (flags_at s 20)).target_info + p.at; bytes = take p.len (drop p.at b) }) (own_part own))
        (own_part own))
    wide true p holds none = found holds (eqb-true _ 1 p) none (field_start s (fields_at s (flags_at s 20)).target_info) refl (first_by is_nb_domain_name (pairs_of b)) (first_in_list b 2 is_nb_domain_name (asks 2))
    wide false p holds none = inr (λ h u q. both_ways (unicode (flags_at s 20)) (eq-eqb _ 1 u) p, refl)

    go : (r : Result Challenge Refusal) → reading_of s ≡ r → reading.Judged s b info r → Judged own
        (on_ok (λ e. own_part own) r (λ c.
        cond (unicode c.flags)
        (on_pair_found (first_by is_nb_domain_name (pairs_of (info_of s c))) (value_part s c) (own_part own))
        (own_part own)))
    go (Ok c) e holds =
        let t = taken_as s c e in
        let l = info_of_lem s b c info e in
        subst (λ (x : List ℕ). Judged own (made c x)) (sym l)
        (subst (λ (x : Challenge). Judged own (made x b)) (sym t.answer) (wide (unicode (flags_at s 20)) refl holds t.none))
    go (Err d) e fails = inr (λ h u p. holds_or_fails s b _ _ _ h fails, refl)

  pub domain_judged : (own : List ℕ) → length own ≡ 0 → Judged own (domain_part own s)
  unfolding domain_part
  domain_judged own e = simp (eq-eqb (length own) 0 e) (part_judged own)

  pub domain_given : (own : List ℕ) → 0 < length own → domain_part own s ≡ own_part own
  unfolding domain_part
  domain_given own l = simp (ne_eqb (length own) 0 (λ e. omega arith))

  domain_is : (own : List ℕ) → DomainIs own s b (domain_part own s)
  domain_is own = go (eqb (length own) 0) refl where
    same : (x : Part) → x ≡ own_part own → x.of_challenge ≡ true → ⊥
    same x e h = true_not_false (sym h ∙ ap (λ (y : Part). y.of_challenge) e)

    empty : length own ≡ 0 → Judged own (domain_part own s) → DomainIs own s b (domain_part own s)
    empty z (inl t) =
        record {
          setting = λ l. absurd (omega arith);
          pair = λ e h u place first. t.2 ∙ ap theirs (one_place b 2 t.0 place 0 t.1 first);
          none = λ e no. absurd (no t.3 t.4 (t.0, t.1));
          stands = λ e. t.5;
        }
    empty z (inr t) =
        record {
          setting = λ l. absurd (omega arith);
          pair = λ e h u place first. absurd (t.0 h u (place, first));
          none = λ e no. t.1 ∙ ap own_part (none_of own z);
          stands = λ e. absurd (same (domain_part own s) t.1 e);
        }

    go : (t : Bool) → eqb (length own) 0 ≡ t → DomainIs own s b (domain_part own s)
    go true p = let z = eqb-true (length own) 0 p in empty z (domain_judged own z)
    go false p = let g = domain_given own (some (eqb-false (length own) 0 p)) in
        record {
          setting = λ l. g;
          pair = λ e h u place first. absurd (eqb-false (length own) 0 p e);
          none = λ e no. absurd (eqb-false (length own) 0 p e);
          stands = λ e. absurd (same (domain_part own s) g e);
        }
      where
        some : (length own ≡ 0 → ⊥) → 0 < length own
        some d = omega (arith, d)

pub domain_own : DomainOwn
domain_own own s b info = domain_is s b info own

pub domain_bytes : DomainBytes
domain_bytes own s = refl
