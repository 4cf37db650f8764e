-- The decision on a challenge: refused exactly by the reading, 20 or 21, and else the challenge's flags and timestamp.
use Rattle.wire.specs.Check.{on_ok}
use Rattle.std.specs.Prelude.{Result, Option, Ok, Err, Some, None, is_some}
use Rattle.wire.specs.declared.refusal.Refusal.{Refusal}
use Prim.Native.Nat.{ℕ, ◌+◌}
use mathlib.Core.Path.{◌≡◌, refl, sym, ap, ◌∙◌, subst}
use mathlib.Core.Logic.{inl, inr, ⊎_elim, ◌↔◌}
use mathlib.Core.Bool.{Bool, true, false, ◌||◌, ◌&&◌, not}
use mathlib.Core.List.{List}
use native.Mathlib.Omega.{arith}
use borrow.Author.Tests.{eqb-true, eqb-false}
use Rattle.wire.specs.declared.check.Checked.TheVariants.{Held, Failed}
use Rattle.wire.specs.declared.refusal.Refusal.TheVariants.{No128Bit, NoServerNames}
use Rattle.wire.specs.Check.{after}
use Rattle.wire.specs.Number.{u64_at}
use Rattle.wire.specs.Refusal.{number_of, field_of, place_of}
use Rattle.wire.proofs.Laws.{held_true}
use Rattle.av_id.specs.AvId.{is_nb_computer_name, is_nb_domain_name}
use Rattle.av_pairs.specs.AvPairs.{pairs_of}
use Rattle.negotiate_flags.specs.Flags.{negotiate128}
use Rattle.head.specs.Head.{flags_at}
use Rattle.read_challenge.specs.declared.Challenge.{Challenge}
use Rattle.read_challenge.specs.Challenge.{reading_of, read_challenge, info_of}
use Rattle.respond.specs.declared.decision.Decision.{Decision}
use Rattle.respond.specs.declared.decision.Settings.{Settings}
use Rattle.respond.specs.Decision.{strength_holds, server_names_hold, decision_on}
use Rattle.target_info.specs.TargetInfo.{first_by, timestamp_in, server_names_in}
use Rattle.demands.specs.PairList.{PairThere}
use Rattle.demands.specs.TakenExactly.{InfoBytes, ChallengeHolds}
use Rattle.demands.specs.Answering.{Fails20, Fails21, Agreed, Declined, by_reading, by_20, by_21, TimestampIs, DecisionRefusedWith, DecisionIsRefused, DecisionIsTaken}
use Rattle.demands.proofs.Bools.{true_not_false, both_ways, failed_false, chained}
use Rattle.demands.proofs.PairList.{one_place}
use Rattle.demands.proofs.TakenExactly.Challenge as reading
use Rattle.demands.proofs.TakenExactly.Challenge.{holds_or_fails, one_reason}
use Rattle.demands.proofs.OwnBytes.ChallengeOwn.{taken_as, info_of_lem, asks, time_judged, no_time_judged, there_is}

-- ---- the timestamp

pub timestamp_is : (b : List ℕ) → TimestampIs b (timestamp_in b)
timestamp_is b = go (timestamp_in b) refl where
  go : (t : Option ℕ) → timestamp_in b ≡ t → TimestampIs b t
  go (Some t) e = time_judged b t e
  go None e = λ p. no_time_judged b e p.0 p.1

pub one_timestamp : (b : List ℕ) (t u : Option ℕ) → TimestampIs b t → TimestampIs b u → t ≡ u
one_timestamp b (Some t) (Some u) p q =
    ap Some (p.2 ∙ ap (λ (x : ℕ). u64_at b (x + 4)) (one_place b 7 p.0 q.0 0 p.1 q.1) ∙ sym q.2)
one_timestamp b (Some t) None p q = absurd (q (p.0, p.1))
one_timestamp b None (Some u) p q = absurd (p (q.0, q.1))
one_timestamp b None None p q = refl

-- ---- checks 20 and 21

failed_20 : (settings : Settings) (s : List ℕ) → strength_holds settings (flags_at s 20) ≡ Failed → Fails20 settings s
failed_20 settings s f = go settings.demand_128 (negotiate128 (flags_at s 20)) refl refl (failed_false _ f) where
  go : (a c : Bool) → settings.demand_128 ≡ a → negotiate128 (flags_at s 20) ≡ c → (not a || c) ≡ false → Fails20 settings s
  go true true p q e = absurd (true_not_false e)
  go true false p q e = (p, eqb-false _ 1 q)
  go false c p q e = absurd (true_not_false e)

held_20 : (settings : Settings) (s : List ℕ) → strength_holds settings (flags_at s 20) ≡ Held → Fails20 settings s → ⊥
held_20 settings s h x = go settings.demand_128 (negotiate128 (flags_at s 20)) refl refl (held_true _ h) where
  go : (a c : Bool) → settings.demand_128 ≡ a → negotiate128 (flags_at s 20) ≡ c → (not a || c) ≡ true → ⊥
  go true true p q e = x.1 (eqb-true _ 1 q)
  go true false p q e = true_not_false (sym e)
  go false c p q e = true_not_false (sym x.0 ∙ p)

module _ (settings : Settings) (b : List ℕ) where
  -- whether pairs 1 and 2 are there
  abbrev one : Bool
  one = is_some (first_by is_nb_computer_name (pairs_of b))

  abbrev two : Bool
  two = is_some (first_by is_nb_domain_name (pairs_of b))

  one_there : (one ≡ true) ↔ PairThere b 1
  one_there = there_is b 1 is_nb_computer_name (asks 1)

  two_there : (two ≡ true) ↔ PairThere b 2
  two_there = there_is b 2 is_nb_domain_name (asks 2)

  failed_21 : server_names_hold settings (server_names_in b) ≡ Failed → Fails21 settings b
  unfolding server_names_in
  failed_21 f = go settings.ntlmv2 settings.integrity settings.confidentiality one two refl refl refl refl refl (failed_false _ f) where
    go : (v i c x y : Bool) → settings.ntlmv2 ≡ v → settings.integrity ≡ i → settings.confidentiality ≡ c → one ≡ x → two ≡ y →
        (not (v && (i || c)) || (x && y)) ≡ false → Fails21 settings b
    go true true c true true p q r t u e = absurd (true_not_false e)
    go true true c true false p q r t u e = (p, inl q, λ z. both_ways two (two_there.1 z.1) u)
    go true true c false y p q r t u e = (p, inl q, λ z. both_ways one (one_there.1 z.0) t)
    go true false true true true p q r t u e = absurd (true_not_false e)
    go true false true true false p q r t u e = (p, inr r, λ z. both_ways two (two_there.1 z.1) u)
    go true false true false y p q r t u e = (p, inr r, λ z. both_ways one (one_there.1 z.0) t)
    go true false false x y p q r t u e = absurd (true_not_false e)
    go false i c x y p q r t u e = absurd (true_not_false e)

  held_21 : server_names_hold settings (server_names_in b) ≡ Held → Fails21 settings b → ⊥
  unfolding server_names_in
  held_21 h w = go settings.ntlmv2 settings.integrity settings.confidentiality one two refl refl refl refl refl (held_true _ h) where
    wanted : (i c : Bool) → settings.integrity ≡ i → settings.confidentiality ≡ c → (i || c) ≡ false → ⊥
    wanted true c q r e = true_not_false e
    wanted false true q r e = true_not_false e
    wanted false false q r e = ⊎_elim (λ z. both_ways settings.integrity z q) (λ z. both_ways settings.confidentiality z r) w.1

    go : (v i c x y : Bool) → settings.ntlmv2 ≡ v → settings.integrity ≡ i → settings.confidentiality ≡ c → one ≡ x → two ≡ y →
        (not (v && (i || c)) || (x && y)) ≡ true → ⊥
    go v i c true true p q r t u e = w.2 (one_there.0 t, two_there.0 u)
    go true true c true false p q r t u e = true_not_false (sym e)
    go true true c false y p q r t u e = true_not_false (sym e)
    go true false true true false p q r t u e = true_not_false (sym e)
    go true false true false y p q r t u e = true_not_false (sym e)
    go true false false true false p q r t u e = wanted false false q r refl
    go true false false false y p q r t u e = wanted false false q r refl
    go false i c true false p q r t u e = both_ways settings.ntlmv2 w.0 p
    go false i c false y p q r t u e = both_ways settings.ntlmv2 w.0 p

-- ---- the decision

module _ (settings : Settings) (s b : List ℕ) (info : InfoBytes s b) where
  abbrev pub Judged : Result Decision Refusal → Type 0
  Judged (Ok d) = Agreed settings s b × (d ≡ record { flags = flags_at s 20; timestamp = timestamp_in b })
  Judged (Err e) = Declined settings s b (number_of e) (field_of e) (place_of e)

  pub judged : Judged (decision_on settings s)
  unfolding decision_on read_challenge
  judged = go (reading_of s) refl (reading.judged s b info) where
    decide : Challenge → Result Decision Refusal
    decide c =
        after (strength_holds settings c.flags) (Err No128Bit) (
        after (server_names_hold settings (server_names_in (info_of s c))) (Err NoServerNames)
        (Ok (record { flags = c.flags; timestamp = timestamp_in (info_of s c) })))

    on : ChallengeHolds s b → Judged
        (after (strength_holds settings (flags_at s 20)) (Err No128Bit) (
        after (server_names_hold settings (server_names_in b)) (Err NoServerNames)
        (Ok (record { flags = flags_at s 20; timestamp = timestamp_in b }))))
    on holds =
        chained Judged _ _ _
        (λ f. by_20 refl refl refl holds (failed_20 settings s f))
        (λ h. chained Judged _ _ _
        (λ f. by_21 refl refl refl holds (held_20 settings s h) (failed_21 settings b f))
        (λ g. (record { reading = holds; holds20 = held_20 settings s h; holds21 = held_21 settings b g }, refl)))

    go : (r : Result Challenge Refusal) → reading_of s ≡ r → reading.Judged s b info r → Judged (on_ok Err r decide)
    go (Ok c) e holds =
        let t = taken_as s c e in
        let l = info_of_lem s b c info e in
        rw (l, t.answer) (on holds)
    go (Err f) e fails = by_reading fails

-- not both; and there is one reason only
pub agreed_or_declined : (settings : Settings) (s b : List ℕ) (n i p : ℕ) → Agreed settings s b → Declined settings s b n i p → ⊥
agreed_or_declined settings s b n i p a (by_reading f) = holds_or_fails s b n i p a.reading f
agreed_or_declined settings s b n i p a (by_20 x y z h f) = a.holds20 f
agreed_or_declined settings s b n i p a (by_21 x y z h k f) = a.holds21 f

pub one_decline : (settings : Settings) (s b : List ℕ) (m j o n i p : ℕ) → Declined settings s b m j o → Declined settings s b n i p →
    (m ≡ n) × (j ≡ i) × (o ≡ p)
one_decline settings s b m j o n i p (by_reading f) (by_reading g) = one_reason s b m j o n i p f g
one_decline settings s b m j o n i p (by_reading f) (by_20 q r t h g) = absurd (holds_or_fails s b m j o h f)
one_decline settings s b m j o n i p (by_reading f) (by_21 q r t h k g) = absurd (holds_or_fails s b m j o h f)
one_decline settings s b m j o n i p (by_20 x y z u f) (by_reading g) = absurd (holds_or_fails s b n i p u g)
one_decline settings s b m j o n i p (by_20 x y z u f) (by_20 q r t h g) = (x ∙ sym q, y ∙ sym r, z ∙ sym t)
one_decline settings s b m j o n i p (by_20 x y z u f) (by_21 q r t h k g) = absurd (k f)
one_decline settings s b m j o n i p (by_21 x y z u v f) (by_reading g) = absurd (holds_or_fails s b n i p u g)
one_decline settings s b m j o n i p (by_21 x y z u v f) (by_20 q r t h g) = absurd (v g)
one_decline settings s b m j o n i p (by_21 x y z u v f) (by_21 q r t h k g) = (x ∙ sym q, y ∙ sym r, z ∙ sym t)

-- a reason that is known to be another
pub decline_is : (settings : Settings) (s b : List ℕ) {m j o n i p : ℕ} → (m ≡ n) × (j ≡ i) × (o ≡ p) → Declined settings s b m j o →
    Declined settings s b n i p
decline_is settings s b {m} {j} {o} {n} {i} {p} e f =
    subst (λ (x : ℕ). Declined settings s b x i p) e.0
    (subst (λ (x : ℕ). Declined settings s b m x p) e.1 (subst (λ (x : ℕ). Declined settings s b m j x) e.2 f))

pub decision_refused : DecisionIsRefused
decision_refused settings s b info n i p = go (decision_on settings s) (judged settings s b info) where
  go : (d : Result Decision Refusal) → Judged settings s b info d → DecisionRefusedWith d n i p ↔ Declined settings s b n i p
  go (Ok d) j = (λ t. absurd t, λ f. agreed_or_declined settings s b n i p j.0 f)
  go (Err e) j = (
    λ t. decline_is settings s b t j,
    λ f. one_decline settings s b (number_of e) (field_of e) (place_of e) n i p j f,
  )

pub decision_taken : DecisionIsTaken
decision_taken settings s b info d = go (decision_on settings s) (judged settings s b info) where
  go : (x : Result Decision Refusal) → Judged settings s b info x →
      (x ≡ Ok d) ↔ (Agreed settings s b × (d.flags.bits ≡ (flags_at s 20).bits) × TimestampIs b d.timestamp)
  go (Ok c) j = (λ h. told (same h ∙ j.1), λ h. ap Ok (j.1 ∙ made h)) where
    same : ◌≡◌ {A = Result Decision Refusal} (Ok c) (Ok d) → d ≡ c
    same h = cc

    told : d ≡ record { flags = flags_at s 20; timestamp = timestamp_in b } →
        Agreed settings s b × (d.flags.bits ≡ (flags_at s 20).bits) × TimestampIs b d.timestamp
    told e = (j.0, ap (λ (x : Decision). x.flags.bits) e, subst (λ (x : Decision). TimestampIs b x.timestamp) (sym e) (timestamp_is b))

    made : Agreed settings s b × (d.flags.bits ≡ (flags_at s 20).bits) × TimestampIs b d.timestamp →
        record { flags = flags_at s 20; timestamp = timestamp_in b } ≡ d
    made h = λ k. record { flags = record { bits = sym h.1 k }; timestamp = one_timestamp b (timestamp_in b) d.timestamp (timestamp_is b) h.2 k }
  go (Err e) j = (
    λ h. absurd (let z : ◌≡◌ {A = ℕ} 0 1 = cc in omega arith),
    λ h. absurd (agreed_or_declined settings s b (number_of e) (field_of e) (place_of e) h.0 j),
  )
