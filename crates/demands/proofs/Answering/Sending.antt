-- What is sent, as document 01 says it, is what the definitions make of it.
use Rattle.std.specs.Prelude.{Option, Some, None}
use Prim.Native.Nat.{ℕ, ◌+◌, ◌<◌}
use mathlib.Core.Path.{◌≡◌, refl, sym, ap, ◌∙◌}
use mathlib.Core.Logic.{inl, inr, ⊎_elim, ◌↔◌}
use mathlib.Core.Bool.{Bool, true, false, ◌||◌, ◌&&◌, cond}
use mathlib.Core.List.{List, []}
use native.Mathlib.Omega.{arith}
use lib.Dec.{eqb}
use lib.ListN.{length, take, drop, replicate}
use borrow.Author.Tests.{eqb-true, eqb-false, eq-eqb, ne_eqb}
use Rattle.wire.specs.Number.{u64_at}
use Rattle.av_id.specs.AvId.{is_nb_domain_name}
use Rattle.av_pairs.specs.declared.AvPair.{AvPair}
use Rattle.av_pairs.specs.AvPairs.{pairs_of}
use Rattle.negotiate_flags.specs.Flags.{unicode, key_exch, sign, seal}
use Rattle.head.specs.Head.{flags_at}
use Rattle.respond.specs.declared.decision.Settings.{Settings}
use Rattle.respond.specs.Answer.{Supplied, mic_due, time_to_send, lm_to_send, mic_to_send, key_to_send}
use Rattle.respond.specs.Domain.{Part, on_pair_found, domain_part, domain_to_send}
use Rattle.target_info.specs.TargetInfo.{first_by, timestamp_in}
use Rattle.demands.specs.Message.{challenge, Set}
use Rattle.demands.specs.PairList.{size_of, FirstWith, PairThere}
use Rattle.demands.specs.TakenExactly.{InfoBytes, ChallengeHolds}
use Rattle.demands.specs.Answering.{TimestampIs, Stamped, KeyCounts, ToSend, SomethingToSend}
use Rattle.demands.proofs.Bools.{true_not_false, both_ways}
use Rattle.demands.proofs.PairList.{one_place}
use Rattle.demands.proofs.OwnBytes.Found.{JudgedW, first_in_list}
use Rattle.demands.proofs.OwnBytes.ChallengeOwn.{asks}
use Rattle.demands.proofs.Answering.Deciding.{timestamp_is}
use Rattle.demands.proofs.Answering.DomainSent.{none_of, Judged, domain_judged, domain_given}

-- a timestamp pair is there exactly when a MIC is due
pub due_is : (b : List ℕ) → (mic_due (timestamp_in b) ≡ true) ↔ PairThere b 7
due_is b = go (timestamp_in b) (timestamp_is b) where
  go : (t : Option ℕ) → TimestampIs b t → (mic_due t ≡ true) ↔ PairThere b 7
  go (Some t) p = (λ h. (p.0, p.1), λ h. refl)
  go None p = (λ h. absurd (true_not_false (sym h)), λ h. absurd (p h))

-- and the key counts exactly when these flags are set
key_counts : (s : List ℕ) → (key_exch (flags_at s 20) && (sign (flags_at s 20) || seal (flags_at s 20)) ≡ true) ↔ KeyCounts s
key_counts s = go (key_exch (flags_at s 20)) (sign (flags_at s 20)) (seal (flags_at s 20)) refl refl refl where
  go : (a c d : Bool) → key_exch (flags_at s 20) ≡ a → sign (flags_at s 20) ≡ c → seal (flags_at s 20) ≡ d → (a && (c || d) ≡ true) ↔ KeyCounts s
  go true true d p q r = (λ h. (eqb-true _ 1 p, inl (eqb-true _ 1 q)), λ h. refl)
  go true false true p q r = (λ h. (eqb-true _ 1 p, inr (eqb-true _ 1 r)), λ h. refl)
  go true false false p q r = (
    λ h. absurd (true_not_false (sym h)),
    λ h. absurd (⊎_elim (λ x. eqb-false _ 1 q x) (λ x. eqb-false _ 1 r x) h.1),
  )
  go false c d p q r = (λ h. absurd (true_not_false (sym h)), λ h. absurd (eqb-false _ 1 p h.0))

-- NTLMv2 and a timestamp pair
stamped : (settings : Settings) (b : List ℕ) → (settings.ntlmv2 && mic_due (timestamp_in b) ≡ true) ↔ Stamped settings b
stamped settings b = go settings.ntlmv2 refl where
  go : (v : Bool) → settings.ntlmv2 ≡ v → (v && mic_due (timestamp_in b) ≡ true) ↔ Stamped settings b
  go true e = (λ h. (e, (due_is b).0 h), λ h. (due_is b).1 h.1)
  go false e = (λ h. absurd (true_not_false (sym h)), λ h. absurd (both_ways settings.ntlmv2 h.0 e))

-- a choice by a test that says when P holds
chosen : {A : Type 0} {P : Type 0} (t : Bool) (x y z : A) → (t ≡ true) ↔ P → (P → z ≡ x) → ((P → ⊥) → z ≡ y) → z ≡ cond t x y
chosen true x y z p f g = f (p.0 refl)
chosen false x y z p f g = g (λ h. true_not_false (sym (p.1 h)))

choice_true : {A : Type 0} {P : Type 0} (t : Bool) (x y : A) → (t ≡ true) ↔ P → P → cond t x y ≡ x
choice_true true x y p h = refl
choice_true false x y p h = absurd (true_not_false (sym (p.1 h)))

choice_false : {A : Type 0} {P : Type 0} (t : Bool) (x y : A) → (t ≡ true) ↔ P → (P → ⊥) → cond t x y ≡ y
choice_false true x y p h = absurd (h (p.0 refl))
choice_false false x y p h = refl

-- Time
time_of : (settings : Settings) (b : List ℕ) (clock place : ℕ) → settings.ntlmv2 ≡ true → FirstWith b 7 place 0 →
    time_to_send settings (timestamp_in b) clock ≡ u64_at b (place + 4)
time_of settings b clock place v first = go (timestamp_in b) (timestamp_is b) where
  go : (t : Option ℕ) → TimestampIs b t → time_to_send settings t clock ≡ u64_at b (place + 4)
  go (Some t) p = simp v (p.2 ∙ ap (λ (k : ℕ). u64_at b (k + 4)) (one_place b 7 p.0 place 0 p.1 first))
  go None p = absurd (p (place, first))

time_else : (settings : Settings) (b : List ℕ) (clock : ℕ) → (Stamped settings b → ⊥) → time_to_send settings (timestamp_in b) clock ≡ clock
time_else settings b clock not_so = go (timestamp_in b) settings.ntlmv2 refl (timestamp_is b) where
  go : (t : Option ℕ) (v : Bool) → settings.ntlmv2 ≡ v → TimestampIs b t → time_to_send settings t clock ≡ clock
  go (Some t) true e p = absurd (not_so (e, (p.0, p.1)))
  go (Some t) false e p = simp e
  go None v e p = refl

-- ---- what is sent is what the definitions make
module _ (settings : Settings) (s b : List ℕ) (g : Supplied) (x : ToSend settings s b g) where
  pub mic_is : x.mic_sent ≡ mic_to_send (timestamp_in b) g.mic
  unfolding mic_to_send
  mic_is = chosen (mic_due (timestamp_in b)) g.mic (replicate 16 0) x.mic_sent (due_is b) x.mic_due_is x.zero_mic

  pub lm_is : x.lm_sent ≡ lm_to_send settings (timestamp_in b) g.lm
  unfolding lm_to_send
  lm_is = chosen (settings.ntlmv2 && mic_due (timestamp_in b)) (replicate 24 0) g.lm x.lm_sent (stamped settings b) x.zero_lm x.our_lm

  pub key_is : x.key_sent ≡ key_to_send (flags_at s 20) g.key
  unfolding key_to_send
  key_is = chosen (key_exch (flags_at s 20) && (sign (flags_at s 20) || seal (flags_at s 20))) g.key [] x.key_sent (key_counts s) x.our_key x.no_key

  pub time_is : x.time ≡ time_to_send settings (timestamp_in b) g.clock
  time_is = go (settings.ntlmv2 && mic_due (timestamp_in b)) refl where
    go : (t : Bool) → (settings.ntlmv2 && mic_due (timestamp_in b)) ≡ t → x.time ≡ time_to_send settings (timestamp_in b) g.clock
    go true e =
        let p = (stamped settings b).0 e in
        x.their_time p.0 p.1.0 p.1.1 ∙ sym (time_of settings b g.clock p.1.0 p.0 p.1.1)
    go false e =
        let not_so : Stamped settings b → ⊥ = λ h. both_ways _ ((stamped settings b).1 h) e in
        x.our_time not_so ∙ sym (time_else settings b g.clock not_so)

  pub domain_is : InfoBytes s b → ChallengeHolds s b → x.domain_sent ≡ domain_to_send g.domain s
  domain_is info holds = go (eqb (length g.domain) 0) refl where
    bytes_of : Part → List ℕ
    bytes_of p = p.bytes

    empty : length g.domain ≡ 0 → Judged s b info g.domain (domain_part g.domain s) → x.domain_sent ≡ domain_to_send g.domain s
    empty z (inl t) = x.their_domain z t.4 t.0 t.1 ∙ sym (ap bytes_of t.2)
    empty z (inr t) = x.no_domain z (λ h. t.0 holds h.0 h.1) ∙ sym (none_of g.domain z) ∙ sym (ap bytes_of t.1)

    go : (t : Bool) → eqb (length g.domain) 0 ≡ t → x.domain_sent ≡ domain_to_send g.domain s
    go true p = let z = eqb-true (length g.domain) 0 p in empty z (domain_judged s b info g.domain z)
    go false p = let l = some (eqb-false (length g.domain) 0 p) in x.our_domain l ∙ sym (ap bytes_of (domain_given s b info g.domain l)) where
      some : (length g.domain ≡ 0 → ⊥) → 0 < length g.domain
      some d = omega (arith, d)

-- ---- and there is such a thing
module _ (s b : List ℕ) where
  pair_value : AvPair → List ℕ
  pair_value p = take p.len (drop p.at b)

  theirs : List ℕ
  theirs = cond (unicode (flags_at s 20)) (on_pair_found (first_by is_nb_domain_name (pairs_of b)) pair_value []) []

  theirs_is : Set challenge s 0x1 → (place : ℕ) → FirstWith b 2 place 0 → theirs ≡ take (size_of b place) (drop (place + 4) b)
  unfolding theirs pair_value
  theirs_is set place first =
      simp (eq-eqb _ 1 set) (go (first_by is_nb_domain_name (pairs_of b)) (first_in_list b 2 is_nb_domain_name (asks 2)))
    where
      go : (x : Option AvPair) → JudgedW b 2 is_nb_domain_name (asks 2) 0 x → on_pair_found x pair_value [] ≡ take (size_of b place) (drop (place + 4) b)
      go (Some p) j = rw j.3 (ap (λ (k : ℕ). take (size_of b k) (drop (k + 4) b)) (one_place b 2 j.0 place 0 j.1 first))
      go None j = absurd (j place first)

  theirs_none : (Set challenge s 0x1 × PairThere b 2 → ⊥) → theirs ≡ []
  unfolding theirs
  theirs_none not_so = go (unicode (flags_at s 20)) (first_by is_nb_domain_name (pairs_of b)) refl (first_in_list b 2 is_nb_domain_name (asks 2)) where
    go : (u : Bool) (x : Option AvPair) → unicode (flags_at s 20) ≡ u → JudgedW b 2 is_nb_domain_name (asks 2) 0 x → cond u (on_pair_found x pair_value []) [] ≡ []
    go true (Some p) e j = absurd (not_so (eqb-true _ 1 e, (j.0, j.1)))
    go true None e j = refl
    go false x e j = refl

pub something_to_send : SomethingToSend
unfolding mic_to_send lm_to_send key_to_send
something_to_send settings s b g =
    record {
      time = time_to_send settings (timestamp_in b) g.clock;
      mic_sent = mic_to_send (timestamp_in b) g.mic;
      lm_sent = lm_to_send settings (timestamp_in b) g.lm;
      domain_sent = cond (eqb (length g.domain) 0) (theirs s b) g.domain;
      key_sent = key_to_send (flags_at s 20) g.key;
      their_time = λ v place first. time_of settings b g.clock place v first;
      our_time = time_else settings b g.clock;
      zero_lm = choice_true _ (replicate 24 0) g.lm (stamped settings b);
      our_lm = choice_false _ (replicate 24 0) g.lm (stamped settings b);
      mic_due_is = choice_true _ g.mic (replicate 16 0) (due_is b);
      zero_mic = choice_false _ g.mic (replicate 16 0) (due_is b);
      our_key = choice_true _ g.key [] (key_counts s);
      no_key = choice_false _ g.key [] (key_counts s);
      our_domain = λ l. simp (ne_eqb (length g.domain) 0 (λ e. omega arith));
      their_domain = λ z set place first. simp (eq-eqb (length g.domain) 0 z) (theirs_is s b set place first);
      no_domain = λ z not_so. simp (eq-eqb (length g.domain) 0 z) (theirs_none s b not_so);
    }
