-- A list and a challenge read in one walk: taken with what the list holds, or refused as the list and the challenge are.
use Rattle.wire.specs.Check.{on_ok}
use Rattle.std.specs.Prelude.{Result, Ok, Err, ⊤}
use Rattle.read_challenge.specs.declared.Challenge.{Challenge}
use Rattle.wire.specs.declared.refusal.Refusal.{Refusal}
use Prim.Native.Nat.{ℕ}
use mathlib.Core.Path.{◌≡◌, refl, sym, ap, subst, ◌∙◌}
use mathlib.Core.Logic.{◌↔◌}
use mathlib.Core.List.{List}
use native.Mathlib.Omega.{arith}
use lib.ListN.{length}
use Rattle.wire.specs.Check.{on_clear}
use Rattle.av_pairs.specs.AvPairs.{check_pairs, pairs_of, count_pairs}
use Rattle.target_info.specs.declared.Contents.{Contents}
use Rattle.target_info.specs.TargetInfo.{contents_of, read_list}
use Rattle.read_challenge.specs.declared.FullChallenge.{FullChallenge}
use Rattle.read_challenge.specs.Challenge.{info_of, reading_of, read_challenge, full_reading_of}
use Rattle.verdict.specs.Verdict.{chal_verdict}
use Rattle.demands.specs.PairList.{ListFails}
use Rattle.demands.specs.TakenExactly.{RefusedWith, ChallengeFails}
use Rattle.demands.specs.ListRead.{ContentsAre, list_verdict, ContentsTaken, ContentsRefused, full_verdict, FullIsTaken, FullIsRefused, contents_in, ContentsIgnored}
use Rattle.demands.proofs.Judged.{taken_clear}
use Rattle.demands.proofs.PairList.{one_holds, pairs_taken}
use Rattle.demands.proofs.TakenExactly.Challenge.{challenge_judged}
use Rattle.demands.proofs.OwnBytes.ChallengeOwn.{info_of_lem}
use Rattle.demands.proofs.Answering.Deciding.{timestamp_is, one_timestamp}
use Rattle.demands.proofs.SearchedExactly.{list_judged}
use Rattle.demands.proofs.Ignored.ChallengeIgnored.{made_same}

-- ---- a list

-- the contents of a list whose checks held
held_contents : (list : List ℕ) → check_pairs list ≡ Ok tt → ContentsAre list (contents_of list)
unfolding count_pairs
held_contents list h = record { pairs = (pairs_taken list (length (pairs_of list))).0 (simp h); time = timestamp_is list }

-- and there are no others
one_contents : (list : List ℕ) (c d : Contents) → ContentsAre list c → ContentsAre list d → c ≡ d
one_contents list c d p q =
    λ k. record {
      pairs = one_holds list c.pairs d.pairs p.pairs q.pairs k;
      timestamp = one_timestamp list c.timestamp d.timestamp p.time q.time k;
    }

pub list_taken : ContentsTaken
unfolding read_list
list_taken list c = go (check_pairs list) refl where
  same : ◌≡◌ {A = Result Contents Refusal} (Ok (contents_of list)) (Ok c) → contents_of list ≡ c
  same e = cc

  go : (v : Result ⊤ Refusal) → check_pairs list ≡ v → (on_clear Err v (Ok (contents_of list)) ≡ Ok c) ↔ ContentsAre list c
  go (Ok tt) h = (
    λ e. subst (ContentsAre list) (same e) (held_contents list h),
    λ a. ap Ok (one_contents list (contents_of list) c (held_contents list h) a),
  )
  go (Err e) h = (
    λ p. absurd (let z : ◌≡◌ {A = ℕ} 0 1 = cc in omega arith),
    λ a. absurd (let q = sym h ∙ taken_clear (check_pairs list) ((list_judged list).taken.1 (c.pairs, a.pairs)) in let z : ◌≡◌ {A = ℕ} 0 1 = cc in omega arith),
  )

pub list_not_taken : ContentsRefused
unfolding read_list
list_not_taken list n i p = go (check_pairs list) ((list_judged list).refused n i p) where
  go : (v : Result ⊤ Refusal) → RefusedWith v n i p ↔ ListFails list n i p → RefusedWith (list_verdict (on_clear Err v (Ok (contents_of list)))) n i p ↔ ListFails list n i p
  go (Ok tt) j = j
  go (Err e) j = j

-- ---- a challenge
pub full_taken : FullIsTaken
unfolding full_reading_of read_challenge
full_taken s b info f = go (reading_of s) refl where
  Full : Result Challenge Refusal → Type 0
  Full r =
      (on_ok Err r (λ c. Ok (record { challenge = c; contents = contents_of (info_of s c) })) ≡ Ok f)
      ↔ ((r ≡ Ok f.challenge) × ContentsAre b f.contents)

  go : (r : Result Challenge Refusal) → reading_of s ≡ r → Full r
  go (Ok c) e = rw (info_of_lem s b c info e) (there, back) where
    contents : ContentsAre b (contents_of b)
    contents = held_contents b (taken_clear (check_pairs b) ((list_judged b).taken.1 (let h = (challenge_judged s b info).taken.0 (rw e tt) in (h.count, h.list))))

    same : ◌≡◌ {A = Result FullChallenge Refusal} (Ok (record { challenge = c; contents = contents_of b })) (Ok f) → record { challenge = c; contents = contents_of b } ≡ f
    same p = cc

    there : ◌≡◌ {A = Result FullChallenge Refusal} (Ok (record { challenge = c; contents = contents_of b })) (Ok f) → (◌≡◌ {A = Result Challenge Refusal} (Ok c) (Ok f.challenge)) × ContentsAre b f.contents
    there p = (ap (λ (x : FullChallenge). Ok x.challenge) (same p), subst (λ (x : FullChallenge). ContentsAre b x.contents) (same p) contents)

    is : ◌≡◌ {A = Result Challenge Refusal} (Ok c) (Ok f.challenge) → c ≡ f.challenge
    is p = cc

    back : (◌≡◌ {A = Result Challenge Refusal} (Ok c) (Ok f.challenge)) × ContentsAre b f.contents → ◌≡◌ {A = Result FullChallenge Refusal} (Ok (record { challenge = c; contents = contents_of b })) (Ok f)
    back p = λ k. Ok (record { challenge = is p.0 k; contents = one_contents b (contents_of b) f.contents contents p.1 k })
  go (Err e) h = (
    λ p. absurd (let z : ◌≡◌ {A = ℕ} 0 1 = cc in omega arith),
    λ p. absurd (let q = p.0 in let z : ◌≡◌ {A = ℕ} 0 1 = cc in omega arith),
  )

pub full_refused : FullIsRefused
unfolding full_reading_of read_challenge
full_refused s b info n i p = go (reading_of s) ((challenge_judged s b info).refused n i p) where
  go : (r : Result Challenge Refusal) → RefusedWith (chal_verdict r) n i p ↔ ChallengeFails s b n i p →
      RefusedWith (full_verdict (on_ok Err r (λ c. Ok (record { challenge = c; contents = contents_of (info_of s c) })))) n i p ↔ ChallengeFails s b n i p
  go (Ok c) j = j
  go (Err e) j = j

pub contents_ignored : ContentsIgnored
unfolding full_reading_of
contents_ignored s t d = of (reading_of s) s ∙ made_same s t d Err (λ c l. Ok (contents_of l)) (λ c l. refl) ∙ sym (of (reading_of t) t) where
  of : (r : Result Challenge Refusal) (m : List ℕ) →
      contents_in (on_ok Err r (λ c. Ok (record { challenge = c; contents = contents_of (info_of m c) })))
      ≡ on_ok Err r (λ c. Ok (contents_of (info_of m c)))
  of (Ok c) m = refl
  of (Err e) m = refl
