-- A CHALLENGE message's fields, ServerChallenge, timestamp and names are its own.
use Rattle.wire.specs.Check.{on_ok}
use Rattle.std.specs.Prelude.{Result, Option, Ok, Err, Some, None, ⊤, is_some}
use Rattle.wire.specs.declared.refusal.Refusal.{Refusal}
use Prim.Native.Nat.{ℕ, ◌+◌}
use mathlib.Core.Path.{◌≡◌, refl, sym, ap, ◌∙◌, subst}
use mathlib.Core.Logic.{◌↔◌}
use mathlib.Core.Bool.{Bool, true}
use mathlib.Core.List.{List}
use native.Mathlib.Omega.{arith}
use lib.Dec.{eqb}
use borrow.Author.Tests.{eqb-true, eq-eqb}
use Rattle.av_id.specs.declared.AvId.{AvId}
use Rattle.av_id.specs.AvId.{is_timestamp, is_nb_computer_name, is_nb_domain_name}
use Rattle.wire.specs.Check.{on_clear}
use Rattle.head.specs.Head.{flags_at}
use Rattle.wire.specs.Number.{u64_at}
use Rattle.av_pairs.specs.declared.AvPair.{AvPair}
use Rattle.av_pairs.specs.AvPairs.{pairs_of}
use Rattle.read_challenge.specs.declared.Challenge.{Challenge}
use Rattle.target_info.specs.declared.ServerNames.{ServerNames}
use Rattle.read_challenge.specs.Challenge.{fields_at, fields_of, info_of, check_info, reading_of, server_challenge, read_challenge, timestamp_of, server_names_of}
use Rattle.target_info.specs.TargetInfo.{first_by, time_of, timestamp_in, server_names_in}
use Rattle.demands.specs.Message.{challenge, Fails}
use Rattle.demands.specs.PairList.{FirstWith, PairThere}
use Rattle.demands.specs.OwnBytes.{OwnField, ChallengeOwn, ChallengeRefusedZeros, TimestampOwn, NoTimestampThere, ServerNamesOwn}
use Rattle.demands.specs.TakenExactly.{InfoBytes}
use Rattle.demands.proofs.OwnBytes.{own_field}
use Rattle.demands.proofs.TakenExactly.Challenge.{two, JudgedF, fields_of_judged, info_is}
use Rattle.demands.proofs.OwnBytes.Found.{JudgedW, first_in_list}
use Rattle.demands.proofs.Bools.{true_not_false}

-- a taken message, and what it is answered with
pub record TakenAs (s : List ℕ) (c : Challenge) : Type 0 where
  pub none : (n i : ℕ) → Fails challenge s n i → ⊥
  pub answer : c ≡ record { flags = flags_at s 20; fields = fields_at s (flags_at s 20) }

pub taken_as : (s : List ℕ) (c : Challenge) → (read_challenge s).reading ≡ Ok c → TakenAs s c
unfolding read_challenge reading_of
taken_as s c h = go (fields_of s) (fields_of_judged s) h where
  same : (d : Challenge) (v : Result ⊤ Refusal) → on_clear Err v (Ok d) ≡ Ok c → c ≡ d
  same d (Ok tt) p = cc
  same d (Err e) p = cc

  go : (r : Result Challenge Refusal) → JudgedF s r → on_ok Err r (λ d. on_clear Err (check_info s d) (Ok d)) ≡ Ok c → TakenAs s c
  go (Ok d) j p = record { none = j.0; answer = same d (check_info s d) p ∙ j.1 }
  go (Err e) j p = absurd (let z : ◌≡◌ {A = ℕ} 0 1 = cc in omega arith)

pub challenge_own : ChallengeOwn
unfolding read_challenge
challenge_own s c h =
    let t = taken_as s c h in
    let x = two s (λ i f. (Fails challenge s 6 i → ⊥) → OwnField challenge s i f) (own_field challenge s) in
    record {
      flags = ap (λ (d : Challenge). d.flags.bits) t.answer;
      target_name = rw t.answer (x.0 (t.none 6 1));
      target_info_is = rw t.answer (x.1 (t.none 6 2));
      server_challenge_is = ap (λ (r : Result Challenge Refusal). server_challenge r s) h;
    }

pub challenge_refused_zeros : ChallengeRefusedZeros
unfolding read_challenge
challenge_refused_zeros s e h = ap (λ (r : Result Challenge Refusal). server_challenge r s) h

-- TargetInfo's bytes of a taken message
pub info_of_lem : (s b : List ℕ) (c : Challenge) → InfoBytes s b → reading_of s ≡ Ok c → info_of s c ≡ b
unfolding read_challenge
info_of_lem s b c info h = let t = taken_as s c h in rw t.answer (info_is s b info t.none)

pub asks : (k : ℕ) (a : AvId) → (eqb a.id k ≡ true) ↔ (a.id ≡ k)
asks k a = (eqb-true a.id k, eq-eqb a.id k)

-- the timestamp in a list
pub time_judged : (b : List ℕ) (t : ℕ) → timestamp_in b ≡ Some t → (place : ℕ) × FirstWith b 7 place 0 × (t ≡ u64_at b (place + 4))
unfolding timestamp_in
time_judged b t h = go (first_by is_timestamp (pairs_of b)) (first_in_list b 7 is_timestamp (asks 7)) h where
  go : (x : Option AvPair) → JudgedW b 7 is_timestamp (asks 7) 0 x → time_of b x ≡ Some t → (place : ℕ) × FirstWith b 7 place 0 × (t ≡ u64_at b (place + 4))
  go (Some p) j e = (j.0, j.1, same e ∙ ap (λ (q : AvPair). u64_at b q.at) j.3) where
    same : Some (u64_at b p.at) ≡ Some t → t ≡ u64_at b p.at
    same e = cc
  go None j e = absurd (let z : ◌≡◌ {A = ℕ} 0 1 = cc in omega arith)

pub no_time_judged : (b : List ℕ) → timestamp_in b ≡ None → (place : ℕ) → FirstWith b 7 place 0 → ⊥
unfolding timestamp_in
no_time_judged b h = go (first_by is_timestamp (pairs_of b)) (first_in_list b 7 is_timestamp (asks 7)) h where
  go : (x : Option AvPair) → JudgedW b 7 is_timestamp (asks 7) 0 x → time_of b x ≡ None → (place : ℕ) → FirstWith b 7 place 0 → ⊥
  go (Some p) j e = absurd (let z : ◌≡◌ {A = ℕ} 0 1 = cc in omega arith)
  go None j e = j

-- what the reading of a taken message gives of TargetInfo
time_taken : (s b : List ℕ) (x : Option ℕ) → InfoBytes s b → timestamp_of s ≡ Ok x → timestamp_in b ≡ x
unfolding timestamp_of
time_taken s b x info h = go (reading_of s) refl h where
  same : (y : Option ℕ) → ◌≡◌ {A = Result (Option ℕ) Refusal} (Ok y) (Ok x) → y ≡ x
  same y p = cc

  go : (r : Result Challenge Refusal) → reading_of s ≡ r → on_ok Err r (λ c. Ok (timestamp_in (info_of s c))) ≡ Ok x → timestamp_in b ≡ x
  go (Ok c) e p = same (timestamp_in b) (rw (info_of_lem s b c info e) at p)
  go (Err d) e p = absurd (let z : ◌≡◌ {A = ℕ} 0 1 = cc in omega arith)

pub timestamp_own : TimestampOwn
timestamp_own s b info t h = time_judged b t (time_taken s b (Some t) info h)

pub no_timestamp_there : NoTimestampThere
no_timestamp_there s b info h = no_time_judged b (time_taken s b None info h)

pub there_is : (b : List ℕ) (k : ℕ) (is : AvId → Bool) (q : (a : AvId) → (is a ≡ true) ↔ (a.id ≡ k)) →
    (is_some (first_by is (pairs_of b)) ≡ true) ↔ PairThere b k
there_is b k is q = go (first_by is (pairs_of b)) (first_in_list b k is q) where
  go : (x : Option AvPair) → JudgedW b k is q 0 x → (is_some x ≡ true) ↔ PairThere b k
  go (Some p) j = (λ h. (j.0, j.1), λ h. refl)
  go None j = (λ h. absurd (true_not_false (sym h)), λ h. absurd (j h.0 h.1))

pub server_names_own : ServerNamesOwn
unfolding server_names_of server_names_in
server_names_own s b info names h = go (reading_of s) refl h where
  Right : ServerNames → Type 0
  Right n =
      ((n.nb_computer_name ≡ true) ↔ PairThere b 1)
      × ((n.nb_domain_name ≡ true) ↔ PairThere b 2)

  same : (y : ServerNames) → ◌≡◌ {A = Result ServerNames Refusal} (Ok y) (Ok names) → y ≡ names
  same y p = cc

  go : (r : Result Challenge Refusal) → reading_of s ≡ r → on_ok Err r (λ c. Ok (server_names_in (info_of s c))) ≡ Ok names → Right names
  go (Ok c) e p =
      subst Right (same (server_names_in b) (rw (info_of_lem s b c info e) at p))
      (there_is b 1 is_nb_computer_name (asks 1), there_is b 2 is_nb_domain_name (asks 2))
  go (Err d) e p = absurd (let z : ◌≡◌ {A = ℕ} 0 1 = cc in omega arith)
