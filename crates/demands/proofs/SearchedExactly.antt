-- A search, a timestamp and a server's names are answered or refused as the list or the challenge is.
use Rattle.wire.specs.Check.{on_ok}
use Rattle.std.specs.Prelude.{Result, Ok, Err, ⊤}
use Rattle.read_challenge.specs.declared.Challenge.{Challenge}
use Rattle.wire.specs.declared.refusal.Refusal.{Refusal}
use Prim.Native.Nat.{ℕ}
use mathlib.Core.Path.{◌≡◌, refl, sym, ◌∙◌}
use Rattle.wire.specs.Check.{on_clear}
use Rattle.av_pairs.specs.AvPairs.{check_pairs}
use Rattle.target_info.specs.TargetInfo.{first_pair, find_pair, timestamp_in, server_names_in}
use Rattle.read_challenge.specs.Challenge.{info_of, reading_of, read_challenge, timestamp_of, server_names_of}
use Rattle.verdict.specs.Verdict.{chal_verdict}
use Rattle.demands.specs.PairList.{Holds, ListFails}
use Rattle.demands.specs.SearchedExactly.{ListJudged, search_verdict, SearchJudged, timestamp_verdict, TimestampJudged, server_names_verdict, ServerNamesJudged}
use Rattle.demands.proofs.Judged.{By, judged_by}
use Rattle.demands.proofs.PairList.{holds_or_fault, one_first}
use Rattle.demands.proofs.TakenExactly.Challenge.{JudgedP, pairs_judged, challenge_judged}

pub list_judged : ListJudged
list_judged s =
    judged_by ((n : ℕ) × Holds s n) (ListFails s) (λ n i p h f. holds_or_fault s h.0 n p h.1 f.0 f.2) one (check_pairs s) (go (check_pairs s) (pairs_judged s))
  where
    one : (m j o n i p : ℕ) → ListFails s m j o → ListFails s n i p → (m ≡ n) × (j ≡ i) × (o ≡ p)
    one m j o n i p f g = let x = one_first s f.2 g.2 in (x.0, f.1 ∙ sym g.1, x.1)

    go : (v : Result ⊤ Refusal) → JudgedP s v → By ((n : ℕ) × Holds s n) (ListFails s) v
    go (Ok tt) j = j
    go (Err e) j = j

pub search_judged : SearchJudged
unfolding find_pair
search_judged a s = rw (go (check_pairs s)) (list_judged s) where
  go : (v : Result ⊤ Refusal) → search_verdict (on_clear Err v (Ok (first_pair a s))) ≡ v
  go (Ok tt) = refl
  go (Err e) = refl

pub timestamp_judged : TimestampJudged
unfolding timestamp_of read_challenge
timestamp_judged s b info = rw (go (reading_of s)) (challenge_judged s b info) where
  go : (r : Result Challenge Refusal) → timestamp_verdict (on_ok Err r (λ c. Ok (timestamp_in (info_of s c)))) ≡ chal_verdict r
  go (Ok c) = refl
  go (Err e) = refl

pub server_names_judged : ServerNamesJudged
unfolding server_names_of read_challenge
server_names_judged s b info = rw (go (reading_of s)) (challenge_judged s b info) where
  go : (r : Result Challenge Refusal) → server_names_verdict (on_ok Err r (λ c. Ok (server_names_in (info_of s c)))) ≡ chal_verdict r
  go (Ok c) = refl
  go (Err e) = refl
