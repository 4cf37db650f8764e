-- Demand 1: "It answers, or refuses by a number from document 01 in the order given there." Document 01: "A search first makes
-- checks 10 to 13 on the whole list and refuses by them." What looks into a list is answered or refused exactly as the list is,
-- and what looks into a challenge exactly as the challenge is.
use Rattle.av_pairs.specs.declared.AvPair.{AvPair}
use Rattle.target_info.specs.declared.ServerNames.{ServerNames}
use Rattle.wire.specs.declared.refusal.Refusal.{Refusal}
use Rattle.std.specs.Prelude.{Result, Option, Ok, Err, ⊤, ℕ, List}
use Rattle.av_id.specs.declared.AvId.{AvId}
use Rattle.av_pairs.specs.AvPairs.{check_pairs}
use Rattle.read_challenge.specs.Challenge.{timestamp_of, server_names_of}
use Rattle.target_info.specs.TargetInfo.{find_pair}
use Rattle.demands.specs.PairList.{Holds, ListFails}
use Rattle.demands.specs.TakenExactly.{Judged, InfoBytes, ChallengeHolds, ChallengeFails}

-- checks 10 to 13 alone
abbrev pub ListJudged : Type 0
ListJudged = (s : List ℕ) → Judged (check_pairs s) ((n : ℕ) × Holds s n) (ListFails s)

-- a search
abbrev pub search_verdict : Result (Option AvPair) Refusal → Result ⊤ Refusal
search_verdict (Ok f) = Ok tt
search_verdict (Err e) = Err e

abbrev pub SearchJudged : Type 0
SearchJudged = (a : AvId) (s : List ℕ) → Judged (search_verdict (find_pair a s)) ((n : ℕ) × Holds s n) (ListFails s)

-- a challenge's timestamp
abbrev pub timestamp_verdict : Result (Option ℕ) Refusal → Result ⊤ Refusal
timestamp_verdict (Ok t) = Ok tt
timestamp_verdict (Err e) = Err e

abbrev pub TimestampJudged : Type 0
TimestampJudged = (s b : List ℕ) → InfoBytes s b → Judged (timestamp_verdict (timestamp_of s)) (ChallengeHolds s b) (ChallengeFails s b)

-- and its server's names
abbrev pub server_names_verdict : Result ServerNames Refusal → Result ⊤ Refusal
server_names_verdict (Ok names) = Ok tt
server_names_verdict (Err e) = Err e

abbrev pub ServerNamesJudged : Type 0
ServerNamesJudged = (s b : List ℕ) → InfoBytes s b → Judged (server_names_verdict (server_names_of s)) (ChallengeHolds s b) (ChallengeFails s b)
