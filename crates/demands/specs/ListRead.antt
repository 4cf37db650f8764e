-- Demand 1: "It answers, or refuses by a number from document 01 in the order given there", of a pair list and of a challenge that are
-- read in one walk with what the list holds: how many pairs, the end pair left out, and the timestamp. The log line and the answer to a
-- challenge take both from there.
use Rattle.wire.specs.declared.refusal.Refusal.{Refusal}
use Rattle.std.specs.Prelude.{Result, Ok, Err, ⊤, ℕ, ◌≡◌, ◌↔◌, List}
use Rattle.target_info.specs.declared.Contents.{Contents}
use Rattle.target_info.specs.TargetInfo.{read_list}
use Rattle.read_challenge.specs.declared.FullChallenge.{FullChallenge}
use Rattle.read_challenge.specs.Challenge.{read_challenge, full_reading_of}
use Rattle.demands.specs.Answering.{TimestampIs}
use Rattle.demands.specs.Message.{challenge, DifferInIgnored}
use Rattle.demands.specs.PairList.{Holds, ListFails}
use Rattle.demands.specs.TakenExactly.{RefusedWith, InfoBytes, ChallengeFails}

-- ---- a list

-- so many pairs, and the value of its first pair 7 as a number, or none
pub record ContentsAre (list : List ℕ) (c : Contents) : Type 0 where
  pub pairs : Holds list c.pairs
  pub time : TimestampIs list c.timestamp

abbrev pub list_verdict : Result Contents Refusal → Result ⊤ Refusal
list_verdict (Ok c) = Ok tt
list_verdict (Err e) = Err e

-- it is taken with these if and only if it is empty or well-formed and holds these
abbrev pub ContentsTaken : Type 0
ContentsTaken = (list : List ℕ) (c : Contents) → (read_list list ≡ Ok c) ↔ ContentsAre list c

-- and refused as checks 10 to 13 refuse it
abbrev pub ContentsRefused : Type 0
ContentsRefused = (list : List ℕ) (n i p : ℕ) → RefusedWith (list_verdict (read_list list)) n i p ↔ ListFails list n i p

-- ---- a challenge, with the contents of its TargetInfo, whose bytes are b

abbrev pub full_verdict : Result FullChallenge Refusal → Result ⊤ Refusal
full_verdict (Ok f) = Ok tt
full_verdict (Err e) = Err e

-- it is taken exactly where the challenge is, with what its list holds
abbrev pub FullIsTaken : Type 0
FullIsTaken =
    (s b : List ℕ) → InfoBytes s b → (f : FullChallenge) →
    (full_reading_of s ≡ Ok f) ↔ (((read_challenge s).reading ≡ Ok f.challenge) × ContentsAre b f.contents)

-- and refused as it is
abbrev pub FullIsRefused : Type 0
FullIsRefused = (s b : List ℕ) → InfoBytes s b → (n i p : ℕ) → RefusedWith (full_verdict (full_reading_of s)) n i p ↔ ChallengeFails s b n i p

-- demand 2: ignored bytes and MaxLen change nothing of what the list holds, nor the refusal
abbrev pub contents_in : Result FullChallenge Refusal → Result Contents Refusal
contents_in (Ok f) = Ok f.contents
contents_in (Err e) = Err e

abbrev pub ContentsIgnored : Type 0
ContentsIgnored = (s t : List ℕ) → DifferInIgnored challenge s t → contents_in (full_reading_of s) ≡ contents_in (full_reading_of t)
