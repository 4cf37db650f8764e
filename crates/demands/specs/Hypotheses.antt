-- For theorems with hypotheses, cases that meet them all: two different messages that differ in ignored bytes, the list of a
-- CHALLENGE with its pairs, its first timestamp and its first fault, and two answers with secrets of their own.
use Rattle.std.specs.Prelude.{ℕ, ◌≡◌, List, set, take, replicate}
use Rattle.demands.specs.Bench.{p1, p12}
use Rattle.demands.specs.Examples.{info, challenge_message, negotiate_message, lm, nt, key, mic}
use Rattle.demands.specs.Ignored.{NlDifferInIgnored, DifferAsRead}
use Rattle.demands.specs.InTurn.{KthPair}
use Rattle.demands.specs.Message.{negotiate, authenticate, challenge, Set, DifferInIgnored, SameMaxLen}
use Rattle.demands.specs.PairList.{Holds, FirstFault, FirstWith}
use Rattle.demands.specs.Secret.{AsLong}
use Rattle.demands.specs.TakenExactly.{InfoBytes}

-- two different messages
abbrev pub Two : (List ℕ → List ℕ → Type 0) → List ℕ → List ℕ → Type 0
Two Differ s t = Differ s t × (s ≡ t → ⊥)

-- MaxLen of field 1 is FF, low byte only
abbrev pub other_challenge : List ℕ
other_challenge = set challenge_message 14 0xFF

-- the first byte of Reserved is FF
abbrev pub other_reserved : List ℕ
other_reserved = set challenge_message 32 0xFF

abbrev pub other_negotiate : List ℕ
other_negotiate = set negotiate_message 18 0xFF

abbrev pub other_p1 : List ℕ
other_p1 = set p1 14 0xFF

pub record HypothesesMet : Type 0 where
  -- of Ignored.antt
  pub challenge_ignored : Two (DifferInIgnored challenge) challenge_message other_challenge
  pub negotiate_ignored : Two (DifferInIgnored negotiate) negotiate_message other_negotiate
  pub authenticate_ignored : Two (DifferInIgnored authenticate) p1 other_p1
  pub same_max_len : Two (λ s t. DifferInIgnored challenge s t × SameMaxLen challenge s t) challenge_message other_reserved
  pub read_as_challenge : DifferAsRead challenge_message other_challenge
  pub nl_auth_ignored : Two NlDifferInIgnored (p12 0x01) (p12 0x21)
  -- of TakenExactly.antt, OwnBytes.antt and InTurn.antt: the list, and the same without its end pair
  pub info_bytes : InfoBytes challenge_message info
  pub well_formed : Holds info 3
  pub first_timestamp : FirstWith info 7 20 0
  pub third_pair : KthPair info 20 2 0
  pub runs_out : FirstFault (take 32 info) 11 32 0
  -- of Units.antt
  pub wide : Set challenge challenge_message 0x1
  -- of Secret.antt; `AnswerExample` has the answer
  pub as_long : AsLong mic lm nt key (replicate 16 1) (replicate 24 2) (replicate 28 3) (replicate 16 4)
