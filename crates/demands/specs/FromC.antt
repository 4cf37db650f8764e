-- The calls of the C interface that hand out numbers, by what their contracts in `crates/dialtable/src/lib.rt` name: the room
-- that each asks for, and its outcome.
use Rattle.std.specs.Prelude.{ℕ, List}
use Rattle.read_authenticate.specs.Authenticate.{read_authenticate}
use Rattle.av_pairs.specs.AvPairs.{count_pairs, ask_at}
use Rattle.read_challenge.specs.Challenge.{read_challenge, timestamp_of, server_names_of}
use Rattle.read_negotiate.specs.Negotiate.{read_negotiate}
use Rattle.read_nl_auth.specs.NlAuth.{read_nl_auth}
use Rattle.respond.specs.Decision.{decision_on}
use Rattle.c_number.specs.Outcome.{Outcome}
use Rattle.c_read.specs.Numbers.{negotiate_outcome, authenticate_outcome_of, challenge_outcome_of, timestamp_outcome, server_names_outcome, nl_auth_outcome}
use Rattle.c_pairs.specs.Pairs.{count_outcome, search_outcome, asked_outcome}
use Rattle.c_respond.specs.Settings.{settings_of}
use Rattle.c_respond.specs.Respond.{decided_outcome}
use Rattle.target_info.specs.TargetInfo.{find_pair}
use Rattle.mic.specs.Mic.{computed_mic}
use Rattle.c_mic.specs.Numbers.{mic_outcome}

-- ---- with one array

pub data Call : Type 0 where
  read_negotiate_call : (msg : List ℕ) → Call
  read_timestamp : (msg : List ℕ) → Call
  read_server_names : (msg : List ℕ) → Call
  read_nl_auth_call : (msg : List ℕ) → Call
  count_pairs_call : (list : List ℕ) → Call
  find_pair_call : (list : List ℕ) (id : ℕ) → Call
  next_pair : (list : List ℕ) (at : ℕ) → Call
  decide : (settings : ℕ) (msg : List ℕ) → Call
  compute_mic : (key nego chal auth : List ℕ) → Call

-- how many numbers it hands out; of a MIC they are bytes
abbrev pub count : Call → ℕ
count (read_negotiate_call msg) = 7
count (read_timestamp msg) = 2
count (read_server_names msg) = 2
count (read_nl_auth_call msg) = 15
count (count_pairs_call list) = 1
count (find_pair_call list id) = 3
count (next_pair list at) = 5
count (decide settings msg) = 3
count (compute_mic key nego chal auth) = 16

abbrev pub outcome : Call → Outcome
outcome (read_negotiate_call msg) = negotiate_outcome (read_negotiate msg)
outcome (read_timestamp msg) = timestamp_outcome (timestamp_of msg)
outcome (read_server_names msg) = server_names_outcome (server_names_of msg)
outcome (read_nl_auth_call msg) = nl_auth_outcome (read_nl_auth msg)
outcome (count_pairs_call list) = count_outcome (count_pairs list)
outcome (find_pair_call list id) = search_outcome (find_pair (record { id = id }) list)
outcome (next_pair list at) = asked_outcome (ask_at list at)
outcome (decide settings msg) = decided_outcome (decision_on (settings_of settings) msg)
outcome (compute_mic key nego chal auth) = mic_outcome (computed_mic key nego chal auth)

-- ---- with two: the second is for the bytes of a MIC or of ServerChallenge

pub data TwoArrayCall : Type 0 where
  read_authenticate_call : (msg : List ℕ) → TwoArrayCall
  read_challenge_call : (msg : List ℕ) → TwoArrayCall

abbrev pub number_count : TwoArrayCall → ℕ
number_count (read_authenticate_call msg) = 20
number_count (read_challenge_call msg) = 7

abbrev pub byte_count : TwoArrayCall → ℕ
byte_count (read_authenticate_call msg) = 16
byte_count (read_challenge_call msg) = 8

abbrev pub two_array_outcome : TwoArrayCall → Outcome
two_array_outcome (read_authenticate_call msg) = authenticate_outcome_of msg
two_array_outcome (read_challenge_call msg) = challenge_outcome_of msg

abbrev pub bytes_beside : TwoArrayCall → List ℕ
bytes_beside (read_authenticate_call msg) = (read_authenticate msg).mic
bytes_beside (read_challenge_call msg) = (read_challenge msg).server_challenge
