-- Demand 2: "each field handed out is that field's own bytes", for the numbers that a C caller gets: what stands at each place of
-- the array, by the message's bytes alone, in the order that `include/dialtable.h` names. `CallFront` and `TwoArraysFront` say
-- that these numbers stand at the array's front; the two numbers of an answer to a challenge are in `RespondedKept`.
use Rattle.wire.specs.declared.refusal.Refusal.{Refusal}
use Rattle.std.specs.Prelude.{Result, Ok, Err, Some, None, ⊤, ℕ, ◌+◌, ◌-◌, ◌%◌, ◌≡◌, ◌⊎◌, List, [], ◌∷◌, ◌++◌, length, take, drop, replicate, get_or}
use Rattle.wire.specs.Number.{u32_at}
use Rattle.read_dns_name.specs.Rfc1035.{NameAt}
use Rattle.hmac_md5.specs.Hmac.{hmac}
use Rattle.av_pairs.specs.AvPairs.{count_pairs, ask_at}
use Rattle.target_info.specs.TargetInfo.{find_pair}
use Rattle.read_negotiate.specs.Negotiate.{read_negotiate}
use Rattle.read_authenticate.specs.Authenticate.{read_authenticate}
use Rattle.read_challenge.specs.Challenge.{read_challenge, timestamp_of, server_names_of}
use Rattle.read_nl_auth.specs.NlAuth.{read_nl_auth}
use Rattle.verdict.specs.Verdict.{nego_verdict, chal_verdict, auth_verdict}
use Rattle.respond.specs.Decision.{decision_on}
use Rattle.c_number.specs.Outcome.{Outcome, numbers, refused}
use Rattle.c_respond.specs.Settings.{settings_of}
use Rattle.demands.specs.Answering.{TimestampIs, decided_verdict}
use Rattle.demands.specs.FromC.{Call, read_negotiate_call, read_timestamp, read_server_names, read_nl_auth_call, count_pairs_call, find_pair_call, next_pair, decide, compute_mic, outcome, TwoArrayCall, read_authenticate_call, read_challenge_call, two_array_outcome, bytes_beside}
use Rattle.demands.specs.InTurn.{step_verdict}
use Rattle.demands.specs.Message.{Format, negotiate, authenticate, challenge, len_of, max_len_of, offset_of, Counts, Nonempty, MicThere}
use Rattle.demands.specs.NlAuth.{type_of, mask_of, BitSet, ZeroAt, StartsAt}
use Rattle.demands.specs.PairList.{id_of, size_of, next_of, PairAt, EndAt, Holds, FirstWith, PairThere}
use Rattle.demands.specs.SearchedExactly.{search_verdict, timestamp_verdict, server_names_verdict}
use Rattle.demands.specs.TakenExactly.{count_verdict, InfoBytes, nl_verdict}

-- number j of those handed out, counted from 0
abbrev pub number_at : List ℕ → ℕ → ℕ
number_at xs j = get_or xs j 0

-- a number that tells whether something is so: 1 for yes, 0 for no
abbrev pub YesOrNo : ℕ → Type 0 → Type 0
YesOrNo x P = ((x ≡ 1) × P) ⊎ ((x ≡ 0) × (P → ⊥))

-- ---- messages

-- field i of s: its offset and length are numbers j and j + 1, its MaxLen is number m; "A field that is empty or doesn't count has
-- length 0 and offset 0"
pub record FieldNumbers (k : Format) (s : List ℕ) (i : ℕ) (xs : List ℕ) (j m : ℕ) : Type 0 where
  pub place : Nonempty k s i → (number_at xs j ≡ offset_of k s i) × (number_at xs (j + 1) ≡ len_of k s i)
  pub none : (Nonempty k s i → ⊥) → (number_at xs j ≡ 0) × (number_at xs (j + 1) ≡ 0)
  pub max_len : Counts k s i → number_at xs m ≡ max_len_of k s i
  pub no_max_len : (Counts k s i → ⊥) → number_at xs m ≡ 0

pub record NegotiateNumbers (s xs : List ℕ) : Type 0 where
  pub flags : number_at xs 0 ≡ u32_at s 12
  pub domain : FieldNumbers negotiate s 1 xs 1 5
  pub workstation : FieldNumbers negotiate s 2 xs 3 6

-- with the MIC's bytes beside
pub record AuthenticateNumbers (s xs mic : List ℕ) : Type 0 where
  pub flags : number_at xs 0 ≡ u32_at s 60
  pub mic_present_is : YesOrNo (number_at xs 1) (MicThere authenticate s)
  pub lm : FieldNumbers authenticate s 1 xs 2 14
  pub nt : FieldNumbers authenticate s 2 xs 4 15
  pub domain : FieldNumbers authenticate s 3 xs 6 16
  pub user : FieldNumbers authenticate s 4 xs 8 17
  pub workstation : FieldNumbers authenticate s 5 xs 10 18
  pub key : FieldNumbers authenticate s 6 xs 12 19
  pub mic_bytes_is : MicThere authenticate s → mic ≡ take 16 (drop 72 s)
  pub mic_zeros : (MicThere authenticate s → ⊥) → mic ≡ replicate 16 0

-- with ServerChallenge beside
pub record ChallengeNumbers (s xs server : List ℕ) : Type 0 where
  pub flags : number_at xs 0 ≡ u32_at s 20
  pub target_name : FieldNumbers challenge s 1 xs 1 5
  pub target_info_is : FieldNumbers challenge s 2 xs 3 6
  pub server_challenge_is : server ≡ take 8 (drop 24 s)

-- whether TargetInfo has a timestamp, and its value, "0 where there is none"
abbrev pub TimestampNumbers : List ℕ → ℕ → ℕ → Type 0
TimestampNumbers b there time = ((there ≡ 1) × TimestampIs b (Some time)) ⊎ ((there ≡ 0) × (time ≡ 0) × TimestampIs b None)

-- string i, A or B: offset and length are numbers j and j + 1, its bytes ending before its first zero byte
pub record PlainNumbers (s : List ℕ) (i : ℕ) (xs : List ℕ) (j : ℕ) : Type 0 where
  pub there : BitSet s (mask_of i) →
      (p q : ℕ) × StartsAt s i p × ZeroAt s p q × (number_at xs j ≡ p) × (number_at xs (j + 1) ≡ q - p)
  pub none : (BitSet s (mask_of i) → ⊥) → (number_at xs j ≡ 0) × (number_at xs (j + 1) ≡ 0)

-- string i, C, D or E: the same, its bytes going to where the next string starts, and the jumps of its name are number m
pub record NameNumbers (s : List ℕ) (i : ℕ) (xs : List ℕ) (j m : ℕ) : Type 0 where
  pub there : BitSet s (mask_of i) →
      (p next : ℕ) × (ls : List (List ℕ)) × StartsAt s i p × NameAt (drop 8 s) (p - 8) ls (number_at xs m) next
      × (number_at xs j ≡ p) × (p + number_at xs (j + 1) ≡ 8 + next)
  pub none : (BitSet s (mask_of i) → ⊥) → (number_at xs j ≡ 0) × (number_at xs (j + 1) ≡ 0) × (number_at xs m ≡ 0)

pub record RequestNumbers (s xs : List ℕ) : Type 0 where
  pub message_type : number_at xs 0 ≡ 0
  pub flags : number_at xs 1 ≡ u32_at s 4 % 32
  pub a : PlainNumbers s 1 xs 2
  pub b : PlainNumbers s 2 xs 4
  pub c : NameNumbers s 3 xs 6 12
  pub d : NameNumbers s 4 xs 8 13
  pub e : NameNumbers s 5 xs 10 14

-- a response has type 1, and zeros for all else
abbrev pub NlAuthNumbers : List ℕ → List ℕ → Type 0
NlAuthNumbers s xs = ((type_of s ≡ 0) × RequestNumbers s xs) ⊎ ((type_of s ≡ 1) × (xs ≡ 1 ∷ replicate 14 0))

-- ---- pair lists

-- whether a pair with the id is there, and the place and length of the first one's value
abbrev pub FoundNumbers : List ℕ → ℕ → List ℕ → Type 0
FoundNumbers s id xs =
    ((number_at xs 0 ≡ 1) × ((place : ℕ) × FirstWith s id place 0 × (number_at xs 1 ≡ place + 4) × (number_at xs 2 ≡ size_of s place)))
    ⊎ ((number_at xs 0 ≡ 0) × (number_at xs 1 ≡ 0) × (number_at xs 2 ≡ 0) × (PairThere s id → ⊥))

-- the pair at a place: that there is one, its id, its value's place and length, and the place after it
pub record PairNumbers (s : List ℕ) (at : ℕ) (xs : List ℕ) : Type 0 where
  pub there : number_at xs 0 ≡ 1
  pub id : number_at xs 1 ≡ id_of s at
  pub value : number_at xs 2 ≡ at + 4
  pub size : number_at xs 3 ≡ size_of s at
  pub next : number_at xs 4 ≡ next_of s at

-- or the end, where the next asking is at the same place; an empty list is at its end
abbrev pub NextNumbers : List ℕ → ℕ → List ℕ → Type 0
NextNumbers s at xs = (PairAt s at × PairNumbers s at xs) ⊎ (((length s ≡ 0) ⊎ EndAt s at) × (xs ≡ 0 ∷ 0 ∷ 0 ∷ 0 ∷ at ∷ []))

-- ---- each call

abbrev pub NumbersSay : Call → List ℕ → Type 0
NumbersSay (read_negotiate_call s) xs = NegotiateNumbers s xs
NumbersSay (read_timestamp s) xs = (b : List ℕ) → InfoBytes s b → TimestampNumbers b (number_at xs 0) (number_at xs 1)
NumbersSay (read_server_names s) xs =
    (b : List ℕ) → InfoBytes s b → YesOrNo (number_at xs 0) (PairThere b 1) × YesOrNo (number_at xs 1) (PairThere b 2)
NumbersSay (read_nl_auth_call s) xs = NlAuthNumbers s xs
NumbersSay (count_pairs_call s) xs = Holds s (number_at xs 0)
NumbersSay (find_pair_call s id) xs = FoundNumbers s id xs
NumbersSay (next_pair s at) xs = NextNumbers s at xs
NumbersSay (decide settings s) xs =
    (b : List ℕ) → InfoBytes s b → (number_at xs 0 ≡ u32_at s 20) × TimestampNumbers b (number_at xs 1) (number_at xs 2)
NumbersSay (compute_mic key nego chal auth) xs =
    xs ≡ hmac key (nego ++ (chal ++ (take 72 auth ++ (replicate 16 0 ++ drop 88 auth))))

abbrev pub TwoArraysSay : TwoArrayCall → List ℕ → List ℕ → Type 0
TwoArraysSay (read_authenticate_call s) xs bytes = AuthenticateNumbers s xs bytes
TwoArraysSay (read_challenge_call s) xs bytes = ChallengeNumbers s xs bytes

abbrev pub CallNumbersOwn : Type 0
CallNumbersOwn = (c : Call) (xs : List ℕ) → outcome c ≡ numbers xs → NumbersSay c xs

abbrev pub TwoArrayNumbersOwn : Type 0
TwoArrayNumbersOwn = (c : TwoArrayCall) (xs : List ℕ) → two_array_outcome c ≡ numbers xs → TwoArraysSay c xs (bytes_beside c)

-- ---- demand 1: "It answers, or refuses by a number". A reading from C hands out numbers exactly where the reader takes, and is
-- refused exactly as the reader refuses

abbrev pub outcome_verdict : Outcome → Result ⊤ Refusal
outcome_verdict (numbers xs) = Ok tt
outcome_verdict (refused e) = Err e

pub record JudgedFromC (s : List ℕ) : Type 0 where
  pub nego : outcome_verdict (outcome (read_negotiate_call s)) ≡ nego_verdict (read_negotiate s)
  pub chal : outcome_verdict (two_array_outcome (read_challenge_call s)) ≡ chal_verdict (read_challenge s).reading
  pub auth : outcome_verdict (two_array_outcome (read_authenticate_call s)) ≡ auth_verdict (read_authenticate s).reading
  pub nl_auth : outcome_verdict (outcome (read_nl_auth_call s)) ≡ nl_verdict (read_nl_auth s)
  pub timestamp : outcome_verdict (outcome (read_timestamp s)) ≡ timestamp_verdict (timestamp_of s)
  pub server_names : outcome_verdict (outcome (read_server_names s)) ≡ server_names_verdict (server_names_of s)

abbrev pub ReadingsFromC : Type 0
ReadingsFromC = (s : List ℕ) → JudgedFromC s

-- the same of what is counted, searched and asked in a pair list that is lent by itself, and of a decision on a challenge
pub record AskedFromC (s : List ℕ) : Type 0 where
  pub count : outcome_verdict (outcome (count_pairs_call s)) ≡ count_verdict (count_pairs s)
  pub found : (id : ℕ) → outcome_verdict (outcome (find_pair_call s id)) ≡ search_verdict (find_pair (record { id = id }) s)
  pub asked : (at : ℕ) → outcome_verdict (outcome (next_pair s at)) ≡ step_verdict (ask_at s at).step
  pub decided : (settings : ℕ) → outcome_verdict (outcome (decide settings s)) ≡ decided_verdict (decision_on (settings_of settings) s)

abbrev pub AskingsFromC : Type 0
AskingsFromC = (s : List ℕ) → AskedFromC s
