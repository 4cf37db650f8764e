-- Document 02, 10/12: the MIC is worked out and checked. "One call gives the sixteen bytes, another says yes exactly when they equal
-- those in the message." "It is over whole messages, so demand 2's word that MaxLen and ignored bytes change nothing leaves these two
-- calls' answers out", and "demand 3 covers the refusals here, which depend only on the key's length, the two earlier messages, and
-- the AUTHENTICATE's length and first 64 bytes."
use Rattle.std.specs.Prelude.{Result, Ok, Err, Bool, ℕ, ◌≤◌, ◌<◌, ◌≡◌, ◌⊎◌, ◌↔◌, true, false, List, ◌++◌, length, get_or, take, drop, replicate}
use Rattle.std.proofs.lemmas.List.Edits.{sets}
use Rattle.wire.specs.declared.refusal.Refusal.{Refusal}
use Rattle.wire.specs.declared.refusal.Refusal.TheVariants.{NoRoom}
use Rattle.hmac_md5.specs.Hmac.{hmac}
use Rattle.mic.specs.Mic.{computed_mic, check_mic}
use Rattle.c_number.specs.Outcome.{call_number, call_out}
use Rattle.c_mic.specs.Numbers.{mic_outcome, checking_number}
use Rattle.demands.specs.Answers.{is_refused, number_in, DecodesLength, DecodesRefusal, DecodesVerdict}
use Rattle.demands.specs.Kept.{Front}
use Rattle.demands.specs.Message.{negotiate, challenge, authenticate, Fails, MicThere, DifferInIgnored}
use Rattle.demands.specs.Order.{First}
use Rattle.demands.specs.TakenExactly.{Judged, InfoBytes, ChallengeHolds, ChallengeFails}

-- ---- when there is an answer, and what it is

-- a key of 16 bytes, three messages that are taken (info is TargetInfo's bytes), and a MIC in the last
pub record MicHolds (size : ℕ) (nego chal info auth : List ℕ) : Type 0 where
  pub key : size ≡ 16
  pub nego_taken : (n i : ℕ) → Fails negotiate nego n i → ⊥
  pub chal_taken : ChallengeHolds chal info
  pub auth_taken : (n i : ℕ) → Fails authenticate auth n i → ⊥
  pub mic : MicThere authenticate auth

-- "55 with field 0 for a key that isn't 16 bytes, then each message's reading refusals in the order given, then 56 with field 0 where
-- the AUTHENTICATE has no MIC": number n, field i and place p
pub data MicFails (size : ℕ) (nego chal info auth : List ℕ) (n i p : ℕ) : Type 0 where
  wrong_key : (size ≡ 16 → ⊥) → n ≡ 55 → i ≡ 0 → p ≡ 0 → MicFails size nego chal info auth n i p
  in_negotiate : size ≡ 16 → First (Fails negotiate nego) n i → p ≡ 0 → MicFails size nego chal info auth n i p
  in_challenge : size ≡ 16 → ((m j : ℕ) → Fails negotiate nego m j → ⊥) → ChallengeFails chal info n i p → MicFails size nego chal info auth n i p
  in_authenticate : size ≡ 16 → ((m j : ℕ) → Fails negotiate nego m j → ⊥) → ChallengeHolds chal info → First (Fails authenticate auth) n i → p ≡ 0 →
      MicFails size nego chal info auth n i p
  no_mic : size ≡ 16 → ((m j : ℕ) → Fails negotiate nego m j → ⊥) → ChallengeHolds chal info → ((m j : ℕ) → Fails authenticate auth m j → ⊥) →
      (MicThere authenticate auth → ⊥) → n ≡ 56 → i ≡ 0 → p ≡ 0 → MicFails size nego chal info auth n i p

-- the MIC is worked out if and only if all that holds, and refused with n, i and p if and only if that is the first failure
abbrev pub MicJudged : Type 0
MicJudged =
    (key nego chal info auth : List ℕ) → InfoBytes chal info →
    Judged (computed_mic key nego chal auth).verdict (MicHolds (length key) nego chal info auth) (MicFails (length key) nego chal info auth)

-- a refusal gives sixteen zeros
abbrev pub MicRefusedZeros : Type 0
MicRefusedZeros =
    (key nego chal auth : List ℕ) (e : Refusal) → (computed_mic key nego chal auth).verdict ≡ Err e → (computed_mic key nego chal auth).mic ≡ replicate 16 0

-- what it is: HMAC-MD5 over the three messages, "with the sixteen MIC bytes taken as zero"
abbrev pub MicIs : Type 0
MicIs =
    (key nego chal auth : List ℕ) → (computed_mic key nego chal auth).verdict ≡ Ok tt →
    (computed_mic key nego chal auth).mic ≡ hmac key (nego ++ (chal ++ (take 72 auth ++ (replicate 16 0 ++ drop 88 auth))))

-- ---- the answers of the C interface

-- that of dialtable_mic, with an array of so many bytes, and that of dialtable_check_mic
abbrev pub mic_number : ℕ → List ℕ → List ℕ → List ℕ → List ℕ → ℕ
mic_number room key nego chal auth = call_number 16 (mic_outcome (computed_mic key nego chal auth)) room

abbrev pub check_number : List ℕ → List ℕ → List ℕ → List ℕ → ℕ
check_number key nego chal auth = checking_number (check_mic key nego chal auth)

-- the header's macros take out of the first 33 where the array is too short, and else the refusal, or it is 0
abbrev pub MicDecodes : Type 0
MicDecodes =
    (room : ℕ) (key nego chal auth : List ℕ) →
    (room < 16 → DecodesRefusal (mic_number room key nego chal auth) NoRoom)
    × (16 ≤ room → DecodesVerdict (mic_number room key nego chal auth) (computed_mic key nego chal auth).verdict)

-- and out of the second the refusal, or it is 1 for yes and 0 for no
abbrev pub DecodesChecking : ℕ → Result Bool Refusal → Type 0
DecodesChecking answer (Ok true) = DecodesLength answer 1
DecodesChecking answer (Ok false) = DecodesLength answer 0
DecodesChecking answer (Err e) = DecodesRefusal answer e

abbrev pub CheckMicDecodes : Type 0
CheckMicDecodes = (key nego chal auth : List ℕ) → DecodesChecking (check_number key nego chal auth) (check_mic key nego chal auth)

-- ---- the two calls agree

pub record Agree (key nego chal auth : List ℕ) : Type 0 where
  pub refused : (e : Refusal) → (check_mic key nego chal auth ≡ Err e) ↔ ((computed_mic key nego chal auth).verdict ≡ Err e)
  pub yes : (check_mic key nego chal auth ≡ Ok true) ↔ (((computed_mic key nego chal auth).verdict ≡ Ok tt) × (take 16 (drop 72 auth) ≡ (computed_mic key nego chal auth).mic))
  -- from C, where the array has its room: both are refused or none, and a refusal is the same number
  pub refused_from_c : (room : ℕ) → 16 ≤ room → is_refused (mic_number room key nego chal auth) ≡ is_refused (check_number key nego chal auth)
  pub same_number : (room : ℕ) → 16 ≤ room → is_refused (check_number key nego chal auth) ≡ 1 → mic_number room key nego chal auth ≡ check_number key nego chal auth

abbrev pub MicAgree : Type 0
MicAgree = (key nego chal auth : List ℕ) → Agree key nego chal auth

-- ---- the MIC's own bytes change nothing in what is worked out

pub record DifferInMic (s t : List ℕ) : Type 0 where
  pub length_same : length s ≡ length t
  pub elsewhere : (p : ℕ) → (get_or s p 0 ≡ get_or t p 0) ⊎ ((72 ≤ p) × (p < 88))

abbrev pub MicBlind : Type 0
MicBlind = (key nego chal s t : List ℕ) → DifferInMic s t → computed_mic key nego chal s ≡ computed_mic key nego chal t

-- ---- what is worked out, put at 72 of the AUTHENTICATE, makes the check say yes, and any other sixteen bytes make it say no

pub record PutIn (key nego chal auth bytes : List ℕ) : Type 0 where
  pub yes : bytes ≡ (computed_mic key nego chal auth).mic → check_mic key nego chal (sets auth 72 bytes) ≡ Ok true
  pub no : (bytes ≡ (computed_mic key nego chal auth).mic → ⊥) → check_mic key nego chal (sets auth 72 bytes) ≡ Ok false

abbrev pub MicPutIn : Type 0
MicPutIn =
    (key nego chal auth bytes : List ℕ) → (computed_mic key nego chal auth).verdict ≡ Ok tt → length bytes ≡ 16 → PutIn key nego chal auth bytes

-- ---- by what the refusals don't go

-- both calls are refused twice, with the same refusal, or not at all
pub record SameMicRefusals (key nego chal auth key' nego' chal' auth' : List ℕ) : Type 0 where
  pub computed : (computed_mic key nego chal auth).verdict ≡ (computed_mic key' nego' chal' auth').verdict
  pub checked : (e : Refusal) → (check_mic key nego chal auth ≡ Err e) ↔ (check_mic key' nego' chal' auth' ≡ Err e)
  pub from_c : (room : ℕ) → mic_number room key nego chal auth ≡ mic_number room key' nego' chal' auth'
  -- a check from C: both are refused or none, and where one is refused both have its number
  pub check_refused : is_refused (check_number key nego chal auth) ≡ is_refused (check_number key' nego' chal' auth')
  pub check_from_c : is_refused (check_number key nego chal auth) ≡ 1 → check_number key nego chal auth ≡ check_number key' nego' chal' auth'

-- demand 2, which leaves the answers out and not the refusals: MaxLen and ignored bytes of the three messages change none
abbrev pub MicIgnored : Type 0
MicIgnored =
    (key nego chal auth nego' chal' auth' : List ℕ) →
    DifferInIgnored negotiate nego nego' → DifferInIgnored challenge chal chal' → DifferInIgnored authenticate auth auth' →
    SameMicRefusals key nego chal auth key nego' chal' auth'

-- demand 3: refusals tell no secret. Keys of one length, AUTHENTICATEs of one length and alike in their first 64 bytes
abbrev pub MicSecret : Type 0
MicSecret =
    (key key' nego chal s t : List ℕ) → length key ≡ length key' → length s ≡ length t → ((p : ℕ) → p < 64 → get_or s p 0 ≡ get_or t p 0) →
    SameMicRefusals key nego chal s key' nego chal t

-- ---- Kept: the C call is answered 0 and hands out the sixteen bytes, or is refused and leaves its array as it was

-- refused with e: 33 exactly where the array has under 16 bytes, and else what the verdict is
pub record MicUnwritten (key nego chal auth out : List ℕ) (e : Refusal) : Type 0 where
  pub unchanged : call_out 16 (mic_outcome (computed_mic key nego chal auth)) out ≡ out
  pub answer : DecodesRefusal (mic_number (length out) key nego chal auth) e
  pub which : ((length out < 16) × (e ≡ NoRoom)) ⊎ ((16 ≤ length out) × ((computed_mic key nego chal auth).verdict ≡ Err e))
  pub no_room : (number_in (mic_number (length out) key nego chal auth) ≡ 33) ↔ (length out < 16)

abbrev pub MicKept : Type 0
MicKept =
    (key nego chal auth out : List ℕ) →
    ((mic_number (length out) key nego chal auth ≡ 0)
    × ((computed_mic key nego chal auth).verdict ≡ Ok tt)
    × Front (computed_mic key nego chal auth).mic out (call_out 16 (mic_outcome (computed_mic key nego chal auth)) out))
    ⊎ ((e : Refusal) × MicUnwritten key nego chal auth out e)
