-- What a call of the C interface hands out stands at the front of its arrays, and nothing after it changes.
use Rattle.std.specs.Prelude.{Result, Option, Ok, Err, Some, None, ⊤}
use Rattle.av_pairs.specs.declared.AvPair.{AvPair}
use Rattle.read_authenticate.specs.declared.Authenticate.{Authenticate}
use Rattle.read_challenge.specs.declared.Challenge.{Challenge}
use Rattle.read_negotiate.specs.declared.Negotiate.{Negotiate}
use Rattle.read_nl_auth.specs.declared.NlAuth.{NlAuth}
use Rattle.respond.specs.declared.decision.Decision.{Decision}
use Rattle.target_info.specs.declared.ServerNames.{ServerNames}
use Rattle.wire.specs.declared.refusal.Refusal.{Refusal}
use Prim.Native.Nat.{ℕ, ◌≤◌, ◌<◌}
use mathlib.Core.Path.{◌≡◌, refl}
use mathlib.Core.Bool.{Bool, true, false, ◌&&◌, cond}
use mathlib.Core.List.{List}
use native.Mathlib.Omega.{arith}
use lib.Dec.{leb}
use lib.ListN.{length, take, drop, replicate, length-take, length-drop}
use lib.Seq.{take-append_seam}
use borrow.Author.Tests.{leb-true}
use Rattle.wire.specs.declared.refusal.Refusal.TheVariants.{NoRoom}
use Rattle.wire.specs.Check.{checked, after}
use Rattle.wire.proofs.Bools.{and_left, and_right}
use Rattle.place.specs.Written.{at_front}
use Rattle.read_authenticate.specs.Authenticate.{reading_of, read_authenticate, mic_bytes}
use Rattle.read_authenticate.proofs.Mic.{mic_room}
use Rattle.av_pairs.specs.AvPairs.{count_pairs, ask_at}
use Rattle.read_challenge.specs.Challenge.{reading_of as challenge_reading, read_challenge, server_challenge, timestamp_of, server_names_of}
use Rattle.read_negotiate.specs.Negotiate.{read_negotiate}
use Rattle.read_nl_auth.specs.NlAuth.{read_nl_auth}
use Rattle.respond.specs.Decision.{decision_on}
use Rattle.c_number.specs.Number.{refusal_number}
use Rattle.c_number.specs.Outcome.{Outcome, numbers, refused, outcome_number, outcome_out, outcome_bytes, call_number, call_out, two_array_number, two_array_out, two_array_bytes}
use Rattle.c_read.specs.Numbers.{negotiate_numbers, authenticate_numbers, challenge_numbers, timestamp_numbers, server_names_numbers, nl_auth_numbers, negotiate_outcome, authenticate_outcome, challenge_outcome, timestamp_outcome, server_names_outcome, nl_auth_outcome}
use Rattle.c_pairs.specs.Pairs.{found_numbers, pair_numbers, count_outcome, search_outcome, step_outcome}
use Rattle.c_respond.specs.Settings.{settings_of}
use Rattle.c_respond.specs.Respond.{decision_numbers, decided_outcome}
use Rattle.target_info.specs.TargetInfo.{find_pair}
use Rattle.md5_digest.specs.Digest.{word_bytes, md5}
use Rattle.hmac_md5.specs.Hmac.{hmac}
use Rattle.mic.specs.Mic.{mic_of, check_inputs, when_clear, computed_mic}
use Rattle.c_mic.specs.Numbers.{handed_out}
use Rattle.demands.specs.FromC.{Call, read_negotiate_call, read_timestamp, read_server_names, read_nl_auth_call, count_pairs_call, find_pair_call, next_pair, decide, compute_mic, count, outcome, TwoArrayCall, read_authenticate_call, read_challenge_call, number_count, byte_count, two_array_outcome, bytes_beside}
use Rattle.demands.specs.Kept.{Front, Handed, CallFront, TwoArraysFront}
use Rattle.demands.proofs.OwnBytes.ChallengeOwn.{taken_as}
use Rattle.demands.proofs.Kept.{front_length, front_rest}

pub at_front_lem : (xs out : List ℕ) → length xs ≤ length out → Front xs out (at_front xs out)
at_front_lem xs out room =
    record {
      same_length = front_length xs out room;
      front = take-append_seam xs (drop (length xs) out);
      rest = front_rest xs out room;
    }

-- ---- a MIC has sixteen bytes

digest_length : (m : List ℕ) → length (md5 m) ≡ 16
unfolding md5 word_bytes
digest_length m = refl

pub mic_length : (key nego chal auth : List ℕ) → length (mic_of key nego chal auth) ≡ 16
unfolding mic_of hmac
mic_length key nego chal auth = digest_length _

-- ---- each outcome has as many numbers as its call asks room for

abbrev Counted : ℕ → Outcome → Type 0
Counted n (numbers xs) = length xs ≡ n
Counted n (refused e) = Unit

counted : (c : Call) → Counted (count c) (outcome c)
unfolding negotiate_numbers timestamp_numbers server_names_numbers nl_auth_numbers found_numbers pair_numbers decision_numbers computed_mic
counted (read_negotiate_call s) = go (read_negotiate s) where
  go : (r : Result Negotiate Refusal) → Counted 7 (negotiate_outcome r)
  go (Ok m) = refl
  go (Err e) = tt
counted (read_timestamp s) = go (timestamp_of s) where
  go : (r : Result (Option ℕ) Refusal) → Counted 2 (timestamp_outcome r)
  go (Ok (Some t)) = refl
  go (Ok None) = refl
  go (Err e) = tt
counted (read_server_names s) = go (server_names_of s) where
  go : (r : Result ServerNames Refusal) → Counted 2 (server_names_outcome r)
  go (Ok n) = refl
  go (Err e) = tt
counted (read_nl_auth_call s) = go (read_nl_auth s) where
  go : (r : Result NlAuth Refusal) → Counted 15 (nl_auth_outcome r)
  go (Ok m) = refl
  go (Err e) = tt
counted (count_pairs_call s) = go (count_pairs s) where
  go : (r : Result ℕ Refusal) → Counted 1 (count_outcome r)
  go (Ok n) = refl
  go (Err e) = tt
counted (find_pair_call s id) = go (find_pair (record { id = id }) s) where
  go : (r : Result (Option AvPair) Refusal) → Counted 3 (search_outcome r)
  go (Ok (Some p)) = refl
  go (Ok None) = refl
  go (Err e) = tt
counted (next_pair s at) = go (ask_at s at).step (ask_at s at).next where
  go : (r : Result (Option AvPair) Refusal) (next : ℕ) → Counted 5 (step_outcome r next)
  go (Ok (Some p)) next = refl
  go (Ok None) next = refl
  go (Err e) next = tt
counted (decide settings s) = go (decision_on (settings_of settings) s) where
  go : (r : Result Decision Refusal) → Counted 3 (decided_outcome r)
  go (Ok d) = by d.timestamp where
    by : (t : _) → length (decision_numbers d.flags.bits t) ≡ 3
    by (Some t) = refl
    by None = refl
  go (Err e) = tt
counted (compute_mic key nego chal auth) = go (check_inputs (length key) nego chal auth) where
  go : (v : Result ⊤ Refusal) → Counted 16 (handed_out v (when_clear v (mic_of key nego chal auth)))
  go (Ok tt) = mic_length key nego chal auth
  go (Err e) = tt

two_counted : (c : TwoArrayCall) → Counted (number_count c) (two_array_outcome c)
unfolding authenticate_numbers challenge_numbers
two_counted (read_authenticate_call s) = go (read_authenticate s).reading where
  go : (r : Result Authenticate Refusal) → Counted 20 (authenticate_outcome r)
  go (Ok a) = refl
  go (Err e) = tt
two_counted (read_challenge_call s) = go (read_challenge s).reading where
  go : (r : Result Challenge Refusal) → Counted 7 (challenge_outcome r)
  go (Ok c) = refl
  go (Err e) = tt

-- ---- a call that is answered 0

-- no refusal is the number 0
not-zero : {A : Type 0} (e : _) → refusal_number e ≡ 0 → A
not-zero e h = absurd (omega arith)

pub call_front : CallFront
unfolding call_number call_out
call_front c out h = go (leb (count c) (length out)) refl (outcome c) (counted c) h where
  go : (t : Bool) → leb (count c) (length out) ≡ t → (o : Outcome) → Counted (count c) o → after (checked t) (refusal_number NoRoom) (outcome_number o) ≡ 0 →
      Handed o (count c) out (after (checked t) out (outcome_out o out))
  go true p (numbers xs) n z =
      record {
        given = xs;
        outcome_is = refl;
        count_is = n;
        array = at_front_lem xs out (omega (arith, leb-true (count c) (length out) p, n));
      }
  go true p (refused e) n z = not-zero e z
  go false p o n z = not-zero NoRoom z

-- ---- the bytes beside the numbers

pub mic_16 : (s : List ℕ) → length (read_authenticate s).mic ≡ 16
unfolding read_authenticate
mic_16 s = go (reading_of s) refl where
  go : (r : Result Authenticate Refusal) → r ≡ reading_of s → length (mic_bytes r s) ≡ 16
  go (Ok a) e = by a.mic_present refl where
    by : (b : Bool) → a.mic_present ≡ b → length (cond b (take 16 (drop 72 s)) (replicate 16 0)) ≡ 16
    by true p = simp (length-take, length-drop) (omega (arith, mic_room s (Ok a) a e refl p))
    by false p = refl
  go (Err d) e = refl

server_8 : (s : List ℕ) → length (read_challenge s).server_challenge ≡ 8
unfolding read_challenge
server_8 s = go (challenge_reading s) refl where
  long : (length s < 48 → ⊥) → length (take 8 (drop 24 s)) ≡ 8
  long h = simp (length-take, length-drop) (omega (arith, h))

  go : (r : Result Challenge Refusal) → challenge_reading s ≡ r → length (server_challenge r s) ≡ 8
  go (Ok c) e = long (λ l. (taken_as s c e).none 2 0 (refl, l))
  go (Err d) e = refl

beside_counted : (c : TwoArrayCall) → length (bytes_beside c) ≡ byte_count c
beside_counted (read_authenticate_call s) = mic_16 s
beside_counted (read_challenge_call s) = server_8 s

pub two_arrays_front : TwoArraysFront
unfolding two_array_number two_array_out two_array_bytes
two_arrays_front c out beside h =
    let w = go (leb (number_count c) (length out) && leb (byte_count c) (length beside)) refl (two_array_outcome c) (two_counted c) h in
    record { numbers_given = w.0; byte_count_is = beside_counted c; bytes_given = w.1 }
  where
    go : (t : Bool) → (leb (number_count c) (length out) && leb (byte_count c) (length beside)) ≡ t →
        (o : Outcome) → Counted (number_count c) o → after (checked t) (refusal_number NoRoom) (outcome_number o) ≡ 0 →
        Handed o (number_count c) out (after (checked t) out (outcome_out o out))
        × Front (bytes_beside c) beside (after (checked t) beside (outcome_bytes o (bytes_beside c) beside))
    go true p (numbers xs) n z =
        let a = leb-true (number_count c) (length out) (and_left _ (leb (byte_count c) (length beside)) p) in
        let b = leb-true (byte_count c) (length beside) (and_right (leb (number_count c) (length out)) _ p) in (
          record { given = xs; outcome_is = refl; count_is = n; array = at_front_lem xs out (omega (arith, a, n)) },
          at_front_lem (bytes_beside c) beside (omega (arith, b, beside_counted c)),
        )
    go true p (refused e) n z = not-zero e z
    go false p o n z = not-zero NoRoom z
