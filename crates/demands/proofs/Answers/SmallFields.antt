-- Every refusal that a call gives has a field of at most 6.
use Rattle.wire.specs.Check.{on_ok}
use Rattle.std.specs.Prelude.{Result, Option, Ok, Err, Some, None, ⊤}
use Rattle.av_pairs.specs.declared.AvPair.{AvPair}
use Rattle.read_authenticate.specs.declared.Authenticate.{Authenticate}
use Rattle.read_negotiate.specs.declared.Negotiate.{Negotiate}
use Rattle.read_nl_auth.specs.declared.NlAuth.{NlAuth}
use Rattle.respond.specs.declared.decision.Decision.{Decision}
use Prim.Native.Nat.{ℕ, ◌+◌, ◌≤◌}
use mathlib.Core.Path.{◌≡◌, refl}
use mathlib.Core.Bool.{Bool, true, false, cond}
use mathlib.Core.List.{List}
use native.Mathlib.Omega.{arith}
use lib.Dec.{leb, eqb}
use lib.ListN.{length}
use borrow.Author.Tests.{leb-true, leb-false}
use Rattle.wire.specs.declared.refusal.Refusal.{Refusal}
use Rattle.wire.specs.declared.refusal.Refusal.TheVariants.{PairMissing, No128Bit, NoServerNames, OddNameToWrite, NoRoom, WrongSessionKey, NoMic, ZeroInString, WrongLabel, NameTooLong}
use Rattle.wire.specs.Check.{checked, after, on_clear}
use Rattle.wire.specs.Number.{u16_at}
use Rattle.wire.proofs.Places.{moved_number, of_after}
use Rattle.read_challenge.specs.declared.Challenge.{Challenge}
use Rattle.wire.specs.Refusal.{number_of, field_of, place_of}
use Rattle.place.specs.Written.{size_holds as size_to_hold, room_holds, answered, bytes_hold, bytes_answer}
use Rattle.negotiate_flags.specs.declared.NegotiateFlags.{NegotiateFlags}
use Rattle.negotiate_flags.specs.Flags.{unicode, charset_holds}
use Rattle.read_authenticate.specs.Authenticate.{read_authenticate}
use Rattle.write_authenticate.specs.Writing.{authenticate_bytes, even_to_write, check_names_to_write, key_holds, size_to_write, check_to_write, write_answer}
use Rattle.av_id.specs.declared.AvId.{AvId}
use Rattle.av_id.specs.AvId.{is_end}
use Rattle.av_pairs.specs.AvPairs.{left, pair_there, end_pair_holds, value_inside, value_size_holds, pair_of, id_at, step_at, pairs_of, check_pairs, count_pairs, ask_at}
use Rattle.read_challenge.specs.Challenge.{fields_of, info_of, in_message, check_info, reading_of, read_challenge, timestamp_of, server_names_of}
use Rattle.read_negotiate.specs.Negotiate.{read_negotiate}
use Rattle.write_negotiate.specs.Writing.{negotiate_bytes, size_to_write as negotiate_size, check_to_write as negotiate_checks, write_answer as negotiate_answer}
use Rattle.read_nl_auth.specs.NlAuth.{read_nl_auth}
use Rattle.nl_auth_flags.specs.declared.NlAuthFlags.{NlAuthFlags}
use Rattle.nl_auth_flags.specs.Flags.{nb_domain, nb_computer, dns_domain, dns_host, utf8_computer, known, strings_hold}
use Rattle.write_dns_name.specs.Writing.{text_holds, coded_holds}
use Rattle.write_nl_auth.specs.Writing.{request_bytes, response_bytes, no_zero, check_zeros, check_labels, check_coded, check_strings, under, check_under, check_request, request_answer, response_answer}
use Rattle.respond.specs.declared.decision.Settings.{Settings}
use Rattle.respond.specs.Decision.{decision_on, strength_holds, server_names_hold}
use Rattle.write_response_pairs.specs.ResponsePairs.{even_target_name, check_list, list_for, list_answer, write_answer as pairs_answer}
use Rattle.c_number.specs.Outcome.{Outcome, numbers, refused}
use Rattle.c_read.specs.Numbers.{negotiate_outcome, authenticate_outcome, challenge_outcome, timestamp_outcome, server_names_outcome, nl_auth_outcome}
use Rattle.c_pairs.specs.Pairs.{count_outcome, search_outcome, step_outcome}
use Rattle.c_respond.specs.Settings.{settings_of}
use Rattle.c_respond.specs.Respond.{decided_outcome}
use Rattle.target_info.specs.TargetInfo.{first_pair, find_pair, timestamp_in, server_names_in}
use Rattle.verdict.specs.Verdict.{nego_verdict, chal_verdict}
use Rattle.mic.specs.Mic.{key_size_holds as session_key_holds, authenticate_verdict, check_inputs, when_clear, mic_of, computed_mic}
use Rattle.c_mic.specs.Numbers.{handed_out}
use Rattle.demands.specs.Answers.{Writing, write_negotiate, write_authenticate, write_nl_auth_request, write_nl_auth_response, write_response_pairs, writing_answer}
use Rattle.demands.specs.FromC.{Call, read_negotiate_call, read_timestamp, read_server_names, read_nl_auth_call, count_pairs_call, find_pair_call, next_pair, decide, compute_mic, outcome, TwoArrayCall, read_authenticate_call, read_challenge_call, two_array_outcome}
use Rattle.demands.specs.Message.{Format, negotiate, authenticate, challenge, Fails}
use Rattle.demands.specs.NlAuth.{NlFails}
use Rattle.demands.proofs.Order.{on_row}
use Rattle.demands.proofs.Message.Chain.{by_row}
use Rattle.demands.proofs.TakenExactly.Challenge.{JudgedF, fields_of_judged, JudgedP, pairs_judged}
use Rattle.demands.proofs.TakenExactly.Negotiate.{negotiate_judged}
use Rattle.demands.proofs.NlAuth.{nl_auth_judged}
use Rattle.demands.proofs.TakenExactly.{authenticate_judged}
use Rattle.demands.proofs.Answers.Decoded.{Small}

-- ---- reading: by the tables of checks

fails_field : (k : Format) (s : List ℕ) (n i : ℕ) → Fails k s n i → i ≤ k.last
fails_field k s n i w = go (leb i k.last) refl where
  go : (t : Bool) → leb i k.last ≡ t → i ≤ k.last
  go true p = leb-true i k.last p
  go false p =
      let l = leb-false i k.last p in
      absurd (by_row k s n i (λ x. omega (arith, l, x.0)) (λ x. omega (arith, l, x.0)) (λ x. omega (arith, l, x.0)) (λ x. omega (arith, l, x.0)) (λ x. omega (arith, l, x.0)) (λ x. omega (arith, l, x.0.last)) (λ x. omega (arith, l, x.0.last)) (λ x. omega (arith, l, x.0.last)) (λ x. omega (arith, l, x.0.last)) w)

pub authenticate_small : (s : List ℕ) (e : Refusal) → (read_authenticate s).reading ≡ Err e → Small e
authenticate_small s e h =
    fails_field authenticate s (number_of e) (field_of e)
    (((authenticate_judged s).refused (number_of e) (field_of e) (place_of e)).0 (rw h (refl, refl, refl))).0.fails

pub negotiate_small : (s : List ℕ) (e : Refusal) → read_negotiate s ≡ Err e → Small e
negotiate_small s e h =
    omega (
      arith,
      fails_field negotiate s (number_of e) (field_of e)
          (((negotiate_judged s).refused (number_of e) (field_of e) (place_of e)).0 (rw h (refl, refl, refl))).0.fails,
    )

nl_fails_field : (s : List ℕ) (n i : ℕ) → NlFails s n i → i ≤ 5
nl_fails_field s n i w =
    on_row 1 n _ _ (i ≤ 5) (λ e x. omega (arith, x.0)) (
    on_row 2 n _ _ (i ≤ 5) (λ e x. omega (arith, x.0)) (
    on_row 4 n _ _ (i ≤ 5) (λ e x. omega (arith, x.0)) (
    on_row 14 n _ _ (i ≤ 5) (λ e x. omega (arith, x.0)) (
    on_row 15 n _ _ (i ≤ 5) (λ e x. x.1) (
    on_row 50 n _ _ (i ≤ 5) (λ e x. x.1) (
    on_row 51 n _ _ (i ≤ 5) (λ e x. x.1) (
    on_row 52 n _ _ (i ≤ 5) (λ e x. x.1) (
    on_row 53 n _ _ (i ≤ 5) (λ e x. x.1) (
    on_row 16 n _ _ (i ≤ 5) (λ e x. omega (arith, x.0)) (
    on_row 17 n _ _ (i ≤ 5) (λ e x. omega (arith, x.0)) (λ x. absurd x))))))))))) w

pub nl_auth_small : (s : List ℕ) (e : Refusal) → read_nl_auth s ≡ Err e → Small e
nl_auth_small s e h =
    omega (
      arith,
      nl_fails_field s (number_of e) (field_of e)
          (((nl_auth_judged s).refused (number_of e) (field_of e) (place_of e)).0 (rw h (refl, refl, refl))).0.fails,
    )

-- ---- pair lists

abbrev pub SmallV : Result ⊤ Refusal → Type 0
SmallV (Ok tt) = Unit
SmallV (Err e) = Small e

pub pairs_small : (s : List ℕ) → SmallV (check_pairs s)
pairs_small s = go (check_pairs s) (pairs_judged s) where
  go : (v : Result ⊤ Refusal) → JudgedP s v → SmallV v
  go (Ok tt) j = tt
  go (Err e) j = omega (arith, j.1)

abbrev pub SmallS : Result (Option AvPair) Refusal → Type 0
SmallS (Ok (Some p)) = Unit
SmallS (Ok None) = Unit
SmallS (Err e) = Small e

-- either branch is small
small_cond : {A : Type 0} (P : A → Type 0) (b : Bool) (x y : A) → P x → P y → P (cond b x y)
small_cond P true x y f g = f
small_cond P false x y f g = g

-- ---- CHALLENGE

abbrev pub SmallC : Result Challenge Refusal → Type 0
SmallC (Ok c) = Unit
SmallC (Err e) = Small e

pub challenge_small : (s : List ℕ) → SmallC (reading_of s)
unfolding reading_of check_info
challenge_small s = go (fields_of s) (fields_of_judged s) where
  by : (c : Challenge) (v : Result ⊤ Refusal) → SmallV v → SmallC (on_clear Err (in_message c.fields.target_info v) (Ok c))
  by c (Ok tt) w = tt
  by c (Err e) w = rw (moved_number c.fields.target_info.offset e).1 w

  go : (r : Result Challenge Refusal) → JudgedF s r → SmallC (on_ok Err r (λ c. on_clear Err (check_info s c) (Ok c)))
  go (Ok c) j = by c (check_pairs (info_of s c)) (pairs_small (info_of s c))
  go (Err e) j = omega (arith, fails_field challenge s (number_of e) (field_of e) j.fails)

-- ---- one step of a list

small_pair : (id : AvId) (len at left : ℕ) → SmallS (pair_of id len at left)
unfolding pair_of
small_pair id len at left =
    of_after SmallS (end_pair_holds id len left) _ _ (omega arith)
    (of_after SmallS (value_inside len left) _ _ (omega arith)
    (of_after SmallS (value_size_holds id len) _ _ (omega arith)
    (small_cond SmallS (is_end id) (Ok None) (Ok (Some (record { id = id; at = at + 4; len = len }))) tt tt)))

pub step_small : (s : List ℕ) (at : ℕ) → SmallS (step_at s at)
unfolding step_at
step_small s at =
    small_cond SmallS (eqb (length s) 0) (Ok None) _ tt
    (of_after SmallS (pair_there (left s at)) (Err (PairMissing at)) _ (omega arith) (small_pair (id_at s at) (u16_at s (at + 2)) at (left s at)))

-- ---- the decision

abbrev pub SmallD : Result Decision Refusal → Type 0
SmallD (Ok d) = Unit
SmallD (Err e) = Small e

pub decision_small : (settings : Settings) (s : List ℕ) → SmallD (decision_on settings s)
unfolding decision_on
decision_small settings s = go (reading_of s) (challenge_small s) where
  go : (r : Result Challenge Refusal) → SmallC r →
      SmallD (on_ok Err r (λ c.
      after (strength_holds settings c.flags) (Err No128Bit) (
      after (server_names_hold settings (server_names_in (info_of s c))) (Err NoServerNames)
      (Ok (record { flags = c.flags; timestamp = timestamp_in (info_of s c) })))))
  go (Ok c) w =
      of_after SmallD (strength_holds settings c.flags) (Err No128Bit) _ (omega arith)
      (of_after SmallD (server_names_hold settings (server_names_in (info_of s c))) (Err NoServerNames) (Ok (record { flags = c.flags; timestamp = timestamp_in (info_of s c) })) (omega arith) tt)
  go (Err e) w = w

-- ---- writing

small_clear : (v x : Result ⊤ Refusal) → SmallV v → SmallV x → SmallV (on_clear Err v x)
small_clear (Ok tt) x f g = g
small_clear (Err e) x f g = f

negotiate_checks_lem : (room : ℕ) (flags : NegotiateFlags) (domain workstation : List ℕ) → SmallV (negotiate_checks room flags domain workstation)
unfolding negotiate_checks
negotiate_checks_lem room flags domain workstation =
    of_after SmallV (charset_holds flags) _ _ (omega arith)
    (of_after SmallV (size_to_hold (negotiate_size domain workstation)) _ _ (omega arith)
    (of_after SmallV (room_holds (negotiate_size domain workstation) room) (Err NoRoom) (Ok tt) (omega arith) tt))

names_small : (unicode : Bool) (domain user workstation : List ℕ) → SmallV (check_names_to_write unicode domain user workstation)
unfolding check_names_to_write
names_small unicode domain user workstation =
    of_after SmallV (even_to_write unicode domain) _ _ (omega arith)
    (of_after SmallV (even_to_write unicode user) _ _ (omega arith)
    (of_after SmallV (even_to_write unicode workstation) (Err (OddNameToWrite 5)) (Ok tt) (omega arith) tt))

authenticate_checks : (room : ℕ) (flags : NegotiateFlags) (lm nt domain user workstation key : List ℕ) → SmallV (check_to_write room flags lm nt domain user workstation key)
unfolding check_to_write
authenticate_checks room flags lm nt domain user workstation key =
    of_after SmallV (charset_holds flags) _ _ (omega arith)
    (small_clear (check_names_to_write (unicode flags) domain user workstation) _ (names_small (unicode flags) domain user workstation)
    (of_after SmallV (key_holds flags key) _ _ (omega arith)
    (of_after SmallV (size_to_hold (size_to_write lm nt domain user workstation key)) _ _ (omega arith)
    (of_after SmallV (room_holds (size_to_write lm nt domain user workstation key) room) (Err NoRoom) (Ok tt) (omega arith) tt))))

zeros_small : (a b c d e : List ℕ) → SmallV (check_zeros a b c d e)
unfolding check_zeros
zeros_small a b c d e =
    of_after SmallV (no_zero a) _ _ (omega arith)
    (of_after SmallV (no_zero b) _ _ (omega arith)
    (of_after SmallV (no_zero c) _ _ (omega arith)
    (of_after SmallV (no_zero d) _ _ (omega arith)
    (of_after SmallV (no_zero e) (Err (ZeroInString 5)) (Ok tt) (omega arith) tt))))

labels_small : (c d e : List ℕ) → SmallV (check_labels c d e)
unfolding check_labels
labels_small c d e =
    of_after SmallV (text_holds c) _ _ (omega arith)
    (of_after SmallV (text_holds d) _ _ (omega arith)
    (of_after SmallV (text_holds e) (Err (WrongLabel 5)) (Ok tt) (omega arith) tt))

coded_small : (c d e : List ℕ) → SmallV (check_coded c d e)
unfolding check_coded
coded_small c d e =
    of_after SmallV (coded_holds c) _ _ (omega arith)
    (of_after SmallV (coded_holds d) _ _ (omega arith)
    (of_after SmallV (coded_holds e) (Err (NameTooLong 5)) (Ok tt) (omega arith) tt))

strings_small : (a b c d e : List ℕ) → SmallV (check_strings a b c d e)
unfolding check_strings
strings_small a b c d e =
    small_clear (check_zeros a b c d e) _ (zeros_small a b c d e)
    (small_clear (check_labels c d e) _ (labels_small c d e) (coded_small c d e))

under_small : (flags : NlAuthFlags) (a b c d e : List ℕ) → SmallV (check_under flags a b c d e)
unfolding check_under
under_small flags a b c d e =
    strings_small (under (nb_domain flags) a) (under (nb_computer flags) b) (under (dns_domain flags) c) (under (dns_host flags) d) (under (utf8_computer flags) e)

request_checks : (room : ℕ) (flags : NlAuthFlags) (a b c d e : List ℕ) → SmallV (check_request room flags a b c d e)
unfolding check_request
request_checks room flags a b c d e =
    of_after SmallV (strings_hold flags) _ _ (omega arith)
    (small_clear (check_under flags a b c d e) _ (under_small flags a b c d e)
    (of_after SmallV (size_to_hold (length (request_bytes flags a b c d e))) _ _ (omega arith)
    (of_after SmallV (room_holds (length (request_bytes flags a b c d e)) room) (Err NoRoom) (Ok tt) (omega arith) tt)))

abbrev pub SmallW : Result ℕ Refusal → Type 0
SmallW (Ok n) = Unit
SmallW (Err e) = Small e

answered_small : (v : Result ⊤ Refusal) (bytes : List ℕ) → SmallV v → SmallW (answered v bytes)
answered_small (Ok tt) bytes w = tt
answered_small (Err e) bytes w = w

pub authenticate_written_small : (room : ℕ) (flags : NegotiateFlags) (v mic lm nt domain user workstation key : List ℕ) → SmallW (write_answer room flags v mic lm nt domain user workstation key)
unfolding write_answer
authenticate_written_small room flags v mic lm nt domain user workstation key =
    answered_small (check_to_write room flags lm nt domain user workstation key) (authenticate_bytes flags v mic lm nt domain user workstation key) (authenticate_checks room flags lm nt domain user workstation key)

-- of the pair list that goes back: the reading's, or its own
list_checks : (room : ℕ) (name : List ℕ) (size : ℕ) → SmallV (check_list room name size)
unfolding check_list
list_checks room name size =
    of_after SmallV (even_target_name name) _ _ (omega arith)
    (of_after SmallV (size_to_hold size) _ _ (omega arith)
    (of_after SmallV (room_holds size room) (Err NoRoom) (Ok tt) (omega arith) tt))

response_pairs_small : (room : ℕ) (s name : List ℕ) (unverified : Bool) (bindings : List ℕ) → SmallW (pairs_answer room s name unverified bindings)
unfolding pairs_answer list_answer
response_pairs_small room s name unverified bindings = go (reading_of s) (challenge_small s) where
  go : (r : Result Challenge Refusal) → SmallC r →
      SmallW (on_ok Err r (λ c. answered (check_list room name (length (list_for (info_of s c) name unverified bindings))) (list_for (info_of s c) name unverified bindings)))
  go (Ok c) w =
      answered_small (check_list room name (length (list_for (info_of s c) name unverified bindings))) (list_for (info_of s c) name unverified bindings)
      (list_checks room name (length (list_for (info_of s c) name unverified bindings)))
  go (Err e) w = w

pub writing_small : (w : Writing) → SmallW (writing_answer w)
unfolding negotiate_answer request_answer response_answer
writing_small (write_negotiate room flags v domain workstation v8) =
    answered_small (negotiate_checks room flags domain workstation) (negotiate_bytes flags v domain workstation) (negotiate_checks_lem room flags domain workstation)
writing_small (write_authenticate room flags v mic lm nt domain user workstation key v8 m16) =
    authenticate_written_small room flags v mic lm nt domain user workstation key
writing_small (write_nl_auth_request room flags a b c d e) =
    answered_small (check_request room (known flags) a b c d e) (request_bytes (known flags) a b c d e) (request_checks room (known flags) a b c d e)
writing_small (write_nl_auth_response room) =
    of_after SmallW (room_holds (length response_bytes) room) (Err NoRoom) (Ok (length response_bytes)) (omega arith) tt
writing_small (write_response_pairs room s name unverified bindings) = response_pairs_small room s name unverified bindings

pub bytes_small : (bytes out : List ℕ) → SmallW (bytes_answer bytes out)
unfolding bytes_answer
bytes_small bytes out =
    answered_small (bytes_hold bytes out) bytes (of_after SmallV (room_holds (length bytes) (length out)) (Err NoRoom) (Ok tt) (omega arith) tt)

-- ---- the MIC

pub mic_small : (n : ℕ) (nego chal auth : List ℕ) → SmallV (check_inputs n nego chal auth)
unfolding check_inputs read_challenge
mic_small n nego chal auth =
    of_after SmallV (session_key_holds n) (Err WrongSessionKey) _ (omega arith)
    (small_clear (nego_verdict (read_negotiate nego)) _ (of_negotiate (read_negotiate nego) refl)
    (small_clear (chal_verdict (reading_of chal)) _ (of_challenge (reading_of chal) (challenge_small chal))
    (of_authenticate (read_authenticate auth).reading refl)))
  where
    of_negotiate : (r : Result Negotiate Refusal) → read_negotiate nego ≡ r → SmallV (nego_verdict r)
    of_negotiate (Ok m) p = tt
    of_negotiate (Err e) p = negotiate_small nego e p

    of_challenge : (r : Result Challenge Refusal) → SmallC r → SmallV (chal_verdict r)
    of_challenge (Ok c) w = tt
    of_challenge (Err e) w = w

    of_authenticate : (r : Result Authenticate Refusal) → (read_authenticate auth).reading ≡ r → SmallV (authenticate_verdict r)
    of_authenticate (Ok a) p = of_after SmallV (checked a.mic_present) (Err NoMic) (Ok tt) (omega arith) tt
    of_authenticate (Err e) p = authenticate_small auth e p

-- ---- the calls from C that hand out numbers

abbrev pub SmallO : Outcome → Type 0
SmallO (numbers xs) = Unit
SmallO (refused e) = Small e

pub outcome_small : (c : Call) → SmallO (outcome c)
unfolding timestamp_of server_names_of count_pairs find_pair ask_at computed_mic
outcome_small (read_negotiate_call s) = go (read_negotiate s) refl where
  go : (r : Result Negotiate Refusal) → read_negotiate s ≡ r → SmallO (negotiate_outcome r)
  go (Ok m) p = tt
  go (Err e) p = negotiate_small s e p
outcome_small (read_timestamp s) = go (reading_of s) (challenge_small s) where
  go : (r : Result Challenge Refusal) → SmallC r → SmallO (timestamp_outcome (on_ok Err r (λ c. Ok (timestamp_in (info_of s c)))))
  go (Ok c) w = tt
  go (Err e) w = w
outcome_small (read_server_names s) = go (reading_of s) (challenge_small s) where
  go : (r : Result Challenge Refusal) → SmallC r → SmallO (server_names_outcome (on_ok Err r (λ c. Ok (server_names_in (info_of s c)))))
  go (Ok c) w = tt
  go (Err e) w = w
outcome_small (read_nl_auth_call s) = go (read_nl_auth s) refl where
  go : (r : Result NlAuth Refusal) → read_nl_auth s ≡ r → SmallO (nl_auth_outcome r)
  go (Ok m) p = tt
  go (Err e) p = nl_auth_small s e p
outcome_small (count_pairs_call s) = go (check_pairs s) (pairs_small s) where
  go : (v : Result ⊤ Refusal) → SmallV v → SmallO (count_outcome (on_clear Err v (Ok (length (pairs_of s)))))
  go (Ok tt) w = tt
  go (Err e) w = w
outcome_small (find_pair_call s id) = go (check_pairs s) (pairs_small s) where
  go : (v : Result ⊤ Refusal) → SmallV v → SmallO (search_outcome (on_clear Err v (Ok (first_pair (record { id = id }) s))))
  go (Ok tt) w = tt
  go (Err e) w = w
outcome_small (next_pair s at) = go (step_at s at) (step_small s at) (ask_at s at).next where
  go : (r : Result (Option AvPair) Refusal) → SmallS r → (next : ℕ) → SmallO (step_outcome r next)
  go (Ok (Some p)) w next = tt
  go (Ok None) w next = tt
  go (Err e) w next = w
outcome_small (decide settings s) = go (decision_on (settings_of settings) s) (decision_small (settings_of settings) s) where
  go : (r : Result Decision Refusal) → SmallD r → SmallO (decided_outcome r)
  go (Ok d) w = tt
  go (Err e) w = w
outcome_small (compute_mic key nego chal auth) = go (check_inputs (length key) nego chal auth) (mic_small (length key) nego chal auth) where
  go : (v : Result ⊤ Refusal) → SmallV v → SmallO (handed_out v (when_clear v (mic_of key nego chal auth)))
  go (Ok tt) w = tt
  go (Err e) w = w

pub two_array_outcome_small : (c : TwoArrayCall) → SmallO (two_array_outcome c)
unfolding read_challenge
two_array_outcome_small (read_authenticate_call s) = go (read_authenticate s).reading refl where
  go : (r : Result Authenticate Refusal) → (read_authenticate s).reading ≡ r → SmallO (authenticate_outcome r)
  go (Ok a) p = tt
  go (Err e) p = authenticate_small s e p
two_array_outcome_small (read_challenge_call s) = go (reading_of s) (challenge_small s) where
  go : (r : Result Challenge Refusal) → SmallC r → SmallO (challenge_outcome r)
  go (Ok c) w = tt
  go (Err e) w = w
