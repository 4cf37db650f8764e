-- The numbers that a C caller gets are the message's own.
use Rattle.std.specs.Prelude.{Result, Option, Ok, Err, Some, None, ⊤}
use Rattle.av_pairs.specs.declared.AvPair.{AvPair}
use Rattle.read_authenticate.specs.declared.Authenticate.{Authenticate}
use Rattle.read_challenge.specs.declared.Challenge.{Challenge}
use Rattle.read_negotiate.specs.declared.Negotiate.{Negotiate}
use Rattle.respond.specs.declared.decision.Decision.{Decision}
use Rattle.target_info.specs.declared.ServerNames.{ServerNames}
use Rattle.wire.specs.declared.refusal.Refusal.{Refusal}
use Prim.Native.Nat.{ℕ, ◌+◌}
use mathlib.Core.Path.{◌≡◌, refl, sym, ◌∙◌, subst}
use mathlib.Core.Logic.{inl, inr, ⊎_elim, ◌↔◌}
use mathlib.Core.Bool.{Bool, true, false}
use mathlib.Core.List.{List, ◌∷◌}
use lib.ListN.{replicate}
use Rattle.field.specs.declared.Field.{Field}
use Rattle.read_authenticate.specs.Authenticate.{read_authenticate}
use Rattle.av_pairs.specs.AvPairs.{count_pairs, ask_at}
use Rattle.read_challenge.specs.Challenge.{read_challenge, timestamp_of, server_names_of}
use Rattle.target_info.specs.TargetInfo.{find_pair}
use Rattle.read_negotiate.specs.Negotiate.{read_negotiate}
use Rattle.read_nl_auth.specs.declared.NlAuth.{NlAuth}
use Rattle.read_nl_auth.specs.declared.string.NlString.{NlString}
use Rattle.read_nl_auth.specs.NlAuth.{labels_of, read_nl_auth}
use Rattle.respond.specs.Decision.{decision_on}
use Rattle.mic.specs.Mic.{computed_mic}
use Rattle.c_number.specs.Number.{bit}
use Rattle.c_number.specs.Outcome.{Outcome, numbers, refused}
use Rattle.c_read.specs.Numbers.{negotiate_numbers, authenticate_numbers, challenge_numbers, timestamp_numbers, server_names_numbers, nl_auth_numbers, negotiate_outcome, authenticate_outcome, challenge_outcome, timestamp_outcome, server_names_outcome, nl_auth_outcome}
use Rattle.c_pairs.specs.Pairs.{found_numbers, pair_numbers, count_outcome, search_outcome, step_outcome}
use Rattle.c_respond.specs.Settings.{settings_of}
use Rattle.c_respond.specs.Respond.{decision_numbers, decided_outcome}
use Rattle.c_mic.specs.Numbers.{handed_out}
use Rattle.demands.specs.Answering.{TimestampIs, decided_verdict}
use Rattle.demands.specs.Asking.{AskedAt}
use Rattle.demands.specs.FromC.{Call, read_negotiate_call, read_timestamp, read_server_names, read_nl_auth_call, count_pairs_call, find_pair_call, next_pair, decide, compute_mic, outcome, TwoArrayCall, read_authenticate_call, read_challenge_call, two_array_outcome, bytes_beside}
use Rattle.demands.specs.InTurn.{step_verdict}
use Rattle.demands.specs.Message.{Format}
use Rattle.demands.specs.NumbersFromC.{number_at, YesOrNo, FieldNumbers, TimestampNumbers, PlainNumbers, NameNumbers, RequestNumbers, NlAuthNumbers, NumbersSay, TwoArraysSay, CallNumbersOwn, TwoArrayNumbersOwn, outcome_verdict, ReadingsFromC, AskingsFromC}
use Rattle.demands.specs.OwnBytes.{OwnField, OwnString, OwnName, OwnRequest, OwnResponse}
use Rattle.verdict.specs.Verdict.{nego_verdict, chal_verdict, auth_verdict}
use Rattle.demands.specs.SearchedExactly.{search_verdict, timestamp_verdict, server_names_verdict}
use Rattle.demands.specs.TakenExactly.{count_verdict, nl_verdict}
use Rattle.demands.proofs.Answering.Deciding.{decision_taken}
use Rattle.demands.proofs.Asking.{pair_or_stop, asking_gives}
use Rattle.demands.proofs.Bools.{true_not_false}
use Rattle.demands.proofs.Mic.{mic_is}
use Rattle.demands.proofs.NlAuth.{nl_auth_own}
use Rattle.demands.proofs.OwnBytes.{authenticate_own}
use Rattle.demands.proofs.OwnBytes.ChallengeOwn.{challenge_own, timestamp_own, no_timestamp_there, server_names_own}
use Rattle.demands.proofs.OwnBytes.Found.{found_own, nothing_there}
use Rattle.demands.proofs.PairList.{pairs_taken}
use Rattle.demands.proofs.TakenExactly.Negotiate.{negotiate_own}

-- what is said of the numbers that an outcome has
abbrev OnNumbers : (List ℕ → Type 0) → Outcome → Type 0
OnNumbers P (numbers xs) = P xs
OnNumbers P (refused e) = Unit

yes_or_no : (b : Bool) (P : Type 0) → (b ≡ true) ↔ P → YesOrNo (bit b) P
yes_or_no true P w = inl (refl, w.0 refl)
yes_or_no false P w = inr (refl, λ p. true_not_false (sym (w.1 p)))

field_numbers : {k : Format} {s : List ℕ} {i : ℕ} {xs : List ℕ} {j m : ℕ} (f : Field) → OwnField k s i f →
    number_at xs j ≡ f.offset → number_at xs (j + 1) ≡ f.len → number_at xs m ≡ f.max_len → FieldNumbers k s i xs j m
field_numbers f o at len max =
    record {
      place = λ ne. (at ∙ (o.place ne).0, len ∙ (o.place ne).1);
      none = λ e. (at ∙ (o.none e).0, len ∙ (o.none e).1);
      max_len = λ c. max ∙ o.max_len c;
      no_max_len = λ c. max ∙ o.no_max_len c;
    }

plain_numbers : {s : List ℕ} {i : ℕ} {xs : List ℕ} {j : ℕ} (x : NlString) → OwnString s i x →
    number_at xs j ≡ x.offset → number_at xs (j + 1) ≡ x.len → PlainNumbers s i xs j
plain_numbers x o at len =
    record {
      there = λ set. let t = o.there set in (t.0, t.1, t.2, t.3, at ∙ t.4, len ∙ t.5);
      none = λ clear. (at ∙ (o.none clear).0, len ∙ (o.none clear).1);
    }

name_numbers : {s : List ℕ} {i : ℕ} {xs : List ℕ} {j m : ℕ} (x : NlString) → OwnName s i x →
    number_at xs j ≡ x.offset → number_at xs (j + 1) ≡ x.len → number_at xs m ≡ x.jumps → NameNumbers s i xs j m
name_numbers {s} x o at len jumps =
    record {
      there = λ set.
          let t = o.there set in
          (x.offset, t.next, labels_of s x, t.starts, rw jumps t.name, at, rw len t.whole);
      none = λ clear. (at ∙ (o.none clear).0, len ∙ (o.none clear).1, jumps ∙ (o.none clear).2);
    }

nl_numbers : (s : List ℕ) (m : NlAuth) → read_nl_auth s ≡ Ok m → NlAuthNumbers s (nl_auth_numbers m)
unfolding nl_auth_numbers
nl_numbers s m h = ⊎_elim (λ r. inl (r.0, request r.1)) (λ r. inr (r.0, response r.1)) (nl_auth_own s m h) where
  request : OwnRequest s m → RequestNumbers s (nl_auth_numbers m)
  request r =
      record {
        message_type = r.message_type;
        flags = r.flags;
        a = plain_numbers m.strings.nb_domain r.a refl refl;
        b = plain_numbers m.strings.nb_computer r.b refl refl;
        c = name_numbers m.strings.dns_domain r.c refl refl refl;
        d = name_numbers m.strings.dns_host r.d refl refl refl;
        e = name_numbers m.strings.utf8_computer r.e refl refl refl;
      }

  response : OwnResponse s m → nl_auth_numbers m ≡ 1 ∷ replicate 14 0
  response r = simp (r.message_type, r.flags, r.a, r.b, r.c, r.d, r.e)

say : (c : Call) → OnNumbers (NumbersSay c) (outcome c)
unfolding negotiate_numbers timestamp_numbers server_names_numbers found_numbers pair_numbers decision_numbers
say (read_negotiate_call s) = go (read_negotiate s) refl where
  go : (r : Result Negotiate Refusal) → read_negotiate s ≡ r → OnNumbers (NumbersSay (read_negotiate_call s)) (negotiate_outcome r)
  go (Ok m) h =
      let o = negotiate_own s m h in
      record {
        flags = o.flags;
        domain = field_numbers m.fields.domain o.domain refl refl refl;
        workstation = field_numbers m.fields.workstation o.workstation refl refl refl;
      }
  go (Err e) h = tt
say (read_timestamp s) = go (timestamp_of s) refl where
  go : (r : Result (Option ℕ) Refusal) → timestamp_of s ≡ r → OnNumbers (NumbersSay (read_timestamp s)) (timestamp_outcome r)
  go (Ok (Some t)) h = λ b info. inl (refl, timestamp_own s b info t h)
  go (Ok None) h = λ b info. inr (refl, refl, λ p. no_timestamp_there s b info h p.0 p.1)
  go (Err e) h = tt
say (read_server_names s) = go (server_names_of s) refl where
  go : (r : Result ServerNames Refusal) → server_names_of s ≡ r → OnNumbers (NumbersSay (read_server_names s)) (server_names_outcome r)
  go (Ok n) h = λ b info.
      let o = server_names_own s b info n h in
      (yes_or_no n.nb_computer_name _ o.0, yes_or_no n.nb_domain_name _ o.1)
  go (Err e) h = tt
say (read_nl_auth_call s) = go (read_nl_auth s) refl where
  go : (r : Result NlAuth Refusal) → read_nl_auth s ≡ r → OnNumbers (NumbersSay (read_nl_auth_call s)) (nl_auth_outcome r)
  go (Ok m) h = nl_numbers s m h
  go (Err e) h = tt
say (count_pairs_call s) = go (count_pairs s) refl where
  go : (r : Result ℕ Refusal) → count_pairs s ≡ r → OnNumbers (NumbersSay (count_pairs_call s)) (count_outcome r)
  go (Ok n) h = (pairs_taken s n).0 h
  go (Err e) h = tt
say (find_pair_call s id) = go (find_pair (record { id = id }) s) refl where
  go : (r : Result (Option AvPair) Refusal) → find_pair (record { id = id }) s ≡ r → OnNumbers (NumbersSay (find_pair_call s id)) (search_outcome r)
  go (Ok (Some p)) h = let o = found_own s (record { id = id }) p h in inl (refl, (o.place, o.first, o.value, o.size))
  go (Ok None) h = inr (refl, refl, refl, λ t. nothing_there s (record { id = id }) h t.0 t.1)
  go (Err e) h = tt
say (next_pair s at) = go (ask_at s at).step refl where
  w : AskedAt s at (ask_at s at)
  w = asking_gives s at

  go : (r : Result (Option AvPair) Refusal) → (ask_at s at).step ≡ r → OnNumbers (NumbersSay (next_pair s at)) (step_outcome r (ask_at s at).next)
  go (Ok (Some p)) h =
      let i = (w.pair p).0 h in
      inl (i.there, record { there = refl; id = i.id; value = i.value; size = i.size; next = w.onward i.there })
  go (Ok None) h = let e = w.end.0 h in inr (e, simp (w.stays (λ p. pair_or_stop s at p e)))
  go (Err e) h = tt
say (decide settings s) = go (decision_on (settings_of settings) s) refl where
  stamp : (b : List ℕ) (flags : ℕ) (t : Option ℕ) → TimestampIs b t →
      TimestampNumbers b (number_at (decision_numbers flags t) 1) (number_at (decision_numbers flags t) 2)
  stamp b flags (Some t) w = inl (refl, w)
  stamp b flags None w = inr (refl, refl, w)

  front : (flags : ℕ) (t : Option ℕ) → number_at (decision_numbers flags t) 0 ≡ flags
  front flags (Some t) = refl
  front flags None = refl

  go : (r : Result Decision Refusal) → decision_on (settings_of settings) s ≡ r → OnNumbers (NumbersSay (decide settings s)) (decided_outcome r)
  go (Ok d) h = λ b info.
      let o = (decision_taken (settings_of settings) s b info d).0 h in
      (front d.flags.bits d.timestamp ∙ o.1, stamp b d.flags.bits d.timestamp o.2)
  go (Err e) h = tt
say (compute_mic key nego chal auth) = go (computed_mic key nego chal auth).verdict refl where
  go : (v : Result ⊤ Refusal) → (computed_mic key nego chal auth).verdict ≡ v →
      OnNumbers (NumbersSay (compute_mic key nego chal auth)) (handed_out v (computed_mic key nego chal auth).mic)
  go (Ok tt) h = mic_is key nego chal auth h
  go (Err e) h = tt

pub call_numbers_own : CallNumbersOwn
call_numbers_own c xs h = subst (OnNumbers (NumbersSay c)) h (say c)

two_say : (c : TwoArrayCall) → OnNumbers (λ xs. TwoArraysSay c xs (bytes_beside c)) (two_array_outcome c)
unfolding authenticate_numbers challenge_numbers
two_say (read_authenticate_call s) = go (read_authenticate s).reading refl where
  go : (r : Result Authenticate Refusal) → (read_authenticate s).reading ≡ r →
      OnNumbers (λ xs. TwoArraysSay (read_authenticate_call s) xs (bytes_beside (read_authenticate_call s))) (authenticate_outcome r)
  go (Ok a) h =
      let o = authenticate_own s a h in
      record {
        flags = o.flags;
        mic_present_is = yes_or_no a.mic_present _ o.mic_present_is;
        lm = field_numbers a.fields.lm o.lm refl refl refl;
        nt = field_numbers a.fields.nt o.nt refl refl refl;
        domain = field_numbers a.fields.domain o.domain refl refl refl;
        user = field_numbers a.fields.user o.user refl refl refl;
        workstation = field_numbers a.fields.workstation o.workstation refl refl refl;
        key = field_numbers a.fields.key o.key refl refl refl;
        mic_bytes_is = o.mic_bytes_is;
        mic_zeros = o.mic_zeros;
      }
  go (Err e) h = tt
two_say (read_challenge_call s) = go (read_challenge s).reading refl where
  go : (r : Result Challenge Refusal) → (read_challenge s).reading ≡ r →
      OnNumbers (λ xs. TwoArraysSay (read_challenge_call s) xs (bytes_beside (read_challenge_call s))) (challenge_outcome r)
  go (Ok c) h =
      let o = challenge_own s c h in
      record {
        flags = o.flags;
        target_name = field_numbers c.fields.target_name o.target_name refl refl refl;
        target_info_is = field_numbers c.fields.target_info o.target_info_is refl refl refl;
        server_challenge_is = o.server_challenge_is;
      }
  go (Err e) h = tt

pub two_array_numbers_own : TwoArrayNumbersOwn
two_array_numbers_own c xs h = subst (OnNumbers (λ xs. TwoArraysSay c xs (bytes_beside c))) h (two_say c)

-- ---- taken and refused from C as what is read, searched, asked or decided there

nego_judged : (r : Result Negotiate Refusal) → outcome_verdict (negotiate_outcome r) ≡ nego_verdict r
nego_judged (Ok m) = refl
nego_judged (Err e) = refl

chal_judged : (r : Result Challenge Refusal) → outcome_verdict (challenge_outcome r) ≡ chal_verdict r
chal_judged (Ok c) = refl
chal_judged (Err e) = refl

auth_judged : (r : Result Authenticate Refusal) → outcome_verdict (authenticate_outcome r) ≡ auth_verdict r
auth_judged (Ok a) = refl
auth_judged (Err e) = refl

nl_judged : (r : Result NlAuth Refusal) → outcome_verdict (nl_auth_outcome r) ≡ nl_verdict r
nl_judged (Ok m) = refl
nl_judged (Err e) = refl

timestamp_judged : (r : Result (Option ℕ) Refusal) → outcome_verdict (timestamp_outcome r) ≡ timestamp_verdict r
timestamp_judged (Ok t) = refl
timestamp_judged (Err e) = refl

names_judged : (r : Result ServerNames Refusal) → outcome_verdict (server_names_outcome r) ≡ server_names_verdict r
names_judged (Ok names) = refl
names_judged (Err e) = refl

count_judged : (r : Result ℕ Refusal) → outcome_verdict (count_outcome r) ≡ count_verdict r
count_judged (Ok n) = refl
count_judged (Err e) = refl

found_judged : (r : Result (Option AvPair) Refusal) → outcome_verdict (search_outcome r) ≡ search_verdict r
found_judged (Ok f) = refl
found_judged (Err e) = refl

asked_judged : (r : Result (Option AvPair) Refusal) (next : ℕ) → outcome_verdict (step_outcome r next) ≡ step_verdict r
asked_judged (Ok (Some p)) next = refl
asked_judged (Ok None) next = refl
asked_judged (Err e) next = refl

decided_judged : (r : Result Decision Refusal) → outcome_verdict (decided_outcome r) ≡ decided_verdict r
decided_judged (Ok d) = refl
decided_judged (Err e) = refl

pub readings_from_c : ReadingsFromC
readings_from_c s =
    record {
      nego = nego_judged (read_negotiate s);
      chal = chal_judged (read_challenge s).reading;
      auth = auth_judged (read_authenticate s).reading;
      nl_auth = nl_judged (read_nl_auth s);
      timestamp = timestamp_judged (timestamp_of s);
      server_names = names_judged (server_names_of s);
    }

pub askings_from_c : AskingsFromC
askings_from_c s =
    record {
      count = count_judged (count_pairs s);
      found = λ id. found_judged (find_pair (record { id = id }) s);
      asked = λ at. asked_judged (ask_at s at).step (ask_at s at).next;
      decided = λ settings. decided_judged (decision_on (settings_of settings) s);
    }
