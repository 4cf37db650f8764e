-- MaxLen and ignored bytes change no log line but for its last word.
use Rattle.std.specs.Prelude.{Result, Ok, Err}
use Rattle.read_authenticate.specs.declared.Authenticate.{Authenticate}
use Rattle.read_challenge.specs.declared.Challenge.{Challenge}
use Rattle.read_negotiate.specs.declared.Negotiate.{Negotiate}
use Rattle.read_nl_auth.specs.declared.NlAuth.{NlAuth}
use Rattle.wire.specs.declared.refusal.Refusal.{Refusal}
use Prim.Native.Nat.{ℕ}
use mathlib.Core.Path.{◌≡◌, refl, sym, ap, ◌∙◌, subst}
use mathlib.Core.List.{List, [], ◌++◌, append_assoc}
use native.Mathlib.Omega.{arith}
use lib.ListN.{length, length-append}
use Rattle.wire.specs.Text.{ascii}
use Rattle.field.specs.Field.{field_bytes}
use Rattle.negotiate_flags.specs.Flags.{unicode}
use Rattle.av_pairs.specs.AvPairs.{pairs_of}
use Rattle.target_info.specs.TargetInfo.{timestamp_in}
use Rattle.line_words.specs.Words.{number_word, name_word, start_text, flags_word, mic_word, kind_word, line_end}
use Rattle.line_refused.specs.Refused.{refused_line}
use Rattle.line_max.specs.Max.{max_digits, max_word, max_end}
use Rattle.read_authenticate.specs.Authenticate as A
use Rattle.read_challenge.specs.Challenge as C
use Rattle.read_negotiate.specs.Negotiate as N
use Rattle.read_challenge.specs.declared.Challenge.{Challenge as Asked}
use Rattle.read_negotiate.specs.declared.Negotiate.{Negotiate as Opening}
use Rattle.read_authenticate.specs.declared.Authenticate.{Authenticate as Message}
use Rattle.read_authenticate.specs.declared.Answer.{Answer}
use Rattle.read_authenticate.specs.Authenticate.{read_authenticate}
use Rattle.read_challenge.specs.declared.Answer.{Answer as ChallengeAnswer}
use Rattle.read_challenge.specs.Challenge.{info_of, read_challenge}
use Rattle.head.specs.Head.{flags_at, kind_of}
use Rattle.read_negotiate.specs.Negotiate.{read_negotiate}
use Rattle.read_nl_auth.specs.NlAuth.{read_nl_auth}
use Rattle.line_negotiate.specs.Nego.{nego_names, nego_text}
use Rattle.line_authenticate.specs.Auth.{auth_names, auth_lengths, auth_end, auth_text}
use Rattle.line.specs.Line.{nego_line, negotiate_line, auth_line, authenticate_line, chal_line, challenge_line, ntlm_line, nl_line, nl_auth_line}
use Rattle.line_challenge.specs.Chal.{time_word, chal_end, chal_words, chal_text}
use Rattle.line_nl_auth.specs.Nl.{nl_oem, nl_utf8, nl_text}
use Rattle.line_nl_string.specs.StringText.{oem_text, utf8_text}
use Rattle.demands.specs.Ignored.{SameBytes, SameFields, SameAnswer, SameNegotiate, SameChallenge, SameNlAuth, AuthenticateLineIgnored, NegotiateLineIgnored, ChallengeLineIgnored, MaxWordSaid, NtlmLineIgnored, NlAuthLineIgnored}
use Rattle.demands.specs.Message.{Format, negotiate, authenticate, challenge, DifferInIgnored}
use Rattle.demands.specs.MaxLen.{authenticate_without_max_len, challenge_without_max_len, negotiate_without_max_len, EndsInMax, AlikeToMax}
use Rattle.demands.specs.TakenExactly.{IsTaken}
use Rattle.verdict.specs.Verdict.{nego_verdict, chal_verdict, auth_verdict}
use Rattle.demands.proofs.Alike.{same32}
use Rattle.demands.proofs.MaxLen.MaxDigits.{digits_said}
use Rattle.demands.proofs.OwnBytes.{taken_answer}
use Rattle.demands.proofs.OwnBytes.ChallengeOwn.{taken_as}
use Rattle.demands.proofs.TakenExactly.{all as auth_all}
use Rattle.demands.proofs.TakenExactly.Challenge.{all as chal_all}
use Rattle.demands.proofs.TakenExactly.Negotiate.{negotiate_ignored, negotiate_seen, all as nego_all, taken_as as opening_as}
use Rattle.demands.proofs.Ignored.ChallengeIgnored.{challenge_ignored, seen as challenge_seen}
use Rattle.demands.proofs.Ignored.{authenticate_ignored, seen as authenticate_seen}
use Rattle.demands.proofs.Message.Unchanged.{Seen, looked}
use Rattle.demands.proofs.Ignored.NlIgnored.{nl_auth_ignored}

-- two lines that are alike up to their last words
alike_to : (k : Format) (s t line line' before : List ℕ) → EndsInMax k s line before → EndsInMax k t line' before → AlikeToMax k s t line line'
alike_to k s t line line' before e f =
    let same : length (before ++ (ascii " max=" ++ (e.digits ++ line_end))) ≡ length (before ++ (ascii " max=" ++ (f.digits ++ line_end))) =
    simp (length-append, e.said.count, f.said.count) in
    record { before = before; first = e; second = f; same_length = ap length e.line_is ∙ same ∙ sym (ap length f.line_is) }

-- an AUTHENTICATE line goes by the reading and the names' bytes
pub auth_line_same : (s t : List ℕ) (r : Result Authenticate Refusal) → ((a : Message) → r ≡ Ok a → SameFields s t a.fields) → auth_line s r ≡ auth_line t r
unfolding auth_text auth_names
auth_line_same s t (Ok a) same =
    let f = same a refl in
    simp (f.domain, f.user, f.workstation)
auth_line_same s t (Err e) same = refl

-- it ends in the last word, and what stands before that doesn't go by MaxLen
auth_before : List ℕ → Message → List ℕ
auth_before s a =
    start_text (ascii "auth") a.flags (unicode a.flags) ++ (
    auth_names (unicode a.flags) s a.fields.domain a.fields.user a.fields.workstation ++ (
    auth_lengths a.fields.lm.len a.fields.nt.len a.fields.key.len ++ (
    mic_word a.mic_present ++ kind_word a.fields.nt.len)))

auth_parts : (s : List ℕ) (a : Message) → auth_text s a ≡ auth_before s a ++ (ascii " max=" ++ (max_digits (A.all_fields a.fields) ++ line_end))
unfolding auth_text auth_end auth_before max_end max_word
auth_parts s a = simp append_assoc

auth_ends : (s : List ℕ) (a : Message) → (read_authenticate s).reading ≡ Ok a → EndsInMax authenticate s (auth_text s a) (auth_before s a)
auth_ends s a h =
    record {
      digits = max_digits (A.all_fields a.fields);
      line_is = auth_parts s a;
      said = rw (taken_answer s a h) (digits_said authenticate s (A.all_fields (A.fields_at s (flags_at s 60))) (auth_all s) refl);
    }

auth_before_same : (s t : List ℕ) (a b : Message) → SameFields s t a.fields → authenticate_without_max_len (Ok a) ≡ authenticate_without_max_len (Ok b) →
    auth_before t b ≡ auth_before s a
unfolding auth_before auth_names field_bytes
auth_before_same s t a b f e =
    sym (ap (before t) e) ∙ sym (simp (f.domain, f.user, f.workstation))
  where
    before : List ℕ → Result Authenticate Refusal → List ℕ
    before s (Ok a) = auth_before s a
    before s (Err e) = []

pub authenticate_line_ignored : AuthenticateLineIgnored
unfolding authenticate_line
authenticate_line_ignored s t d = (
  record { taken = taken (read_authenticate s).reading (read_authenticate t).reading refl refl w.reading; refused = refused (read_authenticate s).reading (read_authenticate t).reading w.reading },
  λ x. auth_line_same s t (read_authenticate s).reading w.bytes ∙ ap (λ (y : Answer). auth_line t y.reading) (w.whole x),
)
  where
    w : SameAnswer s t
    w = authenticate_ignored s t d

    taken : (r q : Result Authenticate Refusal) → (read_authenticate s).reading ≡ r → (read_authenticate t).reading ≡ q → authenticate_without_max_len r ≡ authenticate_without_max_len q →
        IsTaken (auth_verdict r) → AlikeToMax authenticate s t (auth_line s r) (auth_line t q)
    taken (Ok a) (Ok b) p q e i =
        alike_to authenticate s t _ _ (auth_before s a) (auth_ends s a p)
        (subst (EndsInMax authenticate t (auth_text t b)) (auth_before_same s t a b (w.bytes a p) e) (auth_ends t b q))
    taken (Ok a) (Err x) p q e i = absurd (let z : ◌≡◌ {A = ℕ} 0 1 = cc in omega arith)
    taken (Err x) q p r e i = absurd i

    refused : (r q : Result Authenticate Refusal) → authenticate_without_max_len r ≡ authenticate_without_max_len q → (IsTaken (auth_verdict r) → ⊥) → auth_line s r ≡ auth_line t q
    refused (Ok a) q e i = absurd (i tt)
    refused (Err x) (Ok b) e i = absurd (let z : ◌≡◌ {A = ℕ} 0 1 = cc in omega arith)
    refused (Err x) (Err y) e i = ap refused_line (let same : x ≡ y = cc in same)

nl_line_same : (s t : List ℕ) (r : Result NlAuth Refusal) → SameNlAuth s t → read_nl_auth s ≡ r → nl_line s r ≡ nl_line t r
unfolding nl_text nl_oem nl_utf8 oem_text utf8_text
nl_line_same s t (Ok m) w e = simp ((w.a m e).bytes, (w.b m e).bytes, (w.c m e).labels, (w.d m e).labels, (w.e m e).labels)
nl_line_same s t (Err d) w e = refl

pub nl_auth_line_ignored : NlAuthLineIgnored
unfolding nl_auth_line
nl_auth_line_ignored s t d =
    let w = nl_auth_ignored s t d in
    nl_line_same s t (read_nl_auth s) w refl ∙ ap (λ (r : Result NlAuth Refusal). nl_line t r) w.answer

challenge_line_same : (s t : List ℕ) (r : Result Challenge Refusal) → SameChallenge s t → (read_challenge s).reading ≡ r → chal_line s r ≡ chal_line t r
unfolding chal_text chal_words
challenge_line_same s t (Ok c) w e = simp (w.target_name c e, w.target_info_is c e)
challenge_line_same s t (Err x) w e = refl

chal_before : List ℕ → Asked → List ℕ
chal_before s c =
    start_text (ascii "chal") c.flags (unicode c.flags) ++ (
    name_word (ascii " target=") (unicode c.flags) (field_bytes s c.fields.target_name) ++ (
    number_word (ascii " pairs=") (length (pairs_of (info_of s c))) ++ time_word (timestamp_in (info_of s c))))

chal_parts : (s : List ℕ) (c : Asked) →
    chal_text s c ≡ chal_before s c ++ (ascii " max=" ++ (max_digits (C.all_fields c.fields) ++ line_end))
unfolding chal_text chal_words chal_end chal_before max_end max_word
chal_parts s c = simp append_assoc

chal_ends : (s : List ℕ) (c : Asked) → (read_challenge s).reading ≡ Ok c → EndsInMax challenge s (chal_text s c) (chal_before s c)
unfolding read_challenge
chal_ends s c h =
    record {
      digits = max_digits (C.all_fields c.fields);
      line_is = chal_parts s c;
      said = rw (taken_as s c h).answer (digits_said challenge s (C.all_fields (C.fields_at s (flags_at s 20))) (chal_all s) refl);
    }

chal_before_same : (s t : List ℕ) (c e : Asked) → SameBytes s t c.fields.target_name → SameBytes s t c.fields.target_info →
    challenge_without_max_len (Ok c) ≡ challenge_without_max_len (Ok e) → chal_before t e ≡ chal_before s c
unfolding chal_before field_bytes
chal_before_same s t c e n i p =
    sym (ap (before t) p) ∙ sym (simp (n, i))
  where
    before : List ℕ → Result Challenge Refusal → List ℕ
    before s (Ok c) = chal_before s c
    before s (Err e) = []

pub challenge_line_ignored : ChallengeLineIgnored
unfolding challenge_line
challenge_line_ignored s t d = (
  record { taken = taken (read_challenge s).reading (read_challenge t).reading refl refl w.reading; refused = refused (read_challenge s).reading (read_challenge t).reading w.reading },
  λ x. challenge_line_same s t (read_challenge s).reading w refl ∙ ap (λ (y : ChallengeAnswer). chal_line t y.reading) (w.whole x),
)
  where
    w : SameChallenge s t
    w = challenge_ignored s t d

    taken : (r q : Result Challenge Refusal) → (read_challenge s).reading ≡ r → (read_challenge t).reading ≡ q → challenge_without_max_len r ≡ challenge_without_max_len q →
        IsTaken (chal_verdict r) → AlikeToMax challenge s t (chal_line s r) (chal_line t q)
    taken (Ok c) (Ok e) p q same i =
        alike_to challenge s t _ _ (chal_before s c) (chal_ends s c p)
        (subst (EndsInMax challenge t (chal_text t e)) (chal_before_same s t c e (w.target_name c p) (w.target_info_is c p) same) (chal_ends t e q))
    taken (Ok c) (Err x) p q same i = absurd (let z : ◌≡◌ {A = ℕ} 0 1 = cc in omega arith)
    taken (Err x) q p r same i = absurd i

    refused : (r q : Result Challenge Refusal) → challenge_without_max_len r ≡ challenge_without_max_len q → (IsTaken (chal_verdict r) → ⊥) → chal_line s r ≡ chal_line t q
    refused (Ok c) q same i = absurd (i tt)
    refused (Err x) (Ok e) same i = absurd (let z : ◌≡◌ {A = ℕ} 0 1 = cc in omega arith)
    refused (Err x) (Err y) same i = ap refused_line (let e : x ≡ y = cc in e)

negotiate_line_same : (s t : List ℕ) (r : Result Negotiate Refusal) → SameNegotiate s t → read_negotiate s ≡ r → nego_line s r ≡ nego_line t r
unfolding nego_text nego_names
negotiate_line_same s t (Ok m) w e = simp (w.domain m e, w.workstation m e)
negotiate_line_same s t (Err x) w e = refl

nego_before : List ℕ → Opening → List ℕ
nego_before s m = ascii "nego" ++ (flags_word m.flags.bits ++ nego_names s m)

nego_parts : (s : List ℕ) (m : Opening) → nego_text s m ≡ nego_before s m ++ (ascii " max=" ++ (max_digits (N.all_fields m.fields) ++ line_end))
unfolding nego_text nego_before max_end max_word
nego_parts s m = simp append_assoc

nego_ends : (s : List ℕ) (m : Opening) → read_negotiate s ≡ Ok m → EndsInMax negotiate s (nego_text s m) (nego_before s m)
nego_ends s m h =
    record {
      digits = max_digits (N.all_fields m.fields);
      line_is = nego_parts s m;
      said = rw (opening_as s m h).1 (digits_said negotiate s (N.all_fields (N.fields_at s (flags_at s 12))) (nego_all s) refl);
    }

nego_before_same : (s t : List ℕ) (m o : Opening) → SameBytes s t m.fields.domain → SameBytes s t m.fields.workstation →
    negotiate_without_max_len (Ok m) ≡ negotiate_without_max_len (Ok o) → nego_before t o ≡ nego_before s m
unfolding nego_before nego_names field_bytes
nego_before_same s t m o f g e =
    sym (ap (before t) e) ∙ sym (simp (f, g))
  where
    before : List ℕ → Result Negotiate Refusal → List ℕ
    before s (Ok m) = nego_before s m
    before s (Err e) = []

pub negotiate_line_ignored : NegotiateLineIgnored
unfolding negotiate_line
negotiate_line_ignored s t d = (
  record { taken = taken (read_negotiate s) (read_negotiate t) refl refl w.reading; refused = refused (read_negotiate s) (read_negotiate t) w.reading },
  λ x. negotiate_line_same s t (read_negotiate s) w refl ∙ ap (λ (r : Result Negotiate Refusal). nego_line t r) (w.whole x),
)
  where
    w : SameNegotiate s t
    w = negotiate_ignored s t d

    taken : (r q : Result Negotiate Refusal) → read_negotiate s ≡ r → read_negotiate t ≡ q → negotiate_without_max_len r ≡ negotiate_without_max_len q →
        IsTaken (nego_verdict r) → AlikeToMax negotiate s t (nego_line s r) (nego_line t q)
    taken (Ok m) (Ok o) p q e i =
        alike_to negotiate s t _ _ (nego_before s m) (nego_ends s m p)
        (subst (EndsInMax negotiate t (nego_text t o)) (nego_before_same s t m o (w.domain m p) (w.workstation m p) e) (nego_ends t o q))
    taken (Ok m) (Err x) p q e i = absurd (let z : ◌≡◌ {A = ℕ} 0 1 = cc in omega arith)
    taken (Err x) q p r e i = absurd i

    refused : (r q : Result Negotiate Refusal) → negotiate_without_max_len r ≡ negotiate_without_max_len q → (IsTaken (nego_verdict r) → ⊥) → nego_line s r ≡ nego_line t q
    refused (Ok m) q e i = absurd (i tt)
    refused (Err x) (Ok o) e i = absurd (let z : ◌≡◌ {A = ℕ} 0 1 = cc in omega arith)
    refused (Err x) (Err y) e i = ap refused_line (let same : x ≡ y = cc in same)

-- the type, by which the NTLM program chooses, is no ignored byte of any kind
pub kind_same : (k : Format) (s t : List ℕ) → Seen k s → DifferInIgnored k s t → kind_of s ≡ kind_of t
unfolding kind_of
kind_same k s t seen d = simp (d.length_same, same32 s t 8 (λ p l r. looked k s t seen d p (seen.early p (omega arith))))

pub max_word_said : MaxWordSaid
unfolding authenticate_line negotiate_line challenge_line
max_word_said =
    record {
      auth = λ s i. auth s (read_authenticate s).reading refl i;
      nego = λ s i. nego s (read_negotiate s) refl i;
      chal = λ s i. chal s (read_challenge s).reading refl i;
    }
  where
    auth : (s : List ℕ) (r : Result Authenticate Refusal) → (read_authenticate s).reading ≡ r → IsTaken (auth_verdict r) → (before : List ℕ) × EndsInMax authenticate s (auth_line s r) before
    auth s (Ok a) p i = (auth_before s a, auth_ends s a p)
    auth s (Err e) p i = absurd i

    nego : (s : List ℕ) (r : Result Negotiate Refusal) → read_negotiate s ≡ r → IsTaken (nego_verdict r) → (before : List ℕ) × EndsInMax negotiate s (nego_line s r) before
    nego s (Ok m) p i = (nego_before s m, nego_ends s m p)
    nego s (Err e) p i = absurd i

    chal : (s : List ℕ) (r : Result Challenge Refusal) → (read_challenge s).reading ≡ r → IsTaken (chal_verdict r) → (before : List ℕ) × EndsInMax challenge s (chal_line s r) before
    chal s (Ok c) p i = (chal_before s c, chal_ends s c p)
    chal s (Err e) p i = absurd i

pub ntlm_line_ignored : NtlmLineIgnored
unfolding ntlm_line
ntlm_line_ignored s t d =
    record {
      as_negotiate = λ e.
          rw (← (kind_same negotiate s t (negotiate_seen s) (d.as_negotiate e)), e) (negotiate_line_ignored s t (d.as_negotiate e));
      as_challenge = λ e.
          rw (← (kind_same challenge s t (challenge_seen s) (d.as_challenge e)), e) (challenge_line_ignored s t (d.as_challenge e));
      as_authenticate = λ e.
          rw (← (kind_same authenticate s t (authenticate_seen s) (d.as_authenticate e)), e) (authenticate_line_ignored s t (d.as_authenticate e));
    }
