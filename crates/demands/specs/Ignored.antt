-- Demand 2: "MaxLen, and ignored bytes that no counted field covers, change nothing." Since document 02's 9/12, "MaxLen changes
-- nothing but this word and the record's MaxLen": two messages that differ in ignored bytes get answers that are the same but for
-- MaxLen and lines that are the same but for the last word, and where MaxLen is the same too, the same answers and lines. What the
-- word and the record's MaxLen are is said in MaxLen.antt and OwnBytes.antt.
use Rattle.std.specs.Prelude.{Ok, ℕ, ◌%◌, ◌≤◌, ◌<◌, ◌≡◌, ◌⊎◌, List, length, get_or}
use Rattle.field.specs.declared.Field.{Field}
use Rattle.field.specs.Field.{field_bytes}
use Rattle.wire.specs.Number.{u32_at}
use Rattle.read_authenticate.specs.declared.Authenticate.{Authenticate}
use Rattle.read_authenticate.specs.declared.Fields.{Fields}
use Rattle.read_authenticate.specs.Authenticate.{read_authenticate}
use Rattle.read_challenge.specs.declared.Challenge.{Challenge}
use Rattle.read_challenge.specs.Challenge.{read_challenge, timestamp_of, server_names_of}
use Rattle.head.specs.declared.Kind.TheVariants.{Negotiate as AsNegotiate, Challenge as AsChallenge, Authenticate as AsAuthenticate}
use Rattle.head.specs.Head.{kind_of}
use Rattle.read_negotiate.specs.declared.Negotiate.{Negotiate}
use Rattle.read_negotiate.specs.Negotiate.{read_negotiate}
use Rattle.read_nl_auth.specs.declared.NlAuth.{NlAuth}
use Rattle.read_nl_auth.specs.declared.string.NlString.{NlString}
use Rattle.read_nl_auth.specs.NlAuth.{string_bytes, labels_of, read_nl_auth}
use Rattle.verdict.specs.Verdict.{read_as}
use Rattle.line.specs.Line.{negotiate_line, authenticate_line, challenge_line, ntlm_line, nl_auth_line}
use Rattle.respond.specs.declared.decision.Settings.{Settings}
use Rattle.respond.specs.Answer.{Supplied, respond_to}
use Rattle.respond.specs.Decision.{decision_on}
use Rattle.respond.specs.Domain.{domain_part}
use Rattle.demands.specs.MaxLen.{authenticate_without_max_len, challenge_without_max_len, negotiate_without_max_len, EndsInMax, AlikeButMax}
use Rattle.demands.specs.Message.{negotiate, authenticate, challenge, DifferInIgnored, SameMaxLen}
use Rattle.demands.specs.NlAuth.{type_of}
use Rattle.demands.specs.TakenExactly.{IsTaken}
use Rattle.demands.specs.ThinCalls.{ThinCall, settings_for}

-- a field has the same bytes in both
abbrev pub SameBytes : List ℕ → List ℕ → Field → Type 0
SameBytes s t f = field_bytes s f ≡ field_bytes t f

-- so are those of all six fields
pub record SameFields (s t : List ℕ) (f : Fields) : Type 0 where
  pub lm : SameBytes s t f.lm
  pub nt : SameBytes s t f.nt
  pub domain : SameBytes s t f.domain
  pub user : SameBytes s t f.user
  pub workstation : SameBytes s t f.workstation
  pub key : SameBytes s t f.key

-- they get the same answer but for MaxLen: flags, places, MIC or refusal, and each field's bytes
pub record SameAnswer (s t : List ℕ) : Type 0 where
  pub reading : authenticate_without_max_len (read_authenticate s).reading ≡ authenticate_without_max_len (read_authenticate t).reading
  pub mic : (read_authenticate s).mic ≡ (read_authenticate t).mic
  pub whole : SameMaxLen authenticate s t → read_authenticate s ≡ read_authenticate t
  pub bytes : (a : Authenticate) → (read_authenticate s).reading ≡ Ok a → SameFields s t a.fields

abbrev pub AuthenticateIgnored : Type 0
AuthenticateIgnored = (s t : List ℕ) → DifferInIgnored authenticate s t → SameAnswer s t

-- for CHALLENGE also the timestamp and the server's names
pub record SameChallenge (s t : List ℕ) : Type 0 where
  pub reading : challenge_without_max_len (read_challenge s).reading ≡ challenge_without_max_len (read_challenge t).reading
  pub server_challenge_is : (read_challenge s).server_challenge ≡ (read_challenge t).server_challenge
  pub whole : SameMaxLen challenge s t → read_challenge s ≡ read_challenge t
  pub timestamp : timestamp_of s ≡ timestamp_of t
  pub server_names : server_names_of s ≡ server_names_of t
  pub target_name : (c : Challenge) → (read_challenge s).reading ≡ Ok c → SameBytes s t c.fields.target_name
  pub target_info_is : (c : Challenge) → (read_challenge s).reading ≡ Ok c → SameBytes s t c.fields.target_info

abbrev pub ChallengeIgnored : Type 0
ChallengeIgnored = (s t : List ℕ) → DifferInIgnored challenge s t → SameChallenge s t

-- NEGOTIATE
pub record SameNegotiate (s t : List ℕ) : Type 0 where
  pub reading : negotiate_without_max_len (read_negotiate s) ≡ negotiate_without_max_len (read_negotiate t)
  pub whole : SameMaxLen negotiate s t → read_negotiate s ≡ read_negotiate t
  pub domain : (m : Negotiate) → read_negotiate s ≡ Ok m → SameBytes s t m.fields.domain
  pub workstation : (m : Negotiate) → read_negotiate s ≡ Ok m → SameBytes s t m.fields.workstation

abbrev pub NegotiateIgnored : Type 0
NegotiateIgnored = (s t : List ℕ) → DifferInIgnored negotiate s t → SameNegotiate s t

-- NL_AUTH: two messages of one length that are alike but for the flags, where these have the same bits A to E or are a
-- response's
pub record NlDifferInIgnored (s t : List ℕ) : Type 0 where
  pub length_same : length s ≡ length t
  pub bytes_same : (p : ℕ) → (p < 4) ⊎ (8 ≤ p) → get_or s p 0 ≡ get_or t p 0
  pub flags_same : (u32_at s 4 % 32 ≡ u32_at t 4 % 32) ⊎ (type_of s ≡ 1)

-- a string has the same bytes in both, and the same labels
pub record SameString (s t : List ℕ) (x : NlString) : Type 0 where
  pub bytes : string_bytes s x ≡ string_bytes t x
  pub labels : labels_of s x ≡ labels_of t x

pub record SameNlAuth (s t : List ℕ) : Type 0 where
  pub answer : read_nl_auth s ≡ read_nl_auth t
  pub a : (m : NlAuth) → read_nl_auth s ≡ Ok m → SameString s t m.strings.nb_domain
  pub b : (m : NlAuth) → read_nl_auth s ≡ Ok m → SameString s t m.strings.nb_computer
  pub c : (m : NlAuth) → read_nl_auth s ≡ Ok m → SameString s t m.strings.dns_domain
  pub d : (m : NlAuth) → read_nl_auth s ≡ Ok m → SameString s t m.strings.dns_host
  pub e : (m : NlAuth) → read_nl_auth s ≡ Ok m → SameString s t m.strings.utf8_computer

abbrev pub NlAuthIgnored : Type 0
NlAuthIgnored = (s t : List ℕ) → NlDifferInIgnored s t → SameNlAuth s t

-- and the same log line but for its last word, and where MaxLen is the same too, the same line
abbrev pub AuthenticateLineIgnored : Type 0
AuthenticateLineIgnored =
    (s t : List ℕ) → DifferInIgnored authenticate s t →
    AlikeButMax authenticate (read_as AsAuthenticate s) s t (authenticate_line s) (authenticate_line t)
    × (SameMaxLen authenticate s t → authenticate_line s ≡ authenticate_line t)

abbrev pub NegotiateLineIgnored : Type 0
NegotiateLineIgnored =
    (s t : List ℕ) → DifferInIgnored negotiate s t →
    AlikeButMax negotiate (read_as AsNegotiate s) s t (negotiate_line s) (negotiate_line t)
    × (SameMaxLen negotiate s t → negotiate_line s ≡ negotiate_line t)

abbrev pub ChallengeLineIgnored : Type 0
ChallengeLineIgnored =
    (s t : List ℕ) → DifferInIgnored challenge s t →
    AlikeButMax challenge (read_as AsChallenge s) s t (challenge_line s) (challenge_line t)
    × (SameMaxLen challenge s t → challenge_line s ≡ challenge_line t)

-- the line of every taken message ends in the word that its heads say
pub record MaxWordSaid : Type 0 where
  pub auth : (s : List ℕ) → IsTaken (read_as AsAuthenticate s) →
      (before : List ℕ) × EndsInMax authenticate s (authenticate_line s) before
  pub nego : (s : List ℕ) → IsTaken (read_as AsNegotiate s) → (before : List ℕ) × EndsInMax negotiate s (negotiate_line s) before
  pub chal : (s : List ℕ) → IsTaken (read_as AsChallenge s) →
      (before : List ℕ) × EndsInMax challenge s (challenge_line s) before

-- the NTLM program's line, by the kind that it reads the message as
pub record DifferAsRead (s t : List ℕ) : Type 0 where
  pub as_negotiate : kind_of s ≡ AsNegotiate → DifferInIgnored negotiate s t
  pub as_challenge : kind_of s ≡ AsChallenge → DifferInIgnored challenge s t
  pub as_authenticate : kind_of s ≡ AsAuthenticate → DifferInIgnored authenticate s t

pub record NtlmLineAlike (s t : List ℕ) : Type 0 where
  pub as_negotiate : kind_of s ≡ AsNegotiate →
      AlikeButMax negotiate (read_as AsNegotiate s) s t (ntlm_line s) (ntlm_line t)
      × (SameMaxLen negotiate s t → ntlm_line s ≡ ntlm_line t)
  pub as_challenge : kind_of s ≡ AsChallenge →
      AlikeButMax challenge (read_as AsChallenge s) s t (ntlm_line s) (ntlm_line t)
      × (SameMaxLen challenge s t → ntlm_line s ≡ ntlm_line t)
  pub as_authenticate : kind_of s ≡ AsAuthenticate →
      AlikeButMax authenticate (read_as AsAuthenticate s) s t (ntlm_line s) (ntlm_line t)
      × (SameMaxLen authenticate s t → ntlm_line s ≡ ntlm_line t)

abbrev pub NtlmLineIgnored : Type 0
NtlmLineIgnored = (s t : List ℕ) → DifferAsRead s t → NtlmLineAlike s t

abbrev pub NlAuthLineIgnored : Type 0
NlAuthLineIgnored = (s t : List ℕ) → NlDifferInIgnored s t → nl_auth_line s ≡ nl_auth_line t

-- ---- what a box does with a challenge

-- the same decision, with every settings
abbrev pub DecisionIgnored : Type 0
DecisionIgnored = (settings : Settings) (s t : List ℕ) → DifferInIgnored challenge s t → decision_on settings s ≡ decision_on settings t

-- the same domain to send: its bytes, which of the two it is a part of, and where it starts there
abbrev pub DomainIgnored : Type 0
DomainIgnored = (own s t : List ℕ) → DifferInIgnored challenge s t → domain_part own s ≡ domain_part own t

-- answered with the same settings and what else the caller supplies, they get the same answer and the same output
abbrev pub SameAnswering : Settings → List ℕ → List ℕ → Type 0
SameAnswering settings s t = (x : Supplied) → respond_to settings s x ≡ respond_to settings t x

abbrev pub RespondIgnored : Type 0
RespondIgnored = (settings : Settings) (s t : List ℕ) → DifferInIgnored challenge s t → SameAnswering settings s t

-- so does each of the three thin calls
abbrev pub ThinCallsIgnored : Type 0
ThinCallsIgnored = (call : ThinCall) (s t : List ℕ) → DifferInIgnored challenge s t → SameAnswering (settings_for call) s t
