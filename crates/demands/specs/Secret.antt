-- Demand 3: "No log tells a secret. Take any two messages of one length, read as AUTHENTICATE and accepted or refused, that
-- are alike in their first 64 bytes. If after that they differ only inside the LM response, the NT response, the session
-- key where it counts, or a MIC that is there, reading gives both the same answer and both get the same log line."
use Rattle.std.specs.Prelude.{Ok, ℕ, ◌≤◌, ◌<◌, ◌≡◌, ◌⊎◌, List, length, get_or, set, take, replicate}
use Rattle.read_authenticate.specs.declared.Authenticate.{Authenticate}
use Rattle.read_authenticate.specs.Authenticate.{read_authenticate}
use Rattle.head.specs.declared.Kind.TheVariants.{Authenticate as AsAuthenticate}
use Rattle.head.specs.Head.{kind_of}
use Rattle.verdict.specs.Verdict.{read_as}
use Rattle.line.specs.Line.{authenticate_line, ntlm_line, shown_line}
use Rattle.place.specs.Written.{bytes_answer, bytes_after}
use Rattle.respond.specs.declared.answer.Answer.{Answer}
use Rattle.respond.specs.declared.decision.Settings.{Settings}
use Rattle.respond.specs.Answer.{Supplied, Effect, respond_to}
use Rattle.demands.specs.Bench.{p1, user_offset}
use Rattle.demands.specs.FromC.{read_authenticate_call, two_array_outcome}
use Rattle.demands.specs.Ignored.{SameBytes}
use Rattle.demands.specs.Message.{authenticate, Nonempty, Covers, MicThere}
use Rattle.demands.specs.TakenExactly.{IsTaken, RefusedWith}
use Rattle.demands.specs.ThinCalls.{ThinCall, settings_for}

-- the byte at p is a secret's or a MIC's: "a field's bytes go by its head, in a refused message too: those from its offset
-- on, Len of them, as far as the message reaches, and none if it doesn't count. A MIC that is there is bytes 72 to 87, as
-- far as the message reaches. A message under 64 bytes has neither."
pub data Secret (s : List ℕ) (p : ℕ) : Type 0 where
  secret_field : (i : ℕ) → 64 ≤ length s → authenticate.Secret i → Nonempty authenticate s i → Covers authenticate s i p → Secret s p
  mic : 64 ≤ length s → MicThere authenticate s → 72 ≤ p → p < 88 → Secret s p

-- two messages of one length, alike in their first 64 bytes and at every other place that is not secret
pub record DifferInSecrets (s t : List ℕ) : Type 0 where
  pub length_same : length s ≡ length t
  pub first_64 : (p : ℕ) → p < 64 → get_or s p 0 ≡ get_or t p 0
  pub elsewhere : (p : ℕ) → (get_or s p 0 ≡ get_or t p 0) ⊎ Secret s p

-- a call that writes a line, made twice with outputs of one length, gets the same answer, and the same bytes where some are written;
-- what it leaves is in `LineKept`. So it is enough that two messages have the same line, below
pub record WrittenAlike (line out out' : List ℕ) : Type 0 where
  pub answer : bytes_answer line out ≡ bytes_answer line out'
  pub bytes : (n : ℕ) → bytes_answer line out ≡ Ok n → take n (bytes_after line out) ≡ take n (bytes_after line out')

abbrev pub LineWrittenAlike : Type 0
LineWrittenAlike = (line out out' : List ℕ) → length out ≡ length out' → WrittenAlike line out out'

-- "all but the secrets' and the MIC's own bytes": the same flags, places, MIC presence or refusal, from C too, the same names and the
-- same line
pub record SamePublic (s t : List ℕ) : Type 0 where
  pub reading : (read_authenticate s).reading ≡ (read_authenticate t).reading
  pub from_c : two_array_outcome (read_authenticate_call s) ≡ two_array_outcome (read_authenticate_call t)
  pub domain : (a : Authenticate) → (read_authenticate s).reading ≡ Ok a → SameBytes s t a.fields.domain
  pub user : (a : Authenticate) → (read_authenticate s).reading ≡ Ok a → SameBytes s t a.fields.user
  pub workstation : (a : Authenticate) → (read_authenticate s).reading ≡ Ok a → SameBytes s t a.fields.workstation
  -- where no MIC is there, or the message is refused, the sixteen bytes are zeros in both
  pub no_mic : (IsTaken (read_as AsAuthenticate s) → MicThere authenticate s → ⊥) →
      ((read_authenticate s).mic ≡ replicate 16 0) × ((read_authenticate t).mic ≡ replicate 16 0)
  pub line : authenticate_line s ≡ authenticate_line t

abbrev pub SecretRead : Type 0
SecretRead = (s t : List ℕ) → DifferInSecrets s t → SamePublic s t

-- the NTLM program, where it reads the first as AUTHENTICATE: it reads the second so too, both have the same line, and what the
-- program prints is the same at every two outputs of one length
pub record SamePrinted (s t : List ℕ) : Type 0 where
  pub kind : kind_of t ≡ AsAuthenticate
  pub line : ntlm_line s ≡ ntlm_line t
  pub printed : (out out' : List ℕ) → length out ≡ length out' → shown_line (ntlm_line s) out ≡ shown_line (ntlm_line t) out'

abbrev pub SecretPrinted : Type 0
SecretPrinted = (s t : List ℕ) → DifferInSecrets s t → kind_of s ≡ AsAuthenticate → SamePrinted s t

-- the theorems speak of something: a message that is read as AUTHENTICATE, and the same with FF at a place where it has a secret and
-- no FF
abbrev pub OtherSecret : List ℕ → ℕ → Type 0
OtherSecret s p = (kind_of s ≡ AsAuthenticate) × DifferInSecrets s (set s p 0xFF) × (s ≡ set s p 0xFF → ⊥)

pub record SecretExample : Type 0 where
  -- P1, which is taken, and the first byte of its NT response
  pub taken : IsTaken (read_as AsAuthenticate p1)
  pub of_taken : OtherSecret p1 96
  -- P2 at 112, which is refused: the first byte of the user's name is one of the NT response's
  pub refused : RefusedWith (read_as AsAuthenticate (user_offset 112)) 9 4 0
  pub in_name : Nonempty authenticate (user_offset 112) 4 × Covers authenticate (user_offset 112) 4 112
  pub of_refused : OtherSecret (user_offset 112) 112

-- "Now let a box answer one challenge twice by the same call, with the same settings, clock reading and length of output,
-- but with any other LM response, NT response, key and MIC bytes, each as long as before. Both times it gets the same answer
-- or the same refusal. Where messages are written, the two are of one length and alike outside those four places."
pub record AlikeOutside (s t : List ℕ) : Type 0 where
  pub length_same : length s ≡ length t
  pub outside : (p : ℕ) → (get_or s p 0 ≡ get_or t p 0) ⊎ Secret s p

-- what the two callings have of their own, each as long as before; Version and MIC are of 8 and 16 bytes, as the call takes them
pub record AsLong (mic lm nt key mic' lm' nt' key' : List ℕ) : Type 0 where
  pub mic_16 : length mic ≡ 16
  pub mic_same : length mic ≡ length mic'
  pub lm_same : length lm ≡ length lm'
  pub nt_same : length nt ≡ length nt'
  pub key_same : length key ≡ length key'

-- the same supplied with another output, and with other secrets
abbrev pub with_secrets : Supplied → (out mic lm nt key : List ℕ) → Supplied
with_secrets x out m l n k =
    record {
      out = out;
      clock = x.clock;
      version = x.version;
      mic = m;
      lm = l;
      nt = n;
      domain = x.domain;
      user = x.user;
      workstation = x.workstation;
      key = k;
    }

-- two effects of one answer
pub record AnsweredAlike (x y : Effect) : Type 0 where
  pub answer : x.answer ≡ y.answer
  pub messages : (a : Answer) → x.answer ≡ Ok a → AlikeOutside (take a.len x.output) (take a.len y.output)

-- a call that goes by these settings
abbrev pub SecretAnsweredBy : Settings → Type 0
SecretAnsweredBy settings =
    (s : List ℕ) (x : Supplied) (out mic lm nt key : List ℕ) →
    length x.out ≡ length out → length x.version ≡ 8 → AsLong x.mic x.lm x.nt x.key mic lm nt key →
    AnsweredAlike (respond_to settings s x) (respond_to settings s (with_secrets x out mic lm nt key))

abbrev pub SecretAnswered : Type 0
SecretAnswered = (settings : Settings) → SecretAnsweredBy settings

-- and so each of the three thin calls
abbrev pub ThinCallsSecret : Type 0
ThinCallsSecret = (call : ThinCall) → SecretAnsweredBy (settings_for call)
