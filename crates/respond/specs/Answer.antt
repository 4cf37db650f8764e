-- Answering a challenge (MS-NLMP 3.1.5.1.2): what is written, Time, and whether a MIC is due.
use Rattle.wire.specs.Check.{on_ok}
use Rattle.respond.specs.declared.answer.Answer.{Answer}
use Rattle.std.specs.Prelude.{Result, Option, Ok, Err, Some, None, ℕ, Bool, true, false, ◌||◌, ◌&&◌, cond, List, [], length, replicate}
use Rattle.wire.specs.declared.refusal.Refusal.{Refusal}
use Rattle.negotiate_flags.specs.declared.NegotiateFlags.{NegotiateFlags}
use Rattle.negotiate_flags.specs.Flags.{sign, seal, key_exch}
use Rattle.write_authenticate.specs.Writing.{write_answer, write_out}
use Rattle.respond.specs.declared.decision.Settings.{Settings}
use Rattle.respond.specs.declared.decision.Decision.{Decision}
use Rattle.respond.specs.Decision.{decision_on}
use Rattle.respond.specs.Domain.{domain_to_send}

-- a MIC is due exactly when a timestamp pair is there
abbrev pub mic_due : Option ℕ → Bool
mic_due (Some t) = true
mic_due None = false

-- Time: with NTLMv2 the timestamp, if there is one; otherwise the box's clock
abbrev pub time_to_send : Settings → Option ℕ → ℕ → ℕ
time_to_send settings (Some t) clock = cond settings.ntlmv2 t clock
time_to_send settings None clock = clock

-- the LM response: with NTLMv2 and a timestamp 24 zero bytes, otherwise the caller's
unfoldable pub lm_to_send : Settings → Option ℕ → List ℕ → List ℕ
lm_to_send settings t lm = cond (settings.ntlmv2 && mic_due t) (replicate 24 0) lm

-- the MIC: the caller's if due, otherwise sixteen zeros
unfoldable pub mic_to_send : Option ℕ → List ℕ → List ℕ
mic_to_send t mic = cond (mic_due t) mic (replicate 16 0)

-- the key: the caller's with KEY_EXCH and at least one of SIGN and SEAL, otherwise passed over
unfoldable pub key_to_send : NegotiateFlags → List ℕ → List ℕ
key_to_send flags key = cond (key_exch flags && (sign flags || seal flags)) key []

-- the answer with what was written: its length, Time and whether a MIC is due
abbrev pub answer_with : Result ℕ Refusal → ℕ → Bool → Result Answer Refusal
answer_with (Ok n) time due = Ok (record { len = n; time = time; mic_due = due })
answer_with (Err e) time due = Err e

-- what the caller supplies: the output, the box's clock, and the fields of AUTHENTICATE
pub record Supplied : Type 0 where
  pub out : List ℕ
  pub clock : ℕ
  pub version : List ℕ
  pub mic : List ℕ
  pub lm : List ℕ
  pub nt : List ℕ
  pub domain : List ℕ
  pub user : List ℕ
  pub workstation : List ℕ
  pub key : List ℕ

-- what comes of it: the answer, and the output afterwards
pub record Effect : Type 0 where
  pub answer : Result Answer Refusal
  pub output : List ℕ

-- a refusal leaves the output as it was
abbrev pub refusing : Supplied → Refusal → Effect
refusing x e = record { answer = Err e; output = x.out }

-- a challenge that is answered: flags are the challenge's, the other fields the caller's
unfoldable pub sending : Settings → Decision → Supplied → Effect
sending settings d x =
    record {
      answer =
          answer_with
          (write_answer (length x.out) d.flags x.version (mic_to_send d.timestamp x.mic) (lm_to_send settings d.timestamp x.lm)
          x.nt x.domain x.user x.workstation (key_to_send d.flags x.key))
          (time_to_send settings d.timestamp x.clock)
          (mic_due d.timestamp);
      output =
          write_out x.out d.flags x.version (mic_to_send d.timestamp x.mic) (lm_to_send settings d.timestamp x.lm)
          x.nt x.domain x.user x.workstation (key_to_send d.flags x.key);
    }

-- the same with another domain
abbrev pub with_domain : List ℕ → Supplied → Supplied
with_domain domain x =
    record {
      out = x.out;
      clock = x.clock;
      version = x.version;
      mic = x.mic;
      lm = x.lm;
      nt = x.nt;
      domain = domain;
      user = x.user;
      workstation = x.workstation;
      key = x.key;
    }

-- reading, 20, 21, then writing with the domain to send
unfoldable pub respond_to : Settings → List ℕ → Supplied → Effect
respond_to settings s x =
    on_ok (refusing x) (decision_on settings s) (λ d. sending settings d (with_domain (domain_to_send x.domain s) x))

-- ---- the parameters of a call

-- what the caller supplies, by the contents of what it lends, before the call
abbrev pub supplied : List ℕ → ℕ → List ℕ → List ℕ → List ℕ → List ℕ → List ℕ → List ℕ → List ℕ → List ℕ → Supplied
supplied out clock version mic lm nt domain user workstation key =
    record {
      out = out;
      clock = clock;
      version = version;
      mic = mic;
      lm = lm;
      nt = nt;
      domain = domain;
      user = user;
      workstation = workstation;
      key = key;
    }

-- an answer, with what then lies in the output
abbrev pub effect : Result Answer Refusal → List ℕ → Effect
effect answer out = record { answer = answer; output = out }
