-- Document 02, 11/12: AUTHENTICATE_MESSAGE (MS-NLMP 2.2.1.3) is read, and what it means is written by document 01's layout.
use Rattle.std.specs.Prelude.{Result, Ok, Err, ℕ, List, replicate}
use Rattle.wire.specs.declared.refusal.Refusal.{Refusal}
use Rattle.field.specs.Field.{field_bytes}
use Rattle.negotiate_flags.specs.declared.NegotiateFlags.{NegotiateFlags}
use Rattle.read_authenticate.specs.declared.Authenticate.{Authenticate}
use Rattle.read_authenticate.specs.Authenticate.{read_authenticate}
use Rattle.write_authenticate.specs.Writing.{write_answer, write_out}

-- "Meaning is the flags, the six fields' bytes and the MIC so read": the MIC's sixteen bytes, and not whether one is there
pub record Meaning : Type 0 where
  pub flags : NegotiateFlags
  pub mic : List ℕ
  pub lm : List ℕ
  pub nt : List ℕ
  pub domain : List ℕ
  pub user : List ℕ
  pub workstation : List ℕ
  pub key : List ℕ

-- what a taken message means; a missing MIC reads as sixteen zeros, a field that doesn't count as empty
unfoldable pub meaning_of : List ℕ → List ℕ → Authenticate → Meaning
meaning_of s mic a =
    record {
      flags = a.flags;
      mic = mic;
      lm = field_bytes s a.fields.lm;
      nt = field_bytes s a.fields.nt;
      domain = field_bytes s a.fields.domain;
      user = field_bytes s a.fields.user;
      workstation = field_bytes s a.fields.workstation;
      key = field_bytes s a.fields.key;
    }

-- "with zero Version", also where VERSION is set
abbrev pub zero_version : List ℕ
zero_version = replicate 8 0

-- a meaning, written into an output of so many bytes, and what is then in the output
unfoldable pub meaning_answer : ℕ → Meaning → Result ℕ Refusal
meaning_answer room m =
    write_answer room m.flags zero_version m.mic m.lm m.nt m.domain m.user m.workstation m.key

unfoldable pub meaning_out : List ℕ → Meaning → List ℕ
meaning_out out m =
    write_out out m.flags zero_version m.mic m.lm m.nt m.domain m.user m.workstation m.key

-- after a reading of s with these MIC bytes: its refusal, or what is made of the meaning
abbrev pub on_meaning : {A : Type 0} → (Refusal → A) → List ℕ → List ℕ → Result Authenticate Refusal → (Meaning → A) → A
on_meaning refuse s mic (Ok a) x = x (meaning_of s mic a)
on_meaning refuse s mic (Err e) x = refuse e

-- "Refusals: the reading ones, then 32, 30, 33"
unfoldable pub canonical_answer : ℕ → List ℕ → Result ℕ Refusal
canonical_answer room s =
    on_meaning Err s (read_authenticate s).mic (read_authenticate s).reading (λ m. meaning_answer room m)

unfoldable pub canonical_out : List ℕ → List ℕ → List ℕ
canonical_out out s =
    on_meaning (λ e. out) s (read_authenticate s).mic (read_authenticate s).reading (λ m. meaning_out out m)
