-- What each reading found, as numbers in the order that the header names them.
use Rattle.wire.specs.declared.refusal.Refusal.{Refusal}
use Rattle.std.specs.Prelude.{Result, Option, Ok, Err, Some, None, ℕ, List, [], ◌∷◌}
use Rattle.read_authenticate.specs.declared.Authenticate.{Authenticate}
use Rattle.read_challenge.specs.declared.Challenge.{Challenge}
use Rattle.target_info.specs.declared.ServerNames.{ServerNames}
use Rattle.read_negotiate.specs.declared.Negotiate.{Negotiate}
use Rattle.read_nl_auth.specs.declared.NlAuth.{NlAuth}
use Rattle.read_authenticate.specs.Authenticate.{read_authenticate}
use Rattle.read_challenge.specs.Challenge.{read_challenge}
use Rattle.c_number.specs.Number.{bit}
use Rattle.c_number.specs.Outcome.{Outcome, numbers, refused}

-- flags, the offset and length of fields 1 and 2, and MaxLen of both
unfoldable pub negotiate_numbers : Negotiate → List ℕ
negotiate_numbers m =
    m.flags.bits ∷
    m.fields.domain.offset ∷
    m.fields.domain.len ∷
    m.fields.workstation.offset ∷
    m.fields.workstation.len ∷
    m.fields.domain.max_len ∷
    m.fields.workstation.max_len ∷ []

-- flags, whether a MIC is there, the offset and length of fields 1 to 6, and MaxLen of each
unfoldable pub authenticate_numbers : Authenticate → List ℕ
authenticate_numbers a =
    a.flags.bits ∷
    bit a.mic_present ∷
    a.fields.lm.offset ∷
    a.fields.lm.len ∷
    a.fields.nt.offset ∷
    a.fields.nt.len ∷
    a.fields.domain.offset ∷
    a.fields.domain.len ∷
    a.fields.user.offset ∷
    a.fields.user.len ∷
    a.fields.workstation.offset ∷
    a.fields.workstation.len ∷
    a.fields.key.offset ∷
    a.fields.key.len ∷
    a.fields.lm.max_len ∷
    a.fields.nt.max_len ∷
    a.fields.domain.max_len ∷
    a.fields.user.max_len ∷
    a.fields.workstation.max_len ∷
    a.fields.key.max_len ∷ []

-- flags, the offset and length of fields 1 and 2, and MaxLen of both
unfoldable pub challenge_numbers : Challenge → List ℕ
challenge_numbers c =
    c.flags.bits ∷
    c.fields.target_name.offset ∷
    c.fields.target_name.len ∷
    c.fields.target_info.offset ∷
    c.fields.target_info.len ∷
    c.fields.target_name.max_len ∷
    c.fields.target_info.max_len ∷ []

-- whether a timestamp is there, and its value
unfoldable pub timestamp_numbers : Option ℕ → List ℕ
timestamp_numbers (Some t) = 1 ∷ t ∷ []
timestamp_numbers None = 0 ∷ 0 ∷ []

-- whether pairs 1 and 2 are there
unfoldable pub server_names_numbers : ServerNames → List ℕ
server_names_numbers n = bit n.nb_computer_name ∷ bit n.nb_domain_name ∷ []

-- type, flags, the offset and length of strings A to E, and the jumps of C to E
unfoldable pub nl_auth_numbers : NlAuth → List ℕ
nl_auth_numbers m =
    m.message_type ∷
    m.flags.bits ∷
    m.strings.nb_domain.offset ∷
    m.strings.nb_domain.len ∷
    m.strings.nb_computer.offset ∷
    m.strings.nb_computer.len ∷
    m.strings.dns_domain.offset ∷
    m.strings.dns_domain.len ∷
    m.strings.dns_host.offset ∷
    m.strings.dns_host.len ∷
    m.strings.utf8_computer.offset ∷
    m.strings.utf8_computer.len ∷
    m.strings.dns_domain.jumps ∷
    m.strings.dns_host.jumps ∷
    m.strings.utf8_computer.jumps ∷ []

-- ---- what each reading hands out

abbrev pub negotiate_outcome : Result Negotiate Refusal → Outcome
negotiate_outcome (Ok m) = numbers (negotiate_numbers m)
negotiate_outcome (Err e) = refused e

abbrev pub authenticate_outcome : Result Authenticate Refusal → Outcome
authenticate_outcome (Ok a) = numbers (authenticate_numbers a)
authenticate_outcome (Err e) = refused e

abbrev pub challenge_outcome : Result Challenge Refusal → Outcome
challenge_outcome (Ok c) = numbers (challenge_numbers c)
challenge_outcome (Err e) = refused e

-- of a message's bytes
abbrev pub authenticate_outcome_of : List ℕ → Outcome
authenticate_outcome_of s = authenticate_outcome (read_authenticate s).reading

abbrev pub challenge_outcome_of : List ℕ → Outcome
challenge_outcome_of s = challenge_outcome (read_challenge s).reading

abbrev pub timestamp_outcome : Result (Option ℕ) Refusal → Outcome
timestamp_outcome (Ok t) = numbers (timestamp_numbers t)
timestamp_outcome (Err e) = refused e

abbrev pub server_names_outcome : Result ServerNames Refusal → Outcome
server_names_outcome (Ok n) = numbers (server_names_numbers n)
server_names_outcome (Err e) = refused e

abbrev pub nl_auth_outcome : Result NlAuth Refusal → Outcome
nl_auth_outcome (Ok m) = numbers (nl_auth_numbers m)
nl_auth_outcome (Err e) = refused e
