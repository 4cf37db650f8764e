-- Demand 2: "An AUTHENTICATE we write reads back with the same flags, six fields and MIC." And NL_AUTH: type, flags A to E and
-- each string under a set bit; C, D and E with the labels of their texts and no jumps, and in the line with the text again where
-- its bytes are plain. And, by request 1/12, NEGOTIATE: both names, and the caller's flags with the bits of the names as
-- the names make them.
use Rattle.std.specs.Prelude.{Ok, ℕ, ◌/◌, ◌%◌, ◌<◌, ◌≡◌, true, ◌↔◌, List, length, take}
use Rattle.field.specs.Field.{field_bytes}
use Rattle.negotiate_flags.specs.declared.NegotiateFlags.{NegotiateFlags}
use Rattle.read_authenticate.specs.declared.Authenticate.{Authenticate}
use Rattle.read_authenticate.specs.Authenticate.{read_authenticate}
use Rattle.write_authenticate.specs.Writing.{write_answer, write_out}
use Rattle.read_negotiate.specs.declared.Negotiate.{Negotiate}
use Rattle.read_negotiate.specs.Negotiate.{read_negotiate}
use Rattle.write_negotiate.specs.Writing.{write_answer as negotiate_answer, write_out as negotiate_out}
use Rattle.nl_auth_flags.specs.declared.NlAuthFlags.{NlAuthFlags}
use Rattle.read_nl_auth.specs.declared.NlAuth.{NlAuth}
use Rattle.nl_auth_flags.specs.Flags.{nb_domain, nb_computer, dns_domain, dns_host, utf8_computer, known}
use Rattle.read_nl_auth.specs.declared.string.NlString.{NlString}
use Rattle.read_nl_auth.specs.NlAuth.{string_bytes, labels_of, read_nl_auth}
use Rattle.line_nl_string.specs.StringText.{utf8_text}
use Rattle.write_nl_auth.specs.Writing.{request_answer, request_out, response_answer, response_out}
use Rattle.demands.specs.DnsName.{TextLabels, Plain}

-- the name x read back from the bytes s, of this text
pub record NameBack (s : List ℕ) (x : NlString) (text : List ℕ) : Type 0 where
  pub labels : TextLabels text (labels_of s x)
  pub no_jumps : x.jumps ≡ 0
  pub shown : Plain text → utf8_text s x ≡ text

-- the message m read back from the bytes s: a request with these flags and strings
pub record RequestBack (s : List ℕ) (flags : NlAuthFlags) (a b c d e : List ℕ) : Type 0 where
  pub message : NlAuth
  pub read : read_nl_auth s ≡ Ok message
  pub message_type : message.message_type ≡ 0
  pub flags_same : message.flags ≡ known flags
  pub a_same : nb_domain flags ≡ true → string_bytes s message.strings.nb_domain ≡ a
  pub b_same : nb_computer flags ≡ true → string_bytes s message.strings.nb_computer ≡ b
  pub c_same : dns_domain flags ≡ true → NameBack s message.strings.dns_domain c
  pub d_same : dns_host flags ≡ true → NameBack s message.strings.dns_host d
  pub e_same : utf8_computer flags ≡ true → NameBack s message.strings.utf8_computer e

-- for every call that is not refused: the first n bytes of the output, n being the answer
abbrev pub NlRequestReadsBack : Type 0
NlRequestReadsBack =
    (out : List ℕ) (flags : NlAuthFlags) (a b c d e : List ℕ) (n : ℕ) →
    request_answer (length out) (known flags) a b c d e ≡ Ok n →
    RequestBack (take n (request_out out (known flags) a b c d e)) flags a b c d e

-- a response reads back as a response, its flags zero
pub record ResponseBack (s : List ℕ) : Type 0 where
  pub message : NlAuth
  pub read : read_nl_auth s ≡ Ok message
  pub message_type : message.message_type ≡ 1
  pub flags : message.flags.bits ≡ 0

abbrev pub NlResponseReadsBack : Type 0
NlResponseReadsBack =
    (out : List ℕ) (n : ℕ) → response_answer (length out) ≡ Ok n → ResponseBack (take n (response_out out))

-- the message read back from the bytes s: these flags, this MIC and these six fields
pub record AuthenticateBack (s : List ℕ) (flags : NegotiateFlags) (mic lm nt domain user workstation key : List ℕ) : Type 0 where
  pub message : Authenticate
  pub read : (read_authenticate s).reading ≡ Ok message
  pub flags_same : message.flags.bits ≡ flags.bits
  pub mic_there : message.mic_present ≡ true
  pub mic_same : (read_authenticate s).mic ≡ mic
  pub lm_same : field_bytes s message.fields.lm ≡ lm
  pub nt_same : field_bytes s message.fields.nt ≡ nt
  pub domain_same : field_bytes s message.fields.domain ≡ domain
  pub user_same : field_bytes s message.fields.user ≡ user
  pub workstation_same : field_bytes s message.fields.workstation ≡ workstation
  pub key_same : field_bytes s message.fields.key ≡ key

-- for every call that is not refused; Version and MIC are of 8 and 16 bytes, as the call takes them
abbrev pub AuthenticateReadsBack : Type 0
AuthenticateReadsBack =
    (out : List ℕ) (flags : NegotiateFlags) (version mic lm nt domain user workstation key : List ℕ) (n : ℕ) →
    length version ≡ 8 → length mic ≡ 16 →
    write_answer (length out) flags version mic lm nt domain user workstation key ≡ Ok n →
    AuthenticateBack (take n (write_out out flags version mic lm nt domain user workstation key)) flags mic lm nt domain user workstation key

-- bit 0x1000 is set exactly where the domain is nonempty, 0x2000 where the workstation is, and the bits below and above the two are
-- as given
pub record BitsByNames (bits given : ℕ) (domain workstation : List ℕ) : Type 0 where
  pub domain_bit : (bits / 0x1000 % 2 ≡ 1) ↔ (0 < length domain)
  pub workstation_bit : (bits / 0x2000 % 2 ≡ 1) ↔ (0 < length workstation)
  pub bits_below : bits % 0x1000 ≡ given % 0x1000
  pub bits_above : bits / 0x4000 ≡ given / 0x4000

-- the message read back from the bytes s: these names, and the caller's flags with those two bits as the names make them
pub record NegotiateBack (s : List ℕ) (flags : NegotiateFlags) (domain workstation : List ℕ) : Type 0 where
  pub message : Negotiate
  pub read : read_negotiate s ≡ Ok message
  pub domain_same : field_bytes s message.fields.domain ≡ domain
  pub workstation_same : field_bytes s message.fields.workstation ≡ workstation
  pub flags_same : BitsByNames message.flags.bits flags.bits domain workstation

-- for every call that is not refused
abbrev pub NegotiateReadsBack : Type 0
NegotiateReadsBack =
    (out : List ℕ) (flags : NegotiateFlags) (version domain workstation : List ℕ) (n : ℕ) → length version ≡ 8 →
    negotiate_answer (length out) flags version domain workstation ≡ Ok n →
    NegotiateBack (take n (negotiate_out out flags version domain workstation)) flags domain workstation
