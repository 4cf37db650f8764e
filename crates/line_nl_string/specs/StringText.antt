-- The text of an NL_AUTH string, as the message's line has it, and the call that writes it alone.
use Rattle.std.specs.Prelude.{Result, Ok, Err, ℕ, Bool, false, ◌&&◌, cond, List, [], eqb}
use Rattle.wire.specs.declared.refusal.Refusal.{Refusal}
use Rattle.place.specs.Written.{bytes_answer, bytes_after}
use Rattle.line_words.specs.Name.{name_text}
use Rattle.line_dns_name.specs.DnsNameText.{dns_name_text as dns_text}
use Rattle.nl_auth_flags.specs.Flags.{nb_domain, nb_computer, dns_domain, dns_host, utf8_computer}
use Rattle.read_nl_auth.specs.declared.NlAuth.{NlAuth}
use Rattle.read_nl_auth.specs.declared.string.NlString.{NlString}
use Rattle.read_nl_auth.specs.NlAuth.{string_bytes, labels_of, read_nl_auth}

-- strings A and B, byte by byte
unfoldable pub oem_text : List ℕ → NlString → List ℕ
oem_text s x = name_text false (string_bytes s x)

-- strings C, D and E: "The line joins labels with a full stop"
unfoldable pub utf8_text : List ℕ → NlString → List ℕ
utf8_text s x = dns_text (labels_of s x)

-- of either kind
unfoldable pub either_text : Bool → List ℕ → NlString → List ℕ
either_text utf8 s x = cond utf8 (utf8_text s x) (oem_text s x)

-- the text of a string by its number, A = 1 to E = 5: empty where the string's bit is clear, and for any other number
unfoldable pub utf8_numbered : List ℕ → NlAuth → ℕ → List ℕ
utf8_numbered s m which =
    cond (eqb which 3 && dns_domain m.flags) (utf8_text s m.strings.dns_domain) (
    cond (eqb which 4 && dns_host m.flags) (utf8_text s m.strings.dns_host) (
    cond (eqb which 5 && utf8_computer m.flags) (utf8_text s m.strings.utf8_computer)
    []))

unfoldable pub string_text : List ℕ → NlAuth → ℕ → List ℕ
string_text s m which =
    cond (eqb which 1 && nb_domain m.flags) (oem_text s m.strings.nb_domain) (
    cond (eqb which 2 && nb_computer m.flags) (oem_text s m.strings.nb_computer)
    (utf8_numbered s m which))

-- ---- the call: the reading's refusals, then 33

abbrev pub on_reading : {A : Type 0} → Result NlAuth Refusal → (NlAuth → A) → (Refusal → A) → A
on_reading (Ok m) x f = x m
on_reading (Err e) x f = f e

unfoldable pub text_answer : List ℕ → ℕ → List ℕ → Result ℕ Refusal
text_answer s which out = on_reading (read_nl_auth s) (λ m. bytes_answer (string_text s m which) out) (λ e. Err e)

unfoldable pub text_after : List ℕ → ℕ → List ℕ → List ℕ
text_after s which out = on_reading (read_nl_auth s) (λ m. bytes_after (string_text s m which) out) (λ e. out)
