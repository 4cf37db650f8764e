-- The line of NL_AUTH: nl type=D flags=H a=N b=N c=N d=N e=N
use Rattle.std.specs.Prelude.{ℕ, List, ◌++◌}
use Rattle.wire.specs.Text.{ascii}
use Rattle.nl_auth_flags.specs.Flags.{nb_domain, nb_computer, dns_domain, dns_host, utf8_computer}
use Rattle.read_nl_auth.specs.declared.NlAuth.{NlAuth}
use Rattle.line_nl_string.specs.StringText.{oem_text, utf8_text}
use Rattle.line_words.specs.Words.{number_word, string_word, flags_word, line_end}

unfoldable pub nl_start : ℕ → ℕ → List ℕ
nl_start type bits = number_word (ascii "nl type=") type ++ flags_word bits

-- the OEM strings, each where its bit is set
unfoldable pub nl_oem : List ℕ → NlAuth → List ℕ
nl_oem s m =
    string_word (ascii " a=") (nb_domain m.flags) (oem_text s m.strings.nb_domain) ++
    string_word (ascii " b=") (nb_computer m.flags) (oem_text s m.strings.nb_computer)

-- the UTF-8 strings, each where its bit is set
unfoldable pub nl_utf8 : List ℕ → NlAuth → List ℕ
nl_utf8 s m =
    string_word (ascii " c=") (dns_domain m.flags) (utf8_text s m.strings.dns_domain) ++ (
    string_word (ascii " d=") (dns_host m.flags) (utf8_text s m.strings.dns_host) ++
    string_word (ascii " e=") (utf8_computer m.flags) (utf8_text s m.strings.utf8_computer))

unfoldable pub nl_text : List ℕ → NlAuth → List ℕ
nl_text s m = nl_start m.message_type m.flags.bits ++ (nl_oem s m ++ (nl_utf8 s m ++ line_end))
