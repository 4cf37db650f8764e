-- How long the line is at most, by the lengths of strings A and B: each of the others is a name of at most 255 bytes.
use Prim.Native.Nat.{ℕ, ◌+◌, ◌-◌, ◌*◌, ◌≤◌, ◌<◌}
use mathlib.Core.Path.{◌≡◌}
use mathlib.Core.Bool.{Bool, true, false}
use mathlib.Core.List.{List}
use native.Mathlib.Omega.{arith}
use lib.Dec.{leb}
use lib.ListN.{length, drop, length-append}
use Rattle.wire.specs.Text.{ascii}
use Rattle.nl_auth_flags.specs.Flags.{nb_domain, nb_computer, dns_domain, dns_host, utf8_computer}
use Rattle.read_nl_auth.specs.declared.NlAuth.{NlAuth}
use Rattle.read_nl_auth.specs.declared.string.NlString.{NlString}
use Rattle.read_nl_auth.specs.NlAuth.{string_bytes, labels_of}
use Rattle.read_nl_auth.proofs.Names.{string_small}
use Rattle.line_nl_string.specs.StringText.{oem_text, utf8_text}
use Rattle.line_dns_name.specs.DnsNameText.{dns_name_text as dns_text}
use Rattle.line_dns_name.proofs.Names.{text_bound}
use Rattle.wire.specs.declared.check.Checked.TheVariants.{Held}
use Rattle.place.specs.Written.{room_holds}
use Rattle.line_words.specs.Name.{name_text}
use Rattle.line_words.specs.Words.{number_word, string_word}
use Rattle.line_words.proofs.Calls.{of_most}
use Rattle.line_words.proofs.Labels.{flags_word_size, number_word_bound}
use Rattle.line_words.proofs.Names.{name_bound}
use Rattle.line_nl_auth.specs.Nl.{nl_start, nl_oem, nl_utf8, nl_text}

oem_bound : (label s : List ℕ) (given : Bool) (x : NlString) → length (string_word label given (oem_text s x)) ≤ length label + 4 * x.len
unfolding string_word oem_text
oem_bound label s true x =
    omega (arith, length-append label (name_text false (string_bytes s x)), name_bound false (string_bytes s x), string_small s x)
oem_bound label s false x = omega arith

-- of a DNS name: no more than four bytes for each of its coded length, which is at most 255
utf8_bound : (label s : List ℕ) (given : Bool) (x : NlString) → length (string_word label given (utf8_text s x)) ≤ length label + 1020
unfolding string_word utf8_text
utf8_bound label s true x = omega (arith, length-append label (dns_text (labels_of s x)), text_bound (drop 8 s) (x.offset - 8))
utf8_bound label s false x = omega arith

pub nl_bound : (s : List ℕ) (m : NlAuth) →
    length (nl_text s m) ≤ 3091 + length (number_word (ascii "nl type=") m.message_type)
    + 4 * (m.strings.nb_domain.len + m.strings.nb_computer.len)
unfolding nl_text nl_start nl_oem nl_utf8
nl_bound s m =
    simp (length-append, flags_word_size)
    (omega (
      arith,
      oem_bound (ascii " a=") s (nb_domain m.flags) m.strings.nb_domain,
      oem_bound (ascii " b=") s (nb_computer m.flags) m.strings.nb_computer,
      utf8_bound (ascii " c=") s (dns_domain m.flags) m.strings.dns_domain,
      utf8_bound (ascii " d=") s (dns_host m.flags) m.strings.dns_host,
      utf8_bound (ascii " e=") s (utf8_computer m.flags) m.strings.utf8_computer,
    ))

-- a number of 32 bits has at most ten digits
pub type_bound : (n : ℕ) → n < 4294967296 → 3091 + length (number_word (ascii "nl type=") n) ≤ 3109
type_bound n l = omega (arith, number_word_bound (ascii "nl type=") 9 n (omega arith))

pub nl_surely_fits : (s : List ℕ) (m : NlAuth) (room n : ℕ) (b : Bool) → 3091 + length (number_word (ascii "nl type=") m.message_type) ≤ n →
    b ≡ leb (n + 4 * (m.strings.nb_domain.len + m.strings.nb_computer.len + 0)) room → b ≡ true →
    Held ≡ room_holds (length (nl_text s m)) room
nl_surely_fits s m room n b l e h =
    of_most (nl_text s m) (n + 4 * (m.strings.nb_domain.len + m.strings.nb_computer.len + 0)) room b
    (omega (arith, l, nl_bound s m)) e h
