-- NL_AUTH_MESSAGE (MS-NRPC 2.2.1.3.1), written as documents 01 and 02 set it out, into a lent output.
use Rattle.wire.specs.declared.refusal.Refusal.{Refusal}
use Rattle.std.specs.Prelude.{Result, Ok, Err, ⊤, ℕ, Bool, not, cond, List, [], ◌∷◌, ◌++◌, length}
use Rattle.wire.specs.declared.check.Checked.{Checked}
use Rattle.wire.specs.declared.refusal.Refusal.TheVariants.{NoStrings, TooLongToWrite, NoRoom, ZeroInString, WrongLabel, NameTooLong}
use Rattle.wire.specs.Check.{checked, after, over_all, on_clear}
use Rattle.place.specs.Place.{le32}
use Rattle.place.specs.Written.{size_holds, room_holds, at_front, answered, out_after}
use Rattle.nl_auth_flags.specs.declared.NlAuthFlags.{NlAuthFlags}
use Rattle.nl_auth_flags.specs.Flags.{nb_domain, nb_computer, dns_domain, dns_host, utf8_computer, no_flags, strings_hold}
use Rattle.read_nl_auth.specs.NlAuth.{holds_zero}
use Rattle.write_dns_name.specs.Writing.{name_bytes, text_holds, coded_holds}

-- ---- the bytes

-- MessageType and Flags
unfoldable pub type_and_flags : ℕ → NlAuthFlags → List ℕ
type_and_flags t flags = le32 t ++ le32 flags.bits

-- string A or B and its zero byte
unfoldable pub zero_terminated : List ℕ → List ℕ
zero_terminated x = x ++ (0 ∷ [])

-- the string of a bit; where that is clear it is passed over
unfoldable pub bytes_under : Bool → List ℕ → List ℕ
bytes_under set x = cond set (zero_terminated x) []

-- the OEM strings, A and B
unfoldable pub oem_bytes : NlAuthFlags → List ℕ → List ℕ → List ℕ
oem_bytes flags a b = bytes_under (nb_domain flags) a ++ bytes_under (nb_computer flags) b

-- the UTF-8 strings, C to E: "without jumps, from text split at full stops"
unfoldable pub name_bytes_under : Bool → List ℕ → List ℕ
name_bytes_under set x = cond set (name_bytes x) []

unfoldable pub utf8_bytes : NlAuthFlags → List ℕ → List ℕ → List ℕ → List ℕ
utf8_bytes flags c d e =
    name_bytes_under (dns_domain flags) c ++ (
    name_bytes_under (dns_host flags) d ++
    name_bytes_under (utf8_computer flags) e)

-- a request: one string for each set bit, A first
unfoldable pub request_bytes : NlAuthFlags → List ℕ → List ℕ → List ℕ → List ℕ → List ℕ → List ℕ
request_bytes flags a b c d e = type_and_flags 0 flags ++ (oem_bytes flags a b ++ utf8_bytes flags c d e)

-- a response: its flags are zero, its buffer is one zero byte
unfoldable pub response_bytes : List ℕ
response_bytes = type_and_flags 1 no_flags ++ (0 ∷ [])

-- ---- the checks

-- strings C to E by number, C first
abbrev pub names : List ℕ → List ℕ → List ℕ → List (ℕ × List ℕ)
names c d e = (3, c) ∷ (4, d) ∷ (5, e) ∷ []

-- check 34 at one string: it holds no zero byte
abbrev pub no_zero : List ℕ → Checked
no_zero x = checked (not (holds_zero x))

unfoldable pub check_zeros : List ℕ → List ℕ → List ℕ → List ℕ → List ℕ → Result ⊤ Refusal
check_zeros a b c d e = over_all no_zero ZeroInString ((1, a) ∷ (2, b) ∷ names c d e)

-- check 50: labels have 1 to 63 bytes
unfoldable pub check_labels : List ℕ → List ℕ → List ℕ → Result ⊤ Refusal
check_labels c d e = over_all text_holds WrongLabel (names c d e)

-- check 53: the coded length is at most 255
unfoldable pub check_coded : List ℕ → List ℕ → List ℕ → Result ⊤ Refusal
check_coded c d e = over_all coded_holds NameTooLong (names c d e)

-- 34, then "50 .. then 53", each over all strings
unfoldable pub check_strings : List ℕ → List ℕ → List ℕ → List ℕ → List ℕ → Result ⊤ Refusal
check_strings a b c d e =
    on_clear Err (check_zeros a b c d e) (
    on_clear Err (check_labels c d e)
    (check_coded c d e))

-- the string of a bit as these checks take it: that of a clear bit is empty, and none of them fails at an empty one
unfoldable pub under : Bool → List ℕ → List ℕ
under set x = cond set x []

unfoldable pub check_under : NlAuthFlags → List ℕ → List ℕ → List ℕ → List ℕ → List ℕ → Result ⊤ Refusal
check_under flags a b c d e =
    check_strings (under (nb_domain flags) a) (under (nb_computer flags) b)
    (under (dns_domain flags) c) (under (dns_host flags) d) (under (utf8_computer flags) e)

-- a request, for an output of so many bytes: 14, 34, 50, 53, 30, 33
unfoldable pub check_request : ℕ → NlAuthFlags → List ℕ → List ℕ → List ℕ → List ℕ → List ℕ → Result ⊤ Refusal
check_request room flags a b c d e =
    after (strings_hold flags) (Err NoStrings) (
    on_clear Err (check_under flags a b c d e) (
    after (size_holds (length (request_bytes flags a b c d e))) (Err TooLongToWrite) (
    after (room_holds (length (request_bytes flags a b c d e)) room) (Err NoRoom)
    (Ok tt))))

-- ---- what a writing answers, and what it leaves in the output

-- a request with flags of bits A to E alone
unfoldable pub request_answer : ℕ → NlAuthFlags → List ℕ → List ℕ → List ℕ → List ℕ → List ℕ → Result ℕ Refusal
request_answer room flags a b c d e = answered (check_request room flags a b c d e) (request_bytes flags a b c d e)

unfoldable pub request_out : List ℕ → NlAuthFlags → List ℕ → List ℕ → List ℕ → List ℕ → List ℕ → List ℕ
request_out out flags a b c d e =
    out_after (check_request (length out) flags a b c d e) (request_bytes flags a b c d e) out

-- a response: 33
unfoldable pub response_answer : ℕ → Result ℕ Refusal
response_answer room = after (room_holds (length response_bytes) room) (Err NoRoom) (Ok (length response_bytes))

unfoldable pub response_out : List ℕ → List ℕ
response_out out = after (room_holds (length response_bytes) (length out)) out (at_front response_bytes out)
