-- NL_AUTH_MESSAGE (MS-NRPC 2.2.1.3.1), read as document 01 sets it out: MessageType at 0, Flags at 4, Buffer from 8.
use Rattle.read_nl_auth.specs.declared.NlAuth.{NlAuth}
use Rattle.std.specs.Prelude.{Result, Option, Ok, Err, Some, None, ℕ, suc, ◌+◌, ◌-◌, Bool, ◌||◌, ◌&&◌, cond, List, [], ◌∷◌, leb, ltb, eqb, length, get_or, take, drop}
use Rattle.wire.specs.declared.check.Checked.{Checked}
use Rattle.wire.specs.declared.refusal.Refusal.{Refusal}
use Rattle.wire.specs.declared.refusal.Refusal.TheVariants.{TooLong, TooShort, WrongType, NoStrings, Unterminated, BytesLeft, WrongResponse, WrongLabel, PlaceNotBefore, TooManyJumps, NameTooLong}
use Rattle.wire.specs.Check.{checked, after}
use Rattle.head.specs.Head.{length_holds, fixed_part_holds}
use Rattle.wire.specs.Number.{u32_at}
use Rattle.nl_auth_flags.specs.declared.NlAuthFlags.{NlAuthFlags}
use Rattle.read_nl_auth.specs.declared.Strings.{Strings}
use Rattle.read_nl_auth.specs.declared.string.NlString.{NlString}
use Rattle.read_dns_name.specs.declared.Fault.{Fault}
use Rattle.read_dns_name.specs.declared.Fault.TheVariants.{CutShort, WrongTopBits, PlaceNotBefore as NotBefore, TooManyJumps as ManyJumps, NameTooLong as LongName}
use Rattle.read_dns_name.specs.declared.Name.{Name}
use Rattle.read_dns_name.specs.DnsName.{read_name, labels_at}
use Rattle.nl_auth_flags.specs.Flags.{nb_domain, nb_computer, dns_domain, dns_host, utf8_computer, known, no_flags, strings_hold}

-- ---- one string

-- a string that isn't there
abbrev pub no_string : NlString
no_string = record { offset = 0; len = 0; jumps = 0 }

-- a string's own bytes, where they lie within the message; always so once that is taken
unfoldable pub string_bytes : List ℕ → NlString → List ℕ
string_bytes s x = cond (leb (x.offset + x.len) (length s)) (take x.len (drop x.offset s)) []

-- where these bytes start in the message
unfoldable pub string_start : List ℕ → NlString → ℕ
string_start s x = cond (leb (x.offset + x.len) (length s)) x.offset 0

-- ---- strings A and B

-- how many bytes stand before the first zero byte; all of them if there is none
abbrev pub string_length : List ℕ → ℕ
string_length [] = 0
string_length (b ∷ bs) = cond (eqb b 0) 0 (suc (string_length bs))

abbrev pub holds_zero : List ℕ → Bool
holds_zero bs = ltb (string_length bs) (length bs)

-- the string from a place on: up to and without the first zero byte, after which the next string starts
unfoldable pub string_at : List ℕ → ℕ → Option (NlString × ℕ)
string_at s at =
    cond (holds_zero (drop at s))
    (Some ((record { offset = at; len = string_length (drop at s); jumps = 0 }), (at + string_length (drop at s) + 1)))
    None

-- the string under a bit: where that is clear there is none, and the next string starts at this place
unfoldable pub string_under : Bool → List ℕ → ℕ → Option (NlString × ℕ)
string_under set s at = cond set (string_at s at) (Some (no_string, at))

-- check 15 at one string: its answer e where the zero byte is missing, and else what x makes of the string
abbrev pub on_found : {A : Type 0} → Option (NlString × ℕ) → A → (NlString → ℕ → A) → A
on_found (Some (string, next)) e x = x string next
on_found None e x = e

-- ---- strings C, D and E, names by RFC 1035

-- "counted from the first byte of the buffer", which is byte 8 of the message
abbrev pub buffer_of : List ℕ → List ℕ
buffer_of s = drop 8 s

abbrev pub in_buffer : ℕ → ℕ
in_buffer at = at - 8

-- 15 and 50 to 53, "each with the string"
abbrev pub refusal_in : Fault → ℕ → Refusal
refusal_in CutShort n = Unterminated n
refusal_in WrongTopBits n = WrongLabel n
refusal_in NotBefore n = PlaceNotBefore n
refusal_in ManyJumps n = TooManyJumps n
refusal_in LongName n = NameTooLong n

-- "A string's own bytes run to where the next starts"
abbrev pub name_string : ℕ → Name → NlString
name_string at m = record { offset = at; len = 8 + m.next - at; jumps = m.jumps }

abbrev pub on_name : {A : Type 0} → Result Name Fault → (Name → A) → (Fault → A) → A
on_name (Ok m) x f = x m
on_name (Err e) x f = f e

-- string n from a place of the message on
unfoldable pub name_at : List ℕ → ℕ → ℕ → Result (NlString × ℕ) Refusal
name_at s at n =
    on_name (read_name (buffer_of s) (in_buffer at)) (λ m. (Ok ((name_string at m), (8 + m.next)))) (λ e. Err (refusal_in e n))

-- the string under a bit, as above
unfoldable pub name_under : Bool → List ℕ → ℕ → ℕ → Result (NlString × ℕ) Refusal
name_under set s at n = cond set (name_at s at n) (Ok (no_string, at))

-- a string's own refusal, and else what x makes of the string
abbrev pub on_named : Result (NlString × ℕ) Refusal → (NlString → ℕ → Result NlAuth Refusal) → Result NlAuth Refusal
on_named (Ok (string, next)) x = x string next
on_named (Err e) x = Err e

-- the labels of a string that was taken
abbrev pub labels_of : List ℕ → NlString → List (List ℕ)
labels_of s x = labels_at (buffer_of s) (in_buffer x.offset)

-- ---- the message

abbrev pub message_type : List ℕ → ℕ
message_type s = u32_at s 0

abbrev pub flags_at : List ℕ → NlAuthFlags
flags_at s = known (record { bits = u32_at s 4 })

abbrev pub is_request : ℕ → Bool
is_request t = eqb t 0

abbrev pub is_response : ℕ → Bool
is_response t = eqb t 1

-- check 4: the type is a request's or a response's, all 32 bits of it
abbrev pub type_holds : ℕ → Checked
type_holds t = checked (is_request t || is_response t)

-- check 16: the message ends after the last string
abbrev pub end_holds : ℕ → List ℕ → Checked
end_holds next s = checked (eqb next (length s))

-- the UTF-8 strings, C to E, after the OEM strings a and b: 15 and 50 to 53, "string by string and before 16"; b', c', d' and
-- e' are the places after the strings b, c, d and e
unfoldable pub read_utf8 : NlAuthFlags → List ℕ → NlString → NlString → ℕ → Result NlAuth Refusal
read_utf8 flags s a b b' =
    on_named (name_under (dns_domain flags) s b' 3) (λ c c'.
    on_named (name_under (dns_host flags) s c' 4) (λ d d'.
    on_named (name_under (utf8_computer flags) s d' 5) (λ e e'.
    after (end_holds e' s) (Err BytesLeft)
    (Ok (record {
      message_type = 0;
      flags = flags;
      strings = record {
        nb_domain = a;
        nb_computer = b;
        dns_domain = c;
        dns_host = d;
        utf8_computer = e;
      };
    })))))

-- a request: 14, then the string of each set bit, A first, then 16
unfoldable pub read_request : NlAuthFlags → List ℕ → Result NlAuth Refusal
read_request flags s =
    after (strings_hold flags) (Err NoStrings) (
    on_found (string_under (nb_domain flags) s 8) (Err (Unterminated 1)) (λ a a'.
    on_found (string_under (nb_computer flags) s a') (Err (Unterminated 2)) (λ b b'.
    read_utf8 flags s a b b')))

-- the strings of a response
abbrev pub empty_strings : Strings
empty_strings =
    record {
      nb_domain = no_string;
      nb_computer = no_string;
      dns_domain = no_string;
      dns_host = no_string;
      utf8_computer = no_string;
    }

-- check 17: the buffer is one zero byte
abbrev pub response_holds : List ℕ → Checked
response_holds s = checked (eqb (length s) 9 && eqb (get_or s 8 0) 0)

-- a response: 17; its flags are ignored
unfoldable pub read_response : List ℕ → Result NlAuth Refusal
read_response s =
    after (response_holds s) (Err WrongResponse)
    (Ok (record { message_type = 1; flags = no_flags; strings = empty_strings }))

-- checks 1, 2 and 4, then those of the type
unfoldable pub read_nl_auth : List ℕ → Result NlAuth Refusal
read_nl_auth s =
    after (length_holds s) (Err TooLong) (
    after (fixed_part_holds 8 s) (Err TooShort) (
    after (type_holds (message_type s)) (Err WrongType)
    (cond (is_request (message_type s)) (read_request (flags_at s) s) (read_response s))))
