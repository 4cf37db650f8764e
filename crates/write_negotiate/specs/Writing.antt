-- NEGOTIATE_MESSAGE (MS-NLMP 2.2.1.1), written as request 1/12 lays it out, into a lent output.
use Rattle.wire.specs.declared.refusal.Refusal.{Refusal}
use Rattle.std.specs.Prelude.{Result, Ok, Err, ⊤, ℕ, ◌+◌, Bool, not, List, ◌++◌, eqb, length}
use Rattle.negotiate_flags.specs.declared.NegotiateFlags.{NegotiateFlags}
use Rattle.wire.specs.declared.refusal.Refusal.TheVariants.{NoCharset, TooLongToWrite, NoRoom}
use Rattle.wire.specs.Check.{after}
use Rattle.negotiate_flags.specs.Flags.{charset_holds, with_oem_domain_supplied, with_oem_workstation_supplied}
use Rattle.head.specs.Head.{signature}
use Rattle.place.specs.Place.{le32}
use Rattle.place.specs.Written.{size_holds, room_holds, answered, out_after}
use Rattle.write_field.specs.Writing.{written_field, head_bytes, version_bytes}
use Rattle.read_negotiate.specs.declared.Fields.{Fields}

-- ---- the fixed part: always 40 bytes

abbrev pub nonempty : List ℕ → Bool
nonempty name = not (eqb (length name) 0)

-- the caller's flags, with the bits of the names as the names are: set for a nonempty one, clear for an empty one
unfoldable pub flags_to_write : NegotiateFlags → List ℕ → List ℕ → NegotiateFlags
flags_to_write flags domain workstation =
    with_oem_workstation_supplied (with_oem_domain_supplied flags (nonempty domain)) (nonempty workstation)

-- where names of these lengths stand: from 40 on, domain, workstation, with no padding; an empty one's offset is where it
-- would stand
unfoldable pub fields_to : ℕ → ℕ → Fields
fields_to domain workstation = record { domain = written_field 40 domain; workstation = written_field (40 + domain) workstation }

-- flags at 12, the heads at 16 and 24, Version at 32
unfoldable pub after_type : NegotiateFlags → List ℕ → Fields → List ℕ
after_type flags v f = le32 flags.bits ++ (head_bytes f.domain ++ (head_bytes f.workstation ++ version_bytes flags v))

-- Signature, MessageType 1, and what follows them
unfoldable pub fixed_bytes : NegotiateFlags → List ℕ → Fields → List ℕ
fixed_bytes flags v f = signature ++ (le32 1 ++ after_type flags v f)

-- the message: the payload is the domain and then the workstation
unfoldable pub negotiate_bytes : NegotiateFlags → List ℕ → List ℕ → List ℕ → List ℕ
negotiate_bytes flags v domain workstation =
    fixed_bytes (flags_to_write flags domain workstation) v (fields_to (length domain) (length workstation))
    ++ (domain ++ workstation)

-- ---- the checks

-- the message's length: the fixed part and the payload
abbrev pub size_to_write : List ℕ → List ℕ → ℕ
size_to_write domain workstation = 40 + length (domain ++ workstation)

-- for an output of so many bytes: 5, 30, 33
unfoldable pub check_to_write : ℕ → NegotiateFlags → List ℕ → List ℕ → Result ⊤ Refusal
check_to_write room flags domain workstation =
    after (charset_holds flags) (Err NoCharset) (
    after (size_holds (size_to_write domain workstation)) (Err TooLongToWrite) (
    after (room_holds (size_to_write domain workstation) room) (Err NoRoom)
    (Ok tt)))

-- ---- what writing answers, and what it leaves in the output

unfoldable pub write_answer : ℕ → NegotiateFlags → List ℕ → List ℕ → List ℕ → Result ℕ Refusal
write_answer room flags v domain workstation =
    answered (check_to_write room flags domain workstation) (negotiate_bytes flags v domain workstation)

unfoldable pub write_out : List ℕ → NegotiateFlags → List ℕ → List ℕ → List ℕ → List ℕ
write_out out flags v domain workstation =
    out_after (check_to_write (length out) flags domain workstation) (negotiate_bytes flags v domain workstation) out
