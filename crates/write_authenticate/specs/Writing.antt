-- AUTHENTICATE_MESSAGE (MS-NLMP 2.2.1.3), written as document 01 lays it out, into a lent output.
use Rattle.wire.specs.declared.refusal.Refusal.{Refusal}
use Rattle.std.specs.Prelude.{Result, Ok, Err, ⊤, ℕ, ◌+◌, ◌%◌, Bool, ◌||◌, ◌&&◌, not, List, [], ◌∷◌, ◌++◌, eqb, length}
use Rattle.wire.specs.declared.check.Checked.{Checked}
use Rattle.negotiate_flags.specs.declared.NegotiateFlags.{NegotiateFlags}
use Rattle.wire.specs.declared.refusal.Refusal.TheVariants.{NoCharset, TooLongToWrite, OddNameToWrite, WrongKey, NoRoom}
use Rattle.wire.specs.Check.{checked, after, over_all, on_clear}
use Rattle.negotiate_flags.specs.Flags.{unicode, key_exch, charset_holds}
use Rattle.head.specs.Head.{signature}
use Rattle.place.specs.Place.{le32}
use Rattle.place.specs.Written.{size_holds, room_holds, answered, out_after}
use Rattle.write_field.specs.Writing.{written_field, head_bytes, version_bytes}
use Rattle.read_authenticate.specs.declared.Fields.{Fields}

-- ---- the fixed part: always 88 bytes

-- where fields of these lengths stand: from 88 on, domain, user, workstation, LM response, NT response, key, with no
-- padding; an empty one's offset is where it would stand
unfoldable pub fields_to : ℕ → ℕ → ℕ → ℕ → ℕ → ℕ → Fields
fields_to lm nt domain user workstation key =
    record {
      domain = written_field 88 domain;
      user = written_field (88 + domain) user;
      workstation = written_field (88 + domain + user) workstation;
      lm = written_field (88 + domain + user + workstation) lm;
      nt = written_field (88 + domain + user + workstation + lm) nt;
      key = written_field (88 + domain + user + workstation + lm + nt) key;
    }

-- the heads in field order
unfoldable pub heads_bytes : Fields → List ℕ
heads_bytes f =
    head_bytes f.lm ++ (
    head_bytes f.nt ++ (
    head_bytes f.domain ++ (
    head_bytes f.user ++ (
    head_bytes f.workstation ++
    head_bytes f.key))))

-- flags at 60, Version at 64, MIC at 72
unfoldable pub after_heads : NegotiateFlags → List ℕ → List ℕ → List ℕ
after_heads flags v mic = le32 flags.bits ++ (version_bytes flags v ++ mic)

-- Signature, MessageType 3, the heads at 12, and what follows them
unfoldable pub fixed_bytes : NegotiateFlags → List ℕ → List ℕ → Fields → List ℕ
fixed_bytes flags v mic f = signature ++ (le32 3 ++ (heads_bytes f ++ after_heads flags v mic))

-- ---- the payload

-- domain, user, workstation, LM response, NT response, key, with no padding
unfoldable pub payload_bytes : List ℕ → List ℕ → List ℕ → List ℕ → List ℕ → List ℕ → List ℕ
payload_bytes lm nt domain user workstation key = domain ++ (user ++ (workstation ++ (lm ++ (nt ++ key))))

-- its length, by the lengths of the fields
abbrev pub payload_size : List ℕ → List ℕ → List ℕ → List ℕ → List ℕ → List ℕ → ℕ
payload_size lm nt domain user workstation key = length domain + (length user + (length workstation + (length lm + (length nt + length key))))

-- the message
unfoldable pub authenticate_bytes : NegotiateFlags → List ℕ → List ℕ → List ℕ → List ℕ → List ℕ → List ℕ → List ℕ → List ℕ → List ℕ
authenticate_bytes flags v mic lm nt domain user workstation key =
    fixed_bytes flags v mic
    (fields_to (length lm) (length nt) (length domain) (length user) (length workstation) (length key))
    ++ payload_bytes lm nt domain user workstation key

-- ---- the checks

-- check 31 at one name: with UNICODE, its length is even
abbrev pub even_to_write : Bool → List ℕ → Checked
even_to_write unicode name = checked (not unicode || eqb (length name % 2) 0)

-- check 31: fields 3, 4 and 5
unfoldable pub check_names_to_write : Bool → List ℕ → List ℕ → List ℕ → Result ⊤ Refusal
check_names_to_write unicode domain user workstation =
    over_all (even_to_write unicode) OddNameToWrite ((3, domain) ∷ (4, user) ∷ (5, workstation) ∷ [])

-- check 32: a key is empty, or 16 bytes with KEY_EXCH
abbrev pub key_holds : NegotiateFlags → List ℕ → Checked
key_holds flags key = checked (eqb (length key) 0 || (eqb (length key) 16 && key_exch flags))

-- the message's length: the fixed part and the payload
abbrev pub size_to_write : List ℕ → List ℕ → List ℕ → List ℕ → List ℕ → List ℕ → ℕ
size_to_write lm nt domain user workstation key = 88 + length (payload_bytes lm nt domain user workstation key)

-- for an output of so many bytes: 5, 31, 32, 30, 33
unfoldable pub check_to_write : ℕ → NegotiateFlags → List ℕ → List ℕ → List ℕ → List ℕ → List ℕ → List ℕ → Result ⊤ Refusal
check_to_write room flags lm nt domain user workstation key =
    after (charset_holds flags) (Err NoCharset) (
    on_clear Err (check_names_to_write (unicode flags) domain user workstation) (
    after (key_holds flags key) (Err WrongKey) (
    after (size_holds (size_to_write lm nt domain user workstation key)) (Err TooLongToWrite) (
    after (room_holds (size_to_write lm nt domain user workstation key) room) (Err NoRoom)
    (Ok tt)))))

-- ---- what writing answers, and what it leaves in the output

unfoldable pub write_answer : ℕ → NegotiateFlags → List ℕ → List ℕ → List ℕ → List ℕ → List ℕ → List ℕ → List ℕ → List ℕ → Result ℕ Refusal
write_answer room flags v mic lm nt domain user workstation key =
    answered (check_to_write room flags lm nt domain user workstation key)
    (authenticate_bytes flags v mic lm nt domain user workstation key)

unfoldable pub write_out : List ℕ → NegotiateFlags → List ℕ → List ℕ → List ℕ → List ℕ → List ℕ → List ℕ → List ℕ → List ℕ → List ℕ
write_out out flags v mic lm nt domain user workstation key =
    out_after (check_to_write (length out) flags lm nt domain user workstation key)
    (authenticate_bytes flags v mic lm nt domain user workstation key) out
