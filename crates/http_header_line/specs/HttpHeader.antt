-- A message in an HTTP header line (request 12/12): the scheme word `NTLM`, a space, and the message in base64.
use Rattle.wire.specs.declared.refusal.Refusal.{Refusal}
use Rattle.std.specs.Prelude.{Result, Ok, Err, ⊤, ℕ, ◌-◌, cond, ◌&&◌, List, [], ◌∷◌, ◌++◌, eqb, leb, length, get_or, drop}
use Rattle.wire.specs.Text.{ascii}
use Rattle.wire.specs.declared.check.Checked.{Checked}
use Rattle.wire.specs.declared.refusal.Refusal.TheVariants.{TooLong, NoRoom, WrongScheme, WrongBase64}
use Rattle.wire.specs.Check.{checked, after}
use Rattle.place.specs.Written.{room_holds, answered, out_after}
use Rattle.base64_text.specs.Base64.{encode, is_base64, decode}

-- check 1: a message has at most 65,535 bytes
abbrev pub message_holds : ℕ → Checked
message_holds n = checked (leb n 65535)

-- ---- export

-- the line of a message: the scheme word, one space, and the message in base64
unfoldable pub header_line : List ℕ → List ℕ
header_line m = ascii "NTLM " ++ encode m

-- for an output of so many bytes: 1, 33
unfoldable pub check_export : ℕ → List ℕ → Result ⊤ Refusal
check_export room m =
    after (message_holds (length m)) (Err TooLong) (
    after (room_holds (length (header_line m)) room) (Err NoRoom)
    (Ok tt))

unfoldable pub export_answer : ℕ → List ℕ → Result ℕ Refusal
export_answer room m = answered (check_export room m) (header_line m)

unfoldable pub export_out : List ℕ → List ℕ → List ℕ
export_out out m = out_after (check_export (length out) m) (header_line m) out

-- ---- import

-- a letter of ASCII in upper case
abbrev pub upper : ℕ → ℕ
upper c = cond (leb 97 c && leb c 122) (c - 32) c

-- check 57: the scheme word in any letter case, and a space
unfoldable pub scheme_holds : List ℕ → Checked
scheme_holds t =
    checked
    (leb 5 (length t) && eqb (upper (get_or t 0 0)) 0x4E && eqb (upper (get_or t 1 0)) 0x54 && eqb (upper (get_or t 2 0)) 0x4C
    && eqb (upper (get_or t 3 0)) 0x4D && eqb (get_or t 4 0) 0x20)

abbrev pub after_spaces : List ℕ → List ℕ
after_spaces [] = []
after_spaces (c ∷ t) = cond (eqb c 0x20) (after_spaces t) (c ∷ t)

-- the text: all that follows the scheme word and the spaces
unfoldable pub text_after_scheme : List ℕ → List ℕ
text_after_scheme t = after_spaces (drop 4 t)

-- check 58: the text is in base64
abbrev pub base64_holds : List ℕ → Checked
base64_holds text = checked (is_base64 text)

-- for an output of so many bytes: 58, 1, 33; the room goes by the message's own length
unfoldable pub check_text : ℕ → List ℕ → Result ⊤ Refusal
check_text room text =
    after (base64_holds text) (Err WrongBase64) (
    after (message_holds (length (decode text))) (Err TooLong) (
    after (room_holds (length (decode text)) room) (Err NoRoom)
    (Ok tt)))

unfoldable pub check_import : ℕ → List ℕ → Result ⊤ Refusal
check_import room t = after (scheme_holds t) (Err WrongScheme) (check_text room (text_after_scheme t))

unfoldable pub import_answer : ℕ → List ℕ → Result ℕ Refusal
import_answer room t = answered (check_import room t) (decode (text_after_scheme t))

unfoldable pub import_out : List ℕ → List ℕ → List ℕ
import_out out t = out_after (check_import (length out) t) (decode (text_after_scheme t)) out
