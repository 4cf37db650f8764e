-- Document 02, 12/12: "Carry messages in HTTP header lines." A line is spoken of by the positions of its bytes, and the output by
-- its length; beside their answers and outputs nothing here names a definition of export or import, but for `ExportIs` and
-- `ImportIs`. "Exported text holds secrets and stays out of every log": no crate of a line, and no program, uses `http_header_line`
-- (crates.txt).
use Rattle.std.specs.Prelude.{Ok, ℕ, ◌+◌, ◌-◌, ◌*◌, ◌/◌, ◌%◌, ◌≤◌, ◌<◌, ◌≡◌, cond, ◌⊎◌, List, [], ◌∷◌, ◌++◌, eqb, length, take, drop, get_or, replicate}
use Rattle.wire.specs.Text.{ascii}
use Rattle.base64_text.specs.Base64.{alphabet, encode}
use Rattle.http_header_line.specs.HttpHeader.{export_answer, export_out, import_answer, import_out}
use Rattle.c_number.specs.Number.{written_number}
use Rattle.demands.specs.Answers.{DecodesWritten}
use Rattle.demands.specs.Order.{check}
use Rattle.demands.specs.Kept.{Kept}
use Rattle.demands.specs.WrittenExactly.{WritingRefusedWith, WrittenExactly, Fails33}

-- ---- RFC 4648, section 4: the text b of a line

-- table 1: the characters in the order of their values
unfoldable pub characters : List ℕ
characters = ascii "ABCDEFGHIJKLMNOPQRSTUVWXYZabcdefghijklmnopqrstuvwxyz0123456789+/"

abbrev pub HasValue : ℕ → ℕ → Type 0
HasValue c v = (v < 64) × (get_or characters v 0 ≡ c)

-- "58 for a bad character, padding, group or last bits": a byte that is neither of the table nor '='
abbrev pub WrongCharacter : List ℕ → Type 0
WrongCharacter b = (p : ℕ) × (p < length b) × (get_or b p 0 ≡ 0x3D → ⊥) × ((v : ℕ) → HasValue (get_or b p 0) v → ⊥)

-- a '=' before the last two places, or in the last but one with another character after it
abbrev pub WrongPadding : List ℕ → Type 0
WrongPadding b =
    (p : ℕ) × (p < length b) × (get_or b p 0 ≡ 0x3D) × ((p + 2 < length b) ⊎ ((p + 2 ≡ length b) × (get_or b (p + 1) 0 ≡ 0x3D → ⊥)))

-- a text that is not made of groups of four
abbrev pub WrongGroup : List ℕ → Type 0
WrongGroup b = length b % 4 ≡ 0 → ⊥

-- "Unused last bits must be zero": two of the last value before one '=', and four before two
abbrev pub WrongLastBits : List ℕ → Type 0
WrongLastBits b =
    (p : ℕ) × (v : ℕ) × HasValue (get_or b p 0) v
    × (((p + 2 ≡ length b) × (get_or b (p + 1) 0 ≡ 0x3D) × (v % 4 ≡ 0 → ⊥))
    ⊎ ((p + 3 ≡ length b) × (get_or b (p + 1) 0 ≡ 0x3D) × (get_or b (p + 2) 0 ≡ 0x3D) × (v % 16 ≡ 0 → ⊥)))

abbrev pub NotBase64 : List ℕ → Type 0
NotBase64 b = WrongCharacter b ⊎ (WrongPadding b ⊎ (WrongGroup b ⊎ WrongLastBits b))

-- how many bytes a text stands for: three for each group, less one for each '=' at the end
abbrev pub padding_count : List ℕ → ℕ
padding_count b = cond (eqb (get_or b (length b - 2) 0) 0x3D) 2 (cond (eqb (get_or b (length b - 1) 0) 0x3D) 1 0)

abbrev pub decoded_size : List ℕ → ℕ
decoded_size b = length b / 4 * 3 - padding_count b

-- ---- the parts of a line t

-- a letter, given by its capital, in either case
abbrev pub InCase : ℕ → ℕ → Type 0
InCase capital c = (c ≡ capital) ⊎ (c ≡ capital + 0x20)

-- "the scheme word in any letter case and one or more spaces": NTLM and a space
pub record SchemeAt (t : List ℕ) : Type 0 where
  pub letter_n : InCase 0x4E (get_or t 0 0)
  pub letter_t : InCase 0x54 (get_or t 1 0)
  pub letter_l : InCase 0x4C (get_or t 2 0)
  pub letter_m : InCase 0x4D (get_or t 3 0)
  pub space : get_or t 4 0 ≡ 0x20

-- what follows the four letters and the spaces after them
pub record TextAfter (t b : List ℕ) : Type 0 where
  pub spaces : ℕ
  pub split : drop 4 t ≡ replicate spaces 0x20 ++ b
  pub no_space : get_or b 0 0 ≡ 0x20 → ⊥

-- every line has one such text, and only one
pub record OneTextAfter (t : List ℕ) : Type 0 where
  pub text : List ℕ
  pub follows : TextAfter t text
  pub only : (b : List ℕ) → TextAfter t b → b ≡ text

abbrev pub TextIsThere : Type 0
TextIsThere = (t : List ℕ) → OneTextAfter t

-- ---- "Refusals, field 0, .. in this order: import 57 .., 58 .., 1 for over 65,535 decoded bytes, 33 for room; export 1, 33."

abbrev pub ImportFails : ℕ → List ℕ → List ℕ → ℕ → ℕ → Type 0
ImportFails room t b n i =
    check 57 n ((i ≡ 0) × (SchemeAt t → ⊥)) (
    check 58 n ((i ≡ 0) × NotBase64 b) (
    check 1 n ((i ≡ 0) × (65535 < decoded_size b)) (
    check 33 n (Fails33 room (decoded_size b) i)
    ⊥)))

abbrev pub import_order : List ℕ
import_order = 57 ∷ 58 ∷ 1 ∷ 33 ∷ []

abbrev pub HeaderIsImported : Type 0
HeaderIsImported =
    (room : ℕ) (t b : List ℕ) → TextAfter t b →
    WrittenExactly (import_answer room t) import_order (ImportFails room t b) (decoded_size b)

-- the scheme word, one space, and four characters for each three bytes or fewer at the end
abbrev pub line_size : List ℕ → ℕ
line_size m = 5 + 4 * ((length m + 2) / 3)

abbrev pub ExportFails : ℕ → List ℕ → ℕ → ℕ → Type 0
ExportFails room m n i =
    check 1 n ((i ≡ 0) × (65535 < length m)) (
    check 33 n (Fails33 room (line_size m) i)
    ⊥)

abbrev pub HeaderIsExported : Type 0
HeaderIsExported = (room : ℕ) (m : List ℕ) → WrittenExactly (export_answer room m) (1 ∷ 33 ∷ []) (ExportFails room m) (line_size m)

-- what is written: "the scheme word `NTLM`, one space, and the message in RFC 4648 section 4 base64 with padding"
abbrev pub ExportIs : Type 0
ExportIs =
    (out m : List ℕ) (n : ℕ) → export_answer (length out) m ≡ Ok n → take n (export_out out m) ≡ ascii "NTLM " ++ encode m

-- and what an import gives: the message whose base64 is the line's text
abbrev pub ImportIs : Type 0
ImportIs =
    (out t b : List ℕ) (n : ℕ) → TextAfter t b → import_answer (length out) t ≡ Ok n → encode (take n (import_out out t)) ≡ b

-- with the table above
abbrev pub OneTable : Type 0
OneTable = characters ≡ alphabet

-- "no lent byte changed"; and a success changes only the bytes that it writes
abbrev pub ExportKept : Type 0
ExportKept = (out m : List ℕ) → Kept (export_answer (length out) m) out (export_out out m)

abbrev pub ImportKept : Type 0
ImportKept = (out t : List ℕ) → Kept (import_answer (length out) t) out (import_out out t)

-- "A refusal gives its number and field", from C; so many bytes always suffice
abbrev pub ExportDecodes : Type 0
ExportDecodes = (room : ℕ) (m : List ℕ) → DecodesWritten (written_number (export_answer room m)) (export_answer room m)

abbrev pub ImportDecodes : Type 0
ImportDecodes = (room : ℕ) (t : List ℕ) → DecodesWritten (written_number (import_answer room t)) (import_answer room t)

abbrev pub ExportShort : Type 0
ExportShort = (room : ℕ) (m : List ℕ) (n : ℕ) → export_answer room m ≡ Ok n → n ≤ 87385

abbrev pub ImportShort : Type 0
ImportShort = (room : ℕ) (t : List ℕ) (n : ℕ) → import_answer room t ≡ Ok n → n ≤ 65535

-- ---- "Import of an export gives the message back"

-- an import into this output is not refused, and leaves the message at its front
pub record Gives (t out m : List ℕ) : Type 0 where
  pub answer : import_answer (length out) t ≡ Ok (length m)
  pub message : take (length m) (import_out out t) ≡ m

abbrev pub Bytes : List ℕ → Type 0
Bytes m = (i : ℕ) → get_or m i 0 < 256

-- for every export that is not refused: the first n bytes of its output, n being its answer, and every output that has the room
abbrev pub ImportOfExport : Type 0
ImportOfExport =
    (m out other : List ℕ) (n : ℕ) → Bytes m → export_answer (length out) m ≡ Ok n → length m ≤ length other →
    Gives (take n (export_out out m)) other m

-- ---- "two texts give one message only if they differ in nothing but the case of the word or the count of spaces"

-- these letters, given by their capitals, each in either case
abbrev pub EqualIgnoringCase : List ℕ → List ℕ → Type 0
EqualIgnoringCase [] [] = Unit
EqualIgnoringCase [] (c ∷ word) = ⊥
EqualIgnoringCase (k ∷ capitals) [] = ⊥
EqualIgnoringCase (k ∷ capitals) (c ∷ word) = InCase k c × EqualIgnoringCase capitals word

pub record LineOf (b t : List ℕ) : Type 0 where
  pub word : List ℕ
  pub spaces : ℕ
  pub letters : EqualIgnoringCase (ascii "NTLM") word
  pub some : 1 ≤ spaces
  pub whole : t ≡ word ++ (replicate spaces 0x20 ++ b)

-- they have one text, each after a scheme word and spaces of its own
pub record DifferInCaseOrSpaces (s t : List ℕ) : Type 0 where
  pub text : List ℕ
  pub one : LineOf text s
  pub other : LineOf text t

abbrev pub OneMessage : Type 0
OneMessage = (s t out other m : List ℕ) → Gives s out m → Gives t other m → DifferInCaseOrSpaces s t

-- and such lines are answered alike
pub record ImportedAlike (s t : List ℕ) : Type 0 where
  pub answer : (room : ℕ) → import_answer room s ≡ import_answer room t
  pub output : (out : List ℕ) → import_out out s ≡ import_out out t

abbrev pub CaseAndSpacesIgnored : Type 0
CaseAndSpacesIgnored = (s t : List ℕ) → DifferInCaseOrSpaces s t → ImportedAlike s t

-- ---- "Bytes go unread, so demand 2's word on MaxLen and ignored bytes leaves both calls out."

-- the answer of an export goes by the message's length alone
abbrev pub BytesUnread : Type 0
BytesUnread = (room : ℕ) (m k : List ℕ) → length m ≡ length k → export_answer room m ≡ export_answer room k

-- and its line by every byte: two messages of one line are one message, ignored bytes included
abbrev pub EveryByteCounts : Type 0
EveryByteCounts =
    (m k out other : List ℕ) (n p : ℕ) → Bytes m → Bytes k → export_answer (length out) m ≡ Ok n → export_answer (length other) k ≡ Ok p →
    take n (export_out out m) ≡ take p (export_out other k) → m ≡ k

-- ---- worked lines

-- an example of RFC 4648, section 10, written; two lines of one message; and the empty message
pub record WorkedLines : Type 0 where
  pub written : export_out (replicate 13 0) (ascii "foobar") ≡ ascii "NTLM Zm9vYmFy"
  pub one_space : import_out (replicate 4 0) (ascii "NTLM Zm9vYg==") ≡ ascii "foob"
  pub three_spaces : import_out (replicate 4 0) (ascii "ntLm   Zm9vYg==") ≡ ascii "foob"
  pub empty_written : export_out (replicate 5 0) [] ≡ ascii "NTLM "
  pub empty_read : import_answer 0 (ascii "NTLM ") ≡ Ok 0
  -- no space, a space in front, another word, a tab
  pub no_space : WritingRefusedWith (import_answer 9 (ascii "NTLM")) 57 0
  pub space_first : WritingRefusedWith (import_answer 9 (ascii " NTLM Zg==")) 57 0
  pub other_word : WritingRefusedWith (import_answer 9 (ascii "NTLMX Zg==")) 57 0
  pub tab : WritingRefusedWith (import_answer 9 (0x4E ∷ 0x54 ∷ 0x4C ∷ 0x4D ∷ 0x09 ∷ ascii "Zg==")) 57 0
  -- last bits, padding that is missing, something after the text, and section 5's characters
  pub last_bits : WritingRefusedWith (import_answer 0 (ascii "NTLM Zh==")) 58 0
  pub no_padding : WritingRefusedWith (import_answer 9 (ascii "NTLM Zg")) 58 0
  pub space_after : WritingRefusedWith (import_answer 9 (ascii "NTLM Zm9v ")) 58 0
  pub section_5 : WritingRefusedWith (import_answer 9 (ascii "NTLM Zm9_")) 58 0
  -- the room goes by the message
  pub no_room : WritingRefusedWith (import_answer 0 (ascii "NTLM Zg==")) 33 0
  pub just_room : import_answer 1 (ascii "NTLM Zg==") ≡ Ok 1
