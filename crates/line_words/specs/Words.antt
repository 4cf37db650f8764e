-- The words of a log line (document 01), each with its label, and what an inner writer asks of the output.
use Rattle.std.specs.Prelude.{ℕ, ◌+◌, ◌≤◌, Bool, cond, List, [], ◌∷◌, ◌++◌, eqb, leb, length}
use Rattle.wire.specs.Text.{ascii}
use Rattle.negotiate_flags.specs.declared.NegotiateFlags.{NegotiateFlags}
use Rattle.line_words.specs.Digits.{hex, decimal}
use Rattle.line_words.specs.Name.{name_text}

-- an output of n bytes has room for these from a place on
pub record Room (at : ℕ) (bytes : List ℕ) (n : ℕ) : Type 0 where
  pub fits : at + length bytes ≤ n

-- D
unfoldable pub number_word : List ℕ → ℕ → List ℕ
number_word label n = label ++ decimal n

-- N
unfoldable pub name_word : List ℕ → Bool → List ℕ → List ℕ
name_word label unicode name = label ++ name_text unicode name

-- N of an NL_AUTH string, by the string's text; a clear bit's word is left out
unfoldable pub string_word : List ℕ → Bool → List ℕ → List ℕ
string_word label given text = cond given (label ++ text) []

-- H
unfoldable pub flags_word : ℕ → List ℕ
flags_word bits = ascii " flags=" ++ hex 8 bits

-- S: UNICODE wins over OEM
unfoldable pub set_word : Bool → List ℕ
set_word unicode = cond unicode (ascii " set=U") (ascii " set=O")

-- the start of an `auth` or a `chal` line
unfoldable pub start_text : List ℕ → NegotiateFlags → Bool → List ℕ
start_text label flags unicode = label ++ (flags_word flags.bits ++ set_word unicode)

-- B
unfoldable pub mic_word : Bool → List ℕ
mic_word present = cond present (ascii " mic=1") (ascii " mic=0")

-- K, by the NT response's length: an NTLM response has 24 bytes (MS-NLMP 2.2.2.6), an NTLMv2 response 16 of proof and at least
-- 28 more (2.2.2.7, 2.2.2.8)
unfoldable pub kind_word : ℕ → List ℕ
kind_word nt =
    cond (eqb nt 0) (ascii " kind=none") (
    cond (eqb nt 24) (ascii " kind=v1") (
    cond (leb 44 nt) (ascii " kind=v2")
    (ascii " kind=odd")))

-- every line ends with it
abbrev pub line_end : List ℕ
line_end = 0x0A ∷ []
