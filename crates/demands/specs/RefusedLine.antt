-- Document 02, 3/12: "The line becomes `refused D field=D at=D`", and document 01: "A refused message's line is the last form above", "Each
-- line ends with 0A". The line of a message that is refused has the number, the field and the place that its reading returns; so has
-- what a program prints.
use Rattle.std.specs.Prelude.{ℕ, ◌≤◌, ◌<◌, ◌≡◌, ◌⊎◌, ◌↔◌, List, [], ◌∷◌, ◌++◌, length, take}
use Rattle.std.proofs.lemmas.List.Edits.{sets}
use Rattle.wire.specs.Text.{ascii}
use Rattle.line_words.specs.Digits.{decimal}
use Rattle.head.specs.declared.Kind.{Kind}
use Rattle.head.specs.Head.{kind_of}
use Rattle.read_nl_auth.specs.NlAuth.{read_nl_auth}
use Rattle.line.specs.Line.{line_as, ntlm_line, nl_auth_line, shown_line}
use Rattle.demands.specs.Bench.{p1, p12}
use Rattle.demands.specs.Examples.{challenge_message}
use Rattle.demands.specs.Explained.{RefusedAs, lines_of}
use Rattle.demands.specs.TakenExactly.{RefusedWith, nl_verdict}

-- `refused n field=i at=p` and 0A; `decimal` gives D (`Digits.antt`)
abbrev pub refused_bytes : ℕ → ℕ → ℕ → List ℕ
refused_bytes n i p =
    ascii "refused " ++ (decimal n ++ (ascii " field=" ++ (decimal i ++ (ascii " at=" ++ (decimal p ++ (0x0A ∷ []))))))

-- NL_AUTH is refused with number n, field i and place p
abbrev pub NlRefusedAs : List ℕ → ℕ → ℕ → ℕ → Type 0
NlRefusedAs s n i p = RefusedWith (nl_verdict (read_nl_auth s)) n i p

-- ---- the lines: a message has this line if and only if it is refused so, read as any kind, and so as the NTLM program chooses

pub record RefusedSaid (s : List ℕ) (n i p : ℕ) : Type 0 where
  pub as_kind : (k : Kind) → RefusedAs k s n i p ↔ (line_as k s ≡ refused_bytes n i p)
  pub nl_auth : NlRefusedAs s n i p ↔ (nl_auth_line s ≡ refused_bytes n i p)

abbrev pub RefusedLineExactly : Type 0
RefusedLineExactly = (s : List ℕ) (n i p : ℕ) → RefusedSaid s n i p

-- ---- what the programs print: the same, and that of 33 for a message whose line has no room

abbrev pub IsNoRoom : List ℕ → List ℕ → ℕ → ℕ → ℕ → Type 0
IsNoRoom line out n i p = (length out < length line) × (n ≡ 33) × (i ≡ 0) × (p ≡ 0)

pub record RefusedPrinted (s out : List ℕ) (n i p : ℕ) : Type 0 where
  pub ntlm : (RefusedAs (kind_of s) s n i p ⊎ IsNoRoom (ntlm_line s) out n i p) ↔ (shown_line (ntlm_line s) out ≡ refused_bytes n i p)
  pub nl_auth : (NlRefusedAs s n i p ⊎ IsNoRoom (nl_auth_line s) out n i p) ↔ (shown_line (nl_auth_line s) out ≡ refused_bytes n i p)

-- an output of 28 bytes has room for the line of every refused message; a program's has 65,536
abbrev pub RefusedPrintExactly : Type 0
RefusedPrintExactly = (s out : List ℕ) (n i p : ℕ) → 28 ≤ length out → RefusedPrinted s out n i p

-- ---- examples, worked out by hand

pub record RefusedLineExample : Type 0 where
  -- the challenge with length 5 in its second pair, a name that starts at 76 of the message
  pub of_pair_lem : ntlm_line (sets challenge_message 78 (5 ∷ [])) ≡ lines_of ("refused 13 field=2 at=76" ∷ [])
  -- P2: P1 with its user's offset at 113
  pub of_field : ntlm_line (sets p1 40 (113 ∷ [])) ≡ lines_of ("refused 6 field=4 at=0" ∷ [])
  -- P12 without its zero byte
  pub of_string : nl_auth_line (take 12 (p12 0x01)) ≡ lines_of ("refused 15 field=1 at=0" ∷ [])
