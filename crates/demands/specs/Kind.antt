-- Document 01: "The NTLM program reads as CHALLENGE where 12 bytes are there and the type is 2, else as AUTHENTICATE", and document 02,
-- 1/12: "The NTLM program reads type 1" as NEGOTIATE. So do `ntlm_explain` and the calls under both programs.
use Rattle.std.specs.Prelude.{ℕ, ◌≤◌, ◌≡◌, ◌⊎◌, ◌↔◌, List, length}
use Rattle.wire.specs.Number.{u32_at}
use Rattle.head.specs.declared.Kind.TheVariants.{Negotiate, Challenge, Authenticate}
use Rattle.head.specs.Head.{kind_of}
use Rattle.read_negotiate.specs.Negotiate.{read_negotiate}
use Rattle.read_challenge.specs.Challenge.{read_challenge}
use Rattle.read_authenticate.specs.Authenticate.{read_authenticate}
use Rattle.verdict.specs.Verdict.{nego_verdict, chal_verdict, auth_verdict, read_as}
use Rattle.line.specs.Line.{negotiate_line, challenge_line, authenticate_line, line_as, ntlm_line}

-- the bytes of the type are there, and it is this number
abbrev pub TypeIs : List ℕ → ℕ → Type 0
TypeIs s number = (12 ≤ length s) × (u32_at s 8 ≡ number)

pub record KindByType (s : List ℕ) : Type 0 where
  pub negotiate : (kind_of s ≡ Negotiate) ↔ TypeIs s 1
  pub challenge : (kind_of s ≡ Challenge) ↔ TypeIs s 2
  pub authenticate : (kind_of s ≡ Authenticate) ↔ (TypeIs s 1 ⊎ TypeIs s 2 → ⊥)

abbrev pub KindIs : Type 0
KindIs = (s : List ℕ) → KindByType s

-- a message read as a kind has the verdict of that kind's own reader
pub record OwnVerdict (s : List ℕ) : Type 0 where
  pub nego : read_as Negotiate s ≡ nego_verdict (read_negotiate s)
  pub chal : read_as Challenge s ≡ chal_verdict (read_challenge s).reading
  pub auth : read_as Authenticate s ≡ auth_verdict (read_authenticate s).reading

abbrev pub ReadAsKind : Type 0
ReadAsKind = (s : List ℕ) → OwnVerdict s

-- and that kind's own line; the NTLM program's is that of the kind as which it reads
pub record OwnLine (s : List ℕ) : Type 0 where
  pub nego : line_as Negotiate s ≡ negotiate_line s
  pub chal : line_as Challenge s ≡ challenge_line s
  pub auth : line_as Authenticate s ≡ authenticate_line s
  pub ntlm : ntlm_line s ≡ line_as (kind_of s) s

abbrev pub LineAsKind : Type 0
LineAsKind = (s : List ℕ) → OwnLine s
