-- The log line of a message of each kind, and what the programs print.
use Rattle.read_authenticate.specs.declared.Authenticate.{Authenticate as AuthenticateMessage}
use Rattle.read_challenge.specs.declared.Challenge.{Challenge as ChallengeMessage}
use Rattle.read_negotiate.specs.declared.Negotiate.{Negotiate as NegotiateMessage}
use Rattle.read_nl_auth.specs.declared.NlAuth.{NlAuth}
use Rattle.wire.specs.declared.refusal.Refusal.{Refusal}
use Rattle.std.specs.Prelude.{Result, Ok, Err, ℕ, List, length}
use Rattle.wire.specs.declared.refusal.Refusal.TheVariants.{NoRoom}
use Rattle.wire.specs.Check.{after}
use Rattle.place.specs.Written.{room_holds}
use Rattle.head.specs.declared.Kind.{Kind}
use Rattle.head.specs.declared.Kind.TheVariants.{Negotiate, Challenge, Authenticate}
use Rattle.head.specs.Head.{kind_of}
use Rattle.read_negotiate.specs.Negotiate.{read_negotiate}
use Rattle.read_authenticate.specs.Authenticate.{read_authenticate}
use Rattle.read_nl_auth.specs.NlAuth.{read_nl_auth}
use Rattle.read_challenge.specs.Challenge.{read_challenge}
use Rattle.line_refused.specs.Refused.{refused_line}
use Rattle.line_negotiate.specs.Nego.{nego_text}
use Rattle.line_authenticate.specs.Auth.{auth_text}
use Rattle.line_nl_auth.specs.Nl.{nl_text}
use Rattle.line_challenge.specs.Chal.{chal_text}

-- the line of a message read as AUTHENTICATE
abbrev pub auth_line : List ℕ → Result AuthenticateMessage Refusal → List ℕ
auth_line s (Ok a) = auth_text s a
auth_line s (Err e) = refused_line e

unfoldable pub authenticate_line : List ℕ → List ℕ
authenticate_line s = auth_line s (read_authenticate s).reading

-- the line of a message read as NL_AUTH
abbrev pub nl_line : List ℕ → Result NlAuth Refusal → List ℕ
nl_line s (Ok m) = nl_text s m
nl_line s (Err e) = refused_line e

unfoldable pub nl_auth_line : List ℕ → List ℕ
nl_auth_line s = nl_line s (read_nl_auth s)

-- the line of a message read as CHALLENGE
abbrev pub chal_line : List ℕ → Result ChallengeMessage Refusal → List ℕ
chal_line s (Ok c) = chal_text s c
chal_line s (Err e) = refused_line e

unfoldable pub challenge_line : List ℕ → List ℕ
challenge_line s = chal_line s (read_challenge s).reading

-- the line of a message read as NEGOTIATE
abbrev pub nego_line : List ℕ → Result NegotiateMessage Refusal → List ℕ
nego_line s (Ok m) = nego_text s m
nego_line s (Err e) = refused_line e

unfoldable pub negotiate_line : List ℕ → List ℕ
negotiate_line s = nego_line s (read_negotiate s)

-- ---- the programs

-- the line of a message read as a kind
abbrev pub line_as : Kind → List ℕ → List ℕ
line_as Negotiate s = negotiate_line s
line_as Challenge s = challenge_line s
line_as Authenticate s = authenticate_line s

-- the NTLM program goes by the type
unfoldable pub ntlm_line : List ℕ → List ℕ
ntlm_line s = line_as (kind_of s) s

-- what a program prints for a line: the line, or that of 33 where the line has no room
unfoldable pub shown_line : List ℕ → List ℕ → List ℕ
shown_line line out = after (room_holds (length line) (length out)) (refused_line NoRoom) line
