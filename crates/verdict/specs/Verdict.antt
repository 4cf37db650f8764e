-- A message read as a kind: all its checks held, or the refusal of the first that failed.
use Rattle.std.specs.Prelude.{Result, Ok, Err, ⊤, ℕ, ◌+◌, ◌^◌, ◌≤◌, ◌<◌, ◌≡◌, Bool, true, ◌&&◌, not, List, leb, eqb}
use Rattle.wire.specs.declared.refusal.Refusal.{Refusal}
use Rattle.wire.specs.Refusal.{number_of, place_of}
use Rattle.head.specs.declared.Kind.{Kind}
use Rattle.head.specs.declared.Kind.TheVariants.{Negotiate, Challenge, Authenticate}
use Rattle.read_negotiate.specs.declared.Negotiate.{Negotiate as NegoMessage}
use Rattle.read_negotiate.specs.Negotiate.{read_negotiate}
use Rattle.read_challenge.specs.declared.Challenge.{Challenge as ChalMessage}
use Rattle.read_challenge.specs.Challenge.{read_challenge}
use Rattle.read_authenticate.specs.declared.Authenticate.{Authenticate as AuthMessage}
use Rattle.read_authenticate.specs.Authenticate.{read_authenticate}

abbrev pub nego_verdict : Result NegoMessage Refusal → Result ⊤ Refusal
nego_verdict (Ok m) = Ok tt
nego_verdict (Err e) = Err e

abbrev pub chal_verdict : Result ChalMessage Refusal → Result ⊤ Refusal
chal_verdict (Ok c) = Ok tt
chal_verdict (Err e) = Err e

abbrev pub auth_verdict : Result AuthMessage Refusal → Result ⊤ Refusal
auth_verdict (Ok a) = Ok tt
auth_verdict (Err e) = Err e

abbrev pub read_as : Kind → List ℕ → Result ⊤ Refusal
read_as Negotiate s = nego_verdict (read_negotiate s)
read_as Challenge s = chal_verdict (read_challenge s).reading
read_as Authenticate s = auth_verdict (read_authenticate s).reading

-- a refusal's pair place
abbrev pub refused_place : Result ⊤ Refusal → ℕ
refused_place (Ok tt) = 0
refused_place (Err e) = place_of e

-- ---- a refusal of a message of n bytes

-- the fixed part of each kind
abbrev pub fixed_of : Kind → ℕ
fixed_of Negotiate = 32
fixed_of Challenge = 48
fixed_of Authenticate = 64

-- the message has its fixed part where a field is given
pub record FixedPart (fixed field n : ℕ) : Type 0 where
  pub there : (field ≡ 0 → ⊥) → fixed ≤ n

-- checks 10, 12 and 13 fail at a pair, 11 where there is none
abbrev pub fails_at_pair : ℕ → Bool
fails_at_pair number = leb 10 number && leb number 13 && not (eqb number 11)

-- the place has 32 bits, and a pair's id and length number stand there
pub record Placed (e : Refusal) (n : ℕ) : Type 0 where
  pub short : place_of e < 2 ^ 32
  pub there : fails_at_pair (number_of e) ≡ true → place_of e + 4 ≤ n
