-- A name of a taken message with UNICODE has no odd byte left: every two bytes of it are one unit of its word in the log line.
use Rattle.std.specs.Prelude.{Ok, ℕ, ◌*◌, ◌%◌, ◌<◌, ◌≡◌, List, length, get_or}
use Rattle.wire.specs.Number.{u16_at}
use Rattle.field.specs.Field.{field_bytes}
use Rattle.line_words.specs.Name.{numbers16}
use Rattle.read_authenticate.specs.declared.Authenticate.{Authenticate}
use Rattle.read_authenticate.specs.Authenticate.{read_authenticate}
use Rattle.read_challenge.specs.declared.Challenge.{Challenge}
use Rattle.read_challenge.specs.Challenge.{read_challenge}
use Rattle.demands.specs.Message.{authenticate, challenge, Set}

-- the units of these bytes are all of them, two by two: unit k is the 16-bit number at 2k, the low byte first
pub record WholeUnits (name : List ℕ) : Type 0 where
  pub even : length name % 2 ≡ 0
  pub count : 2 * length (numbers16 name) ≡ length name
  pub unit : (k : ℕ) → k < length (numbers16 name) → get_or (numbers16 name) k 0 ≡ u16_at name (2 * k)

-- every list of even length has whole units
abbrev pub EvenHasUnits : Type 0
EvenHasUnits = (name : List ℕ) → length name % 2 ≡ 0 → WholeUnits name

-- the three names of a taken AUTHENTICATE
pub record NamesWhole (s : List ℕ) (a : Authenticate) : Type 0 where
  pub domain : WholeUnits (field_bytes s a.fields.domain)
  pub user : WholeUnits (field_bytes s a.fields.user)
  pub workstation : WholeUnits (field_bytes s a.fields.workstation)

abbrev pub AuthenticateNamesWhole : Type 0
AuthenticateNamesWhole =
    (s : List ℕ) (a : Authenticate) → (read_authenticate s).reading ≡ Ok a → Set authenticate s 0x1 → NamesWhole s a

-- TargetName of a taken CHALLENGE
abbrev pub TargetNameWhole : Type 0
TargetNameWhole =
    (s : List ℕ) (c : Challenge) → (read_challenge s).reading ≡ Ok c → Set challenge s 0x1 →
    WholeUnits (field_bytes s c.fields.target_name)
