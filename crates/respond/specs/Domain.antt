-- The domain to send: a part of the settings or of the challenge.
use Rattle.wire.specs.Check.{on_ok}
use Rattle.std.specs.Prelude.{Option, Some, None, ℕ, ◌+◌, ◌≤◌, Bool, true, false, cond, List, eqb, length}
use Rattle.std.specs.Borrow.{Bor}
use Rattle.av_id.specs.AvId.{is_nb_domain_name}
use Rattle.field.specs.Field.{PartAt, field_start}
use Rattle.negotiate_flags.specs.Flags.{unicode}
use Rattle.av_pairs.specs.declared.AvPair.{AvPair}
use Rattle.av_pairs.specs.AvPairs.{pairs_of, value_in}
use Rattle.target_info.specs.TargetInfo.{first_by}
use Rattle.read_challenge.specs.declared.Challenge.{Challenge}
use Rattle.read_challenge.specs.Challenge.{reading_of, info_of}

-- a part of one of the two that are lent: whether it is the challenge, where the part starts in it, and its bytes
pub record Part : Type 0 where
  pub of_challenge : Bool
  pub start : ℕ
  pub bytes : List ℕ

-- the settings' domain, whole; of an empty one this is the empty part
abbrev pub own_part : List ℕ → Part
own_part own = record { of_challenge = false; start = 0; bytes = own }

-- the value of a pair of the challenge's TargetInfo
abbrev pub value_part : List ℕ → Challenge → AvPair → Part
value_part s c p =
    record {
      of_challenge = true;
      start = field_start s c.fields.target_info + p.at;
      bytes = value_in (info_of s c) p;
    }

abbrev pub on_pair_found : {A : Type 0} → Option AvPair → (AvPair → A) → A → A
on_pair_found (Some p) x y = x p
on_pair_found None x y = y

-- the settings' domain; if that is empty and UNICODE is set, the challenge's first pair 2; if there is none, the empty part
-- of the settings. A refused challenge has none
unfoldable pub domain_part : List ℕ → List ℕ → Part
domain_part own s =
    cond (eqb (length own) 0)
    (on_ok (λ e. own_part own) (reading_of s) (λ c.
    cond (unicode c.flags)
    (on_pair_found (first_by is_nb_domain_name (pairs_of (info_of s c))) (value_part s c) (own_part own))
    (own_part own)))
    (own_part own)

-- the domain's bytes
abbrev pub domain_to_send : List ℕ → List ℕ → List ℕ
domain_to_send own s = (domain_part own s).bytes

-- of two values, one for the settings and one for the challenge, that of the one which the part lies in
abbrev pub lent : {A : Type 0} → Part → A → A → A
lent part own challenge = cond part.of_challenge challenge own

-- the domain to send stands at the pointer p: from its start on in the one that it lies in
abbrev pub DomainAt : Bor (List ℕ) → Bor (List ℕ) → ℕ × ℕ → Type 0
DomainAt own s p = PartAt p (lent (domain_part own.now s.now) own.ref_ptr s.ref_ptr) (domain_part own.now s.now).start

-- and ends within it
abbrev pub DomainWithin : List ℕ → List ℕ → Type 0
DomainWithin own s = (domain_part own s).start + length (domain_part own s).bytes ≤ lent (domain_part own s) (length own) (length s)
