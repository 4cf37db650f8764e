-- Laws of NEGOTIATE's chain of checks.
use Rattle.std.specs.Prelude.{Result, Ok, ⊤}
use Rattle.wire.specs.declared.refusal.Refusal.{Refusal}
use Prim.Native.Nat.{ℕ}
use mathlib.Core.Path.{◌≡◌}
use mathlib.Core.Bool.{Bool}
use mathlib.Core.List.{List}
use Rattle.field.specs.declared.Field.{Field}
use Rattle.negotiate_flags.specs.declared.NegotiateFlags.{NegotiateFlags}
use Rattle.field.specs.Field.{field_at}
use Rattle.negotiate_flags.specs.Flags.{oem_domain_supplied, oem_workstation_supplied}
use Rattle.read_negotiate.specs.declared.Fields.{Fields}
use Rattle.read_negotiate.specs.declared.Negotiate.{Negotiate}
use Rattle.read_negotiate.specs.Negotiate.{fields_at, check_fields}

-- both fields are those of their heads
pub both : (s : List ℕ) (w : NegotiateFlags) (i j : Bool) (a b : Field) →
    i ≡ oem_domain_supplied w → a ≡ field_at s 16 i → j ≡ oem_workstation_supplied w → b ≡ field_at s 24 j →
    record { domain = a; workstation = b } ≡ fields_at s w
unfolding fields_at
both s w i j a b pi pa pj pb = simp (pa, pb, pi, pj)

-- checks of the fields that were read are those of the definition's fields
module _ (f g : Fields) (e : f ≡ g) where
  pub of_fields : (n : ℕ) (r : Result ⊤ Refusal) → r ≡ check_fields n f → r ≡ check_fields n g
  of_fields n r h = rw (← e) h

  pub taken : (w : NegotiateFlags) →
      ◌≡◌ {A = Result Negotiate Refusal} (Ok (record { flags = w; fields = f })) (Ok (record { flags = w; fields = g }))
  taken w = rw e
