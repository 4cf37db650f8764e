-- NEGOTIATE_MESSAGE (MS-NLMP 2.2.1.1), read as request 1/12 sets it out. Both names are OEM bytes, also where UNICODE is set,
-- so that check 8 has no part here.
use Rattle.wire.specs.Check.{on_ok}
use Rattle.read_negotiate.specs.declared.Negotiate.{Negotiate}
use Rattle.wire.specs.declared.refusal.Refusal.{Refusal}
use Rattle.std.specs.Prelude.{Result, Ok, Err, ⊤, ℕ, List, [], ◌∷◌, length}
use Rattle.field.specs.declared.Field.{Field}
use Rattle.negotiate_flags.specs.declared.NegotiateFlags.{NegotiateFlags}
use Rattle.head.specs.declared.Layout.{Layout}
use Rattle.wire.specs.declared.refusal.Refusal.TheVariants.{PastEnd, InFixedPart}
use Rattle.wire.specs.Check.{over_all, on_clear}
use Rattle.field.specs.Field.{field_at, ends_inside, begins_after}
use Rattle.negotiate_flags.specs.Flags.{oem_domain_supplied, oem_workstation_supplied}
use Rattle.head.specs.Head.{read_head}
use Rattle.read_negotiate.specs.declared.Fields.{Fields}

-- a fixed part of 32 bytes (house), type 1, flags at 12
abbrev pub layout : Layout
layout = record { fixed = 32; message_type = 1; flags = 12 }

-- the heads at 16 and 24; the domain counts only with OEM_DOMAIN_SUPPLIED, the workstation only with OEM_WORKSTATION_SUPPLIED
unfoldable pub fields_at : List ℕ → NegotiateFlags → Fields
fields_at s flags =
    record {
      domain = field_at s 16 (oem_domain_supplied flags);
      workstation = field_at s 24 (oem_workstation_supplied flags);
    }

-- the fields by number, in field order
abbrev pub all_fields : Fields → List (ℕ × Field)
all_fields f = (1, f.domain) ∷ (2, f.workstation) ∷ []

-- check 6: each nonempty field ends within the message
unfoldable pub check_ends : ℕ → Fields → Result ⊤ Refusal
check_ends n f = over_all (ends_inside n) PastEnd (all_fields f)

-- check 7: each nonempty field begins after the fixed part
unfoldable pub check_begins : Fields → Result ⊤ Refusal
check_begins f = over_all (begins_after 32) InFixedPart (all_fields f)

-- checks 6 and 7, the first over both fields before the second starts
unfoldable pub check_fields : ℕ → Fields → Result ⊤ Refusal
check_fields n f = on_clear Err (check_ends n f) (check_begins f)

-- what reading answers: checks 1 to 5 by number, then 6 and 7
unfoldable pub read_negotiate : List ℕ → Result Negotiate Refusal
read_negotiate s =
    on_ok Err (read_head layout s) (λ flags.
    on_clear Err (check_fields (length s) (fields_at s flags))
    (Ok (record { flags = flags; fields = fields_at s flags })))
