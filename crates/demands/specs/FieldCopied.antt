-- Demands 1 and 2 for a copy of a field from C: "each field handed out is that field's own bytes", "A refusal gives its number and
-- field and changes no lent byte; a success changes only the bytes of what it writes."
use Rattle.std.specs.Prelude.{Ok, Err, ℕ, ◌+◌, ◌≤◌, ◌<◌, ◌≡◌, List, length, take, drop}
use Rattle.wire.specs.declared.refusal.Refusal.TheVariants.{PastEnd, NoRoom}
use Rattle.field.specs.declared.Field.{Field}
use Rattle.place.specs.Written.{at_front}
use Rattle.c_read.specs.FieldCopy.{field_copy_answer, field_copy_out}
use Rattle.demands.specs.Kept.{Kept}

-- one of the four holds of every message, output and record: 6 is given as row 6 of document 01 has it, "a nonempty field ends past
-- the message", and "an empty field's offset is ignored"
pub record Copied (s out : List ℕ) (f : Field) : Type 0 where
  pub empty : f.len ≡ 0 → (field_copy_answer s f out ≡ Ok 0) × (field_copy_out s f out ≡ out)
  pub past_end : 0 < f.len → length s < f.offset + f.len → field_copy_answer s f out ≡ Err (PastEnd 0)
  pub no_room : f.offset + f.len ≤ length s → length out < f.len → field_copy_answer s f out ≡ Err NoRoom
  pub own : f.offset + f.len ≤ length s → f.len ≤ length out →
      (field_copy_answer s f out ≡ Ok f.len)
      × (field_copy_out s f out ≡ at_front (take f.len (drop f.offset s)) out)

abbrev pub FieldCopied : Type 0
FieldCopied = (s out : List ℕ) (f : Field) → Copied s out f

abbrev pub FieldCopyKept : Type 0
FieldCopyKept = (s out : List ℕ) (f : Field) → Kept (field_copy_answer s f out) out (field_copy_out s f out)
