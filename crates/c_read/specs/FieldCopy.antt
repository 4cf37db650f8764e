-- A copy of a field's own bytes: check 6, as at one field of a message, and then 33. An empty field has none, whatever its
-- offset. The refusal's field is 0: the call isn't told which field it copies.
use Rattle.wire.specs.declared.refusal.Refusal.{Refusal}
use Rattle.std.specs.Prelude.{Result, Err, ℕ, List, length}
use Rattle.wire.specs.declared.refusal.Refusal.TheVariants.{PastEnd}
use Rattle.wire.specs.Check.{after}
use Rattle.field.specs.declared.Field.{Field}
use Rattle.field.specs.Field.{ends_inside, field_bytes}
use Rattle.place.specs.Written.{bytes_answer, bytes_after}

unfoldable pub field_copy_answer : List ℕ → Field → List ℕ → Result ℕ Refusal
field_copy_answer s f out = after (ends_inside (length s) f) (Err (PastEnd 0)) (bytes_answer (field_bytes s f) out)

unfoldable pub field_copy_out : List ℕ → Field → List ℕ → List ℕ
field_copy_out s f out = after (ends_inside (length s) f) out (bytes_after (field_bytes s f) out)
