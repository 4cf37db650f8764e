-- A copy of a field from C.
use Rattle.std.specs.Prelude.{Err}
use Prim.Native.Nat.{ℕ, ◌+◌, ◌≤◌, ◌<◌}
use mathlib.Core.Path.{◌≡◌, refl}
use mathlib.Core.Bool.{Bool, true, false, ◌||◌, cond}
use mathlib.Core.List.{List, []}
use native.Mathlib.Omega.{arith}
use lib.Dec.{leb}
use lib.ListN.{length, take, drop, length-take, length-drop}
use borrow.Author.Tests.{eq-eqb, ne_eqb, le-leb, lt-leb}
use Rattle.wire.specs.declared.check.Checked.{Checked}
use Rattle.wire.specs.declared.check.Checked.TheVariants.{Held, Failed}
use Rattle.wire.specs.declared.refusal.Refusal.TheVariants.{PastEnd}
use Rattle.wire.specs.Check.{checked, after}
use Rattle.field.specs.declared.Field.{Field}
use Rattle.field.specs.Field.{is_empty, ends_inside, field_bytes}
use Rattle.field.proofs.Fields.{own_bytes_lem}
use Rattle.place.specs.Written.{bytes_answer, bytes_after}
use Rattle.c_read.specs.FieldCopy.{field_copy_answer, field_copy_out}
use Rattle.demands.specs.Kept.{Kept}
use Rattle.demands.specs.FieldCopied.{FieldCopied, FieldCopyKept}
use Rattle.demands.proofs.Kept.{by_verdict, line_kept}

module _ (s : List ℕ) (f : Field) where
  empty_held : f.len ≡ 0 → ends_inside (length s) f ≡ Held
  empty_held h = simp (eq-eqb f.len 0 h)

  empty_bytes : f.len ≡ 0 → field_bytes s f ≡ []
  unfolding field_bytes
  empty_bytes h = rw h (go (leb (f.offset + 0) (length s))) where
    go : (t : Bool) → cond t (take 0 (drop f.offset s)) [] ≡ []
    go true = refl
    go false = refl

  past_failed : 0 < f.len → length s < f.offset + f.len → ends_inside (length s) f ≡ Failed
  past_failed n h = simp (ne_eqb f.len 0 (λ z. omega (arith, n, z)), lt-leb (f.offset + f.len) (length s) h)

  module _ (h : f.offset + f.len ≤ length s) where
    within_held : ends_inside (length s) f ≡ Held
    within_held = rw (le-leb (f.offset + f.len) (length s) h) (go (is_empty f)) where
      go : (t : Bool) → checked (t || true) ≡ Held
      go true = refl
      go false = refl

    own_long : length (take f.len (drop f.offset s)) ≡ f.len
    own_long = simp (length-take, length-drop) (omega arith)

pub field_copied : FieldCopied
unfolding field_copy_answer field_copy_out bytes_answer bytes_after
field_copied s out f =
    record {
      empty =
          λ h. (
            simp (empty_held s f h, empty_bytes s f h, le-leb 0 (length out) (omega arith)),
            simp (empty_held s f h, empty_bytes s f h, le-leb 0 (length out) (omega arith)),
          );
      past_end = λ n h. simp (past_failed s f n h);
      no_room = λ h g. simp (within_held s f h, own_bytes_lem s f h, own_long s f h, lt-leb f.len (length out) g);
      own =
          λ h g. (
            simp (within_held s f h, own_bytes_lem s f h, own_long s f h, le-leb f.len (length out) g),
            simp (within_held s f h, own_bytes_lem s f h, own_long s f h, le-leb f.len (length out) g),
          );
    }

pub field_copy_kept : FieldCopyKept
unfolding field_copy_answer field_copy_out
field_copy_kept s out f = go (ends_inside (length s) f) where
  go : (k : Checked) →
      Kept (after k (Err (PastEnd 0)) (bytes_answer (field_bytes s f) out)) out
      (after k out (bytes_after (field_bytes s f) out))
  go Held = line_kept (field_bytes s f) out
  go Failed = by_verdict (Err (PastEnd 0)) [] out (λ h. omega arith)
