-- Laws of a field's head and of Version.
use Prim.Native.Nat.{ℕ}
use mathlib.Core.Path.{◌≡◌, refl}
use mathlib.Core.Bool.{Bool, true, false, cond}
use mathlib.Core.List.{List}
use lib.ListN.{length, replicate, length-append}
use Rattle.field.specs.declared.Field.{Field}
use Rattle.negotiate_flags.specs.declared.NegotiateFlags.{NegotiateFlags}
use Rattle.negotiate_flags.specs.Flags.{version}
use Rattle.place.proofs.Numbers.{length-le16, length-le32}
use Rattle.write_field.specs.Writing.{head_bytes, version_bytes}

pub length-head : (f : Field) → length (head_bytes f) ≡ 8
unfolding head_bytes
length-head f = simp (length-append, length-le16, length-le32)

pub length-version : (flags : NegotiateFlags) (v : List ℕ) → length v ≡ 8 → length (version_bytes flags v) ≡ 8
unfolding version_bytes
length-version flags v e = go (version flags) where
  go : (b : Bool) → length (cond b v (replicate 8 0)) ≡ 8
  go true = e
  go false = refl
