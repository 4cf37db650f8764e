-- What every NTLM message that is written has: a field's head in the fixed part, and Version.
use Rattle.std.specs.Prelude.{ℕ, cond, List, ◌++◌, replicate}
use Rattle.field.specs.declared.Field.{Field}
use Rattle.negotiate_flags.specs.declared.NegotiateFlags.{NegotiateFlags}
use Rattle.negotiate_flags.specs.Flags.{version}
use Rattle.place.specs.Place.{le16, le32}

-- a field to be written: MaxLen equals Len
abbrev pub written_field : ℕ → ℕ → Field
written_field offset len = record { offset = offset; len = len; max_len = len }

-- a head: Len, MaxLen (equal to Len), offset
unfoldable pub head_bytes : Field → List ℕ
head_bytes f = le16 f.len ++ (le16 f.len ++ le32 f.offset)

-- Version: the caller's with VERSION, else zeros
unfoldable pub version_bytes : NegotiateFlags → List ℕ → List ℕ
version_bytes flags v = cond (version flags) v (replicate 8 0)
