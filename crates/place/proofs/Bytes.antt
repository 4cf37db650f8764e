-- The library's bytes of a number are those of the definitions.
use Rattle.std.proofs.Common.{◌≡◌, ℕ, ◌<◌, ◌^◌, arith}
use Rattle.std.proofs.lemmas.Grind.{common_steps}
use Rattle.std.specs.Int.{w16, w32, to_le_bytes}
use Rattle.place.specs.Place.{le16, le32}

pub bytes_16 : (v : ℕ) → v < 2 ^ 16 → to_le_bytes w16 v ≡ le16 v
unfolding le16
bytes_16 v h = grind (arith, common_steps)

pub bytes_32 : (v : ℕ) → v < 2 ^ 32 → to_le_bytes w32 v ≡ le32 v
unfolding le32 le16
bytes_32 v h = grind (arith, common_steps)
