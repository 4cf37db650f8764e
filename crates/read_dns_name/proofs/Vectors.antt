-- The example of RFC 1035 section 4.1.4: F.ISI.ARPA at 20, FOO.F.ISI.ARPA at 40, ARPA at 64 and the root at 92.
use Rattle.std.specs.Prelude.{Ok}
use Prim.Native.Nat.{ℕ}
use mathlib.Core.Path.{◌≡◌, refl}
use mathlib.Core.List.{List, [], ◌∷◌}
use lib.Seq.{sets}
use lib.ListN.{replicate}
use Rattle.read_dns_name.specs.DnsName.{left, label_of, jump_at, jump_to, step_at, max_steps, read_name, labels_at}

rfc : List ℕ
rfc = sets (sets (sets (replicate 93 0) 20 (1 ∷ 0x46 ∷ 3 ∷ 0x49 ∷ 0x53 ∷ 0x49 ∷ 4 ∷ 0x41 ∷ 0x52 ∷ 0x50 ∷ 0x41 ∷ 0 ∷ [])) 40 (3 ∷ 0x46 ∷ 0x4F ∷ 0x4F ∷ 0xC0 ∷ 20 ∷ [])) 64 (0xC0 ∷ 26 ∷ [])

f : List (List ℕ)
f = (0x46 ∷ []) ∷ (0x49 ∷ 0x53 ∷ 0x49 ∷ []) ∷ (0x41 ∷ 0x52 ∷ 0x50 ∷ 0x41 ∷ []) ∷ []

at20 : (read_name rfc 20 ≡ Ok (record { jumps = 0; next = 32 })) × (labels_at rfc 20 ≡ f)
unfolding rfc f read_name labels_at max_steps step_at label_of jump_at jump_to left
at20 = (refl, refl)

at40 : (read_name rfc 40 ≡ Ok (record { jumps = 1; next = 46 })) × (labels_at rfc 40 ≡ (0x46 ∷ 0x4F ∷ 0x4F ∷ []) ∷ f)
unfolding rfc f read_name labels_at max_steps step_at label_of jump_at jump_to left
at40 = (refl, refl)

at64 : read_name rfc 64 ≡ Ok (record { jumps = 1; next = 66 })
unfolding rfc f read_name labels_at max_steps step_at label_of jump_at jump_to left
at64 = refl

at92 : (read_name rfc 92 ≡ Ok (record { jumps = 0; next = 93 })) × (labels_at rfc 92 ≡ [])
unfolding rfc f read_name labels_at max_steps step_at label_of jump_at jump_to left
at92 = (refl, refl)
