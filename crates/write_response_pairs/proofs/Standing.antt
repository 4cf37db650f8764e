-- Where a pair's bytes stand in a list, its id, its length and its value are read there, whatever stands before and after.
use Prim.Native.Nat.{ℕ, ◌+◌}
use mathlib.Core.Path.{◌≡◌, refl, ap, ◌∙◌}
use mathlib.Core.List.{List, ◌++◌, append_assoc}
use native.Mathlib.Omega.{arith}
use lib.ListN.{length, take, drop, length-append}
use lib.Seq.{take-append_seam, drop-append_seam}
use Rattle.av_pairs.specs.AvPairs.{Valued}
use Rattle.place.specs.Place.{le16}
use Rattle.place.proofs.Numbers.{length-le16, back16}
use Rattle.wire.specs.Number.{u16_at}
use Rattle.write_response_pairs.specs.ResponsePairs.{pair_bytes}
use Rattle.write_response_pairs.proofs.Fits.{length-pair}

value_back : (h v r : List ℕ) (at : ℕ) → length h ≡ at → take (length v) (drop at (h ++ (v ++ r))) ≡ v
value_back h v r at e = simp (← e, drop-append_seam, take-append_seam)

module _ (s pre rest : List ℕ) (p : Valued) (e : s ≡ pre ++ (pair_bytes p ++ rest)) where
  abbrev n : ℕ
  n = length p.1

  pub id_there : u16_at s (length pre) ≡ p.0.id
  unfolding pair_bytes
  id_there =
      let f : s ≡ pre ++ (le16 p.0.id ++ (le16 n ++ (p.1 ++ rest))) = e ∙ simp append_assoc in
      ap (λ (l : List ℕ). u16_at l (length pre)) f ∙ back16 pre (le16 n ++ (p.1 ++ rest)) p.0.id (length pre) refl

  pub size_there : u16_at s (length pre + 2) ≡ n
  unfolding pair_bytes
  size_there =
      let f : s ≡ (pre ++ le16 p.0.id) ++ (le16 n ++ (p.1 ++ rest)) = e ∙ simp append_assoc in
      ap (λ (l : List ℕ). u16_at l (length pre + 2)) f
      ∙ back16 (pre ++ le16 p.0.id) (p.1 ++ rest) n (length pre + 2) (simp (length-append, length-le16))

  pub value_there : take n (drop (length pre + 4) s) ≡ p.1
  unfolding pair_bytes
  value_there =
      let f : s ≡ (pre ++ (le16 p.0.id ++ le16 n)) ++ (p.1 ++ rest) = e ∙ simp append_assoc in
      ap (λ (l : List ℕ). take n (drop (length pre + 4) l)) f
      ∙ value_back (pre ++ (le16 p.0.id ++ le16 n)) p.1 rest (length pre + 4) (simp (length-append, length-le16))

  pub long : length s ≡ length pre + (4 + n) + length rest
  long = ap length e ∙ simp (length-append, length-pair) (omega arith)
