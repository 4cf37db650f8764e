-- Laws of room in the output, for texts that are made of parts.
use Prim.Native.Nat.{ℕ, ◌+◌, ◌-◌, ◌≤◌}
use mathlib.Core.Path.{◌≡◌}
use mathlib.Core.List.{List, ◌++◌}
use native.Mathlib.Omega.{arith}
use borrow.Rule.Slice.PartMut.{put_mid}
use lib.ListN.{length, take, drop, length-append}
use Rattle.place.specs.Place.{Wrote}
use Rattle.place.proofs.Laws.{and_then, in_part}
use Rattle.line_words.specs.Words.{Room}

-- a text's room by the lengths of its parts
module _ (at n : ℕ) where
  pub parts : (xs ys : List ℕ) → Room at (xs ++ ys) n → at + (length xs + length ys) ≤ n
  parts xs ys r = omega (arith, length-append xs ys, r.fits)

  pub parts3 : (xs ys zs : List ℕ) → Room at (xs ++ (ys ++ zs)) n → at + (length xs + (length ys + length zs)) ≤ n
  parts3 xs ys zs r = omega (arith, length-append xs (ys ++ zs), length-append ys zs, r.fits)

-- what a text leaves of a room, by its parts
pub leaves : (xs ys : List ℕ) (room m n : ℕ) → m ≡ room - length xs → n ≡ m - length ys → n ≡ room - length (xs ++ ys)
leaves xs ys room m n e f = omega (arith, length-append xs ys)

-- what is written at a place, and then what a writer put into its own part of the output from there on
pub then_lent : (l k m zs xs ys : List ℕ) (i p q r : ℕ) → Wrote l k i p xs →
    Wrote (take (length k - p) (drop p k)) zs 0 r ys → m ≡ put_mid p (length k - p) k zs → q ≡ p + r → Wrote l m i q (xs ++ ys)
then_lent l k m zs xs ys i p q r v w e f = and_then l k m xs ys i p q v (in_part k m zs ys p q r w e f)
