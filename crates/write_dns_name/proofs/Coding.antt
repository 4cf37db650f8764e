-- Laws of writing a text's labels.
use Prim.Native.Nat.{ℕ, ◌+◌, ◌≤◌, ◌<◌}
use mathlib.Core.Path.{◌≡◌, refl}
use mathlib.Core.Bool.{Bool, true, false, ◌&&◌}
use mathlib.Core.List.{List, [], ◌∷◌, ◌++◌}
use native.Mathlib.Omega.{arith}
use lib.Dec.{leb}
use lib.ListN.{length, get_or, drop, drop_of_length-le}
use lib.Seq.{drop-cons}
use native.Mathlib.Numerals.{add-one}
use borrow.Author.Tests.{leb-true}
use Rattle.wire.specs.declared.check.Checked.TheVariants.{Held, Failed}
use Rattle.wire.specs.Check.{checked, after}
use Rattle.wire.proofs.Bools.{and_right}
use Rattle.place.specs.Place.{Wrote}
use Rattle.place.proofs.Parts.{Partly, all_written, room_left, goes_on}
use Rattle.write_dns_name.specs.Writing.{label_bytes, coded, labels_hold}

-- labels that hold have at most 63 bytes
first_held : (l : List ℕ) (ls : List (List ℕ)) → labels_hold (l ∷ ls) ≡ Held → (length l ≤ 63) × (labels_hold ls ≡ Held)
unfolding labels_hold
first_held l ls h = go (leb 1 (length l) && leb (length l) 63) refl h where
  go : (x : Bool) → (leb 1 (length l) && leb (length l) 63) ≡ x → after (checked x) Failed (labels_hold ls) ≡ Held → (length l ≤ 63) × (labels_hold ls ≡ Held)
  go true p e = (leb-true (length l) 63 (and_right (leb 1 (length l)) (leb (length l) 63) p), e)
  go false p e = (absurd (let z : ◌≡◌ {A = ℕ} 0 1 = cc in omega arith), cc)

-- the first n labels are written, and those that are left hold
pub record Coding (l k : List ℕ) (ls : List (List ℕ)) (i q n : ℕ) : Type 0 where
  pub held : labels_hold (drop n ls) ≡ Held
  pub partly : Partly l k i q (coded (drop n ls)) (coded ls)

module _ (l k : List ℕ) (ls : List (List ℕ)) (i q n : ℕ) (w : Coding l k ls i q n) where
  -- a label that is left
  module _ (x : List ℕ) (t : (n < length ls) × (x ≡ get_or ls n x)) where
    left : drop n ls ≡ x ∷ drop (n + 1) ls
    left = let d = drop-cons ls n x t.0 in rw (← t.1, ← add-one) at d

    left_coded : coded (drop n ls) ≡ label_bytes x ++ coded (drop (n + 1) ls)
    unfolding coded
    left_coded = simp left

    pub label_small : length x ≤ 63
    label_small = (first_held _ _ (rw left at w.held)).0

    pub label_room : i + length (coded ls) ≤ length l → q + length (label_bytes x) ≤ length k
    label_room r = room_left l k _ _ i q w.partly (label_bytes x) (coded (drop (n + 1) ls)) left_coded r

    pub code_more : (m : List ℕ) (p : ℕ) → Wrote k m q p (label_bytes x) → Coding l m ls i p (n + 1)
    code_more m p v =
        record {
          held = (first_held _ _ (rw left at w.held)).1;
          partly = goes_on l k _ _ i q w.partly (label_bytes x) (coded (drop (n + 1) ls)) left_coded m p v;
        }

  -- none is left
  module _ (e : n ≡ length ls) where
    none_left : coded (drop n ls) ≡ (0 ∷ []) ++ []
    unfolding coded
    none_left = simp (drop_of_length-le ls {i = n} (omega arith))

    pub end_room : i + length (coded ls) ≤ length l → q + 1 ≤ length k
    end_room r = room_left l k _ _ i q w.partly (0 ∷ []) [] none_left r

    pub code_end : (m : List ℕ) (p : ℕ) → Wrote k m q p (0 ∷ []) → Wrote l m i p (coded ls)
    code_end m p v = all_written l m _ _ i p (goes_on l k _ _ i q w.partly (0 ∷ []) [] none_left m p v) refl
