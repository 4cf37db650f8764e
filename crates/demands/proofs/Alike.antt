-- Two messages of one length that are alike at the places that are looked at.
use Prim.Native.Nat.{ℕ, ◌+◌, ◌≤◌, ◌<◌}
use mathlib.Core.Path.{◌≡◌}
use mathlib.Core.List.{List}
use native.Mathlib.Omega.{arith}
use lib.ListN.{length, take, drop, get_or, length-take, length-drop}
use lib.Seq.{ext_get_or, get_or-take, get_or-drop}
use Rattle.wire.specs.Number.{u16_at, u32_at}

module _ (a b : List ℕ) (long : length a ≡ length b) where
  -- a part, byte by byte
  pub same_part : (at n : ℕ) → ((p : ℕ) → at ≤ p → p < at + n → get_or a p 0 ≡ get_or b p 0) → take n (drop at a) ≡ take n (drop at b)
  same_part at n same =
      ext_get_or 0 (take n (drop at a)) (take n (drop at b)) (simp (length-take, length-drop, long))
      (λ k l.
      let m : k < n = omega (arith, (simp (length-take, length-drop) at l)) in
      simp (get_or-take n (drop at a) k 0 m, get_or-take n (drop at b) k 0 m, get_or-drop) (same (at + k) (omega arith) (omega arith)))

module _ (a b : List ℕ) where
  pub same16 : (at : ℕ) → ((p : ℕ) → at ≤ p → p < at + 2 → get_or a p 0 ≡ get_or b p 0) → u16_at a at ≡ u16_at b at
  same16 at same = simp (same at (omega arith) (omega arith), same (at + 1) (omega arith) (omega arith))

  pub same32 : (at : ℕ) → ((p : ℕ) → at ≤ p → p < at + 4 → get_or a p 0 ≡ get_or b p 0) → u32_at a at ≡ u32_at b at
  same32 at same =
      simp (same16 at (λ p l m. same p l (omega arith)), same16 (at + 2) (λ p l m. same p (omega arith) (omega arith)))
