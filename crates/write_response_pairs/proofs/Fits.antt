-- Pairs that may stand in a list, and their sizes.
use Rattle.std.specs.Prelude.{Result, Option, Ok, Err, Some, None}
use Rattle.av_pairs.specs.declared.AvPair.{AvPair}
use Rattle.wire.specs.declared.refusal.Refusal.{Refusal}
use Prim.Native.Nat.{ℕ, zero, suc, ◌+◌}
use mathlib.Core.Path.{◌≡◌, refl, sym}
use mathlib.Core.Bool.{Bool, true, false, ◌&&◌, not, cond}
use mathlib.Core.List.{List, [], ◌∷◌, ◌++◌, append_assoc}
use native.Mathlib.Omega.{arith}
use borrow.Author.Tests.{eqb-true}
use lib.Bits.{bit_or}
use lib.Dec.{eqb}
use lib.ListN.{length, length-append}
use Rattle.av_id.specs.declared.AvId.{AvId}
use Rattle.av_id.specs.AvId.{is_end, is_flags, size_allowed}
use Rattle.av_pairs.specs.AvPairs.{step_at, end_of, on_step, pairs_from, pairs_of, Valued, with_values, values_of}
use Rattle.av_pairs.proofs.Steps.{gave}
use Rattle.av_pairs.proofs.Walks.{value_long}
use Rattle.place.specs.Place.{le32}
use Rattle.place.proofs.Numbers.{length-le16, length-le32}
use Rattle.wire.specs.Number.{u32_at}
use Rattle.wire.proofs.Bools.{and_left, and_right, and_both}
use Rattle.write_response_pairs.specs.ResponsePairs.{pair_with, left_out, kept, flags_set, with_bits, pair_bytes, pairs_bytes}

-- a pair that may stand in a list: it is not the end pair, and its id allows its size
abbrev pub fit_pair : Valued → Bool
fit_pair p = not (is_end p.0) && size_allowed p.0 (length p.1)

abbrev pub fit_pairs : List Valued → Bool
fit_pairs [] = true
fit_pairs (p ∷ ps) = fit_pair p && fit_pairs ps

-- the pairs of any list do
from_fit : (k : ℕ) (s : List ℕ) (at : ℕ) → fit_pairs (with_values s (pairs_from k s at)) ≡ true
from_fit zero s at = refl
from_fit (suc k) s at = go (step_at s at) refl (λ i. from_fit k s i) where
  go : (r : Result (Option AvPair) Refusal) → step_at s at ≡ r → ((i : ℕ) → fit_pairs (with_values s (pairs_from k s i)) ≡ true) →
      fit_pairs (with_values s (on_step r (λ p. p ∷ pairs_from k s (end_of p)) (λ v. []))) ≡ true
  go (Ok (Some p)) e later =
      let g = gave s at (Ok (Some p)) p (sym e) refl in
      simp (g.not_end, value_long s p g.inside, g.size, later (end_of p))
  go (Ok None) e later = refl
  go (Err f) e later = refl

pub values_fit : (s : List ℕ) → fit_pairs (values_of s) ≡ true
unfolding values_of pairs_of
values_fit s = from_fit (suc (length s)) s 0

pub kept_fit : (ps : List Valued) → fit_pairs ps ≡ true → fit_pairs (kept ps) ≡ true
kept_fit [] h = refl
kept_fit (p ∷ ps) h = go (left_out p.0) (kept_fit ps (and_right (fit_pair p) (fit_pairs ps) h)) where
  go : (b : Bool) → fit_pairs (kept ps) ≡ true → fit_pairs (cond b (kept ps) (p ∷ kept ps)) ≡ true
  go true ih = ih
  go false ih = and_both (fit_pair p) (fit_pairs (kept ps)) (and_left (fit_pair p) (fit_pairs ps) h) ih

-- a flags pair has four bytes
pub four : (a : AvId) (n : ℕ) → size_allowed a n ≡ true → is_flags a ≡ true → n ≡ 4
four a n h t = let i : a.id ≡ 6 = eqb-true a.id 6 t in eqb-true n 4 (and_left (eqb n 4) true (and_left _ true (rw i at h)))

-- the size of a pair's bytes, and of a list's
pub length-pair : (p : Valued) → length (pair_bytes p) ≡ 4 + length p.1
unfolding pair_bytes
length-pair p = simp (length-append, length-le16) (omega arith)

pub bytes_append : (ps qs : List Valued) → pairs_bytes (ps ++ qs) ≡ pairs_bytes ps ++ pairs_bytes qs
bytes_append [] qs = refl
bytes_append (p ∷ ps) qs = simp (bytes_append ps qs, append_assoc)

-- bits that are set change no size
set-size : (bits : ℕ) (ps : List Valued) → fit_pairs ps ≡ true → length (pairs_bytes (flags_set bits ps)) ≡ length (pairs_bytes ps)
set-size bits [] h = refl
set-size bits (p ∷ ps) h = go (is_flags p.0) refl (set-size bits ps (and_right (fit_pair p) (fit_pairs ps) h)) where
  size : size_allowed p.0 (length p.1) ≡ true
  size = and_right (not (is_end p.0)) (size_allowed p.0 (length p.1)) (and_left (fit_pair p) (fit_pairs ps) h)

  go : (b : Bool) → is_flags p.0 ≡ b → length (pairs_bytes (flags_set bits ps)) ≡ length (pairs_bytes ps) →
      length (pairs_bytes (cond b (pair_with 6 (le32 (bit_or (u32_at p.1 0) bits)) ∷ ps) (p ∷ flags_set bits ps))) ≡ length (pairs_bytes (p ∷ ps))
  go true y ih = simp (length-append, length-pair, length-le32, four p.0 (length p.1) size y)
  go false y ih = simp (length-append, length-pair, ih)

pub bits_size : (bits : ℕ) (ps : List Valued) → fit_pairs ps ≡ true → length (pairs_bytes (with_bits bits ps)) ≡ length (pairs_bytes ps)
bits_size bits ps h = go (eqb bits 0) where
  go : (b : Bool) → length (pairs_bytes (cond b ps (flags_set bits ps))) ≡ length (pairs_bytes ps)
  go true = refl
  go false = set-size bits ps h
