-- What a reader looks at is not ignored, for every kind of message whose parts lie apart.
use Prim.Native.Nat.{ℕ, ◌+◌, ◌*◌, ◌≤◌, ◌<◌}
use mathlib.Core.Path.{◌≡◌, refl, subst}
use mathlib.Core.Logic.{◌⊎◌, inl, inr, ⊎_elim}
use mathlib.Core.Bool.{Bool, true, false}
use mathlib.Core.List.{List}
use native.Mathlib.Omega.{arith}
use lib.Dec.{ltb}
use borrow.Author.Tests.{ltb-true, ltb-false}
use Rattle.demands.specs.Message.{Format, len_of, Counts, Nonempty, Covers, MicThere, Ignored, max_len, uncounted_head, empty_offset, unused, uncovered}
use Rattle.demands.proofs.Message.Unchanged.{Seen}

-- the heads lie after the type, within the fixed part, and apart from each other, from the flags and from unused bytes
pub record Apart (k : Format) : Type 0 where
  pub flags : (12 ≤ k.flags) × (k.flags + 4 ≤ k.fixed)
  pub heads : (i : ℕ) → 1 ≤ i → i ≤ k.last → (12 ≤ k.head i) × (k.head i + 8 ≤ k.fixed)
  pub from_flags : (i : ℕ) → 1 ≤ i → i ≤ k.last → (k.flags + 4 ≤ k.head i) ⊎ (k.head i + 8 ≤ k.flags)
  pub from_heads : (i j : ℕ) → 1 ≤ i → i ≤ k.last → 1 ≤ j → j ≤ k.last →
      (i ≡ j) ⊎ ((k.head i + 8 ≤ k.head j) ⊎ (k.head j + 8 ≤ k.head i))
  pub unused : (p : ℕ) → k.Unused p →
      (12 ≤ p) × (p < k.fixed) × ((p < k.flags) ⊎ (k.flags + 4 ≤ p))
      × ((i : ℕ) → 1 ≤ i → i ≤ k.last → (p < k.head i) ⊎ (k.head i + 8 ≤ p))

-- heads that stand one after the other, eight bytes each
pub spaced : (from i j : ℕ) → (i ≡ j) ⊎ ((from + 8 * i + 8 ≤ from + 8 * j) ⊎ (from + 8 * j + 8 ≤ from + 8 * i))
spaced from i j = go (ltb i j) (ltb j i) refl refl where
  go : (x y : Bool) → ltb i j ≡ x → ltb j i ≡ y → (i ≡ j) ⊎ ((from + 8 * i + 8 ≤ from + 8 * j) ⊎ (from + 8 * j + 8 ≤ from + 8 * i))
  go true y p q = inr (inl (omega (arith, ltb-true i j p)))
  go false true p q = inr (inr (omega (arith, ltb-true j i q)))
  go false false p q = inl (omega (arith, ltb-false i j p, ltb-false j i q))

-- why a byte of a head is ignored: MaxLen, a field that doesn't count, or the offset of an empty one
abbrev HeadIgnored : Format → List ℕ → ℕ → ℕ → Type 0
HeadIgnored k s i p =
    ((p ≡ k.head i + 2) ⊎ (p ≡ k.head i + 3)) ⊎ ((Counts k s i → ⊥) ⊎ ((len_of k s i ≡ 0) × (k.head i + 4 ≤ p)))

pub record InHead (k : Format) (s : List ℕ) (p : ℕ) : Type 0 where
  pub field : ℕ
  pub first : 1 ≤ field
  pub last : field ≤ k.last
  pub from : k.head field ≤ p
  pub to : p < k.head field + 8
  pub why : HeadIgnored k s field p

-- where an ignored byte lies: among the unused, in a head, or after the fixed part
pub lies : (k : Format) (s : List ℕ) (p : ℕ) → Ignored k s p →
    k.Unused p
    ⊎ (InHead k s p ⊎ ((k.fixed ≤ p) × ((i : ℕ) → Nonempty k s i → Covers k s i p → ⊥) × (MicThere k s → 72 ≤ p → p < 88 → ⊥)))
lies k s p (max_len i a b e) =
    inr (inl (record {
      field = i;
      first = a;
      last = b;
      from = ⊎_elim (λ q. omega arith) (λ q. omega arith) e;
      to = ⊎_elim (λ q. omega arith) (λ q. omega arith) e;
      why = inl e;
    }))
lies k s p (uncounted_head i a b c x y) =
    inr (inl (record { field = i; first = a; last = b; from = x; to = y; why = inr (inl c) }))
lies k s p (empty_offset i a b e c d) =
    inr (inl (record { field = i; first = a; last = b; from = omega arith; to = d; why = inr (inr (e, c)) }))
lies k s p (unused u) = inl u
lies k s p (uncovered a c m) = inr (inr (a, c, m))

module _ (k : Format) (x : Apart k) (s : List ℕ) where
  -- a place lies in one head only
  same_head : (p j : ℕ) (h : InHead k s p) → 1 ≤ j → j ≤ k.last → k.head j ≤ p → p < k.head j + 8 → h.field ≡ j
  same_head p j h a b c d =
      ⊎_elim (λ e. e)
      (⊎_elim (λ l. absurd (omega (arith, h.from, h.to))) (λ l. absurd (omega (arith, h.from, h.to))))
      (x.from_heads h.field j h.first h.last a b)

  at_head : (j p : ℕ) → 1 ≤ j → j ≤ k.last → k.head j ≤ p → p < k.head j + 8 → Ignored k s p → HeadIgnored k s j p
  at_head j p a b c d g =
      ⊎_elim (λ u. absurd (⊎_elim (λ l. omega arith) (λ l. omega arith) ((x.unused p u).3 j a b)))
      (⊎_elim (λ h. subst (λ (i : ℕ). HeadIgnored k s i p) (same_head p j h a b c d) h.why)
      (λ o. absurd (omega (arith, (x.heads j a b).1, o.0))))
      (lies k s p g)

  early : (p : ℕ) → p < 12 → Ignored k s p → ⊥
  early p l g =
      ⊎_elim (λ u. omega (arith, (x.unused p u).0))
      (⊎_elim (λ h. omega (arith, (x.heads h.field h.first h.last).0, h.from)) (λ o. omega (arith, x.flags.0, x.flags.1, o.0)))
      (lies k s p g)

  at_flags : (p : ℕ) → k.flags ≤ p → p < k.flags + 4 → Ignored k s p → ⊥
  at_flags p l r g =
      ⊎_elim (λ u. ⊎_elim (λ a. omega arith) (λ a. omega arith) (x.unused p u).2)
      (⊎_elim
      (λ h. ⊎_elim (λ a. omega (arith, h.from)) (λ a. omega (arith, h.to)) (x.from_flags h.field h.first h.last))
      (λ o. omega (arith, x.flags.1, o.0)))
      (lies k s p g)

  at_len : (j p : ℕ) → 1 ≤ j → j ≤ k.last → Counts k s j → k.head j ≤ p → p < k.head j + 2 → Ignored k s p → ⊥
  at_len j p a b counts l r g =
      ⊎_elim (⊎_elim (λ e. omega arith) (λ e. omega arith)) (⊎_elim (λ c. c counts) (λ z. omega (arith, z.1)))
      (at_head j p a b l (omega arith) g)

  at_offset : (j p : ℕ) → Nonempty k s j → k.head j + 4 ≤ p → p < k.head j + 8 → Ignored k s p → ⊥
  at_offset j p ne l r g =
      ⊎_elim (⊎_elim (λ e. omega arith) (λ e. omega arith)) (⊎_elim (λ c. c ne.counts) (λ z. omega (arith, z.0, ne.some)))
      (at_head j p ne.first ne.last (omega arith) r g)

  at_field : (j p : ℕ) → Nonempty k s j → k.fixed ≤ p → Covers k s j p → Ignored k s p → ⊥
  at_field j p ne l v g =
      ⊎_elim (λ u. omega (arith, (x.unused p u).1))
      (⊎_elim (λ h. omega (arith, (x.heads h.field h.first h.last).1, h.to)) (λ o. o.1 j ne v))
      (lies k s p g)

  pub seen : Seen k s
  seen = record { early = early; at_flags = at_flags; at_len = at_len; at_offset = at_offset; at_field = at_field }
