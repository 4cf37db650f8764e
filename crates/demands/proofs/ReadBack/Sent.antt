-- A written head reads back, and so do the bytes of the payload.
use Prim.Native.Nat.{ℕ, ◌+◌}
use mathlib.Core.Path.{◌≡◌, refl, sym, ap, ◌∙◌, subst}
use mathlib.Core.List.{List, [], ◌∷◌, ◌++◌, append_assoc}
use native.Mathlib.Omega.{arith}
use lib.ListN.{length, take, drop, length-append}
use lib.Seq.{take_at, drop_at}
use Rattle.field.specs.declared.Field.{Field}
use Rattle.field.specs.Field.{head_at}
use Rattle.wire.specs.Number.{u16_at, u32_at}
use Rattle.place.specs.Place.{le16, le32}
use Rattle.place.proofs.Numbers.{length-le16, back16, back32}
use Rattle.write_field.specs.Writing.{written_field, head_bytes}
use Rattle.write_field.proofs.Laws.{length-head}

-- a head reads back, with MaxLen as it was written
head_back : (p r : List ℕ) (g : Field) → head_at (p ++ (head_bytes g ++ r)) (length p) ≡ written_field g.offset g.len
unfolding head_bytes
head_back p r g =
    let l = g.len in
    let o = g.offset in
    let one : u16_at (p ++ ((le16 l ++ (le16 l ++ le32 o)) ++ r)) (length p) ≡ l =
    ap (λ (x : List ℕ). u16_at (p ++ x) (length p)) (append_assoc (le16 l) (le16 l ++ le32 o) r) ∙ back16 p ((le16 l ++ le32 o) ++ r) l (length p) refl in
    let two : p ++ ((le16 l ++ (le16 l ++ le32 o)) ++ r) ≡ (p ++ (le16 l ++ le16 l)) ++ (le32 o ++ r) = simp append_assoc in
    let far : length (p ++ (le16 l ++ le16 l)) ≡ length p + 4 = simp (length-append, length-le16) (omega arith) in
    let four : u32_at (p ++ ((le16 l ++ (le16 l ++ le32 o)) ++ r)) (length p + 4) ≡ o =
    ap (λ (x : List ℕ). u32_at x (length p + 4)) two ∙ back32 (p ++ (le16 l ++ le16 l)) r o (length p + 4) far in
    let mid : p ++ ((le16 l ++ (le16 l ++ le32 o)) ++ r) ≡ (p ++ le16 l) ++ (le16 l ++ (le32 o ++ r)) = simp append_assoc in
    let near : length (p ++ le16 l) ≡ length p + 2 = simp (length-append, length-le16) in
    let max : u16_at (p ++ ((le16 l ++ (le16 l ++ le32 o)) ++ r)) (length p + 2) ≡ l =
    ap (λ (x : List ℕ). u16_at x (length p + 2)) mid ∙ back16 (p ++ le16 l) (le32 o ++ r) l (length p + 2) near in
    λ i. record { offset = four i; len = one i; max_len = max i }

module _ (M : List ℕ) where
  pub back_at : (p r : List ℕ) (g : Field) (at : ℕ) → M ≡ p ++ (head_bytes g ++ r) → length p ≡ at → head_at M at ≡ written_field g.offset g.len
  back_at p r g at e l = subst (λ (k : ℕ). head_at M k ≡ written_field g.offset g.len) l (ap (λ (x : List ℕ). head_at x (length p)) e ∙ head_back p r g)

  pub in_payload : (p x r : List ℕ) (o n : ℕ) → M ≡ p ++ (x ++ r) → length p ≡ o → length x ≡ n → take n (drop o M) ≡ x
  in_payload p x r o n e lp lx =
      ap (λ (l : List ℕ). take n (drop o l)) e ∙ ap (λ (l : List ℕ). take n l) (drop_at p (x ++ r) o lp) ∙ take_at x r n lx

-- n bytes of M stand before r
pub record Before (M r : List ℕ) (n : ℕ) : Type 0 where
  pub front : List ℕ
  pub whole : M ≡ front ++ r
  pub long : length front ≡ n

-- heads one after the other, and lists
abbrev pub heads_then : List Field → List ℕ → List ℕ
heads_then [] r = r
heads_then (g ∷ gs) r = head_bytes g ++ heads_then gs r

abbrev pub joined : List (List ℕ) → List ℕ
joined [] = []
joined (x ∷ xs) = x ++ joined xs

module _ (M : List ℕ) where
  abbrev pub HeadsBack : List Field → List ℕ → ℕ → Type 0
  HeadsBack [] r n = Before M r n
  HeadsBack (g ∷ gs) r n = (head_at M n ≡ written_field g.offset g.len) × HeadsBack gs r (n + 8)

  abbrev pub PartsStand : List (List ℕ) → ℕ → Type 0
  PartsStand [] n = length M ≡ n
  PartsStand (x ∷ xs) n = (take (length x) (drop n M) ≡ x) × PartsStand xs (n + length x)

  pub past : (x r : List ℕ) (n k : ℕ) → length x ≡ k → Before M (x ++ r) n → Before M r (n + k)
  past x r n k l b =
      record {
        front = b.front ++ x;
        whole = b.whole ∙ sym (append_assoc b.front x r);
        long = simp length-append (omega (arith, l, b.long));
      }

  pub heads_back : (gs : List Field) (r : List ℕ) (n : ℕ) → Before M (heads_then gs r) n → HeadsBack gs r n
  heads_back [] r n b = b
  heads_back (g ∷ gs) r n b = (
    back_at M b.front (heads_then gs r) g n b.whole b.long,
    heads_back gs r (n + 8) (past (head_bytes g) (heads_then gs r) n 8 (length-head g) b),
  )

  pub parts_stand : (xs : List (List ℕ)) (n : ℕ) → Before M (joined xs) n → PartsStand xs n
  parts_stand [] n b = ap length b.whole ∙ simp length-append (omega (arith, b.long))
  parts_stand (x ∷ xs) n b = (
    in_payload M b.front x (joined xs) n (length x) b.whole b.long refl,
    parts_stand xs (n + length x) (past x (joined xs) n (length x) refl b),
  )
