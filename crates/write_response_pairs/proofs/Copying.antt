-- Laws of the walk that finds a list's size and of the one that copies its pairs.
use Rattle.std.specs.Prelude.{Option, Some, None}
use Prim.Native.Nat.{ℕ, ◌+◌, ◌-◌, ◌≤◌, min}
use mathlib.Core.Path.{◌≡◌, refl, sym, ap, ◌∙◌}
use mathlib.Core.Bool.{Bool, true, false, ◌||◌, ◌&&◌, not, cond}
use mathlib.Core.List.{List, [], ◌∷◌, ◌++◌, append-nil, append_assoc}
use native.Mathlib.Nat.{zero-add}
use native.Mathlib.Omega.{arith}
use borrow.Author.Tests.{eqb-true}
use lib.Bits.{bit_or}
use lib.Dec.{eqb}
use lib.ListN.{length, take, drop, length-append, length-take, length-drop}
use Rattle.av_id.specs.declared.AvId.{AvId}
use Rattle.av_id.specs.AvId.{is_flags, is_timestamp}
use Rattle.av_pairs.specs.declared.AvPair.{AvPair}
use Rattle.av_pairs.specs.AvPairs.{end_of, pair_at, Valued, value_in, values_of}
use Rattle.av_pairs.proofs.Walks.{values_at, gave_there, there_inside, more_values, no_values, values_start, value_long}
use Rattle.place.specs.Place.{Wrote, le16, le32}
use Rattle.place.proofs.Laws.{and_then, nothing, kept as same_length}
use Rattle.place.proofs.Numbers.{length-le32}
use Rattle.wire.specs.Number.{u32_at}
use Rattle.wire.proofs.Bools.{and_left, or_assoc, or-false}
use Rattle.write_response_pairs.specs.ResponsePairs.{pair_with, has_pair, left_out, kept, flags_set, with_bits, pair_bytes, pairs_bytes}
use Rattle.write_response_pairs.proofs.Fits.{four, length-pair, bytes_append}

-- ---- the walk for the size: what was seen, and what is left

pub record Seeing (s : List ℕ) (at n : ℕ) (t f : Bool) : Type 0 where
  pub size : min 65536 (n + length (pairs_bytes (kept (values_at s at)))) ≡ min 65536 (length (pairs_bytes (kept (values_of s))))
  pub few : n ≤ 65536
  pub timestamp : t || has_pair is_timestamp (values_at s at) ≡ has_pair is_timestamp (values_of s)
  pub flags : f || has_pair is_flags (values_at s at) ≡ has_pair is_flags (values_of s)

pub see_none : (s : List ℕ) (n : ℕ) (t f : Bool) → n ≡ 0 → t ≡ false → f ≡ false → Seeing s 0 n t f
see_none s n t f h x y =
    record {
      size = simp (h, values_start s) (ap (λ (n : ℕ). min 65536 n) (zero-add _));
      few = omega (arith, h);
      timestamp = simp (x, values_start s);
      flags = simp (y, values_start s);
    }

-- the bytes of a pair that is kept, or none
one_size : (p : Valued) (ps : List Valued) →
    length (pairs_bytes (kept (p ∷ ps))) ≡ cond (left_out p.0) 0 (4 + length p.1) + length (pairs_bytes (kept ps))
one_size p ps = go (left_out p.0) where
  go : (b : Bool) → length (pairs_bytes (cond b (kept ps) (p ∷ kept ps))) ≡ cond b 0 (4 + length p.1) + length (pairs_bytes (kept ps))
  go true = sym (zero-add (length (pairs_bytes (kept ps))))
  go false = simp (length-append, length-pair)

module _ (s : List ℕ) (at n : ℕ) (t f : Bool) (w : Seeing s at n t f) where
  pub see_few : n ≤ 65536
  see_few = w.few

  module _ (r : Option AvPair) (e : r ≡ pair_at s at) where
    pub see_one : (p : AvPair) (z m : ℕ) (a b : Bool) → r ≡ Some p → z ≡ cond (left_out p.id) 0 (4 + p.len) → m ≡ min 65536 (n + z) →
        a ≡ is_timestamp p.id → b ≡ is_flags p.id → Seeing s (p.at + p.len) m (t || a) (f || b)
    see_one p z m a b h g d x y =
        let v = more_values s at r e p h in
        let long : length (value_in s p) ≡ p.len = value_long s p (there_inside s at r e p h) in
        let l : length (pairs_bytes (kept (values_at s at))) ≡ z + length (pairs_bytes (kept (values_at s (end_of p)))) =
        ap (λ (ps : List Valued). length (pairs_bytes (kept ps))) v ∙ one_size (p.id, value_in s p) (values_at s (end_of p)) ∙ simp (long, g) in
        record {
          size = omega (arith, d, l, w.size);
          few = omega (arith, d);
          timestamp = or_assoc t a _ ∙ simp x (simp v at w.timestamp);
          flags = or_assoc f b _ ∙ simp y (simp v at w.flags);
        }

    pub see_size : r ≡ None → n ≡ min 65536 (length (pairs_bytes (kept (values_of s))))
    see_size h = let l : length (pairs_bytes (kept (values_at s at))) ≡ 0 = ap (λ (ps : List Valued). length (pairs_bytes (kept ps))) (no_values s at r e h) in omega (arith, l, w.size, w.few)

    pub see_timestamp : r ≡ None → t ≡ has_pair is_timestamp (values_of s)
    see_timestamp h = sym (or-false t) ∙ simp (no_values s at r e h) at w.timestamp

    pub see_flags : r ≡ None → f ≡ has_pair is_flags (values_of s)
    see_flags h = sym (or-false f) ∙ simp (no_values s at r e h) at w.flags

-- ---- one pair as it goes back

-- a flags pair is not left out
flags_stay : (id : AvId) → is_flags id ≡ true → left_out id ≡ false
flags_stay id h = simp (eqb-true id.id 6 h)

-- the first of the pairs, and the others with the bits that are due behind it
pub first_part : (bits : ℕ) (p : Valued) (ps : List Valued) →
    with_bits bits (kept (p ∷ ps)) ≡ with_bits bits (kept (p ∷ [])) ++ with_bits (cond (is_flags p.0) 0 bits) (kept ps)
first_part bits p ps = go (left_out p.0) (is_flags p.0) (eqb bits 0) refl refl refl where
  new : Valued
  new = pair_with 6 (le32 (bit_or (u32_at p.1 0) bits))

  go : (b f z : Bool) → left_out p.0 ≡ b → is_flags p.0 ≡ f → eqb bits 0 ≡ z →
      cond z (cond b (kept ps) (p ∷ kept ps)) (flags_set bits (cond b (kept ps) (p ∷ kept ps)))
      ≡ cond z (cond b [] (p ∷ [])) (flags_set bits (cond b [] (p ∷ []))) ++ with_bits (cond f 0 bits) (kept ps)
  go true true z x y e = absurd (let n : true ≡ false = sym x ∙ flags_stay p.0 y in let w : ◌≡◌ {A = ℕ} 0 1 = cc in omega arith)
  go true false true x y e = simp e
  go true false false x y e = simp e
  go false true true x y e = refl
  go false false true x y e = simp e
  go false true false x y e = simp y
  go false false false x y e = simp (y, e)

-- a pair that is left out, one that gets the bits, and one that stays
module _ (bits : ℕ) (id : AvId) (b : Bool) (e : b ≡ left_out id) where
  pub one_none : (l value : List ℕ) (i : ℕ) → b ≡ true → Wrote l l i i (pairs_bytes (with_bits bits (kept ((id, value) ∷ []))))
  one_none l value i h = go (eqb bits 0) where
    go : (z : Bool) → Wrote l l i i (pairs_bytes (cond z (kept ((id, value) ∷ [])) (flags_set bits (kept ((id, value) ∷ [])))))
    go true = simp (← e, h) (nothing l i)
    go false = simp (← e, h) (nothing l i)

  module _ (h : b ≡ false) (f : Bool) (y : f ≡ is_flags id) where
    same_part : (value : List ℕ) → (f && not (eqb bits 0)) ≡ false → with_bits bits (kept ((id, value) ∷ [])) ≡ (id, value) ∷ []
    same_part value g = go f (eqb bits 0) y refl g where
      go : (x z : Bool) → x ≡ is_flags id → eqb bits 0 ≡ z → (x && not z) ≡ false →
          cond z (kept ((id, value) ∷ [])) (flags_set bits (kept ((id, value) ∷ []))) ≡ (id, value) ∷ []
      go x true p q g = simp (← e, h)
      go false false p q g = simp (← e, h, ← p)
      go true false p q g = absurd (let w : ◌≡◌ {A = ℕ} 0 1 = cc in omega arith)

    flags_part : (value : List ℕ) → (f && not (eqb bits 0)) ≡ true →
        with_bits bits (kept ((id, value) ∷ [])) ≡ pair_with 6 (le32 (bit_or (u32_at value 0) bits)) ∷ []
    flags_part value g = go f (eqb bits 0) y g where
      go : (x z : Bool) → x ≡ is_flags id → (x && not z) ≡ true →
          cond z (kept ((id, value) ∷ [])) (flags_set bits (kept ((id, value) ∷ []))) ≡ pair_with 6 (le32 (bit_or (u32_at value 0) bits)) ∷ []
      go true false p g = simp (← e, h, ← p)
      go true true p g = absurd (let w : ◌≡◌ {A = ℕ} 0 1 = cc in omega arith)
      go false z p g = absurd (let w : ◌≡◌ {A = ℕ} 0 1 = cc in omega arith)

    pub one_flags : (l k value v : List ℕ) (i q w : ℕ) → (f && not (eqb bits 0)) ≡ true → v ≡ value → w ≡ u32_at v 0 →
        Wrote l k i q (pair_bytes (pair_with 6 (le32 (bit_or w bits)))) → Wrote l k i q (pairs_bytes (with_bits bits (kept ((id, value) ∷ []))))
    one_flags l k value v i q w g d x p = simp (flags_part value g, append-nil, ← d, ← x) p

    pub one_same : (l k value v : List ℕ) (i q : ℕ) → (f && not (eqb bits 0)) ≡ false → v ≡ value →
        Wrote l k i q (pair_bytes (pair_with id.id v)) → Wrote l k i q (pairs_bytes (with_bits bits (kept ((id, value) ∷ []))))
    one_same l k value v i q g d p = simp (same_part value g, append-nil, ← d) p

    pub flags_room : (value : List ℕ) (n : ℕ) → (f && not (eqb bits 0)) ≡ true →
        length (pairs_bytes (with_bits bits (kept ((id, value) ∷ [])))) ≤ n → 0 + 8 ≤ n
    flags_room value n g r =
        let z : length (pairs_bytes (with_bits bits (kept ((id, value) ∷ [])))) ≡ 8 = ap (λ (ps : List Valued). length (pairs_bytes ps)) (flags_part value g) ∙ simp (append-nil, length-pair, length-le32) in
        omega (arith, r, z)

    pub pair_room : (value v : List ℕ) (n : ℕ) → (f && not (eqb bits 0)) ≡ false → v ≡ value →
        length (pairs_bytes (with_bits bits (kept ((id, value) ∷ [])))) ≤ n → 0 + (4 + length v) ≤ n
    pair_room value v n g d r =
        let z : length (pairs_bytes (with_bits bits (kept ((id, value) ∷ [])))) ≡ 4 + length v = ap (λ (ps : List Valued). length (pairs_bytes ps)) (same_part value g) ∙ simp (append-nil, length-pair, d) in
        omega (arith, r, z)

    pub flags_long : (s v : List ℕ) (p : AvPair) → (f && not (eqb bits 0)) ≡ true → v ≡ value_in s p → p.at + p.len ≤ length s →
        (is_flags id ≡ true → p.len ≡ 4) → 0 + 4 ≤ length v
    flags_long s v p g d i size =
        simp (d, value_long s p i) (omega (arith, size (sym y ∙ and_left f (not (eqb bits 0)) g)))

pub value_short : (s v : List ℕ) (p : AvPair) → v ≡ value_in s p → p.at + p.len ≤ length s → p.len ≤ 65535 → length v ≤ 65535
value_short s v p d i l = simp (d, value_long s p i) l

pub flags_bytes : (l a b k : List ℕ) (i p q r bits : ℕ) → Wrote l a i p (le16 6) → Wrote a b p q (le16 4) → Wrote b k q r (le32 bits) →
    Wrote l k i r (pair_bytes (pair_with 6 (le32 bits)))
unfolding pair_bytes
flags_bytes l a b k i p q r bits u v w =
    simp length-le32 (and_then l a k (le16 6) (le16 4 ++ le32 bits) i p r u (and_then a b k (le16 4) (le32 bits) p q r v w))

-- the part from a place on has room for what has room there in the whole
pub part_room : (l : List ℕ) (at n : ℕ) → at + n ≤ length l → n ≤ length (take (length l - at) (drop at l))
part_room l at n h = simp (length-take, length-drop) (omega arith)

-- ---- the walk that copies: what was written, and what is left with the bits that are still due

pub record Putting (l k s : List ℕ) (due at bits q : ℕ) : Type 0 where
  pub done : List Valued
  pub all : with_bits due (kept (values_of s)) ≡ done ++ with_bits bits (kept (values_at s at))
  pub wrote : Wrote l k 0 q (pairs_bytes done)

pub put_none : (l s : List ℕ) (due : ℕ) → Putting l l s due 0 due 0
put_none l s due = record { done = []; all = simp (values_start s); wrote = nothing l 0 }

module _ (l k s : List ℕ) (due at bits q : ℕ) (w : Putting l k s due at bits q) (r : Option AvPair) (e : r ≡ pair_at s at) where
  more : (p : AvPair) → r ≡ Some p →
      with_bits due (kept (values_of s))
      ≡ (w.done ++ with_bits bits (kept ((p.id, value_in s p) ∷ []))) ++ with_bits (cond (is_flags p.id) 0 bits) (kept (values_at s (end_of p)))
  more p h =
      w.all ∙ ap (λ (ps : List Valued). w.done ++ with_bits bits (kept ps)) (more_values s at r e p h)
      ∙ ap (λ (ps : List Valued). w.done ++ ps) (first_part bits (p.id, value_in s p) (values_at s (end_of p)))
      ∙ sym (append_assoc w.done (with_bits bits (kept ((p.id, value_in s p) ∷ []))) _)

  pub put_same : length k ≡ length l
  put_same = same_length l k (pairs_bytes w.done) 0 q w.wrote

  pub put_room : (p : AvPair) → r ≡ Some p → length (pairs_bytes (with_bits due (kept (values_of s)))) ≤ length l →
      q + length (pairs_bytes (with_bits bits (kept ((p.id, value_in s p) ∷ [])))) ≤ length k
  put_room p h room =
      let z : length (pairs_bytes (with_bits due (kept (values_of s)))) ≡ length (pairs_bytes w.done) + length (pairs_bytes (with_bits bits (kept ((p.id, value_in s p) ∷ [])))) + length (pairs_bytes (with_bits (cond (is_flags p.id) 0 bits) (kept (values_at s (end_of p))))) =
      ap (λ (ps : List Valued). length (pairs_bytes ps)) (more p h) ∙ simp (bytes_append, length-append) in
      omega (arith, room, z, w.wrote.place, put_same)

  pub put_one : (m : List ℕ) (p : AvPair) (next b : ℕ) → r ≡ Some p → Wrote k m q next (pairs_bytes (with_bits bits (kept ((p.id, value_in s p) ∷ [])))) →
      b ≡ cond (is_flags p.id) 0 bits → Putting l m s due (p.at + p.len) b next
  put_one m p next b h x f =
      record {
        done = w.done ++ with_bits bits (kept ((p.id, value_in s p) ∷ []));
        all = rw f (more p h);
        wrote = simp bytes_append (and_then l k m (pairs_bytes w.done) _ 0 q next w.wrote x);
      }

  pub put_all : r ≡ None → Wrote l k 0 q (pairs_bytes (with_bits due (kept (values_of s))))
  put_all h = go (eqb bits 0) (w.all ∙ ap (λ (ps : List Valued). w.done ++ with_bits bits (kept ps)) (no_values s at r e h)) where
    go : (z : Bool) → with_bits due (kept (values_of s)) ≡ w.done ++ cond z [] [] → Wrote l k 0 q (pairs_bytes (with_bits due (kept (values_of s))))
    go true x = simp (x, append-nil) w.wrote
    go false x = simp (x, append-nil) w.wrote

pub flags_four : (s : List ℕ) (at : ℕ) (r : Option AvPair) (p : AvPair) → r ≡ pair_at s at → r ≡ Some p → is_flags p.id ≡ true → p.len ≡ 4
flags_four s at r p e h t = four p.id p.len (gave_there s at r e p h).size t
