-- Laws of the state: bytes that go into the block that is being filled, and a piece that is taken part by part.
use Rattle.std.proofs.Common.{◌≡◌, ℕ, zero, suc, ◌+◌, ◌*◌, ◌/◌, ◌%◌, ◌≤◌, ◌<◌, Bool, true, false, cond, List, [], ◌∷◌, ◌++◌, length, take, drop, set, get_or, refl, sym, ap, ◌∙◌, arith, append_assoc, add-zero, zero-add, length-take, length-drop, length-append, take-append-drop}
use Rattle.std.proofs.lemmas.List.{length-replicate}
use Rattle.std.specs.Simd.{first_chunks}
use Rattle.std.proofs.Math.ListN.{drop_of_length-le}
use Rattle.std.proofs.Math.Seq.{sets, sets-eq, drop-drop}
use mathlib.Core.List.{append-nil}
use borrow.Author.Tests.{lt-ltb, le-ltb}
use borrow.Rule.Slice.PartMut.{put_mid}
use lib.Dec.{ltb}
use Rattle.md5_digest.specs.Block.{block_taken}
use Rattle.md5_digest.specs.Digest.{start}
use Rattle.md5_digest.specs.State.{blank, fresh, byte_taken, taken}
use Rattle.md5_digest.specs.declared.block.Buffer.{Buffer}
use Rattle.md5_digest.specs.declared.state.State.{State}

either_count : (b : Bool) (p q : Buffer) (l k : List ℕ) (n : ℕ) →
    (cond {A = State} b (record { buffer = p; tail = l; count = n }) (record { buffer = q; tail = k; count = n })).count ≡ n
either_count true p q l k n = refl
either_count false p q l k n = refl

pub byte_count_is : (s : State) (x : ℕ) → (byte_taken s x).count ≡ s.count + 1
unfolding byte_taken
byte_count_is s x = either_count (ltb (s.count % 64) 63) _ _ _ _ (s.count + 1)

-- a byte that is not its block's last
inside : (s : State) (x : ℕ) → s.count % 64 < 63 →
    byte_taken s x ≡ record { buffer = s.buffer; tail = set s.tail (s.count % 64) x; count = s.count + 1 }
unfolding byte_taken
inside s x h = simp (lt-ltb (s.count % 64) 63 h)

-- and one that is
last : (s : State) (x : ℕ) → 63 ≤ s.count % 64 →
    byte_taken s x ≡ record { buffer = block_taken s.buffer (set s.tail (s.count % 64) x); tail = blank; count = s.count + 1 }
unfolding byte_taken
last s x h = simp (le-ltb (s.count % 64) 63 h)

-- bytes that leave the block unfilled
within : (xs : List ℕ) (s : State) (at : ℕ) → s.count % 64 ≡ at → at + length xs < 64 →
    taken s xs ≡ record { buffer = s.buffer; tail = sets s.tail at xs; count = s.count + length xs }
within [] s at e h = ap (λ (n : ℕ). record { buffer = s.buffer; tail = s.tail; count = n }) (sym (add-zero s.count))
within (x ∷ xs) s at e h =
    let t : State = record { buffer = s.buffer; tail = set s.tail at x; count = s.count + 1 } in
    let b : byte_taken s x ≡ t = inside s x (omega arith) ∙ ap (λ (i : ℕ). record { buffer = s.buffer; tail = set s.tail i x; count = s.count + 1 }) e in
    let n : s.count + 1 + length xs ≡ s.count + suc (length xs) = omega arith in
    ap (λ (u : State). taken u xs) b ∙ within xs t (suc at) (omega arith) (omega arith)
    ∙ ap (λ (k : ℕ). record { buffer = s.buffer; tail = sets (set s.tail at x) (suc at) xs; count = k }) n

-- and bytes that fill it
fills : (xs : List ℕ) (x : ℕ) (s : State) (at : ℕ) → s.count % 64 ≡ at → at + length (x ∷ xs) ≡ 64 →
    taken s (x ∷ xs) ≡ record { buffer = block_taken s.buffer (sets s.tail at (x ∷ xs)); tail = blank; count = s.count + length (x ∷ xs) }
fills [] x s at e h =
    last s x (omega arith) ∙ ap (λ (i : ℕ). record { buffer = block_taken s.buffer (set s.tail i x); tail = blank; count = s.count + 1 }) e
fills (y ∷ ys) x s at e h =
    let t : State = record { buffer = s.buffer; tail = set s.tail at x; count = s.count + 1 } in
    let b : byte_taken s x ≡ t = inside s x (omega arith) ∙ ap (λ (i : ℕ). record { buffer = s.buffer; tail = set s.tail i x; count = s.count + 1 }) e in
    let n : s.count + 1 + length (y ∷ ys) ≡ s.count + length (x ∷ y ∷ ys) = omega arith in
    ap (λ (u : State). taken u (y ∷ ys)) b ∙ fills ys y t (suc at) (omega arith) (omega arith)
    ∙ ap (λ (k : ℕ). record { buffer = block_taken s.buffer (sets s.tail at (x ∷ y ∷ ys)); tail = blank; count = k }) n

-- what the code leaves of bytes that don't fill the block, of bytes that do, and of a whole block
pub unfilled : (s : State) (xs tail : List ℕ) → s.count % 64 + length xs < 64 → tail ≡ sets s.tail (s.count % 64) xs →
    ◌≡◌ {A = State} (record { buffer = s.buffer; tail = tail; count = s.count + length xs }) (taken s xs)
unfilled s xs tail h e =
    ap (λ (l : List ℕ). record { buffer = s.buffer; tail = l; count = s.count + length xs }) e ∙ sym (within xs s (s.count % 64) refl h)

pub filled : (s : State) (xs tail : List ℕ) (p : Buffer) → s.count % 64 + length xs ≤ 64 → 0 < length xs → 64 ≤ s.count % 64 + length xs →
    tail ≡ sets s.tail (s.count % 64) xs → p ≡ block_taken s.buffer tail →
    ◌≡◌ {A = State} (record { buffer = p; tail = blank; count = s.count + length xs }) (taken s xs)
filled s [] tail p h z g e f = absurd (omega arith)
filled s (x ∷ xs) tail p h z g e f =
    ap (λ (q : Buffer). record { buffer = q; tail = blank; count = s.count + length (x ∷ xs) }) (f ∙ ap (block_taken s.buffer) e)
    ∙ sym (fills xs x s (s.count % 64) refl (omega arith))

-- a block that stores fill whole is the bytes stored
all_new : (l xs : List ℕ) → length l ≡ length xs → sets l 0 xs ≡ xs
all_new l xs e =
    let none : drop (length xs) l ≡ [] = drop_of_length-le l {i = length xs} (omega arith) in
    sets-eq xs l 0 (omega arith) ∙ simp (zero-add, none) (append-nil xs)

pub whole : (s : State) (xs : List ℕ) (p : Buffer) → s.count % 64 ≡ 0 → length xs ≡ 64 → length s.tail ≡ 64 → p ≡ block_taken s.buffer xs →
    ◌≡◌ {A = State} (record { buffer = p; tail = blank; count = s.count + 64 }) (taken s xs)
whole s [] p h g l f = absurd (omega arith)
whole s (x ∷ xs) p h g l f =
    let n : 64 ≡ length (x ∷ xs) = sym g in
    ap (λ (q : Buffer). record { buffer = q; tail = blank; count = s.count + 64 }) (f ∙ ap (block_taken s.buffer) (sym (all_new s.tail (x ∷ xs) (l ∙ n))))
    ∙ ap (λ (k : ℕ). record { buffer = block_taken s.buffer (sets s.tail 0 (x ∷ xs)); tail = blank; count = s.count + k }) n
    ∙ sym (fills xs x s 0 h (omega arith))

-- pieces one after the other
pub taken_append : (s : State) (a b : List ℕ) → taken s (a ++ b) ≡ taken (taken s a) b
taken_append s [] b = refl
taken_append s (x ∷ a) b = taken_append (byte_taken s x) a b

-- a first block
pub of_block : (m : List ℕ) (b : Buffer) → length m ≡ 64 → b ≡ block_taken start m →
    ◌≡◌ {A = State} (record { buffer = b; tail = blank; count = 64 }) (taken fresh m)
unfolding fresh
of_block m b n e = whole fresh m b refl n refl e

-- a part of a list that was lent whole and now holds bytes of its length
pub put_stored : (l xs ys : List ℕ) (at n : ℕ) → xs ≡ ys → length ys ≡ n → at + n ≤ length l → put_mid at n l xs ≡ sets l at ys
put_stored l xs ys at n e long h =
    ap (λ (y : List ℕ). put_mid at n l y) e ∙ ap (λ (k : ℕ). take at l ++ (ys ++ drop k (drop at l))) (sym long)
    ∙ ap (λ (y : List ℕ). take at l ++ (ys ++ y)) (drop-drop (length ys) at l)
    ∙ sym (append_assoc (take at l) ys (drop (at + length ys) l)) ∙ sym (sets-eq ys l at (omega arith))

-- all of a list is put over another
pub put_over : (l xs : List ℕ) (at : ℕ) → at ≡ 0 → length xs ≡ length l → sets l at xs ≡ xs
put_over l xs at e h =
    let none : drop (at + length xs) l ≡ [] = drop_of_length-le l (omega arith) in
    sets-eq xs l at (omega arith) ∙ ap (λ (r : List ℕ). (take at l ++ xs) ++ r) none ∙ append-nil (take at l ++ xs) ∙ ap (λ (k : ℕ). take k l ++ xs) e

-- s is to take all of m, and b has the blocks of it but for what is left
pub record Going (s : State) (m left : List ℕ) (b : Buffer) : Type 0 where
  pub count : ℕ
  pub between : count % 64 ≡ 0
  pub counted : count + length left ≡ s.count + length m
  pub same : taken (record { buffer = b; tail = blank; count = count }) left ≡ taken s m

pub begun : (s : State) (m first tail : List ℕ) (b : Buffer) (room : ℕ) → s.count % 64 + room ≡ 64 → room ≤ length m → first ≡ take room m →
    tail ≡ sets s.tail (s.count % 64) first → b ≡ block_taken s.buffer tail → Going s m (drop room m) b
begun s m first tail b room k h e g i =
    let rest : List ℕ = drop room m in
    let n : length first ≡ room = ap length e ∙ simp length-take (omega arith) in
    let all : first ++ rest ≡ m = ap (λ (l : List ℕ). l ++ rest) e ∙ take-append-drop room m in
    record {
      count = s.count + length first;
      between = omega arith;
      counted = omega (arith, ap length all, length-append first rest);
      same =
          ap (λ (t : State). taken t rest) (filled s first tail b (omega arith) (omega arith) (omega arith) g i)
          ∙ sym (taken_append s first rest) ∙ ap (taken s) all;
    }

-- block i of those that a list is cut into
block_at : (n k i : ℕ) (xs : List ℕ) → i < k → get_or (first_chunks n k xs) i [] ≡ take n (drop (n * i) xs)
block_at n zero i xs h = absurd (omega arith)
block_at n (suc k) zero xs h = let none : n * 0 ≡ 0 = omega arith in ap (λ (j : ℕ). take n (drop j xs)) (sym none)
block_at n (suc k) (suc i) xs h = block_at n k i (drop n xs) (omega arith) ∙ ap (take n) (drop-drop (n * i) n xs ∙ ap (λ (j : ℕ). drop j xs) (omega arith))

-- the next block of those that the rest is cut into
pub block_gone : (s : State) (m left rest : List ℕ) (blocks : List (List ℕ)) (b c : Buffer) (i : ℕ) → Going s m (drop (64 * i) left) b → rest ≡ left →
    blocks ≡ first_chunks 64 (length rest / 64) rest → i < length rest / 64 → c ≡ block_taken b (get_or blocks i []) → Going s m (drop (64 * (i + 1)) left) c
block_gone s m left rest blocks b c i g same cut h e =
    let from : List ℕ = drop (64 * i) left in
    let cuts : blocks ≡ first_chunks 64 (length left / 64) left = cut ∙ ap (λ (l : List ℕ). first_chunks 64 (length l / 64) l) same in
    let more : i < length left / 64 = omega (arith, ap length same) in
    let block : get_or blocks i [] ≡ take 64 from = ap (λ (l : List (List ℕ)). get_or l i []) cuts ∙ block_at 64 (length left / 64) i left more in
    let next : drop 64 from ≡ drop (64 * (i + 1)) left = drop-drop 64 (64 * i) left ∙ ap (λ (k : ℕ). drop k left) (omega arith) in
    let n : length (take 64 from) ≡ 64 = simp (length-take, length-drop) (omega arith) in
    let t : State = record { buffer = b; tail = blank; count = g.count } in
    record {
      count = g.count + 64;
      between = omega (arith, g.between);
      counted = omega (arith, g.counted, ap length next, length-drop 64 from, length-drop (64 * i) left);
      same =
          ap (taken (record { buffer = c; tail = blank; count = g.count + 64 })) (sym next)
          ∙ ap (λ (u : State). taken u (drop 64 from)) (whole t (take 64 from) c g.between n (length-replicate {A = ℕ} 64 0) (e ∙ ap (block_taken b) block))
          ∙ sym (taken_append t (take 64 from) (drop 64 from)) ∙ ap (taken t) (take-append-drop 64 from) ∙ g.same;
    }

-- and what is left after the last
pub rest_gone : (s : State) (m left rest last tail : List ℕ) (b : Buffer) (n i : ℕ) → Going s m (drop (64 * i) left) b → rest ≡ left → i ≤ length rest / 64 → length rest / 64 ≤ i →
    last ≡ drop (length rest / 64 * 64) rest → tail ≡ sets blank 0 last → n ≡ s.count + length m → ◌≡◌ {A = State} (record { buffer = b; tail = tail; count = n }) (taken s m)
rest_gone s m left rest last tail b n i g same low high e f k =
    let t : State = record { buffer = b; tail = blank; count = g.count } in
    let end : length left / 64 * 64 ≡ 64 * i = omega (arith, ap length same) in
    let all : last ≡ drop (64 * i) left = e ∙ ap (λ (l : List ℕ). drop (length l / 64 * 64) l) same ∙ ap (λ (j : ℕ). drop j left) end in
    let short : length last < 64 = omega (arith, ap length same, ap length all, length-drop (64 * i) left) in
    ap (λ (j : ℕ). record { buffer = b; tail = tail; count = j }) (k ∙ sym g.counted ∙ ap (λ (l : List ℕ). g.count + length l) (sym all))
    ∙ unfilled t last tail (omega (arith, g.between)) (f ∙ ap (λ (j : ℕ). sets blank j last) (sym g.between)) ∙ ap (taken t) all ∙ g.same
