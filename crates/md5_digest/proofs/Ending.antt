-- Laws of the end: what stands in the last block, and the block before it where that one has no room for the length; the bytes of the words.
use Rattle.std.proofs.Common.{◌≡◌, ℕ, suc, ◌+◌, ◌-◌, ◌*◌, ◌%◌, ◌≤◌, ◌<◌, List, [], ◌∷◌, ◌++◌, length, take, drop, set, replicate, refl, sym, ap, ◌∙◌, arith, length-set, length-take, length-append, append_assoc}
use mathlib.Core.List.{append-nil}
use Rattle.std.proofs.lemmas.List.{length-replicate, take-replicate}
use Rattle.std.proofs.Math.ListN.{drop_of_length-le, replicate-append-replicate}
use Rattle.std.proofs.Math.Seq.{sets, sets-eq, length-sets, take_at}
use Rattle.std.proofs.Math.Nat.{div-div-eq-div-mul}
use Rattle.std.specs.Int.{w32, w64, to_le_bytes}
use borrow.Rule.Slice.PartMut.{put_mid}
use Rattle.md5_digest.specs.Block.{block_taken}
use Rattle.md5_digest.specs.Digest.{bytes_of, padding, word_bytes}
use Rattle.md5_digest.specs.State.{blank, taken, finished}
use Rattle.md5_digest.specs.declared.block.Buffer.{Buffer}
use Rattle.md5_digest.specs.declared.state.State.{State}
use Rattle.md5_digest.proofs.States.{taken_append, unfilled, filled, put_stored}

-- the library's bytes of a number are RFC 1321's
pub four_bytes : (v : ℕ) (l : List ℕ) → l ≡ to_le_bytes w32 v → l ≡ bytes_of 4 v
four_bytes v l e = e ∙ simp div-div-eq-div-mul

eight_bytes : (v : ℕ) (l : List ℕ) → l ≡ to_le_bytes w64 v → l ≡ bytes_of 8 v
eight_bytes v l e = e ∙ simp div-div-eq-div-mul

abbrev zeros : ℕ → List ℕ
zeros n = replicate n 0

abbrev length_of : State → List ℕ
length_of s = bytes_of 8 (8 * s.count)

-- a block from a place on: the one bit, and zero bits to its end
abbrev marked : List ℕ → ℕ → List ℕ
marked l at = sets l at (0x80 ∷ zeros (63 - at))

pub is_marked : (l ys : List ℕ) (at n : ℕ) → length l ≡ 64 → at < 64 → n ≡ 64 - at → ys ≡ take (64 - at) (0x80 ∷ zeros 63) → put_mid at n l ys ≡ marked l at
is_marked l ys at n long h e g =
    let more : 64 - at ≡ suc (63 - at) = omega arith in
    let part : ys ≡ 0x80 ∷ zeros (63 - at) =
    g ∙ ap (λ (k : ℕ). take k (0x80 ∷ zeros 63)) more ∙ ap (λ (l : List ℕ). 0x80 ∷ l) (take-replicate (63 - at) 63 0 (omega arith)) in
    put_stored l ys (0x80 ∷ zeros (63 - at)) at n part (ap suc (length-replicate (63 - at) 0) ∙ sym more ∙ sym e) (omega arith)

-- of a block that its last eight bytes end, only what is before them counts
same_front : (l k bits : List ℕ) → length l ≡ 64 → length k ≡ 64 → length bits ≡ 8 → take 56 l ≡ take 56 k → sets l 56 bits ≡ sets k 56 bits
same_front l k bits m n h e =
    let a : drop (56 + length bits) l ≡ [] = drop_of_length-le l (omega arith) in
    let b : drop (56 + length bits) k ≡ [] = drop_of_length-le k (omega arith) in
    sets-eq bits l 56 (omega arith) ∙ ap (λ (r : List ℕ). take 56 l ++ bits ++ r) (a ∙ sym b) ∙ ap (λ (r : List ℕ). r ++ bits ++ drop (56 + length bits) k) e
    ∙ sym (sets-eq bits k 56 (omega arith))

front_of_sets : (l xs ys : List ℕ) (at n : ℕ) → at + length (xs ++ ys) ≤ length l → at + length xs ≡ n → take n (sets l at (xs ++ ys)) ≡ take at l ++ xs
front_of_sets l xs ys at n h e =
    let rest : List ℕ = drop (at + length (xs ++ ys)) l in
    let front : at ≤ length l = omega arith in
    ap (take n) (sets-eq (xs ++ ys) l at h ∙ ap (λ (r : List ℕ). r ++ rest) (sym (append_assoc (take at l) xs ys)) ∙ append_assoc (take at l ++ xs) ys rest)
    ∙ take_at (take at l ++ xs) (ys ++ rest) n (simp (length-append, length-take) (omega arith))

front_marked : (l : List ℕ) (at z : ℕ) → length l ≡ 64 → at + suc z ≡ 56 → take 56 (marked l at) ≡ take 56 (sets l at (0x80 ∷ zeros z))
front_marked l at z long h =
    let xs : List ℕ = 0x80 ∷ zeros z in
    let n : length xs ≡ suc z = ap suc (length-replicate z 0) in
    let more : 63 - at ≡ z + 8 = omega arith in
    let all : length (xs ++ zeros 8) ≡ suc z + 8 = length-append xs (zeros 8) ∙ ap (λ (k : ℕ). k + 8) n in
    let none : length (xs ++ []) ≡ suc z = ap length (append-nil xs) ∙ n in
    ap (λ (k : ℕ). take 56 (sets l at (0x80 ∷ zeros k))) more ∙ ap (λ (r : List ℕ). take 56 (sets l at (0x80 ∷ r))) (sym (replicate-append-replicate z 8 0))
    ∙ front_of_sets l xs (zeros 8) at 56 (omega arith) (omega arith) ∙ sym (front_of_sets l xs [] at 56 (omega arith) (omega arith))
    ∙ ap (λ (r : List ℕ). take 56 (sets l at r)) (append-nil xs)

-- eight bytes that end a block
last_eight : (t : State) (l : List ℕ) → t.count % 64 ≡ 56 → length l ≡ 8 → (taken t l).buffer ≡ block_taken t.buffer (sets t.tail 56 l)
last_eight t l h n =
    ap (λ (u : State). u.buffer)
    (sym (filled t l (sets t.tail 56 l) _ (omega arith) (omega arith) (omega arith) (ap (λ (k : ℕ). sets t.tail k l) (sym h)) refl))

-- the buffer and the block, before the length goes into the block
pub record Ending (s : State) (b : Buffer) (l : List ℕ) : Type 0 where
  pub long : length l ≡ 64
  pub same : word_bytes (block_taken b (sets l 56 (length_of s))) ≡ finished s

-- the block that is being filled has room for the length
pub same_block : (s : State) (b : Buffer) (l : List ℕ) → length s.tail ≡ 64 → s.count % 64 < 56 → b ≡ s.buffer → l ≡ marked s.tail (s.count % 64) → Ending s b l
unfolding finished padding
same_block s b l long h f w =
    let at : ℕ = s.count % 64 in
    let z : ℕ = 55 - s.count % 64 in
    let xs : List ℕ = 0x80 ∷ zeros z in
    let n : length xs ≡ suc z = ap suc (length-replicate z 0) in
    let k : List ℕ = sets s.tail at xs in
    let t : State = record { buffer = s.buffer; tail = k; count = s.count + length xs } in
    let p : (119 - s.count % 64) % 64 ≡ z = omega arith in
    let all : length l ≡ 64 = ap length w ∙ length-sets s.tail at (0x80 ∷ zeros (63 - at)) ∙ long in
    record {
      long = all;
      same =
          ap (λ (q : Buffer). word_bytes (block_taken q (sets l 56 (length_of s)))) f
          ∙ ap (λ (j : List ℕ). word_bytes (block_taken s.buffer j)) (same_front l k (length_of s) all (length-sets s.tail at xs ∙ long) refl (ap (take 56) w ∙ front_marked s.tail at z long (omega arith)))
          ∙ ap word_bytes (sym (last_eight t (length_of s) (omega arith) refl))
          ∙ ap (λ (u : State). word_bytes (taken u (length_of s)).buffer) (unfilled s xs k (omega arith) refl)
          ∙ ap (λ (u : State). word_bytes u.buffer) (sym (taken_append s xs (length_of s)))
          ∙ ap (λ (k : ℕ). word_bytes (taken s (0x80 ∷ (zeros k ++ length_of s))).buffer) (sym p);
    }

-- it has not, and the length goes into the next one
pub next_block : (s : State) (b : Buffer) (k l : List ℕ) → length s.tail ≡ 64 → 56 ≤ s.count % 64 → k ≡ marked s.tail (s.count % 64) → b ≡ block_taken s.buffer k →
    l ≡ blank → Ending s b l
unfolding finished padding
next_block s b k l long h w f g =
    let at : ℕ = s.count % 64 in
    let z : ℕ = 63 - s.count % 64 in
    let xs : List ℕ = 0x80 ∷ zeros z in
    let n : length xs ≡ suc z = ap suc (length-replicate z 0) in
    let t : State = record { buffer = b; tail = blank; count = s.count + length xs } in
    let u : State = record { buffer = b; tail = blank; count = s.count + length xs + 56 } in
    let p : (119 - s.count % 64) % 64 ≡ z + 56 = omega arith in
    let c : t.count % 64 ≡ 0 = omega arith in
    record {
      long = ap length g ∙ length-replicate {A = ℕ} 64 0;
      same =
          ap (λ (k : List ℕ). word_bytes (block_taken b (sets k 56 (length_of s)))) g
          ∙ ap word_bytes (sym (last_eight u (length_of s) (omega arith) refl))
          ∙ ap (λ (v : State). word_bytes (taken v (length_of s)).buffer) (unfilled t (zeros 56) blank (omega arith) (ap (λ (k : ℕ). sets blank k (zeros 56)) (sym c)))
          ∙ ap (λ (v : State). word_bytes (taken (taken v (zeros 56)) (length_of s)).buffer) (filled s xs k b (omega arith) (omega arith) (omega arith) w f)
          ∙ ap (λ (v : State). word_bytes (taken v (length_of s)).buffer) (sym (taken_append s xs (zeros 56)))
          ∙ ap (λ (v : State). word_bytes v.buffer) (sym (taken_append s (xs ++ zeros 56) (length_of s)))
          ∙ ap (λ (k : List ℕ). word_bytes (taken s (0x80 ∷ (k ++ length_of s))).buffer) (replicate-append-replicate z 56 0)
          ∙ ap (λ (k : ℕ). word_bytes (taken s (0x80 ∷ (zeros k ++ length_of s))).buffer) (sym p);
    }

pub is_finished : (s : State) (b q : Buffer) (l n ys d : List ℕ) → Ending s b l → n ≡ to_le_bytes w64 (8 * s.count) → ys ≡ n → q ≡ block_taken b (put_mid 56 8 l ys) →
    d ≡ word_bytes q → d ≡ finished s
is_finished s b q l n ys d i e f g h =
    h ∙ ap word_bytes (g ∙ ap (block_taken b) (put_stored l ys (length_of s) 56 8 (f ∙ eight_bytes (8 * s.count) n e) refl (omega (arith, i.long)))) ∙ i.same
