-- What is taken byte by byte and finished is the digest of the whole.
use Prim.Native.Nat.{ℕ, zero, suc, ◌+◌, ◌*◌, ◌/◌, ◌%◌}
use mathlib.Core.Path.{◌≡◌, refl, sym, ap, ◌∙◌}
use mathlib.Core.List.{List, [], ◌∷◌, ◌++◌}
use native.Mathlib.Nat.{add-zero, zero-add}
use native.Mathlib.Omega.{arith}
use lib.ListN.{length, take, drop, length-append, length-take, length-drop, length-replicate, take-append-drop}
use Rattle.md5_digest.specs.Block.{block_taken}
use Rattle.md5_digest.specs.Digest.{padding, blocks_taken, word_bytes, md5}
use Rattle.md5_digest.specs.State.{blank, fresh, byte_taken, taken, finished}
use Rattle.md5_digest.specs.declared.state.State.{State}
use Rattle.md5_digest.proofs.States.{byte_count_is, whole, taken_append}

count_taken : (s : State) (a : List ℕ) → (taken s a).count ≡ s.count + length a
count_taken s [] = sym (add-zero s.count)
count_taken s (x ∷ a) = omega (arith, count_taken (byte_taken s x) a, byte_count_is s x)

blocks : (k : ℕ) (s : State) (l : List ℕ) → s.count % 64 ≡ 0 → length s.tail ≡ 64 → length l ≡ 64 * k →
    (taken s l).buffer ≡ blocks_taken k s.buffer l
blocks zero s [] c e h = refl
blocks zero s (x ∷ l) c e h = absurd (omega arith)
blocks (suc k) s l c e h =
    let n : length (take 64 l) ≡ 64 = simp length-take (omega arith) in
    let t : State = record { buffer = block_taken s.buffer (take 64 l); tail = blank; count = s.count + 64 } in
    let f : taken s (take 64 l) ≡ t = sym (whole s (take 64 l) (block_taken s.buffer (take 64 l)) c n e refl) in
    ap (λ (m : List ℕ). (taken s m).buffer) (sym (take-append-drop 64 l)) ∙ ap (λ (u : State). u.buffer) (taken_append s (take 64 l) (drop 64 l))
    ∙ ap (λ (u : State). (taken u (drop 64 l)).buffer) f
    ∙ blocks k t (drop 64 l) (omega arith) (length-replicate {A = ℕ} 64 0) (simp length-drop (omega arith))

padded_length : (m : List ℕ) → length (m ++ padding (length m)) ≡ 64 * (length (m ++ padding (length m)) / 64)
unfolding padding
padded_length m = simp (length-append, length-replicate) (omega arith)

pub is_md5 : (m : List ℕ) → finished (taken fresh m) ≡ md5 m
unfolding finished fresh md5
is_md5 m =
    let n : (taken fresh m).count ≡ length m = count_taken fresh m ∙ zero-add (length m) in
    let p : List ℕ = m ++ padding (length m) in
    ap (λ (k : ℕ). word_bytes (taken (taken fresh m) (padding k)).buffer) n
    ∙ ap (λ (u : State). word_bytes u.buffer) (sym (taken_append fresh m (padding (length m))))
    ∙ ap word_bytes (blocks (length p / 64) fresh p refl refl (padded_length m))

pub is_digest : (m d : List ℕ) (s t : State) → s ≡ fresh → t ≡ taken s m → d ≡ finished t → d ≡ md5 m
is_digest m d s t e f g = g ∙ ap finished (f ∙ ap (λ (u : State). taken u m) e) ∙ is_md5 m
