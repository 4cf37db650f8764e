-- Laws of HMAC.
use Rattle.std.proofs.Common.{◌≡◌, ℕ, ◌+◌, ◌-◌, ◌≤◌, ◌<◌, List, ◌++◌, length, take, drop, set, get_or, replicate, sym, ap, ◌∙◌, arith, length-take, length-drop}
use Rattle.std.proofs.lemmas.List.{drop-replicate, length-replicate, length-append, length-map, get_or_default}
use Rattle.std.proofs.lemmas.List.Edits.{map_over_more}
use Rattle.std.specs.Int.Bits.{bit_xor}
use Rattle.std.proofs.Math.ListN.{drop_of_length-le}
use Rattle.std.proofs.Math.Seq.{take_all}
use mathlib.Core.List.{append-nil}
use borrow.Author.Tests.{lt-ltb, le-ltb}
use borrow.Rule.Slice.PartMut.{put_mid}
use Rattle.md5_digest.specs.Digest.{word_bytes, md5}
use Rattle.md5_digest.specs.State.{fresh, taken, finished}
use Rattle.md5_digest.specs.declared.state.State.{State}
use Rattle.md5_digest.proofs.States.{taken_append}
use Rattle.md5_digest.proofs.Whole.{is_md5}
use Rattle.hmac_md5.specs.Hmac.{filled_out, key_block, xored, hmac, begun, hmac_finished}

short_block : (key : List ℕ) → length key ≤ 64 → key_block key ≡ filled_out key
unfolding key_block
short_block key h = simp (le-ltb 64 (length key) h)

digest_short : (m : List ℕ) → length (md5 m) ≤ 64
unfolding md5 word_bytes
digest_short m = omega arith

-- the block of a long key is that of its digest
pub of_long : (key d text r : List ℕ) → 64 < length key → d ≡ md5 key → r ≡ hmac d text → r ≡ hmac key text
unfolding hmac key_block
of_long key d text r h e f =
    f ∙ simp (e, le-ltb 64 (length (md5 key)) (digest_short key), lt-ltb 64 (length key) h)

pub length-key_block : (key : List ℕ) → length key ≤ 64 → length (key_block key) ≡ 64
unfolding filled_out
length-key_block key h = ap length (short_block key h) ∙ length-append key (replicate (64 - length key) 0) ∙ simp length-replicate (omega arith)

-- a key that was stored at the front of a block of zero bytes
pub is_filled : (key ys : List ℕ) → ys ≡ key → length key ≤ 64 → put_mid 0 (length key) (replicate 64 0) ys ≡ key_block key
unfolding filled_out
is_filled key ys e h =
    ap (λ (r : List ℕ). r ++ drop (length key) (replicate 64 0)) e ∙ ap (λ (r : List ℕ). key ++ r) (drop-replicate (length key) 64 0) ∙ sym (short_block key h)

-- a block of which the first i bytes stand XOR x, and then one more
pub one_more : (key ys : List ℕ) (x i : ℕ) → length key ≤ 64 → i < 64 → ys ≡ xored x (take i (key_block key)) ++ drop i (key_block key) →
    set ys i (bit_xor (get_or ys i 0) x) ≡ xored x (take (i + 1) (key_block key)) ++ drop (i + 1) (key_block key)
one_more key ys x i h l e =
    let n = length-key_block key h in
    let m : length ys ≡ 64 = ap length e ∙ simp (length-append, length-map, length-take, length-drop) (omega arith) in
    map_over_more (λ b. bit_xor b x) (key_block key) ys i (get_or ys i 0) (omega arith) e (get_or_default ys i 0 (get_or ys i 0) (omega arith))

-- and then all
pub is_padded : (key r : List ℕ) (x i : ℕ) (t : State) → length key ≤ 64 → 64 ≤ i → r ≡ xored x (take i (key_block key)) ++ drop i (key_block key) →
    t ≡ taken fresh r → t ≡ taken fresh (xored x (key_block key))
is_padded key r x i t n h f g =
    let block : List ℕ = key_block key in
    let long : length block ≤ i = omega (arith, length-key_block key n) in
    g ∙ ap (taken fresh) (f ∙ ap (λ (l : List ℕ). xored x l ++ drop i block) (take_all i block long)
    ∙ ap (λ (l : List ℕ). xored x block ++ l) (drop_of_length-le block long) ∙ append-nil (xored x block))

-- what is begun, taken and ended is the HMAC of what was taken
pub of_pieces : (key m : List ℕ) → hmac_finished key (taken (begun key) m) ≡ hmac key m
unfolding hmac begun hmac_finished
of_pieces key m =
    ap (λ (u : State). finished (taken (taken fresh (xored 0x5C (key_block key))) (finished u))) (sym (taken_append fresh (xored 0x36 (key_block key)) m))
    ∙ ap (λ (l : List ℕ). finished (taken (taken fresh (xored 0x5C (key_block key))) l)) (is_md5 (xored 0x36 (key_block key) ++ m))
    ∙ ap finished (sym (taken_append fresh (xored 0x5C (key_block key)) (md5 (xored 0x36 (key_block key) ++ m))))
    ∙ is_md5 (xored 0x5C (key_block key) ++ md5 (xored 0x36 (key_block key) ++ m))

pub is_hmac : (key m r : List ℕ) (s t : State) → s ≡ begun key → t ≡ taken s m → r ≡ hmac_finished key t → r ≡ hmac key m
is_hmac key m r s t e f g = g ∙ ap (hmac_finished key) (f ∙ ap (λ (u : State). taken u m) e) ∙ of_pieces key m
