-- RFC 1321, section 3.4: a block of 16 words is taken into the four-word buffer in 64 steps.
use Rattle.std.specs.Prelude.{ℕ, zero, suc, ◌+◌, ◌*◌, ◌/◌, ◌%◌, cond, List, [], ◌∷◌, ltb, get_or}
use Rattle.wire.specs.Number.{u32_at}
use Rattle.md5_digest.specs.Words.{f, g, h, i, rotated, plus, sines}
use Rattle.md5_digest.specs.declared.block.Buffer.{Buffer}

-- one of four, by the round that step n is in
abbrev pub in_round : {A : Type 0} → ℕ → A → A → A → A → A
in_round n p q r s = cond (ltb n 16) p (cond (ltb n 32) q (cond (ltb n 48) r s))

-- the function of step n
abbrev pub mixed : ℕ → ℕ → ℕ → ℕ → ℕ
mixed n x y z = in_round n (f x y z) (g x y z) (h x y z) (i x y z)

-- which word of the block step n adds
abbrev pub word_of : ℕ → ℕ
word_of n = in_round n n ((5 * n + 1) % 16) ((3 * n + 5) % 16) (7 * n % 16)

-- by how many bits it rotates: four numbers for each round, in turn
unfoldable pub turns : List ℕ
turns = 7 ∷ 12 ∷ 17 ∷ 22 ∷ 5 ∷ 9 ∷ 14 ∷ 20 ∷ 4 ∷ 11 ∷ 16 ∷ 23 ∷ 6 ∷ 10 ∷ 15 ∷ 21 ∷ []

abbrev pub turn_of : ℕ → ℕ
turn_of n = get_or turns (n / 16 * 4 + n % 4) 0

-- a step, [abcd k s i]: a = b + ((a + F(b,c,d) + X[k] + T[i]) <<< s), given F(b,c,d), X[k], T[i] and s. The next step names the
-- four in the order d, a, b, c
unfoldable pub step : ℕ → ℕ → ℕ → ℕ → Buffer → Buffer
step m w t s p =
    record { a = p.d; b = plus p.b (rotated (plus (plus p.a m) (plus w t)) s); c = p.b; d = p.c }

-- step n, with a rotation by s bits
unfoldable pub stepped_by : ℕ → List ℕ → Buffer → ℕ → Buffer
stepped_by s x p n = step (mixed n p.b p.c p.d) (u32_at x (4 * word_of n)) (get_or sines n 0) s p

abbrev pub stepped : List ℕ → Buffer → ℕ → Buffer
stepped x p n = stepped_by (turn_of n) x p n

-- k steps, the first of them step n
abbrev pub steps : List ℕ → Buffer → ℕ → ℕ → Buffer
steps x p n zero = p
steps x p n (suc k) = steps x (stepped x p n) (suc n) k

-- a round is sixteen
unfoldable pub round : List ℕ → Buffer → ℕ → Buffer
round x p n = steps x p n 16

-- the buffer after a block of 64 bytes, the words little-endian: what it was is added to each word
unfoldable pub added : Buffer → Buffer → Buffer
added p q = record { a = plus p.a q.a; b = plus p.b q.b; c = plus p.c q.c; d = plus p.d q.d }

unfoldable pub block_taken : Buffer → List ℕ → Buffer
block_taken p x = added p (round x (round x (round x (round x p 0) 16) 32) 48)
