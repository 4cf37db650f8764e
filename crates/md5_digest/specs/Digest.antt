-- RFC 1321, section 3: the digest of a message of whole bytes.
use Rattle.std.specs.Prelude.{ℕ, zero, suc, ◌-◌, ◌*◌, ◌/◌, ◌%◌, List, [], ◌∷◌, ◌++◌, length, take, drop, replicate}
use Rattle.md5_digest.specs.Block.{block_taken}
use Rattle.md5_digest.specs.declared.block.Buffer.{Buffer}

-- the k low bytes of a number, the lowest first
abbrev pub bytes_of : ℕ → ℕ → List ℕ
bytes_of zero v = []
bytes_of (suc k) v = v % 256 ∷ bytes_of k (v / 256)

-- 3.1 and 3.2: a one bit, as few zero bits as bring the length to 56 bytes modulo 64, and the length in bits, as a number of 8 bytes
unfoldable pub padding : ℕ → List ℕ
padding n = 0x80 ∷ (replicate ((119 - n % 64) % 64) 0 ++ bytes_of 8 (8 * n))

-- 3.3: the buffer at the start
unfoldable pub start : Buffer
start = record { a = 0x67452301; b = 0xEFCDAB89; c = 0x98BADCFE; d = 0x10325476 }

-- 3.4: k blocks of 64 bytes, one after the other
abbrev pub blocks_taken : ℕ → Buffer → List ℕ → Buffer
blocks_taken zero p m = p
blocks_taken (suc k) p m = blocks_taken k (block_taken p (take 64 m)) (drop 64 m)

-- 3.5: the four words, the low byte of each first
unfoldable pub word_bytes : Buffer → List ℕ
word_bytes p = bytes_of 4 p.a ++ (bytes_of 4 p.b ++ (bytes_of 4 p.c ++ bytes_of 4 p.d))

unfoldable pub md5 : List ℕ → List ℕ
md5 m =
    let padded : List ℕ = m ++ padding (length m) in
    word_bytes (blocks_taken (length padded / 64) start padded)
