-- Test cases of RFC 2202, section 2, computed from the definition.
use mathlib.Core.Path.{◌≡◌, refl}
use mathlib.Core.List.{[], ◌∷◌}
use lib.ListN.{replicate}
use Rattle.wire.specs.Text.{ascii}
use Rattle.md5_digest.specs.Words.{sines}
use Rattle.md5_digest.specs.Block.{step, stepped_by, turns, round, added, block_taken}
use Rattle.md5_digest.specs.Digest.{padding, start, word_bytes, md5}
use Rattle.hmac_md5.specs.Hmac.{filled_out, key_block, hmac}

one : hmac (replicate 16 0x0B) (ascii "Hi There") ≡ 0x92 ∷ 0x94 ∷ 0x72 ∷ 0x7A ∷ 0x36 ∷ 0x38 ∷ 0xBB ∷ 0x1C ∷ 0x13 ∷ 0xF4 ∷ 0x8E ∷ 0xF8 ∷ 0x15 ∷ 0x8B ∷ 0xFC ∷ 0x9D ∷ []
unfolding sines step stepped_by turns round added block_taken padding start word_bytes md5 filled_out key_block hmac
one = refl

two : hmac (ascii "Jefe") (ascii "what do ya want for nothing?") ≡ 0x75 ∷ 0x0C ∷ 0x78 ∷ 0x3E ∷ 0x6A ∷ 0xB0 ∷ 0xB5 ∷ 0x03 ∷ 0xEA ∷ 0xA8 ∷ 0x6E ∷ 0x31 ∷ 0x0A ∷ 0x5D ∷ 0xB7 ∷ 0x38 ∷ []
unfolding sines step stepped_by turns round added block_taken padding start word_bytes md5 filled_out key_block hmac
two = refl

three : hmac (replicate 16 0xAA) (replicate 50 0xDD) ≡ 0x56 ∷ 0xBE ∷ 0x34 ∷ 0x52 ∷ 0x1D ∷ 0x14 ∷ 0x4C ∷ 0x88 ∷ 0xDB ∷ 0xB8 ∷ 0xC7 ∷ 0x33 ∷ 0xF0 ∷ 0xE8 ∷ 0xB3 ∷ 0xF6 ∷ []
unfolding sines step stepped_by turns round added block_taken padding start word_bytes md5 filled_out key_block hmac
three = refl

six : hmac (replicate 80 0xAA) (ascii "Test Using Larger Than Block-Size Key - Hash Key First") ≡ 0x6B ∷ 0x1A ∷ 0xB7 ∷ 0xFE ∷ 0x4B ∷ 0xD7 ∷ 0xBF ∷ 0x8F ∷ 0x0B ∷ 0x62 ∷ 0xE6 ∷ 0xCE ∷ 0x61 ∷ 0xB9 ∷ 0xD0 ∷ 0xCD ∷ []
unfolding sines step stepped_by turns round added block_taken padding start word_bytes md5 filled_out key_block hmac
six = refl
