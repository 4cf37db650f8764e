-- The test suite of RFC 1321 (appendix A.5), computed from the definition.
use mathlib.Core.Path.{◌≡◌, refl}
use mathlib.Core.List.{[], ◌∷◌}
use Rattle.wire.specs.Text.{ascii}
use Rattle.md5_digest.specs.Words.{sines}
use Rattle.md5_digest.specs.Block.{step, stepped_by, turns, round, added, block_taken}
use Rattle.md5_digest.specs.Digest.{padding, start, word_bytes, md5}

empty : md5 (ascii "") ≡ 0xD4 ∷ 0x1D ∷ 0x8C ∷ 0xD9 ∷ 0x8F ∷ 0x00 ∷ 0xB2 ∷ 0x04 ∷ 0xE9 ∷ 0x80 ∷ 0x09 ∷ 0x98 ∷ 0xEC ∷ 0xF8 ∷ 0x42 ∷ 0x7E ∷ []
unfolding sines step stepped_by turns round added block_taken padding start word_bytes md5
empty = refl

one_letter : md5 (ascii "a") ≡ 0x0C ∷ 0xC1 ∷ 0x75 ∷ 0xB9 ∷ 0xC0 ∷ 0xF1 ∷ 0xB6 ∷ 0xA8 ∷ 0x31 ∷ 0xC3 ∷ 0x99 ∷ 0xE2 ∷ 0x69 ∷ 0x77 ∷ 0x26 ∷ 0x61 ∷ []
unfolding sines step stepped_by turns round added block_taken padding start word_bytes md5
one_letter = refl

abc : md5 (ascii "abc") ≡ 0x90 ∷ 0x01 ∷ 0x50 ∷ 0x98 ∷ 0x3C ∷ 0xD2 ∷ 0x4F ∷ 0xB0 ∷ 0xD6 ∷ 0x96 ∷ 0x3F ∷ 0x7D ∷ 0x28 ∷ 0xE1 ∷ 0x7F ∷ 0x72 ∷ []
unfolding sines step stepped_by turns round added block_taken padding start word_bytes md5
abc = refl

message_digest : md5 (ascii "message digest") ≡ 0xF9 ∷ 0x6B ∷ 0x69 ∷ 0x7D ∷ 0x7C ∷ 0xB7 ∷ 0x93 ∷ 0x8D ∷ 0x52 ∷ 0x5A ∷ 0x2F ∷ 0x31 ∷ 0xAA ∷ 0xF1 ∷ 0x61 ∷ 0xD0 ∷ []
unfolding sines step stepped_by turns round added block_taken padding start word_bytes md5
message_digest = refl

lower_case : md5 (ascii "abcdefghijklmnopqrstuvwxyz") ≡ 0xC3 ∷ 0xFC ∷ 0xD3 ∷ 0xD7 ∷ 0x61 ∷ 0x92 ∷ 0xE4 ∷ 0x00 ∷ 0x7D ∷ 0xFB ∷ 0x49 ∷ 0x6C ∷ 0xCA ∷ 0x67 ∷ 0xE1 ∷ 0x3B ∷ []
unfolding sines step stepped_by turns round added block_taken padding start word_bytes md5
lower_case = refl

letters_and_digits : md5 (ascii "ABCDEFGHIJKLMNOPQRSTUVWXYZabcdefghijklmnopqrstuvwxyz0123456789") ≡ 0xD1 ∷ 0x74 ∷ 0xAB ∷ 0x98 ∷ 0xD2 ∷ 0x77 ∷ 0xD9 ∷ 0xF5 ∷ 0xA5 ∷ 0x61 ∷ 0x1C ∷ 0x2C ∷ 0x9F ∷ 0x41 ∷ 0x9D ∷ 0x9F ∷ []
unfolding sines step stepped_by turns round added block_taken padding start word_bytes md5
letters_and_digits = refl

eighty_digits : md5 (ascii "12345678901234567890123456789012345678901234567890123456789012345678901234567890") ≡ 0x57 ∷ 0xED ∷ 0xF4 ∷ 0xA2 ∷ 0x2B ∷ 0xE3 ∷ 0xC9 ∷ 0x55 ∷ 0xAC ∷ 0x49 ∷ 0xDA ∷ 0x2E ∷ 0x21 ∷ 0x07 ∷ 0xB6 ∷ 0x7A ∷ []
unfolding sines step stepped_by turns round added block_taken padding start word_bytes md5
eighty_digits = refl
