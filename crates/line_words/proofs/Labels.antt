-- Laws of the words: those whose text is one of a few, and how long a word is at most.
use Prim.Native.Nat.{ℕ, suc, ◌+◌, ◌-◌, ◌*◌, ◌^◌, ◌≤◌, ◌<◌}
use mathlib.Core.Path.{◌≡◌, refl}
use mathlib.Core.Bool.{Bool, true, false, cond}
use mathlib.Core.List.{List, ◌++◌}
use native.Mathlib.Omega.{arith}
use lib.Dec.{T, eqb, leb, leb→le}
use lib.ListN.{length, length-append}
use borrow.Author.Tests.{eq-eqb, ne_eqb, le-leb, lt-leb}
use Rattle.wire.specs.Text.{ascii}
use Rattle.negotiate_flags.specs.declared.NegotiateFlags.{NegotiateFlags}
use Rattle.field.specs.declared.Field.{Field}
use Rattle.field.specs.Field.{field_bytes}
use Rattle.place.specs.Place.{Wrote}
use Rattle.line_words.specs.Digits.{decimal}
use Rattle.line_words.specs.Name.{name_text}
use Rattle.line_words.specs.Words.{Room, number_word, name_word, string_word, flags_word, set_word, start_text, mic_word, kind_word}
use Rattle.line_words.proofs.Numbers.{length-hex, decimal_bound}
use Rattle.line_words.proofs.Names.{name_bound, field_small}

-- one of two texts, by a question or by two numbers
module _ (l k xs ys : List ℕ) (i q : ℕ) where
  pub wrote_true : (b : Bool) → b ≡ true → Wrote l k i q xs → Wrote l k i q (cond b xs ys)
  wrote_true b h w = rw h w

  pub wrote_false : (b : Bool) → b ≡ false → Wrote l k i q ys → Wrote l k i q (cond b xs ys)
  wrote_false b h w = rw h w

  pub wrote_eq : (m n : ℕ) → m ≡ n → Wrote l k i q xs → Wrote l k i q (cond (eqb m n) xs ys)
  wrote_eq m n h w = rw (eq-eqb m n h) w

  pub wrote_ne : (m n : ℕ) → (m ≡ n → ⊥) → Wrote l k i q ys → Wrote l k i q (cond (eqb m n) xs ys)
  wrote_ne m n h w = rw (ne_eqb m n h) w

  pub wrote_le : (m n d : ℕ) → d ≤ n → T (leb m d) → Wrote l k i q xs → Wrote l k i q (cond (leb m n) xs ys)
  wrote_le m n d h t w = rw (le-leb m n (omega (arith, leb→le m d t))) w

  pub wrote_lt : (m n d : ℕ) → n < d → T (leb d m) → Wrote l k i q ys → Wrote l k i q (cond (leb m n) xs ys)
  wrote_lt m n d h t w = rw (lt-leb m n (omega (arith, leb→le d m t))) w

pub ruleset choice = (wrote_true, wrote_false, wrote_eq, wrote_ne, wrote_le, wrote_lt)

pub flags_word_size : (bits : ℕ) → length (flags_word bits) ≡ 15
unfolding flags_word
flags_word_size bits = simp length-hex

set-size : (b : Bool) → length (set_word b) ≡ 6
unfolding set_word
set-size true = refl
set-size false = refl

pub start_size : (label : List ℕ) (flags : NegotiateFlags) (unicode : Bool) → length (start_text label flags unicode) ≡ length label + 21
unfolding start_text
start_size label flags unicode = simp (length-append, flags_word_size, set-size)

pub mic_size : (b : Bool) → length (mic_word b) ≡ 6
unfolding mic_word
mic_size true = refl
mic_size false = refl

pub kind_none : (nt : ℕ) → nt ≡ 0 → 10 ≡ length (kind_word nt)
unfolding kind_word
kind_none nt h = simp (eq-eqb nt 0 h)

pub kind_v1 : (nt : ℕ) → nt ≡ 24 → 8 ≡ length (kind_word nt)
unfolding kind_word
kind_v1 nt h = rw h refl

pub kind_v2 : (nt d : ℕ) → d ≤ nt → T (leb 44 d) → 8 ≡ length (kind_word nt)
unfolding kind_word
kind_v2 nt d h t =
    let l : 44 ≤ nt = omega (arith, leb→le 44 d t) in
    simp (ne_eqb nt 0 (λ e. omega arith), ne_eqb nt 24 (λ e. omega arith), le-leb 44 nt l)

pub kind_odd : (nt d : ℕ) → (nt ≡ 0 → ⊥) → (nt ≡ 24 → ⊥) → nt < d → T (leb d 44) → 9 ≡ length (kind_word nt)
unfolding kind_word
kind_odd nt d h g l t = simp (ne_eqb nt 0 h, ne_eqb nt 24 g, lt-leb 44 nt (omega (arith, leb→le d 44 t)))

-- ---- how long a word is at most

pub name_word_bound : (label s : List ℕ) (unicode : Bool) (f : Field) → length (name_word label unicode (field_bytes s f)) ≤ length label + 4 * f.len
unfolding name_word
name_word_bound label s unicode f =
    omega (arith, length-append label (name_text unicode (field_bytes s f)), name_bound unicode (field_bytes s f), field_small s (field_bytes s f) f refl)

pub number_word_bound : (label : List ℕ) (k n : ℕ) → n < 10 ^ suc k → length (number_word label n) ≤ length label + suc k
unfolding number_word
number_word_bound label k n h = omega (arith, length-append label (decimal n), decimal_bound k n h)

pub kind_bound : (nt : ℕ) → length (kind_word nt) ≤ 10
unfolding kind_word
kind_bound nt = go (eqb nt 0) (eqb nt 24) (leb 44 nt) where
  go : (x y z : Bool) → length (cond x (ascii " kind=none") (cond y (ascii " kind=v1") (cond z (ascii " kind=v2") (ascii " kind=odd")))) ≤ 10
  go true y z = omega arith
  go false true z = omega arith
  go false false true = omega arith
  go false false false = omega arith

module _ (at n : ℕ) where
  pub flags_word_room : (bits : ℕ) → Room at (flags_word bits) n → at + 15 ≤ n
  flags_word_room bits r = omega (arith, r.fits, flags_word_size bits)

  pub set_room : (b : Bool) → Room at (set_word b) n → at + 6 ≤ n
  set_room b r = omega (arith, r.fits, set-size b)

  pub mic_room : (b : Bool) → Room at (mic_word b) n → at + 6 ≤ n
  mic_room b r = omega (arith, r.fits, mic_size b)

  pub kind_none_room : (nt : ℕ) → nt ≡ 0 → Room at (kind_word nt) n → at + 10 ≤ n
  kind_none_room nt h r = omega (arith, r.fits, kind_none nt h)

  pub kind_v1_room : (nt : ℕ) → nt ≡ 24 → Room at (kind_word nt) n → at + 8 ≤ n
  kind_v1_room nt h r = omega (arith, r.fits, kind_v1 nt h)

  pub kind_v2_room : (nt d : ℕ) → d ≤ nt → T (leb 44 d) → Room at (kind_word nt) n → at + 8 ≤ n
  kind_v2_room nt d h t r = omega (arith, r.fits, kind_v2 nt d h t)

  pub kind_odd_room : (nt d : ℕ) → (nt ≡ 0 → ⊥) → (nt ≡ 24 → ⊥) → nt < d → T (leb d 44) → Room at (kind_word nt) n → at + 9 ≤ n
  kind_odd_room nt d h g l t r = omega (arith, r.fits, kind_odd nt d h g l t)

pub ruleset kinds = (kind_none, kind_v1, kind_v2, kind_odd)

pub ruleset kind_rooms = (kind_none_room, kind_v1_room, kind_v2_room, kind_odd_room)

-- ---- a string's word, by its bit

module _ (label text : List ℕ) (given : Bool) where
  pub string_leaves : (room m : ℕ) → given ≡ true → m ≡ room - length (label ++ text) → m ≡ room - length (string_word label given text)
  unfolding string_word
  string_leaves room m h e = rw h e

  pub string_none : (room : ℕ) → given ≡ false → room ≡ room - length (string_word label given text)
  unfolding string_word
  string_none room h = rw h (omega arith)

  pub string_room : (at n : ℕ) → given ≡ true → Room at (string_word label given text) n → Room at (label ++ text) n
  unfolding string_word
  string_room at n h r = rw h at r
