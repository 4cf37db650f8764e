-- Laws of the lines of checks.
use Prim.Native.Nat.{ℕ, ◌+◌, ◌-◌, ◌<◌}
use mathlib.Core.Path.{◌≡◌}
use mathlib.Core.Bool.{Bool, true, false, ◌&&◌, not}
use mathlib.Core.List.{List, ◌++◌}
use native.Mathlib.Numerals.{add-one}
use native.Mathlib.Omega.{arith}
use lib.Dec.{eqb}
use lib.ListN.{length, get_or, drop, length-append}
use lib.Seq.{drop-cons}
use borrow.Author.Tests.{eq-eqb, ne_eqb}
use Rattle.wire.specs.Text.{ascii}
use Rattle.place.specs.Place.{Wrote}
use Rattle.place.proofs.Laws.{nothing}
use Rattle.place.proofs.Parts.{Partly, goes_on}
use Rattle.line_words.specs.Words.{Room, number_word}
use Rattle.line_checks.specs.declared.Figures.{Figures}
use Rattle.line_checks.specs.Checks.{plain_words, about_pair, pair_figures, pair_words, message_words, figure_words, failed_words, words_of, check_line, lines_from}

-- ---- a pair's words, where the check is about one

module _ (f : Figures) (b : Bool) (e : b ≡ about_pair f.number) where
  pub pair_leaves : (room p q r : ℕ) → b ≡ true → p ≡ room - length (number_word (ascii " at=") f.at) →
      q ≡ p - length (number_word (ascii " id=") f.id) → r ≡ q - length (number_word (ascii " size=") f.size) →
      r ≡ room - length (pair_words f)
  unfolding pair_words pair_figures
  pair_leaves room p q r h i j k = rw (← e, h) (simp length-append (omega arith))

  pub no_pair_leaves : (room : ℕ) → b ≡ false → room ≡ room - length (pair_words f)
  unfolding pair_words
  no_pair_leaves room h = rw (← e, h) (omega arith)

  pub pair_room : (at n : ℕ) → b ≡ true → Room at (pair_words f) n → Room at (pair_figures f) n
  unfolding pair_words
  pair_room at n h r = rw (← e, h) at r

  pub wrote_pair : (l k : List ℕ) (i q : ℕ) → b ≡ true → Wrote l k i q (pair_figures f) → Wrote l k i q (pair_words f)
  unfolding pair_words
  wrote_pair l k i q h w = rw (← e, h) w

  pub wrote_no_pair : (l : List ℕ) (i : ℕ) → b ≡ false → Wrote l l i i (pair_words f)
  unfolding pair_words
  wrote_no_pair l i h = rw (← e, h) (nothing l i)

-- ---- the words of a line, by what is known of its check

module _ (f : Figures) (reached : Bool) (n : ℕ) where
  words_failed : reached ≡ true → n ≡ f.number → words_of reached f n ≡ failed_words f
  unfolding words_of
  words_failed h e = simp (h, eq-eqb n f.number e)

  words_held : reached ≡ true → (n ≡ f.number → ⊥) → words_of reached f n ≡ plain_words n (ascii " held")
  unfolding words_of
  words_held h e = simp (h, ne_eqb n f.number e)

  words_not_reached : reached ≡ false → words_of reached f n ≡ plain_words n (ascii " not reached")
  unfolding words_of
  words_not_reached h = simp h

  module _ (room m : ℕ) where
    pub failed_leaves : reached ≡ true → n ≡ f.number → m ≡ room - length (failed_words f) → m ≡ room - length (words_of reached f n)
    failed_leaves h e g = rw (words_failed h e) g

    pub held_leaves : reached ≡ true → (n ≡ f.number → ⊥) → m ≡ room - length (plain_words n (ascii " held")) → m ≡ room - length (words_of reached f n)
    held_leaves h e g = rw (words_held h e) g

    pub not_reached_leaves : reached ≡ false → m ≡ room - length (plain_words n (ascii " not reached")) → m ≡ room - length (words_of reached f n)
    not_reached_leaves h g = rw (words_not_reached h) g

  module _ (at m : ℕ) where
    pub failed_room : reached ≡ true → n ≡ f.number → Room at (words_of reached f n) m → Room at (failed_words f) m
    failed_room h e r = rw (words_failed h e) at r

    pub held_room : reached ≡ true → (n ≡ f.number → ⊥) → Room at (words_of reached f n) m → Room at (plain_words n (ascii " held")) m
    held_room h e r = rw (words_held h e) at r

    pub not_reached_room : reached ≡ false → Room at (words_of reached f n) m → Room at (plain_words n (ascii " not reached")) m
    not_reached_room h r = rw (words_not_reached h) at r

  module _ (l k : List ℕ) (i q : ℕ) where
    pub wrote_failed : reached ≡ true → n ≡ f.number → Wrote l k i q (failed_words f) → Wrote l k i q (words_of reached f n)
    wrote_failed h e w = rw (words_failed h e) w

    pub wrote_held : reached ≡ true → (n ≡ f.number → ⊥) → Wrote l k i q (plain_words n (ascii " held")) → Wrote l k i q (words_of reached f n)
    wrote_held h e w = rw (words_held h e) w

    pub wrote_not_reached : reached ≡ false → Wrote l k i q (plain_words n (ascii " not reached")) → Wrote l k i q (words_of reached f n)
    wrote_not_reached h w = rw (words_not_reached h) w

pub ruleset word_leaves = (failed_leaves, held_leaves, not_reached_leaves)

pub ruleset word_rooms = (failed_room, held_room, not_reached_room)

pub ruleset word_wrote = (wrote_failed, wrote_held, wrote_not_reached)

-- what the words of a failed line leave
module _ (f : Figures) (room : ℕ) where
  pub figures_leave : (p q r : ℕ) → p ≡ room - length (number_word (ascii " offset=") f.head.offset) →
      q ≡ p - length (number_word (ascii " length=") f.head.len) → r ≡ q - length (message_words f) → r ≡ room - length (figure_words f)
  unfolding figure_words
  figures_leave p q r i j k = simp length-append (omega arith)

  pub failed_leave : (p q r : ℕ) → p ≡ room - length (number_word (ascii "check ") f.number) →
      q ≡ p - length (number_word (ascii " failed field=") f.field) → r ≡ q - length (figure_words f) → r ≡ room - length (failed_words f)
  unfolding failed_words
  failed_leave p q r i j k = simp length-append (omega arith)

  pub message_leaves : (p q : ℕ) → p ≡ room - length (number_word (ascii " message=") f.message) → q ≡ p - length (pair_words f) →
      q ≡ room - length (message_words f)
  unfolding message_words
  message_leaves p q i j = simp length-append (omega arith)

-- and those of any other
pub plain_leaves : (word : List ℕ) (n room p q : ℕ) → p ≡ room - length (number_word (ascii "check ") n) → q ≡ p - length word →
    q ≡ room - length (plain_words n word)
unfolding plain_words
plain_leaves word n room p q i j = simp length-append (omega arith)

-- ---- the checks from a place on

module _ (f : Figures) (reached : Bool) (checks : List ℕ) (i : ℕ) where
  lines_next : i < length checks →
      lines_from reached f (drop i checks) ≡
      check_line reached f (get_or checks i 0) ++ lines_from (reached && not (eqb (get_or checks i 0) f.number)) f (drop (i + 1) checks)
  lines_next h = simp (drop-cons checks i 0 h, add-one)

  -- their length
  pub next_size : i < length checks →
      length (lines_from reached f (drop i checks)) ≡
      length (words_of reached f (get_or checks i 0)) + 1 + length (lines_from (reached && not (eqb (get_or checks i 0) f.number)) f (drop (i + 1) checks))
  unfolding check_line
  next_size h = simp (lines_next h, length-append)

  -- one more line is written
  module _ (l k all : List ℕ) (at q : ℕ) (w : Partly l k at q (lines_from reached f (drop i checks)) all) (h : i < length checks) where
    pub line_written : (m : List ℕ) (p : ℕ) → Wrote k m q p (check_line reached f (get_or checks i 0)) →
        Partly l m at p (lines_from (reached && not (eqb (get_or checks i 0) f.number)) f (drop (i + 1) checks)) all
    line_written m p v = goes_on l k _ _ at q w _ _ (lines_next h) m p v
