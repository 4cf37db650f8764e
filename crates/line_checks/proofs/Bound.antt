-- How long the lines of checks are at most: 111 bytes for the check that failed, and 22 for any other.
use Prim.Native.Nat.{ℕ, suc, ◌+◌, ◌*◌, ◌≤◌, ◌<◌}
use mathlib.Core.Path.{◌≡◌}
use mathlib.Core.Bool.{Bool, true, false, ◌&&◌, not, cond}
use mathlib.Core.List.{List, [], ◌∷◌, ◌++◌}
use native.Mathlib.Omega.{arith}
use lib.Dec.{eqb, leb}
use lib.ListN.{length, get_or, length-append}
use borrow.Author.Tests.{le-leb, leb-true}
use Rattle.wire.specs.Text.{ascii}
use Rattle.wire.specs.declared.check.Checked.TheVariants.{Held}
use Rattle.wire.proofs.Bools.{and_left, and_right}
use Rattle.place.specs.Written.{room_holds}
use Rattle.line_words.specs.Words.{line_end}
use Rattle.line_words.proofs.Labels.{number_word_bound}
use Rattle.line_checks.specs.declared.Figures.{Figures}
use Rattle.line_checks.specs.Checks.{plain_words, about_pair, pair_figures, pair_words, message_words, figure_words, failed_words, words_of, check_line, lines_from, check_lines}

-- the figures are numbers of their types
pub record Typed (f : Figures) : Type 0 where
  pub number : f.number < 256
  pub field : f.field < 256
  pub offset : f.head.offset < 4294967296
  pub len : f.head.len < 65536
  pub message : f.message < 4294967296
  pub at : f.at < 4294967296
  pub id : f.id < 65536
  pub size : f.size < 65536

module _ (f : Figures) (t : Typed f) where
  pair_bound : length (pair_words f) ≤ 34
  unfolding pair_words pair_figures
  pair_bound = go (about_pair f.number) where
    go : (b : Bool) → length (cond b (pair_figures f) []) ≤ 34
    go true =
        simp length-append
        (omega (
          arith,
          number_word_bound (ascii " at=") 9 f.at (omega (arith, t.at)),
          number_word_bound (ascii " id=") 4 f.id (omega (arith, t.id)),
          number_word_bound (ascii " size=") 4 f.size (omega (arith, t.size)),
        ))
    go false = omega arith

  failed_bound : length (failed_words f) ≤ 110
  unfolding failed_words figure_words message_words
  failed_bound =
      simp length-append
      (omega (
        arith,
        number_word_bound (ascii "check ") 2 f.number (omega (arith, t.number)),
        number_word_bound (ascii " failed field=") 2 f.field (omega (arith, t.field)),
        number_word_bound (ascii " offset=") 9 f.head.offset (omega (arith, t.offset)),
        number_word_bound (ascii " length=") 4 f.head.len (omega (arith, t.len)),
        number_word_bound (ascii " message=") 9 f.message (omega (arith, t.message)),
        pair_bound,
      ))

  plain_bound : (n : ℕ) (word : List ℕ) → n < 256 → length word ≤ 12 → length (plain_words n word) ≤ 21
  unfolding plain_words
  plain_bound n word h l = simp length-append (omega (arith, number_word_bound (ascii "check ") 2 n (omega arith)))

  -- what a line may have beyond 22 bytes, while the check that failed can still come
  abbrev beyond : Bool → ℕ
  beyond reached = cond reached 89 0

  line_bound : (reached : Bool) (n : ℕ) → n < 256 →
      length (check_line reached f n) + beyond (reached && not (eqb n f.number)) ≤ 22 + beyond reached
  unfolding check_line words_of
  line_bound true n h = go (eqb n f.number) where
    go : (b : Bool) → length (cond b (failed_words f) (plain_words n (ascii " held")) ++ line_end) + beyond (not b) ≤ 22 + 89
    go true = simp length-append (omega (arith, failed_bound))
    go false = simp length-append (omega (arith, plain_bound n (ascii " held") h (omega arith)))
  line_bound false n h = simp length-append (omega (arith, plain_bound n (ascii " not reached") h (omega arith)))

  lines_bound : (reached : Bool) (checks : List ℕ) → ((i : ℕ) → get_or checks i 0 < 256) →
      length (lines_from reached f checks) ≤ 22 * length checks + beyond reached
  lines_bound reached [] small = omega arith
  lines_bound reached (n ∷ checks) small =
      simp length-append
      (omega (
        arith,
        line_bound reached n (small 0),
        lines_bound (reached && not (eqb n f.number)) checks (λ i. small (suc i)),
      ))

  pub lines_have_room : (checks : List ℕ) (room : ℕ) → ((i : ℕ) → get_or checks i 0 < 256) → leb (length checks) 13 && leb 375 room ≡ true →
      Held ≡ room_holds (length (check_lines f checks)) room
  unfolding check_lines
  lines_have_room checks room small h =
      let few : length checks ≤ 13 = leb-true (length checks) 13 (and_left (leb (length checks) 13) (leb 375 room) h) in
      let much : 375 ≤ room = leb-true 375 room (and_right (leb (length checks) 13) (leb 375 room) h) in
      simp (le-leb (length (lines_from true f checks)) room (omega (arith, few, much, lines_bound true checks small)))
