-- What a program prints: the line where it has room, and else that of 33, which has.
use Rattle.std.specs.Prelude.{Ok}
use Prim.Native.Nat.{ℕ, ◌≤◌, ◌<◌}
use mathlib.Core.Path.{◌≡◌, refl}
use mathlib.Core.Bool.{Bool, true, false}
use mathlib.Core.List.{List, [], ◌∷◌, ◌++◌}
use lib.Dec.{leb}
use lib.ListN.{length}
use borrow.Author.Tests.{leb-true, leb-false, le-leb, lt-leb}
use Rattle.wire.specs.Text.{ascii}
use Rattle.wire.specs.declared.refusal.Refusal.TheVariants.{NoRoom}
use Rattle.place.specs.Written.{bytes_answer}
use Rattle.line_words.specs.Digits.{hex_digit, decimal_size, decimal}
use Rattle.line_words.specs.Words.{number_word}
use Rattle.line_refused.specs.Refused.{refused_end, refused_text, refused_line}
use Rattle.line.specs.Line.{shown_line}
use Rattle.demands.specs.Printed.{PrintedExactly}

-- the line of 33, by computation
refused_33 : refused_line NoRoom ≡ ascii "refused 33 field=0 at=0" ++ (0x0A ∷ [])
unfolding refused_line refused_text refused_end number_word decimal decimal_size hex_digit
refused_33 = refl

-- a line that has room is answered with its length
has_room : (line out : List ℕ) → length line ≤ length out → bytes_answer line out ≡ Ok (length line)
unfolding bytes_answer
has_room line out h = simp (le-leb (length line) (length out) h)

module _ (line out : List ℕ) where
  shows_whole : length line ≤ length out → shown_line line out ≡ line
  unfolding shown_line
  shows_whole h = simp (le-leb (length line) (length out) h)

  shows_33 : length out < length line → shown_line line out ≡ ascii "refused 33 field=0 at=0" ++ (0x0A ∷ [])
  unfolding shown_line
  shows_33 h = simp (lt-leb (length line) (length out) h) refused_33

  shows_some : 24 ≤ length out → bytes_answer (shown_line line out) out ≡ Ok (length (shown_line line out))
  shows_some h = go (leb (length line) (length out)) refl where
    go : (b : Bool) → leb (length line) (length out) ≡ b → bytes_answer (shown_line line out) out ≡ Ok (length (shown_line line out))
    go true e =
        let l : length line ≤ length out = leb-true (length line) (length out) e in
        has_room (shown_line line out) out (simp (shows_whole l) l)
    go false e =
        let s = shows_33 (leb-false (length line) (length out) e) in
        has_room (shown_line line out) out (simp s h)

pub printed_exactly : PrintedExactly
printed_exactly line out = record { whole = shows_whole line out; instead = shows_33 line out; always = shows_some line out }
