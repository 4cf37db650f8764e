-- Laws of the call of a line: check 33 by what its words leave of the room.
use Rattle.std.specs.Prelude.{Result, Ok, Err}
use Rattle.wire.specs.declared.refusal.Refusal.{Refusal}
use Prim.Native.Nat.{ℕ, ◌+◌, ◌-◌, ◌≤◌, ◌<◌}
use mathlib.Core.Path.{◌≡◌, refl, sym, ap, ◌∙◌}
use mathlib.Core.Bool.{Bool, true, false}
use mathlib.Core.List.{List}
use native.Mathlib.Omega.{arith}
use lib.Dec.{leb}
use lib.ListN.{length}
use borrow.Author.Tests.{leb-true, leb-false, le-leb, lt-leb}
use Rattle.wire.specs.declared.check.Checked.{Checked}
use Rattle.wire.specs.declared.check.Checked.TheVariants.{Held, Failed}
use Rattle.wire.specs.declared.refusal.Refusal.TheVariants.{NoRoom}
use Rattle.wire.specs.Check.{checked}
use Rattle.wire.proofs.Laws.{held_true}
use Rattle.place.specs.Place.{Wrote}
use Rattle.place.specs.Written.{room_holds, bytes_hold, bytes_answer, bytes_after}
use Rattle.place.proofs.Writings.{written, stored}
use Rattle.line_words.specs.Words.{Room}

-- check 33 by what m bytes of a line leave for its other n: there are some, so that nothing left is no room
pub of_left : (line : List ℕ) (m n room left : ℕ) (r : Checked) → m + n ≡ length line → 0 < n → left ≡ room - m → r ≡ room_holds n left →
    r ≡ room_holds (length line) room
of_left line m n room left r e s f h = h ∙ ap checked (go (leb (length line) room) refl)
  where
    go : (t : Bool) → leb (length line) room ≡ t → leb n left ≡ leb (length line) room
    go true g = le-leb n left (omega (arith, leb-true (length line) room g)) ∙ sym g
    go false g = lt-leb n left (omega (arith, leb-false (length line) room g)) ∙ sym g

-- and of a line that surely fits, which has at most so many bytes
pub of_most : (line : List ℕ) (most room : ℕ) (b : Bool) → length line ≤ most → b ≡ leb most room → b ≡ true →
    Held ≡ room_holds (length line) room
of_most line most room b l e h = simp (le-leb (length line) room (omega (arith, l, leb-true most room (sym e ∙ h))))

module _ (line out : List ℕ) (r : Checked) (p : r ≡ room_holds (length line) (length out)) where
  pub has_room : r ≡ Held → Room 0 line (length out)
  has_room h =
      let fits : length line ≤ length out = leb-true (length line) (length out) (held_true (leb (length line) (length out)) (sym p ∙ h)) in
      record { fits = omega arith }

  clear : r ≡ Held → (Ok tt) ≡ bytes_hold line out
  clear h = simp (← p, h)

  refused : r ≡ Failed → Err NoRoom ≡ bytes_hold line out
  refused h = simp (← p, h)

  pub no_room : r ≡ Failed → Err NoRoom ≡ bytes_answer line out
  unfolding bytes_answer
  no_room h = simp (← refused h)

  pub as_it_was : r ≡ Failed → out ≡ bytes_after line out
  unfolding bytes_after
  as_it_was h = simp (← refused h)

  module _ (k : List ℕ) (q : ℕ) (h : r ≡ Held) (w : Wrote out k 0 q line) where
    pub its_length : Ok q ≡ bytes_answer line out
    unfolding bytes_answer
    its_length = written (bytes_hold line out) (Ok tt) (clear h) refl out k line q w

    pub its_bytes : k ≡ bytes_after line out
    unfolding bytes_after
    its_bytes = stored (bytes_hold line out) (Ok tt) (clear h) refl out k line q w (omega (arith, (has_room h).fits))

-- the call of one line is that of another that is the same
module _ (x y out : List ℕ) where
  pub same_answer : (r : Result ℕ Refusal) → r ≡ bytes_answer x out → x ≡ y → r ≡ bytes_answer y out
  same_answer r h e = rw (← e) h

  pub same_after : (k : List ℕ) → k ≡ bytes_after x out → x ≡ y → k ≡ bytes_after y out
  same_after k h e = rw (← e) h

pub ruleset same_line = (same_answer, same_after)
