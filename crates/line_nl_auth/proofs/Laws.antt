-- Laws of the line's length and room.
use Prim.Native.Nat.{ℕ, ◌+◌, ◌-◌, ◌≤◌}
use mathlib.Core.Path.{◌≡◌}
use mathlib.Core.List.{List}
use native.Mathlib.Omega.{arith}
use lib.ListN.{length, length-append}
use Rattle.wire.specs.Text.{ascii}
use Rattle.read_nl_auth.specs.declared.NlAuth.{NlAuth}
use Rattle.wire.specs.declared.check.Checked.{Checked}
use Rattle.place.specs.Written.{room_holds}
use Rattle.line_words.specs.Words.{Room, number_word}
use Rattle.line_words.proofs.Calls.{of_left}
use Rattle.line_words.proofs.Labels.{flags_word_size}
use Rattle.line_nl_auth.specs.Nl.{nl_start, nl_oem, nl_utf8, nl_text}

module _ (s : List ℕ) (m : NlAuth) where
  pub nl_fits : (room t u : ℕ) (r : Checked) → t ≡ room - length (number_word (ascii "nl type=") m.message_type) →
      u ≡ t - (length (nl_oem s m) + length (nl_utf8 s m)) → r ≡ room_holds 16 u → r ≡ room_holds (length (nl_text s m)) room
  unfolding nl_text nl_start
  nl_fits room t u r e f h =
      of_left (nl_text s m) (length (number_word (ascii "nl type=") m.message_type) + (length (nl_oem s m) + length (nl_utf8 s m))) 16 room u r
      (simp (length-append, flags_word_size) (omega arith)) (omega arith) (omega arith) h

  pub nl_room : (at n : ℕ) → Room at (nl_text s m) n →
      at + (length (nl_start m.message_type m.flags.bits) + (length (nl_oem s m) + (length (nl_utf8 s m) + 1))) ≤ n
  unfolding nl_text
  nl_room at n r = omega (arith, simp length-append at r.fits)
