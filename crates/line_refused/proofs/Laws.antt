-- Laws of a refusal's line.
use Prim.Native.Nat.{ℕ, ◌+◌, ◌-◌}
use mathlib.Core.Path.{◌≡◌}
use native.Mathlib.Omega.{arith}
use lib.ListN.{length, length-append}
use Rattle.wire.specs.Text.{ascii}
use Rattle.wire.specs.declared.check.Checked.{Checked}
use Rattle.place.specs.Written.{room_holds}
use Rattle.line_words.specs.Words.{number_word}
use Rattle.line_words.proofs.Calls.{of_left}
use Rattle.line_refused.specs.Refused.{refused_end, refused_text}

-- check 33 by what the words leave
pub refused_fits : (n f at room p q v : ℕ) (r : Checked) → p ≡ room - length (number_word (ascii "refused ") n) →
    q ≡ p - length (number_word (ascii " field=") f) → v ≡ q - length (number_word (ascii " at=") at) → r ≡ room_holds 1 v →
    r ≡ room_holds (length (refused_text n f at)) room
unfolding refused_text refused_end
refused_fits n f at room p q v r e g k h =
    of_left (refused_text n f at) (length (number_word (ascii "refused ") n) + length (number_word (ascii " field=") f) + length (number_word (ascii " at=") at)) 1 room v r
    (simp length-append (omega arith)) (omega arith) (omega arith) h
