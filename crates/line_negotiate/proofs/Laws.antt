-- Laws of the line's length.
use Prim.Native.Nat.{ℕ, ◌+◌, ◌-◌, ◌*◌, ◌≤◌}
use mathlib.Core.Path.{◌≡◌}
use mathlib.Core.Bool.{false}
use mathlib.Core.List.{List}
use native.Mathlib.Omega.{arith}
use lib.ListN.{length, length-append}
use Rattle.wire.specs.Text.{ascii}
use Rattle.read_negotiate.specs.declared.Negotiate.{Negotiate}
use Rattle.read_negotiate.specs.Negotiate.{all_fields}
use Rattle.wire.specs.declared.check.Checked.{Checked}
use Rattle.place.specs.Written.{room_holds}
use Rattle.line_words.specs.Words.{Room, flags_word}
use Rattle.line_max.specs.Max.{max_end}
use Rattle.line_max.proofs.Laws.{two_size}
use Rattle.line_words.proofs.Calls.{of_left}
use Rattle.line_words.proofs.Labels.{flags_word_size, name_word_bound}
use Rattle.line_negotiate.specs.Nego.{nego_names, nego_text}

module _ (s : List ℕ) (m : Negotiate) where
  pub nego_fits : (room left : ℕ) (r : Checked) → left ≡ room - length (nego_names s m) → r ≡ room_holds 27 left →
      r ≡ room_holds (length (nego_text s m)) room
  unfolding nego_text
  nego_fits room left r e h =
      of_left (nego_text s m) (length (nego_names s m)) 27 room left r (simp (length-append, flags_word_size, two_size) (omega arith)) (omega arith) e h

  abbrev pub most : ℕ
  most = 41 + 4 * (m.fields.domain.len + m.fields.workstation.len + 0)

  pub nego_bound : length (nego_text s m) ≤ most
  unfolding nego_text nego_names
  nego_bound =
      simp (length-append, flags_word_size, two_size)
      (omega (arith, name_word_bound (ascii " domain=") s false m.fields.domain, name_word_bound (ascii " work=") s false m.fields.workstation))

  pub nego_room : (at n : ℕ) → Room at (nego_text s m) n →
      at + (4 + (length (flags_word m.flags.bits) + (length (nego_names s m) + length (max_end (all_fields m.fields))))) ≤ n
  unfolding nego_text
  nego_room at n r = omega (arith, simp length-append at r.fits)
