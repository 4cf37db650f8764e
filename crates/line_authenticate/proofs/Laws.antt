-- Laws of the line's length.
use Prim.Native.Nat.{ℕ, ◌+◌, ◌-◌, ◌*◌, ◌≤◌, ◌<◌}
use mathlib.Core.Path.{◌≡◌}
use mathlib.Core.Bool.{Bool, true}
use mathlib.Core.List.{List, ◌++◌}
use native.Mathlib.Omega.{arith}
use lib.Dec.{leb}
use lib.ListN.{length, length-append}
use Rattle.wire.specs.Text.{ascii}
use Rattle.negotiate_flags.specs.Flags.{unicode}
use Rattle.read_authenticate.specs.declared.Authenticate.{Authenticate}
use Rattle.wire.specs.declared.check.Checked.{Checked}
use Rattle.wire.specs.declared.check.Checked.TheVariants.{Held}
use Rattle.place.specs.Place.{Wrote}
use Rattle.place.specs.Written.{room_holds}
use Rattle.line_words.specs.Words.{Room, kind_word, start_text}
use Rattle.line_max.proofs.Laws.{six_size}
use Rattle.line_words.proofs.Calls.{of_left, of_most}
use Rattle.line_words.proofs.Labels.{start_size, mic_size, name_word_bound, number_word_bound, kind_bound}
use Rattle.line_authenticate.specs.Auth.{auth_names, auth_lengths, auth_end, auth_text}

-- a length has 16 bits, and so at most five digits
pub lengths_bound : (lm nt key : ℕ) → lm < 65536 → nt < 65536 → key < 65536 → 73 + length (auth_lengths lm nt key) ≤ 101
unfolding auth_lengths
lengths_bound lm nt key l n k =
    simp length-append
    (omega (
      arith,
      number_word_bound (ascii " lm=") 4 lm (omega arith),
      number_word_bound (ascii " nt=") 4 nt (omega arith),
      number_word_bound (ascii " key=") 4 key (omega arith),
    ))

module _ (s : List ℕ) (a : Authenticate) where
  abbrev pub lengths : List ℕ
  lengths = auth_lengths a.fields.lm.len a.fields.nt.len a.fields.key.len

  pub auth_bound : length (auth_text s a) ≤ 73 + length lengths + 4 * (a.fields.domain.len + a.fields.user.len + a.fields.workstation.len)
  unfolding auth_text auth_names auth_end
  auth_bound =
      simp (length-append, start_size, mic_size, six_size)
      (omega (
        arith,
        kind_bound a.fields.nt.len,
        name_word_bound (ascii " domain=") s (unicode a.flags) a.fields.domain,
        name_word_bound (ascii " user=") s (unicode a.flags) a.fields.user,
        name_word_bound (ascii " work=") s (unicode a.flags) a.fields.workstation,
      ))

  pub auth_surely_fits : (room n : ℕ) (b : Bool) → 73 + length lengths ≤ n →
      b ≡ leb (n + 4 * (a.fields.domain.len + a.fields.user.len + a.fields.workstation.len)) room → b ≡ true →
      Held ≡ room_holds (length (auth_text s a)) room
  auth_surely_fits room n b l e h =
      of_most (auth_text s a) (n + 4 * (a.fields.domain.len + a.fields.user.len + a.fields.workstation.len)) room b
      (omega (arith, l, auth_bound)) e h

  -- by the answer to the question which units the names have
  module _ (b : Bool) (g : b ≡ unicode a.flags) where
    abbrev names : List ℕ
    names = auth_names b s a.fields.domain a.fields.user a.fields.workstation

    pub auth_fits : (room n l k : ℕ) (r : Checked) → n ≡ room - length names → l ≡ n - length lengths → k ≡ length (kind_word a.fields.nt.len) →
        r ≡ room_holds (25 + 6 + k + 12) l → r ≡ room_holds (length (auth_text s a)) room
    unfolding auth_text auth_end
    auth_fits room n l k r e f h p =
        of_left (auth_text s a) (length names + length lengths) (25 + 6 + k + 12) room l r
        (simp (length-append, start_size, mic_size, six_size, ← g) (omega arith)) (omega arith) (omega arith) p

    pub auth_room : (at n : ℕ) → Room at (auth_text s a) n →
        at + (length (start_text (ascii "auth") a.flags b) + (length names + (length lengths + length (auth_end a.mic_present a.fields)))) ≤ n
    unfolding auth_text
    auth_room at n r = omega (arith, simp (length-append, ← g) at r.fits)

    pub auth_wrote : (l k : List ℕ) (i q : ℕ) →
        Wrote l k i q (start_text (ascii "auth") a.flags b ++ (names ++ (lengths ++ auth_end a.mic_present a.fields))) →
        Wrote l k i q (auth_text s a)
    unfolding auth_text
    auth_wrote l k i q w = rw (← g) w
