-- Laws of the timestamp's word, of the line's length, and of what the reader found in the list.
use Rattle.std.specs.Prelude.{Option, Ok, Some, None}
use Prim.Native.Nat.{ℕ, ◌+◌, ◌-◌, ◌≤◌, ◌<◌}
use mathlib.Core.Path.{◌≡◌, refl, sym, ap}
use mathlib.Core.Bool.{Bool}
use mathlib.Core.List.{List}
use native.Mathlib.Omega.{arith}
use lib.ListN.{length, length-append}
use Rattle.wire.specs.Text.{ascii}
use Rattle.field.specs.Field.{field_bytes}
use Rattle.place.specs.Place.{Wrote}
use Rattle.place.proofs.Laws.{nothing}
use Rattle.negotiate_flags.specs.Flags.{unicode}
use Rattle.av_pairs.proofs.Walks.{few_pairs}
use Rattle.read_challenge.specs.declared.Challenge.{Challenge}
use Rattle.read_challenge.specs.declared.FullChallenge.{FullChallenge}
use Rattle.read_challenge.specs.Challenge.{info_of, full_reading_of}
use Rattle.read_challenge.proofs.Laws.{full_holds}
use Rattle.target_info.specs.declared.Contents.{Contents}
use Rattle.wire.specs.declared.check.Checked.{Checked}
use Rattle.line_max.proofs.Laws.{two_size}
use Rattle.place.specs.Written.{room_holds}
use Rattle.line_words.specs.Words.{Room, number_word, name_word}
use Rattle.line_words.proofs.Calls.{of_left}
use Rattle.line_words.proofs.Labels.{start_size}
use Rattle.line_words.proofs.Names.{field_small}
use Rattle.line_words.proofs.Numbers.{length-hex}
use Rattle.line_challenge.specs.Chal.{time_text, time_word, chal_end, chal_words, chal_text}

-- ---- its word

time_text_size : (t : ℕ) → length (time_text t) ≡ 22
unfolding time_text
time_text_size t = simp length-hex

pub time_text_room : (at n t : ℕ) → Room at (time_text t) n → at + 22 ≤ n
time_text_room at n t r = omega (arith, r.fits, time_text_size t)

module _ (w : Option ℕ) where
  module _ (t : ℕ) (h : w ≡ Some t) where
    pub time_size : 22 ≡ length (time_word w)
    unfolding time_word
    time_size = rw h (sym (time_text_size t))

    pub time_room : (at n : ℕ) → Room at (time_word w) n → Room at (time_text t) n
    unfolding time_word
    time_room at n r = rw h at r

    pub wrote_time : (l k : List ℕ) (i q : ℕ) → Wrote l k i q (time_text t) → Wrote l k i q (time_word w)
    unfolding time_word
    wrote_time l k i q v = rw h v

  module _ (h : w ≡ None) where
    pub no_time_size : 0 ≡ length (time_word w)
    unfolding time_word
    no_time_size = rw h

    pub wrote_no_time : (l : List ℕ) (i : ℕ) → Wrote l l i i (time_word w)
    unfolding time_word
    wrote_no_time l i = rw h (nothing l i)

-- ---- the line's length

module _ (unicode : Bool) (s : List ℕ) (c : Challenge) (pairs : ℕ) (time : Option ℕ) where
  abbrev target : List ℕ
  target = name_word (ascii " target=") unicode (field_bytes s c.fields.target_name)

  pub chal_fits : (room n p t : ℕ) (r : Checked) → n ≡ room - length target → p ≡ n - length (number_word (ascii " pairs=") pairs) →
      t ≡ length (time_word time) → r ≡ room_holds (25 + t + 8) p → r ≡ room_holds (length (chal_words unicode s c pairs time)) room
  unfolding chal_words chal_end
  chal_fits room n p t r e f g h =
      of_left (chal_words unicode s c pairs time) (length target + length (number_word (ascii " pairs=") pairs)) (25 + t + 8) room p r
      (simp (length-append, start_size, two_size) (omega arith)) (omega arith) (omega arith) h

-- ---- what the reader found in the list

module _ (s : List ℕ) (f : FullChallenge) (h : full_reading_of s ≡ Ok f) where
  pub count_fits : f.challenge.fields.target_info.len < 65536 → f.contents.pairs < 4294967296
  count_fits n =
      let l = info_of s f.challenge in
      omega (arith, ap (λ (x : Contents). x.pairs) (full_holds s (full_reading_of s) refl f h), few_pairs l, field_small s l f.challenge.fields.target_info refl)

  pub words_told : (b : Bool) → b ≡ unicode f.challenge.flags →
      chal_words b s f.challenge f.contents.pairs f.contents.timestamp ≡ chal_text s f.challenge
  unfolding chal_text
  words_told b p = simp (p, full_holds s (full_reading_of s) refl f h)
