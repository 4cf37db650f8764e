-- How long the line of CHALLENGE is at most, by the length of its name.
use Rattle.std.specs.Prelude.{Option, Some, None}
use Prim.Native.Nat.{ℕ, ◌+◌, ◌*◌, ◌≤◌}
use mathlib.Core.Path.{refl}
use mathlib.Core.Bool.{Bool}
use mathlib.Core.List.{List}
use native.Mathlib.Omega.{arith}
use lib.ListN.{length, length-append}
use Rattle.wire.specs.Text.{ascii}
use Rattle.read_challenge.specs.declared.Challenge.{Challenge}
use Rattle.line_words.specs.Words.{number_word}
use Rattle.line_words.proofs.Labels.{start_size, name_word_bound}
use Rattle.line_challenge.specs.Chal.{time_word, chal_end, chal_words}
use Rattle.line_challenge.proofs.Laws.{time_size}
use Rattle.line_max.proofs.Laws.{two_size}

time_bound : (w : Option ℕ) → length (time_word w) ≤ 22
unfolding time_word
time_bound (Some t) = omega (arith, time_size (Some t) t refl)
time_bound None = omega arith

pub chal_bound : (unicode : Bool) (s : List ℕ) (c : Challenge) (pairs : ℕ) (time : Option ℕ) →
    length (chal_words unicode s c pairs time) ≤ 63 + length (number_word (ascii " pairs=") pairs) + 4 * c.fields.target_name.len
unfolding chal_words chal_end
chal_bound unicode s c pairs time =
    simp (length-append, start_size, two_size)
    (omega (arith, time_bound time, name_word_bound (ascii " target=") s unicode c.fields.target_name))
