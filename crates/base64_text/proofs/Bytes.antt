-- What the tests over all bytes tell of one: what the code works out for a character is what the table has.
use Prim.Native.Nat.{ℕ, ◌<◌}
use mathlib.Core.Path.{◌≡◌}
use mathlib.Core.Bool.{true}
use lib.Dec.{eqb}
use Rattle.std.proofs.lemmas.Bool.{eqb-true, agree_below_at}
use Rattle.base64_text.specs.Base64.{is_letter, value_of}
use Rattle.base64_text.proofs.Alphabet.{worked_test, worked_value, bytes_test, values_test}

pub is_tested : (c : ℕ) → c < 256 → worked_test c ≡ is_letter c
is_tested c h = agree_below_at worked_test is_letter 256 c bytes_test h

pub worked_is : (c : ℕ) → c < 256 → worked_value c ≡ value_of c
worked_is c h = eqb-true (worked_value c) (value_of c) (agree_below_at (λ c. eqb (worked_value c) (value_of c)) (λ c. true) 256 c values_test h)
