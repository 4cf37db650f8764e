-- What the calls over a pair list hand out, as numbers in the order that the header names them.
use Rattle.wire.specs.declared.refusal.Refusal.{Refusal}
use Rattle.std.specs.Prelude.{Result, Option, Ok, Err, Some, None, ℕ, List, [], ◌∷◌}
use Rattle.av_pairs.specs.declared.Asked.{Asked}
use Rattle.av_pairs.specs.declared.AvPair.{AvPair}
use Rattle.c_number.specs.Outcome.{Outcome, numbers, refused}

-- how many pairs
abbrev pub count_outcome : Result ℕ Refusal → Outcome
count_outcome (Ok n) = numbers (n ∷ [])
count_outcome (Err e) = refused e

-- whether one is there, and its value's place and length
unfoldable pub found_numbers : Option AvPair → List ℕ
found_numbers (Some p) = 1 ∷ p.at ∷ p.len ∷ []
found_numbers None = 0 ∷ 0 ∷ 0 ∷ []

abbrev pub search_outcome : Result (Option AvPair) Refusal → Outcome
search_outcome (Ok f) = numbers (found_numbers f)
search_outcome (Err e) = refused e

-- whether a pair is there, its id, its value's place and length, and where to ask next
unfoldable pub pair_numbers : AvPair → ℕ → List ℕ
pair_numbers p next = 1 ∷ p.id.id ∷ p.at ∷ p.len ∷ next ∷ []

abbrev pub step_outcome : Result (Option AvPair) Refusal → ℕ → Outcome
step_outcome (Ok (Some p)) next = numbers (pair_numbers p next)
step_outcome (Ok None) next = numbers (0 ∷ 0 ∷ 0 ∷ 0 ∷ next ∷ [])
step_outcome (Err e) next = refused e

abbrev pub asked_outcome : Asked → Outcome
asked_outcome a = step_outcome a.step a.next
