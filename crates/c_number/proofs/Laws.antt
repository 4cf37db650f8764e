-- Laws of answers, and of what is handed out, that are known to be others.
use Rattle.std.specs.Prelude.{Result, Ok, Err, ⊤}
use Prim.Native.Nat.{ℕ}
use mathlib.Core.Path.{◌≡◌, sym, ◌∙◌}
use mathlib.Core.Bool.{Bool, true, false}
use mathlib.Core.List.{List}
use native.Mathlib.Omega.{arith}
use lib.Dec.{leb}
use lib.ListN.{length}
use Rattle.wire.specs.declared.refusal.Refusal.{Refusal}
use Rattle.wire.specs.declared.refusal.Refusal.TheVariants.{NoRoom}
use Rattle.wire.specs.Check.{checked, after}
use Rattle.place.specs.Written.{answered, bytes_answer, bytes_after}
use Rattle.c_number.specs.Number.{verdict_number, written_number}

-- the number of what is known to be something else
pub of_verdict : (r : ℕ) (v w : Result ⊤ Refusal) → r ≡ verdict_number v → v ≡ w → r ≡ verdict_number w
of_verdict r v w p q = rw (← q) p

pub of_written : (r : ℕ) (v w : Result ℕ Refusal) → r ≡ written_number v → v ≡ w → r ≡ written_number w
of_written r v w p q = rw (← q) p

-- a line is refused by 33 alone
pub no_room : (v : Result ℕ Refusal) (line out : List ℕ) → v ≡ bytes_answer line out → (e : Refusal) → v ≡ Err e → e ≡ NoRoom
unfolding bytes_answer
no_room v line out p e q = go (leb (length line) (length out)) (sym p ∙ q) where
  go : (b : Bool) → answered (after (checked b) (Err NoRoom) (Ok tt)) line ≡ Err e → e ≡ NoRoom
  go true h = absurd (let z : ◌≡◌ {A = ℕ} 0 1 = cc in omega arith)
  go false h = cc

-- bytes that were copied, known to be others
module _ (xs ys out : List ℕ) (q : xs ≡ ys) where
  pub of_copied : (r : ℕ) (v : Result ℕ Refusal) → r ≡ written_number v → v ≡ bytes_answer xs out → r ≡ written_number (bytes_answer ys out)
  of_copied r v p e = rw (← q, ← e) p

  pub of_copy : (k : List ℕ) → k ≡ bytes_after xs out → k ≡ bytes_after ys out
  of_copy k e = rw (← q) e
