-- Laws of a text's pieces: they are the parts between its full stops, and a text with no full stop is one piece.
use Prim.Native.Nat.{ℕ, suc}
use mathlib.Core.Path.{◌≡◌, refl, ap, ◌∙◌}
use mathlib.Core.Bool.{Bool, true, false, cond}
use mathlib.Core.List.{List, [], ◌∷◌}
use native.Mathlib.Omega.{arith}
use lib.Dec.{eqb}
use lib.ListN.{length}
use Rattle.std.specs.List.{slice_split, onto_first}
use Rattle.write_dns_name.specs.Writing.{on_first, pieces, before_stop}

pub pieces_are : (t : List ℕ) → slice_split (λ b. eqb b 0x2E) t ≡ pieces t
unfolding pieces
pieces_are [] = refl
pieces_are (b ∷ t) = go (eqb b 0x2E) (pieces_are t) where
  on_first_lem : (ls : List (List ℕ)) → onto_first b ls ≡ on_first b ls
  on_first_lem [] = refl
  on_first_lem (l ∷ ls) = refl

  go : (x : Bool) → slice_split (λ b. eqb b 0x2E) t ≡ pieces t → cond x ([] ∷ slice_split (λ b. eqb b 0x2E) t) (onto_first b (slice_split (λ b. eqb b 0x2E) t)) ≡ cond x ([] ∷ pieces t) (on_first b (pieces t))
  go true e = ap (λ (ls : List (List ℕ)). [] ∷ ls) e
  go false e = ap (λ (ls : List (List ℕ)). onto_first b ls) e ∙ on_first_lem (pieces t)

pub last_piece : (t : List ℕ) → before_stop t ≡ length t → pieces t ≡ t ∷ []
unfolding before_stop pieces
last_piece [] h = refl
last_piece (b ∷ t) h = go (eqb b 0x2E) h (λ e. last_piece t e) where
  go : (x : Bool) → cond x 0 (suc (before_stop t)) ≡ suc (length t) → (before_stop t ≡ length t → pieces t ≡ t ∷ []) →
      cond x ([] ∷ pieces t) (on_first b (pieces t)) ≡ (b ∷ t) ∷ []
  go true e rest = absurd (omega (arith, e))
  go false e rest = simp (rest (omega (arith, e)))
