-- Laws of strings A and B: the search for the zero byte, and where a string ends.
use Rattle.std.specs.Prelude.{Option, Some, None, unwrap_or, not}
use Rattle.std.specs.List.{position_or_len}
use Rattle.std.proofs.lemmas.List.Recursion.{is_position_or_len}
use Rattle.std.proofs.lemmas.List.Sums.{prefix_len-le-length}
use lib.Dec.{eqb, ltb}
use Prim.Native.Nat.{ℕ, ◌+◌, ◌≤◌}
use mathlib.Core.Path.{◌≡◌, refl, sym, ◌∙◌, subst}
use mathlib.Core.Bool.{Bool, true, false, cond}
use mathlib.Core.List.{List}
use native.Mathlib.Numerals.{one-add}
use native.Mathlib.Omega.{arith}
use lib.ListN.{length, drop, length-drop}
use borrow.Author.Tests.{ltb-true, ltb-false}
use Rattle.read_nl_auth.specs.declared.string.NlString.{NlString}
use Rattle.read_nl_auth.specs.NlAuth.{string_length, holds_zero, string_at, string_under}

-- the string's length, by the place of its zero byte
by_place : (s : List ℕ) → string_length s ≡ position_or_len (λ b. eqb b 0) s
by_place s = is_position_or_len string_length (λ b. eqb b 0) refl (λ x xs. rw one-add) s

pub counted : (s : List ℕ) (o : Option ℕ) →
    o ≡ cond (ltb (position_or_len (λ b. eqb b 0) s) (length s)) (Some (position_or_len (λ b. eqb b 0) s)) None →
    unwrap_or o (length s) ≡ string_length s
counted s o e = rw (e, by_place s) (go (ltb n (length s)) refl) where
  n : ℕ
  n = position_or_len (λ b. eqb b 0) s

  go : (t : Bool) → ltb n (length s) ≡ t → unwrap_or (cond t (Some n) None) (length s) ≡ n
  go true h = refl
  go false h = omega (arith, ltb-false n (length s) h, prefix_len-le-length (λ b. not (eqb b 0)) s)

-- after a string that was found the next one starts within the message, and not before it
abbrev Within : List ℕ → ℕ → Option (NlString × ℕ) → Type 0
Within s at (Some (w, n)) = (at ≤ n) × (n ≤ length s)
Within s at None = Unit {0}

within : (s : List ℕ) (at : ℕ) (set : Bool) → at ≤ length s → Within s at (string_under set s at)
unfolding string_under string_at
within s at false l = (omega arith, l)
within s at true l = go (holds_zero (drop at s)) refl where
  go : (t : Bool) → holds_zero (drop at s) ≡ t →
      Within s at (cond {A = Option (NlString × ℕ)} t (Some (record { offset = at; len = string_length (drop at s); jumps = 0 }, at + string_length (drop at s) + 1)) None)
  go false e = tt
  go true e = (omega arith, omega (arith, simp length-drop at (ltb-true (string_length (drop at s)) (length (drop at s)) e)))

pub onward : (s : List ℕ) (at : ℕ) (set : Bool) (r : Option (NlString × ℕ)) (w : NlString) (n : ℕ) →
    r ≡ string_under set s at → r ≡ Some (w, n) → at ≤ length s → (at ≤ n) × (n ≤ length s)
onward s at set r w n e h l = subst (λ x. Within s at x) (sym e ∙ h) (within s at set l)
