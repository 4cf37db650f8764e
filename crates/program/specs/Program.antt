-- What a program prints, said of the call that makes its text.
use Rattle.std.specs.Prelude.{◌≡◌, ℕ, ◌≤◌, List, Result, Ok, take, length}
use Rattle.std.specs.Fn.{Once}
use Rattle.std.specs.Borrow.{Bor, MutBor}

module _ {F E : Type 0} (g : Once F (Bor (List ℕ) × (MutBor (List ℕ) × Unit {0})) (Result ℕ E × (MutBor (List ℕ) × Unit {0}))) (f : F) where
  -- a length that a call answers lies within the output
  abbrev pub Within : Type 0
  Within = (message : Bor (List ℕ)) (out : MutBor (List ℕ)) (n : ℕ) (left : MutBor (List ℕ)) → g.post f (message, (out, tt)) (Ok n, (left, tt)) → n ≤ length left.now

  -- a call on the message and the output put this text at the output's start, and P holds of the text
  pub record Printed (message out : List ℕ) (P : List ℕ → Type 0) : Type 0 where
    pub shown : Bor (List ℕ)
    pub shows : shown.now ≡ message
    pub lent : MutBor (List ℕ)
    pub lends : lent.now ≡ out
    pub len : ℕ
    pub left : MutBor (List ℕ)
    pub met : g.post f (shown, (lent, tt)) (Ok len, (left, tt))
    pub said : P (take len left.now)
