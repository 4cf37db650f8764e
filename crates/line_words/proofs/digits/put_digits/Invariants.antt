-- All but the first i digits are stored; those are the last i digits of `left`.
use Rattle.line_words.specs.Digits.{digits}
use Rattle.line_words.proofs.Numbers.{Lowest}
use Rattle.line_words.proofs.digits.put_digits.Given as goal

abbrev pub invariant-loop-i : goal.invariant-loop-i
invariant-loop-i g l =
    Lowest g.D.Digits.base l.fn.out l.out (digits g.D.Digits.base l.k (g.D.Digits.number l.fn.n)) l.i (g.D.Digits.number l.left)
