-- `size` is one more than the digits of n that were passed over; those of `left` remain.
use Rattle.std.proofs.Common.{◌≡◌, ◌+◌, ◌≤◌}
use Rattle.line_words.specs.Digits.{decimal_size}
use Rattle.line_words.proofs.digits.decimal_size.Given as goal

abbrev pub invariant-loop-left : goal.invariant-loop-left
invariant-loop-left l = (l.size + decimal_size l.left ≡ decimal_size l.n + 1) × (l.size + l.left ≤ l.n + 1)

abbrev pub decreases-loop-left : goal.decreases-loop-left
decreases-loop-left l = l.left
