-- The digits of the fields before f are written.
use Rattle.std.proofs.Common.{map, drop}
use Rattle.place.proofs.Parts.{Partly}
use Rattle.line_max.specs.Max.{max_digit}
use Rattle.line_max.proofs.put_digits.Given as goal

abbrev pub invariant-loop-f : goal.invariant-loop-f
invariant-loop-f l = Partly l.fn.out l.out l.fn.p.at l.p.at (map max_digit (drop l.f-index l.fields)) (map max_digit l.fields)
