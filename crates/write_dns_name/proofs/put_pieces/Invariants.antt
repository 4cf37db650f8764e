use Rattle.std.proofs.Common.{length}
use Rattle.write_dns_name.specs.Writing.{pieces}
use Rattle.write_dns_name.proofs.Coding.{Coding}
use Rattle.write_dns_name.proofs.put_pieces.Given as goal

abbrev pub invariant-loop-label : goal.invariant-loop-label
invariant-loop-label l =
    (goal.iterator-loop-label).can_next l.label-iterator ×
    (goal.iterator-loop-label).is_finite l.label-iterator ×
    Coding l.fn.out l.out (pieces l.text) l.fn.p.at l.p.at (length l.yielded)
