-- The texts of the bytes before `b` are written.
use Rattle.std.proofs.Common.{drop}
use Rattle.place.proofs.Parts.{Partly}
use Rattle.line_dns_name.specs.DnsNameText.{label_text}
use Rattle.line_dns_name.proofs.put_label.Given as goal

abbrev pub invariant-loop-b : goal.invariant-loop-b
invariant-loop-b l = Partly l.fn.out l.out l.initial.q.at l.q.at (label_text (drop l.b-index l.label)) (label_text l.label)
