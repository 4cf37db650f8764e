-- The size so far and that of the bytes from `b` on make the whole.
use Rattle.std.proofs.Common.{◌≡◌, ◌+◌, ◌*◌, ◌≤◌, drop, length}
use Rattle.line_dns_name.specs.DnsNameText.{label_text}
use Rattle.line_dns_name.proofs.label_size.Given as goal

abbrev pub invariant-loop-b : goal.invariant-loop-b
invariant-loop-b l = (l.size ≤ 4 * l.b-index) × (l.size + length (label_text (drop l.b-index l.label)) ≡ length (label_text l.label))
