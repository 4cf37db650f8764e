use Rattle.read_dns_name.proofs.Walks.{room}
use Rattle.line_dns_name.proofs.Names.{Sizing}
use Rattle.line_dns_name.proofs.name_size.Given as goal

abbrev pub invariant-loop-step : goal.invariant-loop-step
invariant-loop-step l = Sizing l.buf l.start l.c l.first l.size

abbrev pub decreases-loop-step : goal.decreases-loop-step
decreases-loop-step l = room l.c
