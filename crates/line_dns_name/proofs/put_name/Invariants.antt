use Rattle.read_dns_name.proofs.Walks.{room}
use Rattle.line_dns_name.proofs.Names.{Writing}
use Rattle.line_dns_name.proofs.put_name.Given as goal

abbrev pub invariant-loop-step : goal.invariant-loop-step
invariant-loop-step l = Writing l.fn.out l.out l.buf l.start l.fn.p.at l.q.at l.c l.first

abbrev pub decreases-loop-step : goal.decreases-loop-step
decreases-loop-step l = room l.c
