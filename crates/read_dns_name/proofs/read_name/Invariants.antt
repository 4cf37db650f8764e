use Rattle.read_dns_name.proofs.Walks.{room, Reached}
use Rattle.read_dns_name.proofs.read_name.Given as goal

abbrev pub invariant-loop-n : goal.invariant-loop-n
invariant-loop-n l = Reached l.buf l.start l.c

abbrev pub decreases-loop-n : goal.decreases-loop-n
decreases-loop-n l = room l.c
