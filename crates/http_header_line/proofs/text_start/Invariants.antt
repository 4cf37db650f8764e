use Rattle.http_header_line.proofs.Laws.{Skipped}
use Rattle.http_header_line.proofs.text_start.Given as goal

-- the spaces before i are passed over
abbrev pub invariant-loop-i : goal.invariant-loop-i
invariant-loop-i l = Skipped l.line l.i
