use Rattle.place.proofs.Laws.{and_then}
use Rattle.line_refused.specs.Refused.{refused_text}
use Rattle.line_refused.proofs.Shown.put.Goals as goal

pub returns : goal.returns
unfolding refused_text
returns c = rw (← c.from.ensures, ← c.from-2.ensures) (search and_then)
