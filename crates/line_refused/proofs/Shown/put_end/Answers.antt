use Rattle.place.proofs.Laws.{and_then}
use Rattle.line_refused.specs.Refused.{refused_end}
use Rattle.line_refused.proofs.Shown.put_end.Goals as goal

pub returns : goal.returns
unfolding refused_end
returns c = search and_then
