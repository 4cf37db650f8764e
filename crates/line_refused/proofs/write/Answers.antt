use Rattle.line_words.proofs.Calls.{its_bytes}
use Rattle.line_refused.specs.Refused.{refused_line}
use Rattle.line_refused.proofs.write.Goals as goal

pub returns-clause-content : goal.returns-clause-content
unfolding refused_line
returns-clause-content c = rw (← c.number.ensures, ← c.field.ensures, ← c.place.ensures) (search its_bytes)
