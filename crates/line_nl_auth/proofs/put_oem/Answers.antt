-- The words are written one after the other.
use Rattle.place.proofs.Laws.{and_then}
use Rattle.line_nl_auth.proofs.put_oem.Goals as goal

pub returns : goal.returns
returns c = rw (← c.oem_words.ensures) (and_then _ _ _ _ _ _ _ _ c.put-p.ensures c.put.ensures)
