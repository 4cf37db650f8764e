-- The words are written one after the other.
use Rattle.place.proofs.Laws.{and_then}
use Rattle.line_nl_auth.proofs.put_utf8.Goals as goal

pub returns : goal.returns
returns c = rw (← c.utf8_words.ensures) (and_then _ _ _ _ _ _ _ _ c.put-p.ensures (and_then _ _ _ _ _ _ _ _ c.put-p-2.ensures c.put.ensures))
