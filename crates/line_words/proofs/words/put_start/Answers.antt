-- The label, the flags and the set.
use Rattle.line_words.specs.Words.{start_text}
use Rattle.place.proofs.Laws.{and_then}
use Rattle.line_words.proofs.words.put_start.Goals as goal

pub returns : goal.returns
unfolding start_text
returns c = search and_then
