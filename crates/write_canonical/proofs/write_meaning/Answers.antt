use Rattle.write_canonical.proofs.Laws.{meaning_answered, meaning_left}
use Rattle.write_canonical.proofs.write_meaning.Goals as goal

pub returns : goal.returns
returns c = record { answer = search meaning_answered depth 10 fits 40000; content = search meaning_left depth 10 fits 40000 }
