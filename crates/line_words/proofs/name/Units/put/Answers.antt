-- One more unit is written.
use Rattle.line_words.proofs.Names.{unit_written}
use Rattle.line_words.proofs.name.Units.put.Goals as goal

pub loop-u-preserved : goal.loop-u-preserved
loop-u-preserved c = search (unit_written, c.in-Some.ensures.steps)
