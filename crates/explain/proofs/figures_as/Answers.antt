use Rattle.verdict.proofs.Refusals.{fixed_there}
use Rattle.explain.proofs.figures_as.Goals as goal

pub head_as-requires : goal.head_as-requires
head_as-requires c = fixed_there _ _ _ _ c.read_as.ensures c.in-Err.is _ c.field.ensures
