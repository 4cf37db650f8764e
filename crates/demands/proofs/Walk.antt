-- Every asking of a walk, by the theorem of `av_pairs`.
use Rattle.av_pairs.proofs.Askings.{every_asking}
use Rattle.demands.specs.Walk.{WalkAnswers}

pub walk_answers : WalkAnswers
walk_answers list k = every_asking list k
