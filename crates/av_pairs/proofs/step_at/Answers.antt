use Rattle.av_pairs.specs.AvPairs.{step_at, left}
use Rattle.av_pairs.proofs.Steps.{stepping}
use Rattle.av_pairs.proofs.step_at.Goals as goal

pub returns-then-list-eq0 : goal.returns-then-list-eq0
unfolding step_at
returns-then-list-eq0 c = search stepping

pub returns-in_default : goal.returns-in_default
unfolding step_at left
returns-in_default c = search stepping

pub returns : goal.returns
unfolding step_at left
returns c = search stepping
