use Rattle.read_challenge.proofs.Laws.{info_clear}
use Rattle.respond.specs.Decision.{decision_on}
use Rattle.respond.proofs.Decisions.{decision, read_as}
use Rattle.respond.proofs.decision.decide_on.Goals as goal

pub returns-in_default : goal.returns-in_default
unfolding decision_on
returns-in_default c = search decision depth 10 fits 40000

pub names_hold-requires : goal.names_hold-requires
names_hold-requires c = search (info_clear, read_as)

pub returns-in_default-names_hold : goal.returns-in_default-names_hold
unfolding decision_on
returns-in_default-names_hold c = search decision depth 10 fits 40000

pub returns : goal.returns
unfolding decision_on
returns c = search decision depth 10 fits 40000
