use Rattle.batch.proofs.Laws.{marked, unmarked}
use Rattle.batch.proofs.read_marked.Goals as goal

pub returns-in_err-kind : goal.returns-in_err-kind
returns-in_err-kind c = unmarked c.args.mark c.args.msg.now _ c.try_from.ensures _ _ c.from_residual.ensures.1 c.in_err-kind.was

pub returns : goal.returns
returns c = marked c.args.mark c.args.msg.now _ c.try_from.ensures _ _ c.in_ok-kind.was c.read_as.ensures
