use Rattle.std.proofs.lemmas.Result.{err_from_is_err_and}
use Rattle.mic.proofs.Laws.{authenticate_taken, authenticate_not}
use Rattle.mic.proofs.authenticate_verdict.Goals as goal

pub returns-in_err-a : goal.returns-in_err-a
returns-in_err-a c =
    let p = err_from_is_err_and c.from_residual.result c.from_residual.ensures.1 in
    rw (p.1, p.2) (authenticate_not _ _ c.read.ensures _ c.in_err-a.was)

pub returns : goal.returns
returns c = authenticate_taken _ _ c.read.ensures _ _ c.in_ok-a.was c.mic_verdict.ensures
