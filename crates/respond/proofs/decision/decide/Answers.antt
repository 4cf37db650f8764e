use Rattle.std.proofs.lemmas.Result.{err_from_is_err_and}
use Rattle.respond.proofs.Decisions.{undecided}
use Rattle.respond.proofs.decision.decide.Goals as goal

pub returns-in_err-f : goal.returns-in_err-f
returns-in_err-f c =
    let p = err_from_is_err_and c.from_residual.result c.from_residual.ensures.1 in
    rw (p.1, p.2) (undecided _ _ _ _ c.read_full.ensures c.in_err-f.was)
