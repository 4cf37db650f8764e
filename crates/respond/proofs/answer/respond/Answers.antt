use Rattle.std.proofs.lemmas.Result.{err_from_is_err_and}
use Rattle.read_challenge.proofs.Laws.{full-reads}
use Rattle.respond.proofs.Answers.{unread_stops, declined_stops, answers}
use Rattle.respond.proofs.answer.respond.Goals as goal

pub returns-in_err-f : goal.returns-in_err-f
returns-in_err-f c =
    let p = err_from_is_err_and c.from_residual.result c.from_residual.ensures.1 in
    rw (p.1, p.2) (unread_stops _ _ _ _ _ c.read_full.ensures c.in_err-f.was)

pub returns-in_err-d : goal.returns-in_err-d
returns-in_err-d c =
    let p = err_from_is_err_and c.from_residual-in_err-d.result c.from_residual-in_err-d.ensures.1 in
    rw (p.1, p.2) (declined_stops _ _ _ _ c.decide_on.ensures _ c.in_err-d.was)

pub domain_of-requires : goal.domain_of-requires
domain_of-requires c = full-reads _ _ c.read_full.ensures _ c.in_ok-f.was

pub returns : goal.returns
returns c = answers _ _ _ _ c.decide_on.ensures _ _ _ c.in_ok-d.was c.domain_of.ensures.content c.send.ensures
