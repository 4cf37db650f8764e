use Rattle.std.proofs.lemmas.Result.{err_from_is_err_and}
use Rattle.read_challenge.proofs.Laws.{full_refused, full_unlisted, full_taken}
use Rattle.read_challenge.proofs.read_full.Goals as goal

pub returns-in_err-challenge : goal.returns-in_err-challenge
returns-in_err-challenge c =
    let p = err_from_is_err_and c.from_residual.result c.from_residual.ensures.1 in
    rw (p.1, p.2) (full_refused _ _ c.fields_of.ensures _ c.in_err-challenge.was)

pub returns-in_err-contents : goal.returns-in_err-contents
returns-in_err-contents c =
    let p = err_from_is_err_and c.from_residual-in_err-contents.result c.from_residual-in_err-contents.ensures.1 in
    rw (p.1, p.2) (full_unlisted _ _ c.fields_of.ensures _ c.in_ok-challenge.was _ c.read_info.ensures _ c.in_err-contents.was)

pub returns : goal.returns
returns c = full_taken _ _ c.fields_of.ensures _ c.in_ok-challenge.was _ c.read_info.ensures _ c.in_ok-contents.was
