use Rattle.std.proofs.lemmas.Result.{err_from_is_err_and}
use Rattle.read_challenge.proofs.Laws.{timestamp_refused, timestamp_alone}
use Rattle.read_challenge.proofs.read_timestamp.Goals as goal

pub returns-in_err-read_full : goal.returns-in_err-read_full
returns-in_err-read_full c =
    let p = err_from_is_err_and c.from_residual.result c.from_residual.ensures.1 in
    rw (p.1, p.2) (timestamp_refused _ _ c.read_full.ensures _ c.in_err-read_full.was)

pub returns : goal.returns
returns c = timestamp_alone _ _ c.read_full.ensures _ c.in_ok-read_full.was
