use Rattle.std.proofs.lemmas.Result.{err_from_is_err_and}
use Rattle.av_pairs.proofs.Walks.{refused_alike, taken_alike}
use Rattle.av_pairs.proofs.check_pairs.Goals as goal

pub returns-in_err-count_pairs : goal.returns-in_err-count_pairs
returns-in_err-count_pairs c =
    let p = err_from_is_err_and c.from_residual.result c.from_residual.ensures.1 in
    rw (p.1, p.2) (refused_alike _ _ _ c.count_pairs.ensures c.in_err-count_pairs.was)

pub returns : goal.returns
returns c = taken_alike _ _ _ c.count_pairs.ensures c.in_ok-count_pairs.was
