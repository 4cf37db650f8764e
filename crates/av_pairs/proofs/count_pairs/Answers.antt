use Rattle.std.proofs.Common.{rules}
use Rattle.std.proofs.lemmas.Result.{err_from_is_err_and}
use Rattle.av_pairs.proofs.Walks.{count_none, end_fits, count_fits, falls, count_one, count_end, count_fault, two_in}
use Rattle.av_pairs.proofs.count_pairs.Goals as goal

pub loop-p-init : goal.loop-p-init
loop-p-init c = count_none _

pub returns-in_err-p : goal.returns-in_err-p
returns-in_err-p c =
    let p = err_from_is_err_and c.from_residual.result c.from_residual.ensures.1 in
    rw (p.1, p.2) (count_fault _ _ _ c.loop-p.invariant _ c.step_at.ensures _ c.in_err-p.was)

pub overflow_add-at : goal.overflow_add-at
overflow_add-at c = end_fits _ _ _ c.step_at.ensures _ (two_in _ _ _ c.in_ok-p.was c.in-Some.is) (search rules)

pub overflow_add-n : goal.overflow_add-n
overflow_add-n c = count_fits _ _ _ c.loop-p.invariant _ c.step_at.ensures _ (two_in _ _ _ c.in_ok-p.was c.in-Some.is) (search rules)

pub loop-p-smaller : goal.loop-p-smaller
loop-p-smaller c = falls _ _ _ c.step_at.ensures _ (two_in _ _ _ c.in_ok-p.was c.in-Some.is)

pub loop-p-preserved : goal.loop-p-preserved
loop-p-preserved c = count_one _ _ _ c.loop-p.invariant _ c.step_at.ensures _ (two_in _ _ _ c.in_ok-p.was c.in-Some.is)

pub returns : goal.returns
returns c = count_end _ _ _ c.loop-p.invariant _ c.step_at.ensures (two_in _ _ _ c.in_ok-p.was c.in_default.is)
