use borrow.Author.Rules.{rules}
use Rattle.std.proofs.lemmas.Result.{err_from_is_err_and}
use Rattle.av_pairs.proofs.Walks.{end_fits, falls, two_in}
use Rattle.target_info.proofs.Searches.{read_none, read_fits, time_inside, read_one, read_end, read_fault}
use Rattle.target_info.proofs.read_list.Goals as goal

pub loop-p-init : goal.loop-p-init
loop-p-init c = read_none _

pub returns-in_err-p : goal.returns-in_err-p
returns-in_err-p c =
    let p = err_from_is_err_and c.from_residual.result c.from_residual.ensures.1 in
    rw (p.1, p.2) (read_fault _ _ _ _ c.loop-p.invariant _ c.step_at.ensures _ c.in_err-p.was)

pub time_with-time-requires : goal.time_with-time-requires
time_with-time-requires c = time_inside _ _ _ _ c.loop-p.invariant _ c.step_at.ensures _ (two_in _ _ _ c.in_ok-p.was c.in-Some.is)

pub overflow_add-at : goal.overflow_add-at
overflow_add-at c = end_fits _ _ _ c.step_at.ensures _ (two_in _ _ _ c.in_ok-p.was c.in-Some.is) (search rules)

pub overflow_add-n : goal.overflow_add-n
overflow_add-n c = read_fits _ _ _ _ c.loop-p.invariant _ c.step_at.ensures _ (two_in _ _ _ c.in_ok-p.was c.in-Some.is) (search rules)

pub loop-p-smaller : goal.loop-p-smaller
loop-p-smaller c = falls _ _ _ c.step_at.ensures _ (two_in _ _ _ c.in_ok-p.was c.in-Some.is)

pub loop-p-preserved : goal.loop-p-preserved
loop-p-preserved c = read_one _ _ _ _ c.loop-p.invariant _ c.step_at.ensures _ (two_in _ _ _ c.in_ok-p.was c.in-Some.is) _ c.time_with-time.ensures

pub returns : goal.returns
returns c = read_end _ _ _ _ c.loop-p.invariant _ c.step_at.ensures (two_in _ _ _ c.in_ok-p.was c.in_default.is)
