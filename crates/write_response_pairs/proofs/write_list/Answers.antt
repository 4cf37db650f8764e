use borrow.Author.Rules.{rules}
use Rattle.std.proofs.lemmas.Result.{err_from_is_err_and}
use Rattle.write_response_pairs.proofs.Sent.{list_short, list_room, list_refused, list_untouched, list_written, list_stored}
use Rattle.write_response_pairs.proofs.write_list.Goals as goal

pub returns-in_err-check_list : goal.returns-in_err-check_list
returns-in_err-check_list c =
    let p = err_from_is_err_and c.from_residual.result c.from_residual.ensures.1 in
    record {
      answer =
          rw (p.1, p.2)
          (list_refused _ _ _ _ _ c.plan_for-plan.ensures.bits _ c.plan_for-plan.ensures.size _ _ c.check_list.ensures _ c.in_err-check_list.was);
      content =
          list_untouched _ _ _ _ _ c.plan_for-plan.ensures.bits _ c.plan_for-plan.ensures.size _ _ c.check_list.ensures _ c.in_err-check_list.was;
    }

pub put_list-end-requires : goal.put_list-end-requires
put_list-end-requires c = (
  search rules,
  search rules,
  list_short _ _ _ _ _ c.plan_for-plan.ensures.size _ _ c.check_list.ensures c.in_ok-check_list.was,
  list_room _ _ _ _ _ c.plan_for-plan.ensures.size _ _ c.check_list.ensures c.in_ok-check_list.was,
)

pub returns : goal.returns
returns c =
    record {
      answer =
          list_written _ _ _ _ _ c.plan_for-plan.ensures.bits _ c.plan_for-plan.ensures.size _ _ c.check_list.ensures c.in_ok-check_list.was _ _
          c.put_list-end.ensures;
      content =
          list_stored _ _ _ _ _ c.plan_for-plan.ensures.bits _ c.plan_for-plan.ensures.size _ _ c.check_list.ensures c.in_ok-check_list.was _ _
          c.put_list-end.ensures;
    }
