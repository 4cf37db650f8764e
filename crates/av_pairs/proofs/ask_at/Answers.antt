use borrow.Author.Rules.{rules}
use Rattle.av_pairs.proofs.Walks.{end_fits, ask_pair, ask_end, ask_fault, two_in}
use Rattle.av_pairs.proofs.ask_at.Goals as goal

pub overflow_add-result : goal.overflow_add-result
overflow_add-result c =
    end_fits _ _ _ c.step_at-step.ensures _ (two_in _ _ _ c.in-Ok-Some.is (rw c.in-Ok-Some.is at c.in-Ok-Some.field-0-is)) (search rules)

pub returns-in-Ok-Some : goal.returns-in-Ok-Some
returns-in-Ok-Some c = ask_pair _ _ _ c.step_at-step.ensures _ (two_in _ _ _ c.in-Ok-Some.is (rw c.in-Ok-Some.is at c.in-Ok-Some.field-0-is))

pub returns-in-Ok-None : goal.returns-in-Ok-None
returns-in-Ok-None c = ask_end _ _ _ c.step_at-step.ensures (two_in _ _ _ c.in-Ok-None.is (rw c.in-Ok-None.is at c.in-Ok-None.field-0-is))

pub returns-in-Err : goal.returns-in-Err
returns-in-Err c = search ask_fault
