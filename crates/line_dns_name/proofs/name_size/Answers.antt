use Rattle.std.proofs.Common.{rules}
use Rattle.read_dns_name.proofs.Walks.{given, at_fits, coded_fits, from_fits, to_fits, to_inside, label_falls, behind_fits, jumps_fit, jump_falls}
use Rattle.line_dns_name.proofs.Names.{sizing_start, lent_short, sizing_label, sizing_jump, sizing_end, sizing_fault, sizing_small, size_fits}
use Rattle.line_dns_name.proofs.name_size.Goals as goal

pub loop-step-init : goal.loop-step-init
loop-step-init c = sizing_start _ _ _ c.begin-c.ensures

pub overflow_add-from : goal.overflow_add-from
overflow_add-from c =
    from_fits _ _ c.loop-step.invariant.remain.sound _ c.step_at.ensures _ (given _ _ _ c.in-Ok.is c.in-Label.is) (search rules)

pub overflow_add-to : goal.overflow_add-to
overflow_add-to c =
    to_fits _ _ c.loop-step.invariant.remain.sound _ c.step_at.ensures _ (given _ _ _ c.in-Ok.is c.in-Label.is) (search rules)

pub slice_bounds-part_size-end : goal.slice_bounds-part_size-end
slice_bounds-part_size-end c =
    let h = to_inside _ _ c.loop-step.invariant.remain.sound _ c.step_at.ensures _ (given _ _ _ c.in-Ok.is c.in-Label.is) in search rules

pub part_size-size-requires : goal.part_size-size-requires
part_size-size-requires c = lent_short _ _ _ _ _ c.loop-step.invariant _ c.step_at.ensures _ (given _ _ _ c.in-Ok.is c.in-Label.is)

pub overflow_add-size : goal.overflow_add-size
overflow_add-size c =
    size_fits _ _ _ _ _ c.loop-step.invariant _ c.step_at.ensures _ (given _ _ _ c.in-Ok.is c.in-Label.is) _ c.part_size-size.ensures.1

pub past_label-c-requires : goal.past_label-c-requires
past_label-c-requires c =
    let h = given _ _ _ c.in-Ok.is c.in-Label.is in
    let w = c.loop-step.invariant.remain.sound in
    (at_fits _ _ w _ c.step_at.ensures _ h (search rules), coded_fits _ _ w _ c.step_at.ensures _ h)

pub loop-step-smaller-in-Label : goal.loop-step-smaller-in-Label
loop-step-smaller-in-Label c =
    label_falls _ _ c.loop-step.invariant.remain.sound _ c.step_at.ensures _ (given _ _ _ c.in-Ok.is c.in-Label.is) _ c.past_label-c.ensures

pub loop-step-preserved-in-Label : goal.loop-step-preserved-in-Label
loop-step-preserved-in-Label c =
    sizing_label _ _ _ _ _ c.loop-step.invariant _ c.step_at.ensures _ (given _ _ _ c.in-Ok.is c.in-Label.is) _ _ c.part_size-size.ensures c.past_label-c.ensures

pub jumped-c-requires : goal.jumped-c-requires
jumped-c-requires c =
    let h = given _ _ _ c.in-Ok.is c.in-Jump.is in
    let w = c.loop-step.invariant.remain.sound in
    (behind_fits _ _ w _ c.step_at.ensures _ h (search rules), jumps_fit _ _ w _ c.step_at.ensures _ h)

pub loop-step-smaller : goal.loop-step-smaller
loop-step-smaller c =
    jump_falls _ _ c.loop-step.invariant.remain.sound _ c.step_at.ensures _ (given _ _ _ c.in-Ok.is c.in-Jump.is) _ c.jumped-c.ensures

pub loop-step-preserved : goal.loop-step-preserved
loop-step-preserved c =
    sizing_jump _ _ _ _ _ c.loop-step.invariant _ c.step_at.ensures _ (given _ _ _ c.in-Ok.is c.in-Jump.is) _ c.jumped-c.ensures

pub returns-in-End : goal.returns-in-End
returns-in-End c =
    (sizing_end _ _ _ _ _ c.loop-step.invariant _ c.step_at.ensures (given _ _ _ c.in-Ok.is c.in-End.is), sizing_small _ _ _ _ _ c.loop-step.invariant)

pub returns : goal.returns
returns c =
    (sizing_fault _ _ _ _ _ c.loop-step.invariant _ c.step_at.ensures _ c.in_default.is, sizing_small _ _ _ _ _ c.loop-step.invariant)
