use Rattle.std.proofs.Common.{rules}
use Rattle.read_dns_name.proofs.Walks.{given, reach_start, at_fits, coded_fits, reach_label, label_falls, behind_fits, jumps_fit, reach_jump, jump_falls, end_fits}
use Rattle.read_dns_name.proofs.read_name.Goals as goal

pub loop-n-init : goal.loop-n-init
loop-n-init c = reach_start _ _ _ c.begin-c.ensures

pub past_label-c-requires : goal.past_label-c-requires
past_label-c-requires c =
    let h = given _ _ _ c.in_ok-n.was c.in-Label.is in
    (at_fits _ _ c.loop-n.invariant.sound _ c.step_at.ensures _ h (search rules), coded_fits _ _ c.loop-n.invariant.sound _ c.step_at.ensures _ h)

pub loop-n-smaller-in-Label : goal.loop-n-smaller-in-Label
loop-n-smaller-in-Label c =
    label_falls _ _ c.loop-n.invariant.sound _ c.step_at.ensures _ (given _ _ _ c.in_ok-n.was c.in-Label.is) _ c.past_label-c.ensures

pub loop-n-preserved-in-Label : goal.loop-n-preserved-in-Label
loop-n-preserved-in-Label c =
    reach_label _ _ _ c.loop-n.invariant _ c.step_at.ensures _ (given _ _ _ c.in_ok-n.was c.in-Label.is) _ c.past_label-c.ensures

pub jumped-c-requires : goal.jumped-c-requires
jumped-c-requires c =
    let h = given _ _ _ c.in_ok-n.was c.in-Jump.is in
    (behind_fits _ _ c.loop-n.invariant.sound _ c.step_at.ensures _ h (search rules), jumps_fit _ _ c.loop-n.invariant.sound _ c.step_at.ensures _ h)

pub loop-n-smaller : goal.loop-n-smaller
loop-n-smaller c =
    jump_falls _ _ c.loop-n.invariant.sound _ c.step_at.ensures _ (given _ _ _ c.in_ok-n.was c.in-Jump.is) _ c.jumped-c.ensures

pub loop-n-preserved : goal.loop-n-preserved
loop-n-preserved c =
    reach_jump _ _ _ c.loop-n.invariant _ c.step_at.ensures _ (given _ _ _ c.in_ok-n.was c.in-Jump.is) _ c.jumped-c.ensures

pub ended-requires : goal.ended-requires
ended-requires c = end_fits _ _ c.loop-n.invariant.sound _ c.step_at.ensures (given _ _ _ c.in_ok-n.was c.in-End.is) (search rules)
