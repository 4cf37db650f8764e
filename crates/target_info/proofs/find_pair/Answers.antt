use Rattle.wire.proofs.Laws.{clear, handed_over}
use Rattle.target_info.specs.TargetInfo.{find_pair}
use Rattle.target_info.proofs.Searches.{checks_held, found_is}
use Rattle.target_info.proofs.find_pair.Goals as goal

pub returns-in_err-check_pairs : goal.returns-in_err-check_pairs
unfolding find_pair
returns-in_err-check_pairs c = handed_over _ _ _ _ _ c.from_residual.ensures.1 c.check_pairs.ensures c.in_err-check_pairs.was

pub first_pair-requires : goal.first_pair-requires
first_pair-requires c = checks_held _ _ c.check_pairs.ensures c.in_ok-check_pairs.was

pub returns : goal.returns
unfolding find_pair
returns c = clear _ _ _ _ _ _ c.check_pairs.ensures c.in_ok-check_pairs.was (found_is _ _ _ c.first_pair.ensures)
