use Rattle.wire.proofs.Laws.{clear, handed_over}
use Rattle.mic.specs.Mic.{check_mic}
use Rattle.mic.proofs.Laws.{clear_of, mic_there, compared}
use Rattle.mic.proofs.check_mic.Goals as goal

pub returns-in_err-check_inputs : goal.returns-in_err-check_inputs
unfolding check_mic
returns-in_err-check_inputs c = handed_over _ _ _ _ _ c.from_residual.ensures.1 c.check_inputs.ensures c.in_err-check_inputs.was

pub mic_of-mic-requires : goal.mic_of-mic-requires
mic_of-mic-requires c = clear_of _ _ _ _ _ c.check_inputs.ensures c.in_ok-check_inputs.was

pub stands_at-requires : goal.stands_at-requires
stands_at-requires c = mic_there _ _ _ _ _ c.check_inputs.ensures c.in_ok-check_inputs.was

pub returns : goal.returns
unfolding check_mic
returns c = clear _ _ _ _ _ _ c.check_inputs.ensures c.in_ok-check_inputs.was (compared _ _ _ _ _ _ c.stands_at.ensures c.mic_of-mic.ensures)
