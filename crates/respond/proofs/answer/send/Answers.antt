use Rattle.std.proofs.lemmas.Result.{err_from_is_err_and}
use Rattle.respond.proofs.Answers.{sends, unsent}
use Rattle.respond.proofs.answer.send.Goals as goal

pub returns-in_err-len : goal.returns-in_err-len
returns-in_err-len c =
    let p = err_from_is_err_and c.from_residual.result c.from_residual.ensures.1 in
    rw (p.1, p.2) (unsent _ _ _ _ _ _ _ _ c.mic_to_send-mic.ensures c.lm_to_send.ensures c.key_to_send.ensures c.write.ensures.answer c.write.ensures.content _ c.in_err-len.was)

pub returns : goal.returns
returns c =
    sends _ _ _ _ _ _ _ _ c.mic_to_send-mic.ensures c.lm_to_send.ensures c.key_to_send.ensures c.write.ensures.answer c.write.ensures.content _ _ _
    c.in_ok-len.was c.time_to_send.ensures c.mic_due.ensures
