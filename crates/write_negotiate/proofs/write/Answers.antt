use Rattle.std.proofs.Common.{refl}
use Rattle.std.proofs.lemmas.Result.{err_from_is_err_and}
use Rattle.place.proofs.Writings.{written, stored, refused, untouched}
use Rattle.write_negotiate.specs.Writing.{write_answer, write_out}
use Rattle.write_negotiate.proofs.Sent.{message_size, message_room, message_fits}
use Rattle.write_negotiate.proofs.write.Goals as goal

pub returns-in_err-check_to_write : goal.returns-in_err-check_to_write
unfolding write_answer write_out
returns-in_err-check_to_write c =
    let p = err_from_is_err_and c.from_residual.result c.from_residual.ensures.1 in
    record {
      answer = rw (p.1, p.2) (refused _ _ _ c.check_to_write.ensures c.in_err-check_to_write.was _);
      content = untouched _ _ _ c.check_to_write.ensures c.in_err-check_to_write.was _ _;
    }

pub put_message-end-requires : goal.put_message-end-requires
put_message-end-requires c =
    (message_size _ _ _ _ _ c.check_to_write.ensures c.in_ok-check_to_write.was, message_room _ _ _ _ _ c.check_to_write.ensures c.in_ok-check_to_write.was)

pub returns : goal.returns
unfolding write_answer write_out
returns c =
    record {
      answer = written _ _ c.check_to_write.ensures c.in_ok-check_to_write.was _ _ _ _ c.put_message-end.ensures.wrote;
      content = stored _ _ c.check_to_write.ensures c.in_ok-check_to_write.was _ _ _ _ c.put_message-end.ensures.wrote
          (message_fits _ _ _ _ _ c.check_to_write.ensures c.in_ok-check_to_write.was _ _ _ _ refl c.put_message-end.ensures.wrote c.put_message-end.ensures.next);
    }
