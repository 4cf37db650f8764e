use Rattle.std.proofs.lemmas.Result.{err_from_is_err_and}
use Rattle.write_response_pairs.proofs.Sent.{taken_clear, reading_refused, reading_untouched, reading_taken, reading_stored}
use Rattle.write_response_pairs.proofs.write.Goals as goal

pub returns-in_err-f : goal.returns-in_err-f
returns-in_err-f c =
    let p = err_from_is_err_and c.from_residual.result c.from_residual.ensures.1 in
    record {
      answer = rw (p.1, p.2) (reading_refused _ _ _ _ _ c.read_full.ensures _ c.in_err-f.was _);
      content = reading_untouched _ _ _ _ _ c.read_full.ensures _ c.in_err-f.was _;
    }

pub write_list-requires : goal.write_list-requires
write_list-requires c = taken_clear _ _ _ _ c.read_full.ensures c.in_ok-f.was c.bytes-info.ensures.content

pub returns : goal.returns
returns c =
    record {
      answer = reading_taken _ _ _ _ _ c.read_full.ensures _ c.in_ok-f.was _ c.bytes-info.ensures.content _ _ c.write_list.ensures.answer;
      content = reading_stored _ _ _ _ _ c.read_full.ensures _ c.in_ok-f.was _ c.bytes-info.ensures.content _ _ c.write_list.ensures.content;
    }
