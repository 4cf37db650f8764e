use Rattle.std.proofs.lemmas.Result.{err_from_is_err_and}
use Rattle.write_canonical.proofs.Laws.{taken_answered, taken_left, refused_answered, refused_left}
use Rattle.write_canonical.proofs.write.Goals as goal

pub returns-in_err-a : goal.returns-in_err-a
returns-in_err-a c =
    let p = err_from_is_err_and c.from_residual.result c.from_residual.ensures.1 in
    record {
      answer = rw (p.1, p.2) (refused_answered _ _ c.read-answer.ensures _ c.in_err-a.was _);
      content = refused_left _ _ c.read-answer.ensures _ c.in_err-a.was _;
    }

pub returns : goal.returns
returns c =
    record {
      answer = taken_answered _ _ c.read-answer.ensures _ c.in_ok-a.was _ _ c.write_meaning.ensures.answer;
      content = taken_left _ _ c.read-answer.ensures _ c.in_ok-a.was _ _ c.write_meaning.ensures.content;
    }
