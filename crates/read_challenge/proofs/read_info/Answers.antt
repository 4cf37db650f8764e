use Rattle.read_challenge.proofs.Laws.{info_failed}
use Rattle.read_challenge.proofs.read_info.Goals as goal

pub returns-in-Err : goal.returns-in-Err
returns-in-Err c = info_failed _ _ _ c.bytes.ensures.content _ c.read_list.ensures _ _ c.in-Err.is c.moved_by.ensures
