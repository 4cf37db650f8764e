use Rattle.base64_text.proofs.Reading.{tested}
use Rattle.base64_text.proofs.is_base64.Goals as goal

pub returns : goal.returns
returns c =
    let h = c.in-Some.ensures.cases in
    tested c.args.t.now c.in-Some.front.now _ c.loop-x.x-index _ _ h.0 h.1 h.2 c.loop-x-test.false c.loop-x.invariant c.last_holds.ensures
