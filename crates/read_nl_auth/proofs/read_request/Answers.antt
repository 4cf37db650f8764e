use Rattle.std.proofs.Common.{arith}
use Rattle.read_nl_auth.proofs.Scans.{onward}
use Rattle.read_nl_auth.proofs.read_request.Goals as goal

pub string_under-requires-2 : goal.string_under-requires-2
string_under-requires-2 c = ((onward _ _ _ _ _ _ c.string_under.ensures c.in-Some.is c.requires.0).1, c.requires.1)

pub read_utf8-requires : goal.read_utf8-requires
read_utf8-requires c =
    let p = onward _ _ _ _ _ _ c.string_under.ensures c.in-Some.is c.requires.0 in
    let q = onward _ _ _ _ _ _ c.string_under-2.ensures c.in-Some-string_under.is p.1 in
    (omega arith, (q.1, c.requires.1))
