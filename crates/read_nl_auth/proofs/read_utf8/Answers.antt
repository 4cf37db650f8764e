use Rattle.read_nl_auth.proofs.Names.{onward}
use Rattle.read_nl_auth.proofs.read_utf8.Goals as goal

pub name_under-requires-2 : goal.name_under-requires-2
name_under-requires-2 c =
    let p = onward _ _ _ _ _ _ _ c.name_under.ensures c.in_ok-dns_domain.was c.requires.0 c.requires.1.0 in
    (p.0, (p.1, c.requires.1.1))

pub name_under-requires-3 : goal.name_under-requires-3
name_under-requires-3 c =
    let p = onward _ _ _ _ _ _ _ c.name_under.ensures c.in_ok-dns_domain.was c.requires.0 c.requires.1.0 in
    let q = onward _ _ _ _ _ _ _ c.name_under-2.ensures c.in_ok-dns_host.was p.0 p.1 in
    (q.0, (q.1, c.requires.1.1))
