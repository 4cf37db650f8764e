-- `put` writes the line.
use borrow.Author.Rules.{rules}
use native.Mathlib.Omega.{arith}
use Rattle.line_authenticate.proofs.Laws.{auth_room, auth_wrote}
use Rattle.place.proofs.Laws.{and_then}
use Rattle.line_authenticate.proofs.put.Statement.{statement}
use Rattle.line_authenticate.proofs.put.Tie as tie

pub put_spec : {M : Type 1} → statement M
put_spec =
    tie.close
    (tie.spec
    (λ c κs. let e = c.before.before.before.before.before in omega (arith, auth_room e.args.msg.now e.args.a e.args.wide e.requires.0 0 _ e.requires.1))
    (λ c κs. let e = c.before.before.before.before.before.before.before.before.before in omega (arith, auth_room e.args.msg.now e.args.a e.args.wide e.requires.0 0 _ e.requires.1))
    (λ c κs. let e = c.before.before.before.before.before.before.before.before.before.before.before.before.before in omega (arith, auth_room e.args.msg.now e.args.a e.args.wide e.requires.0 0 _ e.requires.1))
    (λ c κs. let e = c.before.before.before.before.before.before.before.before.before.before.before.before.before.before.before.before.before in omega (arith, auth_room e.args.msg.now e.args.a e.args.wide e.requires.0 0 _ e.requires.1))
    (λ c. search rules)
    (λ c.
    let w = c.before.before in
    let v = w.before.before.before.before in
    let u = v.before.before.before.before in
    let t = u.before.before.before.before in
    let e = t.before.before.before.before.before.before in
    auth_wrote e.args.msg.now e.args.a e.args.wide e.requires.0 _ _ _ _
    (and_then _ _ _ _ _ _ _ _ t.put_start-p.ensures (and_then _ _ _ _ _ _ _ _ u.put_names-p.ensures (and_then _ _ _ _ _ _ _ _ v.put_lengths-p.ensures w.put_end.ensures)))))
