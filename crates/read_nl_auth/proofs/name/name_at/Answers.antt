use Rattle.std.proofs.Common.{arith}
use Rattle.std.proofs.lemmas.Grind.{common_steps}
use Rattle.std.proofs.lemmas.Result.{err_from_is_err_and}
use Rattle.read_nl_auth.proofs.Names.{Renamed, ends, few, name_taken, name_faulty}
use Rattle.read_nl_auth.proofs.name.name_at.Goals as goal

pub returns-in_err-m : goal.returns-in_err-m
returns-in_err-m c =
    let f : Renamed c.read_name.result c.map_err.result c.args.n = grind (arith, common_steps) in
    let p = err_from_is_err_and c.from_residual.result c.from_residual.ensures.1 in
    rw (p.1, p.2) (name_faulty _ _ _ _ c.read_name.ensures _ f _ c.in_err-m.was)

pub overflow_add-end : goal.overflow_add-end
overflow_add-end c =
    let f : Renamed c.read_name.result c.map_err.result c.args.n = grind (arith, common_steps) in
    record { fits = omega (arith, ends _ _ _ _ c.read_name.ensures _ f _ c.in_ok-m.was c.requires.0 c.requires.1.0) }

pub overflow_sub-string : goal.overflow_sub-string
overflow_sub-string c =
    let f : Renamed c.read_name.result c.map_err.result c.args.n = grind (arith, common_steps) in
    omega (arith, ends _ _ _ _ c.read_name.ensures _ f _ c.in_ok-m.was c.requires.0 c.requires.1.0)

pub overflow_cast-string-2 : goal.overflow_cast-string-2
overflow_cast-string-2 c =
    let f : Renamed c.read_name.result c.map_err.result c.args.n = grind (arith, common_steps) in
    record { fits = omega (arith, ends _ _ _ _ c.read_name.ensures _ f _ c.in_ok-m.was c.requires.0 c.requires.1.0) }

pub overflow_cast-string-3 : goal.overflow_cast-string-3
overflow_cast-string-3 c =
    let f : Renamed c.read_name.result c.map_err.result c.args.n = grind (arith, common_steps) in
    record { fits = omega (arith, few _ _ _ _ c.read_name.ensures _ f _ c.in_ok-m.was) }

pub returns : goal.returns
returns c =
    let f : Renamed c.read_name.result c.map_err.result c.args.n = grind (arith, common_steps) in
    name_taken _ _ _ _ c.read_name.ensures _ f _ c.in_ok-m.was
