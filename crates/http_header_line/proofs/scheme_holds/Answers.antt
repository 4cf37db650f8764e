use Rattle.http_header_line.proofs.Scheme.{too_short, is_scheme}
use Rattle.http_header_line.proofs.scheme_holds.Goals as goal

pub returns-in_default : goal.returns-in_default
returns-in_default c = too_short c.args.line.now c.in_default.ensures.cases

pub returns : goal.returns
returns c =
    let h = c.in-Some.ensures.cases in
    is_scheme c.args.line.now c.in-Some.word.now c.in-Some.field-0-1.now _ _ h.0 h.2 c.eq_ignore_ascii_case.ensures.test c.check.ensures
