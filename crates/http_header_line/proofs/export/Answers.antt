use Rattle.place.proofs.Writings.{stored}
use Rattle.http_header_line.specs.HttpHeader.{export_out}
use Rattle.http_header_line.proofs.Laws.{line_fits}
use Rattle.http_header_line.proofs.export.Goals as goal

pub returns-clause-content : goal.returns-clause-content
unfolding export_out
returns-clause-content c =
    let held = c.in_ok-check_export.was in
    let fits = line_fits _ _ _ c.check_export.ensures held in
    stored _ _ c.check_export.ensures held _ _ _ _ c.put_line-end.ensures fits
