use Rattle.place.proofs.Writings.{stored}
use Rattle.http_header_line.proofs.Laws.{text_fits}
use Rattle.http_header_line.proofs.import_text.Goals as goal

pub returns-clause-content : goal.returns-clause-content
returns-clause-content c =
    let held = c.in_ok-check_text.was in
    let fits = text_fits _ _ _ c.check_text.ensures held in
    stored _ _ c.check_text.ensures held _ _ _ _ c.put_decoded-end.ensures fits
