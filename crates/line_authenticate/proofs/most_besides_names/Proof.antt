-- `most_besides_names` is at least the length of all but the names' text.
use Rattle.line_authenticate.proofs.Laws.{lengths_bound}
use Rattle.line_authenticate.proofs.most_besides_names.Statement.{statement}
use Rattle.line_authenticate.proofs.most_besides_names.Tie as tie

pub most_besides_names_spec : {M : Type 1} → statement M
most_besides_names_spec =
    tie.close
    (tie.spec
    (λ c. search lengths_bound))
