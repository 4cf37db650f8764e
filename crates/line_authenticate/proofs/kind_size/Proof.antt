-- `kind_size` is the length of the last word.
use borrow.Author.Rules.{rules}
use Rattle.line_words.proofs.Labels.{kinds}
use Rattle.line_authenticate.proofs.kind_size.Statement.{statement}
use Rattle.line_authenticate.proofs.kind_size.Tie as tie

pub kind_size_spec : {M : Type 1} → statement M
kind_size_spec =
    tie.close
    (tie.spec
    (λ c. (search kinds, search rules)) (λ c. (search kinds, search rules))
    (λ c. (search kinds, search rules)) (λ c. (search kinds, search rules)))
