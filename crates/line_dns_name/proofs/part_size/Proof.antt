-- `part_size` is the length of its text.
use borrow.Author.Rules.{rules}
use Rattle.line_dns_name.proofs.part_size.Statement.{statement}
use Rattle.line_dns_name.proofs.part_size.Tie as tie
use Rattle.line_dns_name.proofs.Names.{size_first, size_later}

pub part_size_spec : {M : Type 1} → statement M
part_size_spec =
    tie.close
    (tie.spec
    (λ c κs. search rules) (λ c. (search size_first, search rules)) (λ c. search rules) (λ c. (search size_later, search rules)))
