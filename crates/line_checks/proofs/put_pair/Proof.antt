-- `put_pair` writes a pair's words where the check is about one.
use borrow.Author.Rules.{rules}
use Rattle.line_checks.proofs.Laws.{pair_room, wrote_pair, wrote_no_pair}
use Rattle.line_checks.proofs.put_pair.Statement.{statement}
use Rattle.line_checks.proofs.put_pair.Tie as tie

pub put_pair_spec : {M : Type 1} → statement M
put_pair_spec =
    tie.close
    (tie.spec
    (λ c κs. search rules) (λ c κs. search pair_room) (λ c. search rules) (λ c. search wrote_pair)
    (λ c. search wrote_no_pair))
