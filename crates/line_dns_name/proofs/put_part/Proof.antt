-- `put_part` writes a label with its full stop.
use borrow.Author.Rules.{rules}
use Rattle.line_dns_name.proofs.put_part.Statement.{statement}
use Rattle.line_dns_name.proofs.put_part.Tie as tie
use Rattle.line_dns_name.proofs.Names.{room_first, wrote_first, room_stop, room_later, wrote_later}

pub put_part_spec : {M : Type 1} → statement M
put_part_spec =
    tie.close
    (tie.spec
    (λ c κs. search room_first) (λ c. search rules) (λ c. search wrote_first) (λ c κs. search room_stop)
    (λ c κs. search room_later) (λ c. search rules) (λ c. search wrote_later))
