-- `pair_at` reads a head that is there, and answers as with the checks, which hold.
use borrow.Author.Rules.{rules}
use Rattle.av_pairs.proofs.Walks.{held_head, held_gives}
use Rattle.target_info.proofs.pair_at.Statement.{statement}
use Rattle.target_info.proofs.pair_at.Tie as tie

pub pair_at_spec : {M : Type 1} → statement M
pair_at_spec =
    tie.close
    (tie.spec
    (λ c. search held_gives) (λ c κs. search held_head) (λ c κs. search rules) (λ c. search held_gives) (λ c. search held_head)
    (λ c. search held_head) (λ c κs. search held_head) (λ c. search held_gives))
