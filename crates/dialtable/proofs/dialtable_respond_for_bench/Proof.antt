-- `dialtable_respond_for_bench` is the full call with the bits of the bench's settings.
use borrow.Author.Rules.{rules}
use Rattle.c_respond.proofs.Laws.{bench_stands, known_settings}
use Rattle.dialtable.proofs.dialtable_respond_for_bench.Statement.{statement}
use Rattle.dialtable.proofs.dialtable_respond_for_bench.Tie as tie

pub dialtable_respond_for_bench_spec : {M : Type 1} → statement M
dialtable_respond_for_bench_spec =
    tie.close
    (tie.spec
    (λ c κs. search rules) (λ c κs. search rules) (λ c. search rules) (λ c. search rules)
    (λ c. search (known_settings, bench_stands)))
