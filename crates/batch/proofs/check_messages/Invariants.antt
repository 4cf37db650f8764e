-- The entries before the index have their answers, and the others are as they were.
use Rattle.std.proofs.Common.{◌≡◌}
use Rattle.batch.specs.Batch.{with_answer}
use Rattle.batch.proofs.Fill.{fill_to}
use Rattle.batch.proofs.check_messages.Given as goal

abbrev pub invariant-loop-e : goal.invariant-loop-e
invariant-loop-e l = l.list ≡ fill_to (with_answer l.buffer) l.e-index l.fn.list
