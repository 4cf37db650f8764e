-- Document 01: "The list is also offered as a walk that its caller can hold, one pair at each asking, over the lent bytes:
-- the pairs before the end or the first fault, then the end or that refusal, and the same at each later asking."
use Rattle.std.specs.Prelude.{ℕ, ◌≡◌, List}
use Rattle.std.specs.Borrow.{Bor}
use Rattle.av_pairs.specs.Walk.{walk_over, asking, walk_after, answer_at}

-- of a walk that has not been asked, the k-th asking is the list's k-th answer, for every k
abbrev pub WalkAnswers : Type 0
WalkAnswers = (list : Bor (List ℕ)) (k : ℕ) → asking (walk_after k (walk_over list)) ≡ answer_at list.now k
