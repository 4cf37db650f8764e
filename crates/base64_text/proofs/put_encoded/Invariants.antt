use lib.ListN.{length}
use Rattle.place.proofs.Parts.{Partly}
use Rattle.base64_text.specs.Base64.{encode}
use Rattle.base64_text.proofs.put_encoded.Given as goal

-- what is left is not written
abbrev pub invariant-loop-left : goal.invariant-loop-left
invariant-loop-left l = Partly l.initial.out l.out l.initial.q.at l.q.at (encode l.left) (encode l.m)

abbrev pub decreases-loop-left : goal.decreases-loop-left
decreases-loop-left l = length l.left
