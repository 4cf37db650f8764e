use lib.ListN.{length}
use mathlib.Core.List.{◌++◌}
use mathlib.Core.Bool.{true}
use mathlib.Core.Path.{◌≡◌}
use Rattle.place.proofs.Parts.{Partly}
use Rattle.base64_text.specs.Base64.{is_base64, decode}
use Rattle.base64_text.proofs.put_decoded.Given as goal

-- what is left, with the last group, is in base64 and not written
abbrev pub invariant-loop-left : goal.invariant-loop-left
invariant-loop-left l = record {
  four : length l.last ≡ 4;
  sound : is_base64 (l.left ++ l.last) ≡ true;
  partly : Partly l.initial.out l.out l.initial.q.at l.q.at (decode (l.left ++ l.last)) (decode l.t);
}

abbrev pub decreases-loop-left : goal.decreases-loop-left
decreases-loop-left l = length l.left
