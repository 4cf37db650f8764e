use mathlib.Core.Bool.{◌&&◌}
use mathlib.Core.Path.{◌≡◌}
use Prim.Native.Nat.{◌%◌}
use lib.Dec.{eqb}
use lib.ListN.{length, take}
use Rattle.std.specs.List.{list_all}
use Rattle.base64_text.specs.Base64.{is_letter}
use Rattle.base64_text.proofs.is_base64.Given as goal

abbrev pub invariant-loop-x : goal.invariant-loop-x
invariant-loop-x l = l.ok ≡ eqb (length l.t % 4) 0 && list_all is_letter (take l.x-index l.front)
