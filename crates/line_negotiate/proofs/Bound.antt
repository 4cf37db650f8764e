-- A room of so many bytes as no line of this kind passes has room for the line.
use Prim.Native.Nat.{ℕ}
use mathlib.Core.Path.{◌≡◌}
use mathlib.Core.Bool.{Bool, true}
use mathlib.Core.List.{List}
use lib.Dec.{leb}
use lib.ListN.{length}
use Rattle.read_negotiate.specs.declared.Negotiate.{Negotiate}
use Rattle.wire.specs.declared.check.Checked.TheVariants.{Held}
use Rattle.place.specs.Written.{room_holds}
use Rattle.line_words.proofs.Calls.{of_most}
use Rattle.line_negotiate.specs.Nego.{nego_text}
use Rattle.line_negotiate.proofs.Laws.{most, nego_bound}

module _ (s : List ℕ) (m : Negotiate) where
  pub nego_surely_fits : (room : ℕ) (b : Bool) → b ≡ leb (most s m) room → b ≡ true → Held ≡ room_holds (length (nego_text s m)) room
  nego_surely_fits room b e h = of_most (nego_text s m) (most s m) room b (nego_bound s m) e h
