-- What both names leave.
use Rattle.line_words.proofs.Rooms.{leaves}
use Rattle.line_negotiate.specs.Nego.{nego_names}
use Rattle.line_negotiate.proofs.room_after_names.Goals as goal

pub returns : goal.returns
unfolding nego_names
returns c = search leaves
