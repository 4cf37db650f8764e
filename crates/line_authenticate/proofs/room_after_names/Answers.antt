-- What the names leave.
use Rattle.line_words.proofs.Rooms.{leaves}
use Rattle.line_authenticate.specs.Auth.{auth_names}
use Rattle.line_authenticate.proofs.room_after_names.Goals as goal

pub returns : goal.returns
unfolding auth_names
returns c = search leaves
