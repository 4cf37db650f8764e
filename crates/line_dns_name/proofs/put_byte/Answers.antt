-- A full stop's text, and any other byte's.
use Rattle.line_dns_name.proofs.Labels.{room_stop, wrote_stop, room_other, wrote_other}
use Rattle.line_dns_name.proofs.put_byte.Goals as goal

pub put_escape-requires : goal.put_escape-requires
put_escape-requires c = search room_stop

pub returns-then-b-eq46 : goal.returns-then-b-eq46
returns-then-b-eq46 c = search wrote_stop

pub put_unit-requires : goal.put_unit-requires
put_unit-requires c = search room_other

pub returns : goal.returns
returns c = search wrote_other
