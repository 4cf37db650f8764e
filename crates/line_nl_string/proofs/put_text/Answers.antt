-- Either text has room, and is written.
use Rattle.line_nl_string.proofs.Laws.{oem_room, oem_wrote, utf8_room, utf8_wrote}
use Rattle.line_nl_string.proofs.put_text.Goals as goal

pub put_name-requires : goal.put_name-requires
put_name-requires c = search utf8_room

pub returns-then-utf8 : goal.returns-then-utf8
returns-then-utf8 c = search utf8_wrote

pub put-requires : goal.put-requires
put-requires c = search oem_room

pub returns : goal.returns
returns c = search oem_wrote
