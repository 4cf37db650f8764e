-- Each of the three texts has room, and is written.
use Rattle.line_words.proofs.Names.{room_plain, wrote_plain, room_wide, wrote_wide, room_byte, wrote_byte}
use Rattle.line_words.proofs.name.put_unit.Goals as goal

pub put_u8-requires : goal.put_u8-requires
put_u8-requires c = search room_plain

pub returns-then-is_plain : goal.returns-then-is_plain
returns-then-is_plain c = search wrote_plain

pub put_escape-requires : goal.put_escape-requires
put_escape-requires c = search room_wide

pub returns-then-unicode : goal.returns-then-unicode
returns-then-unicode c = search wrote_wide

pub put_escape-requires-2 : goal.put_escape-requires-2
put_escape-requires-2 c = search room_byte

pub returns : goal.returns
returns c = search wrote_byte
