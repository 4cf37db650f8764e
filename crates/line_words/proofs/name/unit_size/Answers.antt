-- The lengths of the three texts.
use Rattle.line_words.proofs.Names.{size_plain, size_wide, size_byte}
use Rattle.line_words.proofs.name.unit_size.Goals as goal

pub returns-then-is_plain : goal.returns-then-is_plain
returns-then-is_plain c = search size_plain

pub returns-then-unicode : goal.returns-then-unicode
returns-then-unicode c = search size_wide

pub returns : goal.returns
returns c = search size_byte
