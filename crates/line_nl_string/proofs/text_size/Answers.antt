-- The length of either text.
use Rattle.line_nl_string.proofs.Laws.{oem_length, utf8_length}
use Rattle.line_nl_string.proofs.text_size.Goals as goal

pub returns-then-utf8 : goal.returns-then-utf8
returns-then-utf8 c = search utf8_length

pub returns : goal.returns
returns c = search oem_length
