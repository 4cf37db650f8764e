-- A backslash, the letter and the digits.
use Rattle.line_words.proofs.Names.{escaped}
use Rattle.line_words.proofs.name.put_escape.Goals as goal

pub returns : goal.returns
returns c = search escaped
