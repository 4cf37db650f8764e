-- A text is written where it has room, by its length that was worked out.
use Rattle.line_words.proofs.Calls.{no_room, as_it_was, its_length, its_bytes}
use Rattle.line_nl_string.proofs.Laws.{by_length}
use Rattle.line_nl_string.proofs.write_text.Goals as goal

pub returns-in_default-clause-answer : goal.returns-in_default-clause-answer
returns-in_default-clause-answer c = search (no_room, by_length)

pub returns-in_default-clause-content : goal.returns-in_default-clause-content
returns-in_default-clause-content c = search (as_it_was, by_length)

pub returns-clause-answer : goal.returns-clause-answer
returns-clause-answer c = search (its_length, by_length)

pub returns-clause-content : goal.returns-clause-content
returns-clause-content c = search (its_bytes, by_length)
