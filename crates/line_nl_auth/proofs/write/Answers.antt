-- The line is written where it has room.
use Rattle.line_words.proofs.Calls.{no_room, as_it_was, its_length, its_bytes}
use Rattle.line_nl_auth.proofs.write.Goals as goal

pub returns-in_default-clause-answer : goal.returns-in_default-clause-answer
returns-in_default-clause-answer c = search no_room

pub returns-in_default-clause-content : goal.returns-in_default-clause-content
returns-in_default-clause-content c = search as_it_was

pub returns-clause-answer : goal.returns-clause-answer
returns-clause-answer c = search its_length

pub returns-clause-content : goal.returns-clause-content
returns-clause-content c = search its_bytes
