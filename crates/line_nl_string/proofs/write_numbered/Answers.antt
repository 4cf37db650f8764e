-- For any other number there is no text.
use Rattle.std.proofs.Common.{arith}
use Rattle.std.proofs.lemmas.Bool.Decides.{nat_tests}
use Rattle.line_nl_string.specs.StringText.{utf8_numbered, string_text}
use Rattle.line_nl_string.proofs.Laws.{none_answer, none_after}
use Rattle.line_nl_string.proofs.write_numbered.Goals as goal

pub returns-in_default-6-clause-answer : goal.returns-in_default-6-clause-answer
unfolding utf8_numbered string_text
returns-in_default-6-clause-answer c = none_answer _ _ (grind (arith, nat_tests))

pub returns-in_default-6-clause-content : goal.returns-in_default-6-clause-content
unfolding utf8_numbered string_text
returns-in_default-6-clause-content c = none_after _ _ (grind (arith, nat_tests))
