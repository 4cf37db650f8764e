use Rattle.write_nl_auth.proofs.Sent.{response}
use Rattle.write_nl_auth.specs.Writing.{response_answer, response_out}
use Rattle.write_nl_auth.proofs.write_response.Goals as goal

pub returns-clause-answer : goal.returns-clause-answer
unfolding response_answer response_out
returns-clause-answer c = search response

pub returns-clause-content : goal.returns-clause-content
unfolding response_answer response_out
returns-clause-content c = search response
