use Rattle.wire.proofs.Laws.{with_ok, handed_on}
use Rattle.read_challenge.specs.Challenge.{server_names_of}
use Rattle.read_challenge.proofs.Laws.{list_clear, of_names}
use Rattle.read_challenge.proofs.read_server_names.Goals as goal

pub returns-in_err-c : goal.returns-in_err-c
unfolding server_names_of
returns-in_err-c c = handed_on _ _ _ _ _ c.from_residual.ensures.1 c.reading_of.ensures c.in_err-c.was

pub server_names_in-requires : goal.server_names_in-requires
server_names_in-requires c = list_clear _ _ _ _ c.reading_of.ensures c.in_ok-c.was c.bytes.ensures.content

pub returns : goal.returns
unfolding server_names_of
returns c = with_ok _ _ _ _ _ _ c.reading_of.ensures c.in_ok-c.was (of_names _ _ _ c.bytes.ensures.content c.server_names_in.ensures)
