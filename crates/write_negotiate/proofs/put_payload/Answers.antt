use Rattle.place.proofs.Laws.{and_then}
use Rattle.write_negotiate.proofs.put_payload.Goals as goal

pub returns : goal.returns
returns c = search and_then
