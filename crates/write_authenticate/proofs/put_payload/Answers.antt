use Rattle.place.proofs.Laws.{and_then}
use Rattle.write_authenticate.specs.Writing.{payload_bytes}
use Rattle.write_authenticate.proofs.put_payload.Goals as goal

pub returns : goal.returns
unfolding payload_bytes
returns c = search and_then
