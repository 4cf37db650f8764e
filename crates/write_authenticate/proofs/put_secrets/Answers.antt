use Rattle.place.proofs.Laws.{and_then}
use Rattle.write_authenticate.proofs.put_secrets.Goals as goal

pub returns : goal.returns
returns c = search and_then
