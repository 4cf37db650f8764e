use Rattle.write_authenticate.proofs.Sent.{size_is}
use Rattle.write_authenticate.proofs.size_to_write.Goals as goal

pub returns : goal.returns
returns c = search size_is depth 8 fits 20000
