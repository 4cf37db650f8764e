use Rattle.write_negotiate.proofs.Sent.{size_is}
use Rattle.write_negotiate.proofs.size_to_write.Goals as goal

pub returns : goal.returns
returns c = search size_is
