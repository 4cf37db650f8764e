use Rattle.md5_digest.proofs.Whole.{is_digest}
use Rattle.md5_digest.proofs.state.digest.Goals as goal

pub returns : goal.returns
returns c = search is_digest
