use Rattle.write_response_pairs.proofs.Copying.{flags_bytes}
use Rattle.write_response_pairs.proofs.put_flags.Goals as goal

pub returns : goal.returns
returns c = search flags_bytes
