use Rattle.place.proofs.Laws.{and_then}
use Rattle.write_response_pairs.specs.ResponsePairs.{pair_bytes}
use Rattle.write_response_pairs.proofs.put_pair.Goals as goal

pub returns : goal.returns
unfolding pair_bytes
returns c = search and_then
