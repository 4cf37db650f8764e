use Rattle.write_response_pairs.proofs.Sent.{size_empty, size_whole}
use Rattle.write_response_pairs.proofs.list_size.Goals as goal

pub returns-then-list-eq0 : goal.returns-then-list-eq0
returns-then-list-eq0 c = search size_empty

pub returns : goal.returns
returns c = search size_whole depth 8 fits 5000
