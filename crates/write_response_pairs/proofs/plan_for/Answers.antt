use Rattle.write_response_pairs.proofs.Sent.{seen_few, bits_are, adds_are, size_are}
use Rattle.write_response_pairs.proofs.plan_for.Goals as goal

pub list_size-requires : goal.list_size-requires
list_size-requires c = search seen_few

pub returns : goal.returns
returns c = record { bits = search bits_are; adds = search adds_are; size = search size_are depth 8 fits 5000 }
