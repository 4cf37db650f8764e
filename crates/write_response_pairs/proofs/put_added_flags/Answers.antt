use Rattle.write_response_pairs.proofs.Sent.{flags_none, flags_added_lem, flags_added_room}
use Rattle.write_response_pairs.proofs.put_added_flags.Goals as goal

pub put_flags-requires : goal.put_flags-requires
put_flags-requires c = search flags_added_room

pub returns-then-plan : goal.returns-then-plan
returns-then-plan c = search flags_added_lem

pub returns : goal.returns
returns c = search flags_none
