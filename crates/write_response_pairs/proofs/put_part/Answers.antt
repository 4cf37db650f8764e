use borrow.Author.Rules.{rules}
use Rattle.write_response_pairs.proofs.Copying.{one_none, one_flags, one_same, flags_room, pair_room, flags_long, value_short}
use Rattle.write_response_pairs.proofs.put_part.Goals as goal

pub returns-then-left_out : goal.returns-then-left_out
returns-then-left_out c = search one_none

pub u32_at-requires : goal.u32_at-requires
u32_at-requires c = search flags_long

pub put_flags-requires : goal.put_flags-requires
put_flags-requires c = search flags_room

pub returns-then-is_flags-bits : goal.returns-then-is_flags-bits
returns-then-is_flags-bits c = search one_flags depth 8 fits 5000

pub put_pair-requires : goal.put_pair-requires
put_pair-requires c = (search (value_short, rules), search pair_room)

pub returns : goal.returns
returns c = search one_same depth 8 fits 5000
