use borrow.Author.Rules.{rules}
use Rattle.av_pairs.proofs.Walks.{clear_all, there_clear, there_fits, there_falls}
use Rattle.write_response_pairs.proofs.Copying.{see_none, see_few, see_one, see_size, see_timestamp, see_flags}
use Rattle.write_response_pairs.proofs.look_over.Goals as goal

pub loop-p-init : goal.loop-p-init
loop-p-init c = (see_none _ _ _ _ (search rules) (search rules) (search rules), search clear_all)

pub add_capped-requires : goal.add_capped-requires
add_capped-requires c = search see_few

pub overflow_add-at : goal.overflow_add-at
overflow_add-at c = search there_fits

pub loop-p-smaller : goal.loop-p-smaller
loop-p-smaller c = search there_falls

pub loop-p-preserved : goal.loop-p-preserved
loop-p-preserved c = (search see_one depth 8 fits 5000, search there_clear)

pub returns : goal.returns
returns c = record { size = search see_size; timestamp = search see_timestamp; flags = search see_flags }
