use borrow.Author.Rules.{rules}
use Rattle.av_pairs.proofs.Walks.{clear_all, there_clear, there_fits, there_falls, there_inside}
use Rattle.write_response_pairs.proofs.Copying.{put_none, put_room, put_one, put_all, flags_four}
use Rattle.write_response_pairs.proofs.put_kept.Goals as goal

pub loop-p-init : goal.loop-p-init
loop-p-init c = (put_none _ _ _, search clear_all)

pub put_one-place-requires : goal.put_one-place-requires
put_one-place-requires c = (search there_inside, search flags_four, search rules, search put_room)

pub overflow_add-at : goal.overflow_add-at
overflow_add-at c = search there_fits

pub loop-p-smaller : goal.loop-p-smaller
loop-p-smaller c = search there_falls

pub loop-p-preserved : goal.loop-p-preserved
loop-p-preserved c = (search put_one depth 8 fits 5000, search there_clear)

pub returns : goal.returns
returns c = search put_all
