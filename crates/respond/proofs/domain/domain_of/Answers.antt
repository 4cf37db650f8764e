use Rattle.read_challenge.proofs.Laws.{info_clear}
use Rattle.respond.specs.Domain.{domain_part}
use Rattle.respond.proofs.Domains.{own, value, value_end, end_fits}
use Rattle.respond.proofs.domain.domain_of.Goals as goal

pub returns-then-own-ne0 : goal.returns-then-own-ne0
unfolding domain_part
returns-then-own-ne0 c = record { content = search own depth 9 fits 20000; place = search own depth 9 fits 20000; within = search own depth 9 fits 20000 }

pub first_pair-requires : goal.first_pair-requires
first_pair-requires c = search info_clear

pub returns-in_default : goal.returns-in_default
unfolding domain_part
returns-in_default c = record { content = search own depth 9 fits 20000; place = search own depth 9 fits 20000; within = search own depth 9 fits 20000 }

pub overflow_add-end : goal.overflow_add-end
overflow_add-end c = search end_fits

pub slice_bounds-result-end : goal.slice_bounds-result-end
slice_bounds-result-end c = search value_end

pub returns-then-unicode : goal.returns-then-unicode
unfolding domain_part
returns-then-unicode c = record { content = search value depth 9 fits 20000; place = search value depth 9 fits 20000; within = search value depth 9 fits 20000 }

pub returns : goal.returns
unfolding domain_part
returns c = record { content = search own depth 9 fits 20000; place = search own depth 9 fits 20000; within = search own depth 9 fits 20000 }
