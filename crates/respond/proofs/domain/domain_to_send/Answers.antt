use Rattle.read_challenge.proofs.Laws.{full-reads}
use Rattle.respond.specs.Domain.{domain_part}
use Rattle.respond.proofs.Domains.{own}
use Rattle.respond.proofs.domain.domain_to_send.Goals as goal

pub returns-then-own-ne0 : goal.returns-then-own-ne0
unfolding domain_part
returns-then-own-ne0 c = record { content = search own depth 9 fits 20000; place = search own depth 9 fits 20000; within = search own depth 9 fits 20000 }

pub returns-in_default : goal.returns-in_default
unfolding domain_part
returns-in_default c = record { content = search own depth 9 fits 20000; place = search own depth 9 fits 20000; within = search own depth 9 fits 20000 }

pub domain_of-requires : goal.domain_of-requires
domain_of-requires c = search full-reads
