use borrow.Author.Rules.{rules}
use Rattle.field.specs.Field.{field_at}
use Rattle.field.proofs.field_at.Goals as goal

pub returns-then-not-counts : goal.returns-then-not-counts
unfolding field_at
returns-then-not-counts c = search rules

pub returns-then-len-eq0 : goal.returns-then-len-eq0
unfolding field_at
returns-then-len-eq0 c = search rules

pub returns : goal.returns
unfolding field_at
returns c = search rules
