use borrow.Author.Rules.{rules}
use Rattle.head.proofs.Types.{too_short, by_type}
use Rattle.head.proofs.kind_of.Goals as goal

pub returns-then-msg-lt12 : goal.returns-then-msg-lt12
returns-then-msg-lt12 c = search too_short

pub returns : goal.returns
returns c = search (by_type, rules)
