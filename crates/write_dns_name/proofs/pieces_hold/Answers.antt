use Rattle.std.proofs.Common.{rules}
use borrow.Author.Tests.{tests}
use lib.Dec.{eqb}
use Rattle.std.proofs.lemmas.Iterator.Search.{all_from_yields_List}
use Rattle.std.proofs.lemmas.Iterator.Splits.{YieldsList-from_slice_split}
use Rattle.write_dns_name.proofs.Pieces.{pieces_are}
use Rattle.write_dns_name.proofs.Holding.{fits, each_holds}
use Rattle.write_dns_name.proofs.pieces_hold.Goals as goal

pub returns : goal.returns
returns c =
    let all = all_from_yields_List fits _ _ c.all.result c.all.ensures.ran (YieldsList-from_slice_split _ (λ b. eqb b 0x2E) c.args.text.now c.split.ensures.rest c.split.ensures.done c.split.ensures.closure (λ x b q k. search (rules, tests))) (λ x b q k. search (rules, tests)) in
    rw (c.check.ensures, all, pieces_are) (each_holds _)
