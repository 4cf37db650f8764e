use Rattle.std.proofs.Common.{rules}
use borrow.Author.Tests.{tests}
use lib.Dec.{eqb}
use Rattle.std.proofs.lemmas.Iterator.Consumers.{YieldsList-at, YieldsList-turn, YieldsList-end}
use Rattle.std.proofs.lemmas.Iterator.Splits.{YieldsList-from_slice_split}
use Rattle.std.proofs.lemmas.List.{length_push}
use Rattle.write_dns_name.proofs.Pieces.{pieces_are}
use Rattle.write_dns_name.proofs.Coding.{label_small, label_room, code_more, end_room, code_end}
use Rattle.write_dns_name.proofs.put_pieces.Goals as goal

pub put_label-p-requires : goal.put_label-p-requires
put_label-p-requires c =
    let t = YieldsList-turn (YieldsList-at c.into_iter-label-iterator.ensures.into_iter_gives (YieldsList-from_slice_split _ (λ b. eqb b 0x2E) c.args.text.now c.split-label-items.ensures.rest c.split-label-items.ensures.done c.split-label-items.ensures.closure (λ x b q k. search (rules, tests)))) c.loop-label.yielded _ c.loop-label.yielded_by _ _ c.in-Some.label c.in-Some.is c.next.ensures.steps in
    let u = rw pieces_are at t in
    let w = c.loop-label.invariant.2 in
    (label_small _ _ _ _ _ _ w _ u, label_room _ _ _ _ _ _ w _ u c.requires.1)

pub loop-label-preserved : goal.loop-label-preserved
loop-label-preserved c =
    let t = YieldsList-turn (YieldsList-at c.into_iter-label-iterator.ensures.into_iter_gives (YieldsList-from_slice_split _ (λ b. eqb b 0x2E) c.args.text.now c.split-label-items.ensures.rest c.split-label-items.ensures.done c.split-label-items.ensures.closure (λ x b q k. search (rules, tests)))) c.loop-label.yielded _ c.loop-label.yielded_by _ _ c.in-Some.label c.in-Some.is c.next.ensures.steps in
    let u = rw pieces_are at t in
    let w = c.loop-label.invariant.2 in
    (search rules, search rules, rw (length_push c.loop-label.yielded c.in-Some.label) (code_more _ _ _ _ _ _ w _ u _ _ c.put_label-p.ensures))

pub put_u8-requires : goal.put_u8-requires
put_u8-requires c =
    let t = YieldsList-end (YieldsList-at c.into_iter-label-iterator.ensures.into_iter_gives (YieldsList-from_slice_split _ (λ b. eqb b 0x2E) c.args.text.now c.split-label-items.ensures.rest c.split-label-items.ensures.done c.split-label-items.ensures.closure (λ x b q k. search (rules, tests)))) c.loop-label.yielded _ c.loop-label.yielded_by _ _ c.in-None.is c.next.ensures.steps in
    let u = rw pieces_are at t.1 in
    let w = c.loop-label.invariant.2 in
    end_room _ _ _ _ _ _ w u c.requires.1

pub returns : goal.returns
returns c =
    let t = YieldsList-end (YieldsList-at c.into_iter-label-iterator.ensures.into_iter_gives (YieldsList-from_slice_split _ (λ b. eqb b 0x2E) c.args.text.now c.split-label-items.ensures.rest c.split-label-items.ensures.done c.split-label-items.ensures.closure (λ x b q k. search (rules, tests)))) c.loop-label.yielded _ c.loop-label.yielded_by _ _ c.in-None.is c.next.ensures.steps in
    let u = rw pieces_are at t.1 in
    let w = c.loop-label.invariant.2 in
    code_end _ _ _ _ _ _ w u _ _ c.put_u8.ensures
