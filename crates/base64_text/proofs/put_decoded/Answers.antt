use Rattle.place.proofs.Parts.{none_written}
use Rattle.base64_text.proofs.Groups.{joined, last_four}
use Rattle.base64_text.proofs.Writing.{decoding}
use Rattle.base64_text.proofs.put_decoded.Goals as goal

pub loop-left-init : goal.loop-left-init
loop-left-init c =
    let h = c.in-Some.ensures.cases in
    let e = joined c.args.t.now c.in-Some.front.now c.in-Some.last.now h.0 h.1 in
    record {
      four = last_four c.args.t.now c.in-Some.front.now c.in-Some.last.now h.1 h.2;
      sound = rw e c.requires.0;
      partly = rw e (none_written _ _ _);
    }

pub put_full-q-requires : goal.put_full-q-requires
put_full-q-requires c = search decoding

pub loop-left-preserved : goal.loop-left-preserved
loop-left-preserved c = record { four = c.loop-left.invariant.four; sound = search decoding; partly = search decoding }

pub put_last-requires : goal.put_last-requires
put_last-requires c = search decoding

pub returns : goal.returns
returns c = search decoding
