use Rattle.place.proofs.Parts.{none_written}
use Rattle.base64_text.proofs.Writing.{encoding}
use Rattle.base64_text.proofs.put_encoded.Goals as goal

pub loop-left-init : goal.loop-left-init
loop-left-init c = none_written _ _ _

pub put_three-q-requires : goal.put_three-q-requires
put_three-q-requires c = search encoding

pub loop-left-preserved : goal.loop-left-preserved
loop-left-preserved c = search encoding

pub put_two-requires : goal.put_two-requires
put_two-requires c = search encoding

pub returns-in-len2 : goal.returns-in-len2
returns-in-len2 c = search encoding

pub put_one-requires : goal.put_one-requires
put_one-requires c = search encoding

pub returns-in-len1 : goal.returns-in-len1
returns-in-len1 c = search encoding
