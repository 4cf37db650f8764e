use Rattle.place.proofs.Writings.{whole_content}
use Rattle.c_number.proofs.give_bytes.Goals as goal

pub returns : goal.returns
returns c = whole_content _ _ _ _ c.put_bytes.ensures c.requires
