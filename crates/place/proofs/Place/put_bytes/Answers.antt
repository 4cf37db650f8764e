use borrow.Author.Rules.{rules}
use Rattle.place.proofs.Laws.{copied}
use Rattle.place.proofs.Place.put_bytes.Goals as goal

pub returns : goal.returns
returns c = record { place = search rules; content = search copied }
