-- Only pairs have a place, and in a message it has 16 bits.
use Rattle.wire.proofs.Places.{placeless_number}
use Rattle.line.proofs.Places.{chal_place}
use Rattle.demands.specs.TakenExactly.{PlaceOfPairsOnly, PlaceInMessage}

pub place_of_pairs_only : PlaceOfPairsOnly
place_of_pairs_only = placeless_number

pub place_in_message : PlaceInMessage
place_in_message s e h = chal_place s e h
