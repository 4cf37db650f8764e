-- `room_after_lengths` is what the words for LM response, NT response and key leave of a room.
use borrow.Author.Rules.{rules}
use Rattle.line_words.proofs.Rooms.{leaves}
use Rattle.line_authenticate.proofs.room_after_lengths.Statement.{statement}
use Rattle.line_authenticate.proofs.room_after_lengths.Tie as tie
use Rattle.line_authenticate.specs.Auth.{auth_lengths}

pub room_after_lengths_spec : {M : Type 1} → statement M
unfolding auth_lengths
room_after_lengths_spec =
    tie.close
    (tie.spec
    (λ c κs. search rules) (λ c κs. search rules) (λ c κs. search rules) (λ c. search leaves))
