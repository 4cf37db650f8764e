-- What the units before `u` left of the room is for those from `u` on.
use Rattle.std.proofs.Common.{◌≡◌, ◌-◌, length}
use Rattle.line_words.specs.Name.{text_of, units, name_text}
use Rattle.line_words.proofs.name.Units.room_after.Given as goal

abbrev pub invariant-loop-u : goal.invariant-loop-u
invariant-loop-u l =
    l.left - length (text_of l.self.unicode (units l.u-iterator.unicode l.u-iterator.bytes.now)) ≡
    l.room - length (name_text l.self.unicode l.self.bytes.now)
