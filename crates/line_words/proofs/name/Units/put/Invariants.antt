-- The texts of the units before `u` are written.
use Rattle.place.proofs.Parts.{Partly}
use Rattle.line_words.specs.Name.{text_of, units, name_text}
use Rattle.line_words.proofs.name.Units.put.Given as goal

abbrev pub invariant-loop-u : goal.invariant-loop-u
invariant-loop-u l =
    Partly l.fn.out l.out 0 l.p.at
    (text_of l.self.unicode (units l.u-iterator.unicode l.u-iterator.bytes.now))
    (name_text l.self.unicode l.self.bytes.now)
