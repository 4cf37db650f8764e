-- `put_mic` writes 0 or 1.
use borrow.Author.Rules.{rules}
use native.Mathlib.Omega.{arith}
use Rattle.line_words.proofs.Labels.{mic_room, choice}
use Rattle.line_authenticate.proofs.put_mic.Statement.{statement}
use Rattle.line_authenticate.proofs.put_mic.Tie as tie
use Rattle.line_words.specs.Words.{mic_word}

pub put_mic_spec : {M : Type 1} → statement M
unfolding mic_word
put_mic_spec =
    tie.close
    (tie.spec
    (λ c κs. omega (arith, mic_room)) (λ c. search rules) (λ c. search choice) (λ c κs. omega (arith, mic_room))
    (λ c. search rules) (λ c. search choice))
