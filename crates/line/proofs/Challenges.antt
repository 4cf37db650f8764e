-- CHALLENGE's line, by what its reading is known to say.
use Rattle.std.specs.Prelude.{Result, Ok, Err}
use Prim.Native.Nat.{ℕ}
use mathlib.Core.Path.{◌≡◌, sym, ◌∙◌}
use mathlib.Core.List.{List}
use Rattle.wire.specs.declared.refusal.Refusal.{Refusal}
use Rattle.read_challenge.specs.declared.FullChallenge.{FullChallenge}
use Rattle.read_challenge.specs.Challenge.{read_challenge, full_reading_of}
use Rattle.read_challenge.proofs.Laws.{full-reads, refusal_alone}
use Rattle.line_refused.specs.Refused.{refused_line}
use Rattle.line_challenge.specs.Chal.{chal_text}
use Rattle.line.specs.Line.{challenge_line}

module _ (s : List ℕ) (r : Result FullChallenge Refusal) (p : r ≡ full_reading_of s) where
  module _ (f : FullChallenge) (h : r ≡ Ok f) where
    pub chal_read : full_reading_of s ≡ Ok f
    chal_read = sym p ∙ h

    pub chal_taken : chal_text s f.challenge ≡ challenge_line s
    unfolding challenge_line read_challenge
    chal_taken = simp (full-reads s r p f h)

  pub chal_refused : (e : Refusal) → r ≡ Err e → refused_line e ≡ challenge_line s
  unfolding challenge_line read_challenge
  chal_refused e h = simp (← refusal_alone s r p e h)
