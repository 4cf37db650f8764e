-- A CHALLENGE's verdict is the same with what its TargetInfo holds.
use Rattle.std.specs.Prelude.{Result, Ok, Err, ⊤}
use mathlib.Core.Path.{◌≡◌, refl}
use mathlib.Core.List.{List}
use Prim.Native.Nat.{ℕ}
use Rattle.wire.specs.declared.refusal.Refusal.{Refusal}
use Rattle.read_challenge.specs.declared.FullChallenge.{FullChallenge}
use Rattle.read_challenge.specs.Challenge.{read_challenge, full_reading_of}
use Rattle.read_challenge.proofs.Laws.{full-reads, refusal_alone}
use Rattle.verdict.specs.Verdict.{chal_verdict}

abbrev pub full_verdict : Result FullChallenge Refusal → Result ⊤ Refusal
full_verdict (Ok f) = Ok tt
full_verdict (Err e) = Err e

pub challenge_verdict : (s : List ℕ) → chal_verdict (read_challenge s).reading ≡ full_verdict (full_reading_of s)
unfolding read_challenge
challenge_verdict s = go (full_reading_of s) refl where
  go : (r : Result FullChallenge Refusal) → full_reading_of s ≡ r → chal_verdict (read_challenge s).reading ≡ full_verdict r
  go (Ok f) h = rw (full-reads s (full_reading_of s) refl f h)
  go (Err e) h = rw (← refusal_alone s (full_reading_of s) refl e h)
