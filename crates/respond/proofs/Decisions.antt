-- Laws of the decision on a challenge.
use Rattle.std.specs.Prelude.{Result, Ok, Err}
use mathlib.Core.Path.{◌≡◌, refl}
use mathlib.Core.List.{List}
use Prim.Native.Nat.{ℕ}
use Rattle.wire.specs.declared.check.Checked.{Checked}
use Rattle.negotiate_flags.specs.declared.NegotiateFlags.{NegotiateFlags}
use Rattle.wire.specs.declared.refusal.Refusal.{Refusal}
use Rattle.wire.proofs.Laws.{chain}
use Rattle.read_challenge.specs.declared.FullChallenge.{FullChallenge}
use Rattle.read_challenge.proofs.Laws.{full-reads, full_holds, refusal_alone}
use Rattle.read_challenge.specs.Challenge.{reading_of, info_of, full_reading_of}
use Rattle.target_info.specs.TargetInfo.{timestamp_in, server_names_in}
use Rattle.respond.specs.declared.decision.Settings.{Settings}
use Rattle.respond.specs.declared.decision.Decision.{Decision}
use Rattle.respond.specs.Decision.{server_names_hold, decision_on}
use Rattle.respond.proofs.Domains.{on_taken_lem}

-- the pairs that were handed out are TargetInfo's
pub of_list : (settings : Settings) (l m : List ℕ) (k : Checked) → l ≡ m → k ≡ server_names_hold settings (server_names_in l) →
    k ≡ server_names_hold settings (server_names_in m)
of_list settings l m k e h = rw (← e) h

-- the challenge that was read, and what the reader found in its list
module _ (s : List ℕ) (f : FullChallenge) (h : full_reading_of s ≡ Ok f) where
  pub read_as : reading_of s ≡ Ok f.challenge
  read_as = full-reads s (full_reading_of s) refl f h

  pub decided_is : (w : NegotiateFlags) → ◌≡◌ {A = Result Decision Refusal} (Ok (record { flags = w; timestamp = f.contents.timestamp }))
      (Ok (record { flags = w; timestamp = timestamp_in (info_of s f.challenge) }))
  decided_is w = simp (full_holds s (full_reading_of s) refl f h)

pub ruleset decision = (chain, on_taken_lem, of_list, read_as, decided_is)

-- a challenge that was not read
pub undecided : (settings : Settings) (s : List ℕ) (r : Result FullChallenge Refusal) (e : Refusal) → r ≡ full_reading_of s → r ≡ Err e →
    Err e ≡ decision_on settings s
unfolding decision_on
undecided settings s r e p h = simp (← refusal_alone s r p e h)
