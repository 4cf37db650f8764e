-- Laws of the bench's bits, and of a call with settings.
use Prim.Native.Nat.{ℕ}
use mathlib.Core.Path.{◌≡◌, refl}
use mathlib.Core.Bool.{Bool, true, false, not, cond}
use mathlib.Core.List.{List}
use lib.Dec.{eqb}
use Rattle.respond.specs.declared.decision.Settings.{Settings}
use Rattle.respond.specs.Answer.{Supplied}
use Rattle.respond.specs.Decision.{bench_settings}
use Rattle.c_respond.specs.Settings.{settings_of, bench_bits}
use Rattle.c_respond.specs.Respond.{EffectFromC, respond_from_c}

-- the bench's bits stand for its settings, by the caller's number
pub bench_stands : (n b : ℕ) → b ≡ bench_bits n → settings_of b ≡ bench_settings (not (eqb n 0))
unfolding bench_bits
bench_stands n b h = rw h (go (eqb n 0)) where
  go : (t : Bool) → settings_of (cond t 0x2 0x3) ≡ bench_settings (not t)
  go true = refl
  go false = refl

-- a call with settings, by what they are known to be
pub known_settings : (t u : Settings) (s : List ℕ) (x : Supplied) (out : List ℕ) (y : EffectFromC) → t ≡ u → y ≡ respond_from_c t s x out →
    y ≡ respond_from_c u s x out
known_settings t u s x out y q e = rw (← q) e
