-- The place of a refusal is short: what a message is refused for outside its list of pairs has none.
use Rattle.read_negotiate.specs.declared.Negotiate.{Negotiate as NegotiateMessage}
use Rattle.std.specs.Prelude.{Result, Err}
use Rattle.read_challenge.specs.declared.FullChallenge.{FullChallenge}
use Rattle.read_nl_auth.specs.declared.NlAuth.{NlAuth}
use Prim.Native.Nat.{ℕ, ◌^◌, ◌≤◌, ◌<◌}
use mathlib.Core.Path.{◌≡◌, sym, ap, ◌∙◌}
use mathlib.Core.List.{List}
use native.Mathlib.Omega.{arith}
use Rattle.wire.specs.declared.refusal.Refusal.{Refusal}
use Rattle.wire.specs.Refusal.{place_of}
use Rattle.read_nl_auth.specs.NlAuth.{read_nl_auth}
use Rattle.read_nl_auth.proofs.Places.{nl_auth_placeless}
use Rattle.read_negotiate.specs.Negotiate.{read_negotiate}
use Rattle.read_authenticate.specs.declared.Answer.{Answer}
use Rattle.read_authenticate.specs.Authenticate.{read_authenticate}
use Rattle.read_challenge.specs.Challenge.{read_challenge, full_reading_of}
use Rattle.read_challenge.proofs.Laws.{refusal_alone}
use Rattle.head.specs.declared.Kind.TheVariants.{Negotiate, Challenge, Authenticate}
use Rattle.verdict.specs.Verdict.{nego_verdict, chal_verdict, auth_verdict}
use Rattle.verdict.proofs.Refusals.{read_near, read_short}

-- ---- the place of an NTLM message's refusal

pub nego_short : (s : List ℕ) (r : Result NegotiateMessage Refusal) (e : Refusal) → r ≡ read_negotiate s → r ≡ Err e → place_of e < 2 ^ 32
nego_short s r e p h = rw (ap nego_verdict (sym p ∙ h)) at (read_short Negotiate s)

pub auth_short : (s : List ℕ) (r : Answer) (e : Refusal) → r ≡ read_authenticate s → r.reading ≡ Err e → place_of e < 2 ^ 32
auth_short s r e p h = rw (ap (λ (a : Answer). auth_verdict a.reading) (sym p) ∙ ap auth_verdict h) at (read_short Authenticate s)

pub chal_place : (s : List ℕ) (e : Refusal) → (read_challenge s).reading ≡ Err e → place_of e ≤ 65535
chal_place s e h = rw (ap chal_verdict h) at (read_near Challenge s)

pub chal_short : (s : List ℕ) (r : Result FullChallenge Refusal) (e : Refusal) → r ≡ full_reading_of s → r ≡ Err e → place_of e < 2 ^ 32
unfolding read_challenge
chal_short s r e p h = omega (arith, chal_place s e (sym (refusal_alone s r p e h)))

-- ---- NL_AUTH

pub nl_short : (s : List ℕ) (r : Result NlAuth Refusal) (e : Refusal) → r ≡ read_nl_auth s → r ≡ Err e → place_of e < 2 ^ 32
nl_short s r e p h = omega (arith, nl_auth_placeless s r e p h)
