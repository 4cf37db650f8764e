-- Ignored bytes and MaxLen of the three messages change no refusal of the MIC's calls.
use Rattle.std.specs.Prelude.{Result, Ok, Err}
use Rattle.read_authenticate.specs.declared.Authenticate.{Authenticate}
use Rattle.wire.specs.declared.refusal.Refusal.{Refusal}
use Prim.Native.Nat.{ℕ}
use mathlib.Core.Path.{◌≡◌, refl, sym, ap, ◌∙◌}
use mathlib.Core.List.{List}
use lib.ListN.{length}
use Rattle.head.specs.declared.Kind.TheVariants.{Negotiate, Challenge}
use Rattle.read_authenticate.specs.Authenticate.{read_authenticate}
use Rattle.mic.specs.Mic.{authenticate_verdict, check_inputs}
use Rattle.demands.specs.MaxLen.{authenticate_without_max_len}
use Rattle.demands.specs.Message.{negotiate, challenge, authenticate, DifferInIgnored}
use Rattle.demands.specs.Mic.{MicIgnored}
use Rattle.demands.proofs.Explained.Same.{ignored_read}
use Rattle.demands.proofs.Ignored.{authenticate_ignored}
use Rattle.demands.proofs.Mic.{same_refusals}

-- the AUTHENTICATE's verdict doesn't go by MaxLen
bare_verdict : (r : Result Authenticate Refusal) → authenticate_verdict r ≡ authenticate_verdict (authenticate_without_max_len r)
bare_verdict (Ok a) = refl
bare_verdict (Err e) = refl

auth_same : (s t : List ℕ) → DifferInIgnored authenticate s t →
    authenticate_verdict (read_authenticate s).reading ≡ authenticate_verdict (read_authenticate t).reading
auth_same s t d =
    bare_verdict (read_authenticate s).reading ∙ ap authenticate_verdict (authenticate_ignored s t d).reading
    ∙ sym (bare_verdict (read_authenticate t).reading)

checks_same : (n : ℕ) (nego chal auth nego' chal' auth' : List ℕ) →
    DifferInIgnored negotiate nego nego' → DifferInIgnored challenge chal chal' → DifferInIgnored authenticate auth auth' →
    check_inputs n nego chal auth ≡ check_inputs n nego' chal' auth'
unfolding check_inputs
checks_same n nego chal auth nego' chal' auth' d e f =
    simp (ignored_read Negotiate nego nego' d, ignored_read Challenge chal chal' e, auth_same auth auth' f)

pub mic_ignored : MicIgnored
mic_ignored key nego chal auth nego' chal' auth' d e f =
    same_refusals key nego chal auth key nego' chal' auth' (checks_same (length key) nego chal auth nego' chal' auth' d e f)
