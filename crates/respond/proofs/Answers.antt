-- Laws of what an answer is made of.
use Rattle.std.specs.Prelude.{Result, Ok, Err}
use Rattle.read_challenge.specs.declared.FullChallenge.{FullChallenge}
use Prim.Native.Nat.{ℕ}
use mathlib.Core.Path.{◌≡◌, ◌∙◌}
use mathlib.Core.Bool.{Bool, ◌&&◌, cond}
use mathlib.Core.List.{List}
use lib.ListN.{length, replicate}
use Rattle.wire.specs.declared.refusal.Refusal.{Refusal}
use Rattle.write_authenticate.specs.Writing.{write_answer, write_out}
use Rattle.read_challenge.specs.Challenge.{full_reading_of}
use Rattle.respond.specs.declared.decision.Settings.{Settings}
use Rattle.respond.specs.declared.decision.Decision.{Decision}
use Rattle.respond.specs.Decision.{decision_on}
use Rattle.respond.specs.Domain.{domain_to_send}
use Rattle.respond.specs.Answer.{mic_due, time_to_send, lm_to_send, mic_to_send, key_to_send, Supplied, Effect, refusing, sending, with_domain, respond_to}
use Rattle.respond.proofs.Decisions.{undecided}

-- a message of the parts that were chosen, and one that was refused
module _ (settings : Settings) (d : Decision) (x : Supplied) (m l k out : List ℕ) (w : Result ℕ Refusal)
    (em : m ≡ mic_to_send d.timestamp x.mic)
    (el : l ≡ cond (settings.ntlmv2 && mic_due d.timestamp) (replicate 24 0) x.lm)
    (ek : k ≡ key_to_send d.flags x.key)
    (ew : w ≡ write_answer (length x.out) d.flags x.version m l x.nt x.domain x.user x.workstation k)
    (eo : out ≡ write_out x.out d.flags x.version m l x.nt x.domain x.user x.workstation k) where
  pub sends : (n t : ℕ) (b : Bool) → w ≡ Ok n → t ≡ time_to_send settings d.timestamp x.clock → b ≡ mic_due d.timestamp →
      record { answer = Ok (record { len = n; time = t; mic_due = b }); output = out } ≡ sending settings d x
  unfolding sending lm_to_send
  sends n t b h et eb = rw (eo, et, eb, ← em, ← el, ← ek, ← ew, h)

  pub unsent : (e : Refusal) → w ≡ Err e → record { answer = Err e; output = out } ≡ sending settings d x
  unfolding sending lm_to_send
  unsent e h = rw (eo, ← em, ← el, ← ek, ← ew, h)

-- what comes of a challenge that was not read, of one that was refused, and of one that is answered with the domain to send
module _ (settings : Settings) (s : List ℕ) (x : Supplied) where
  pub unread_stops : (r : Result FullChallenge Refusal) (e : Refusal) → r ≡ full_reading_of s → r ≡ Err e → refusing x e ≡ respond_to settings s x
  unfolding respond_to
  unread_stops r e p h = simp (← undecided settings s r e p h)

  module _ (r : Result Decision Refusal) (p : r ≡ decision_on settings s) where
    pub declined_stops : (e : Refusal) → r ≡ Err e → refusing x e ≡ respond_to settings s x
    unfolding respond_to
    declined_stops e h = simp (← p, h)

    pub answers : (d : Decision) (domain : List ℕ) (y : Effect) → r ≡ Ok d → domain ≡ domain_to_send x.domain s →
        y ≡ sending settings d (with_domain domain x) → y ≡ respond_to settings s x
    unfolding respond_to
    answers d domain y h e q = q ∙ simp (← p, h, e)
