-- Writing AUTHENTICATE and answering a challenge change only what they write.
use Rattle.wire.specs.Check.{on_ok}
use Rattle.std.specs.Prelude.{Result, Option, Ok, Err}
use Rattle.respond.specs.declared.decision.Decision.{Decision}
use Prim.Native.Nat.{ℕ, ◌≤◌}
use mathlib.Core.Path.{◌≡◌, refl}
use mathlib.Core.Bool.{Bool, true, false, cond}
use mathlib.Core.List.{List}
use native.Mathlib.Omega.{arith}
use lib.ListN.{length, replicate}
use borrow.Author.Tests.{leb-true}
use Rattle.wire.specs.declared.refusal.Refusal.{Refusal}
use Rattle.wire.specs.declared.refusal.Refusal.TheVariants.{NoCharset, WrongKey, TooLongToWrite, NoRoom}
use Rattle.wire.proofs.Laws.{held_true}
use Rattle.negotiate_flags.specs.declared.NegotiateFlags.{NegotiateFlags}
use Rattle.negotiate_flags.specs.Flags.{unicode, charset_holds}
use Rattle.place.specs.Written.{size_holds, room_holds}
use Rattle.write_authenticate.specs.Writing.{authenticate_bytes, check_names_to_write, key_holds, size_to_write, check_to_write, write_answer, write_out}
use Rattle.write_authenticate.proofs.Sent.{length-message}
use Rattle.respond.specs.Answer.{mic_due, time_to_send, lm_to_send, mic_to_send, key_to_send, answer_with, Effect, refusing, sending, with_domain, respond_to}
use Rattle.respond.specs.Decision.{decision_on}
use Rattle.respond.specs.Domain.{domain_to_send}
use Rattle.demands.specs.Kept.{Kept, KeptAnswer, AuthenticateKept, RespondKept}
use Rattle.demands.proofs.Secret.Answered.{sent_written}
use Rattle.demands.proofs.Bools.{after_held}
use Rattle.demands.proofs.Kept.{by_verdict, clear_both}

-- a message that is written passed checks 30 and 33
pub message_fits : (room : ℕ) (w : NegotiateFlags) (lm nt dom usr wks key : List ℕ) → check_to_write room w lm nt dom usr wks key ≡ Ok tt →
    (size_to_write lm nt dom usr wks key ≤ 65535) × (size_to_write lm nt dom usr wks key ≤ room)
unfolding check_to_write
message_fits room w lm nt dom usr wks key h =
    let c = after_held (charset_holds w) NoCharset _ h in
    let m = clear_both (check_names_to_write (unicode w) dom usr wks) _ c.1 in
    let k = after_held (key_holds w key) WrongKey _ m.1 in
    let z = after_held (size_holds (size_to_write lm nt dom usr wks key)) TooLongToWrite _ k.1 in
    let r = after_held (room_holds (size_to_write lm nt dom usr wks key) room) NoRoom _ z.1 in (
      leb-true (size_to_write lm nt dom usr wks key) 65535 (held_true _ z.0),
      leb-true (size_to_write lm nt dom usr wks key) room (held_true _ r.0),
    )

pub authenticate_kept : AuthenticateKept
unfolding write_answer write_out
authenticate_kept out w v mic lm nt dom usr wks key v8 m16 =
    by_verdict (check_to_write (length out) w lm nt dom usr wks key) (authenticate_bytes w v mic lm nt dom usr wks key) out
    (λ h. omega (arith, (message_fits (length out) w lm nt dom usr wks key h).1, length-message lm nt dom usr wks key w v mic v8 m16))

unsent : (r : Result ℕ Refusal) (time : ℕ) (due : Bool) (e : Refusal) → answer_with r time due ≡ Err e → r ≡ Err e
unsent (Ok n) time due e h = absurd (let z : ◌≡◌ {A = ℕ} 0 1 = cc in omega arith)
unsent (Err d) time due e h = cc

-- a kept writing is a kept answer
as_answer : (r : Result ℕ Refusal) (time : ℕ) (due : Bool) (before after : List ℕ) → Kept r before after → KeptAnswer (answer_with r time due) before after
as_answer r time due before after k =
    record {
      refused = λ e h. k.refused e (unsent r time due e h);
      same_length = λ x h. k.same_length x.len (sent_written r time due x h);
      rest = λ x h. k.rest x.len (sent_written r time due x h);
    }

pub mic_long : (t : Option ℕ) (mic : List ℕ) → length mic ≡ 16 → length (mic_to_send t mic) ≡ 16
unfolding mic_to_send
mic_long t mic h = go (mic_due t) where
  go : (b : Bool) → length (cond b mic (replicate 16 0)) ≡ 16
  go true = h
  go false = refl

pub respond_kept : RespondKept
unfolding respond_to sending
respond_kept settings s x v8 m16 = go (decision_on settings s) where
  dom : List ℕ
  dom = domain_to_send x.domain s

  effect : Result Decision Refusal → Effect
  effect d = on_ok (refusing x) d (λ z. sending settings z (with_domain dom x))

  go : (d : Result Decision Refusal) → KeptAnswer (effect d).answer x.out (effect d).output
  go (Ok d) =
      as_answer (write_answer (length x.out) d.flags x.version (mic_to_send d.timestamp x.mic) (lm_to_send settings d.timestamp x.lm) x.nt dom x.user x.workstation (key_to_send d.flags x.key))
      (time_to_send settings d.timestamp x.clock) (mic_due d.timestamp) x.out
      (write_out x.out d.flags x.version (mic_to_send d.timestamp x.mic) (lm_to_send settings d.timestamp x.lm) x.nt dom x.user x.workstation (key_to_send d.flags x.key))
      (authenticate_kept x.out d.flags x.version (mic_to_send d.timestamp x.mic) (lm_to_send settings d.timestamp x.lm) x.nt dom x.user x.workstation (key_to_send d.flags x.key) v8 (mic_long d.timestamp x.mic m16))
  go (Err e) =
      record {
        refused = λ f h. refl;
        same_length = λ y h. absurd (let z : ◌≡◌ {A = ℕ} 0 1 = cc in omega arith);
        rest = λ y h. absurd (let z : ◌≡◌ {A = ℕ} 0 1 = cc in omega arith);
      }
