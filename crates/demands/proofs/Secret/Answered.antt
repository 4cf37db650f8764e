-- Answering a challenge tells no secret.
use Rattle.wire.specs.Check.{on_ok}
use Rattle.std.specs.Prelude.{Result, Ok, Err, ⊤}
use Rattle.wire.specs.declared.refusal.Refusal.{Refusal}
use Prim.Native.Nat.{ℕ}
use mathlib.Core.Path.{◌≡◌, refl, sym, ap, ◌∙◌}
use mathlib.Core.Bool.{Bool, true, false, ◌&&◌, ◌||◌, cond}
use mathlib.Core.List.{List, []}
use native.Mathlib.Omega.{arith}
use lib.ListN.{length, take, replicate, length-append}
use Rattle.negotiate_flags.specs.declared.NegotiateFlags.{NegotiateFlags}
use Rattle.negotiate_flags.specs.Flags.{key_exch, sign, seal}
use Rattle.place.specs.Written.{answered}
use Rattle.write_authenticate.specs.Writing.{payload_bytes, authenticate_bytes, check_to_write, write_answer, write_out}
use Rattle.respond.specs.declared.answer.Answer.{Answer}
use Rattle.respond.specs.declared.decision.Decision.{Decision}
use Rattle.respond.specs.declared.decision.Settings.{Settings}
use Rattle.respond.specs.Answer.{mic_due, time_to_send, lm_to_send, mic_to_send, key_to_send, answer_with, Supplied, Effect, refusing, sending, with_domain, respond_to}
use Rattle.respond.specs.Decision.{decision_on}
use Rattle.respond.specs.Domain.{domain_to_send}
use Rattle.demands.specs.Secret.{AsLong, AlikeOutside, with_secrets, AnsweredAlike, SecretAnswered, ThinCallsSecret}
use Rattle.demands.specs.ThinCalls.{settings_for}
use Rattle.demands.proofs.ReadBack.{written_is}
use Rattle.demands.proofs.ReadBack.WriteBack.{messages_alike, key_held}

answered_same : (v : Result ⊤ Refusal) (x y : List ℕ) → length x ≡ length y → answered v x ≡ answered v y
answered_same (Ok tt) x y e = ap Ok e
answered_same (Err d) x y e = refl

-- writing, twice
module _ (room room' : ℕ) (rooms : room ≡ room') (w : NegotiateFlags) (v dom usr wks mic lm nt key mic' lm' nt' key' : List ℕ) (v8 : length v ≡ 8) (same : AsLong mic lm nt key mic' lm' nt' key') where
  verdict_same : check_to_write room w lm nt dom usr wks key ≡ check_to_write room' w lm' nt' dom usr wks key'
  unfolding check_to_write payload_bytes
  verdict_same = simp (rooms, length-append, same.lm_same, same.nt_same, same.key_same)

  pub write_same : write_answer room w v mic lm nt dom usr wks key ≡ write_answer room' w v mic' lm' nt' dom usr wks key'
  unfolding write_answer
  write_same = go (check_to_write room w lm nt dom usr wks key) refl where
    go : (x : Result ⊤ Refusal) → check_to_write room w lm nt dom usr wks key ≡ x →
        answered (check_to_write room w lm nt dom usr wks key) (authenticate_bytes w v mic lm nt dom usr wks key)
        ≡ answered (check_to_write room' w lm' nt' dom usr wks key') (authenticate_bytes w v mic' lm' nt' dom usr wks key')
    go (Ok tt) e =
        rw (← verdict_same)
        (answered_same (check_to_write room w lm nt dom usr wks key) (authenticate_bytes w v mic lm nt dom usr wks key) (authenticate_bytes w v mic' lm' nt' dom usr wks key')
        (messages_alike w v dom usr wks mic lm nt key mic' lm' nt' key' v8 same (key_held room w lm nt dom usr wks key e)).length_same)
    go (Err d) e = rw (← verdict_same, e)

-- the messages that are written
pub written_alike : (out out' : List ℕ) → length out ≡ length out' → (w : NegotiateFlags) (v dom usr wks mic lm nt key mic' lm' nt' key' : List ℕ) → length v ≡ 8 →
    AsLong mic lm nt key mic' lm' nt' key' → (n : ℕ) → write_answer (length out) w v mic lm nt dom usr wks key ≡ Ok n →
    AlikeOutside (take n (write_out out w v mic lm nt dom usr wks key)) (take n (write_out out' w v mic' lm' nt' dom usr wks key'))
unfolding write_answer write_out
written_alike out out' rooms w v dom usr wks mic lm nt key mic' lm' nt' key' v8 same n h =
    let a = written_is (check_to_write (length out) w lm nt dom usr wks key) (authenticate_bytes w v mic lm nt dom usr wks key) out n h in
    let b = written_is (check_to_write (length out') w lm' nt' dom usr wks key') (authenticate_bytes w v mic' lm' nt' dom usr wks key') out' n
    (sym (write_same (length out) (length out') rooms w v dom usr wks mic lm nt key mic' lm' nt' key' v8 same) ∙ h) in
    rw (a.1, b.1)
    (messages_alike w v dom usr wks mic lm nt key mic' lm' nt' key' v8 same (key_held (length out) w lm nt dom usr wks key a.0))

-- what is sent of two callings' secrets is as long
sent_long : (settings : Settings) (d : Decision) (mic lm nt key mic' lm' nt' key' : List ℕ) → AsLong mic lm nt key mic' lm' nt' key' →
    AsLong (mic_to_send d.timestamp mic) (lm_to_send settings d.timestamp lm) nt (key_to_send d.flags key)
    (mic_to_send d.timestamp mic') (lm_to_send settings d.timestamp lm') nt' (key_to_send d.flags key')
unfolding mic_to_send lm_to_send key_to_send
sent_long settings d mic lm nt key mic' lm' nt' key' s =
    record {
      mic_16 = either mic (mic_due d.timestamp) s.mic_16;
      mic_same = both mic mic' (replicate 16 0) (mic_due d.timestamp) s.mic_same;
      lm_same = other lm lm' (settings.ntlmv2 && mic_due d.timestamp) s.lm_same;
      nt_same = s.nt_same;
      key_same = both key key' [] (key_exch d.flags && (sign d.flags || seal d.flags)) s.key_same;
    }
  where
    either : (x : List ℕ) (b : Bool) → length x ≡ 16 → length (cond b x (replicate 16 0)) ≡ 16
    either x true p = p
    either x false p = refl

    both : (x y z : List ℕ) (b : Bool) → length x ≡ length y → length (cond b x z) ≡ length (cond b y z)
    both x y z true p = p
    both x y z false p = refl

    other : (x y : List ℕ) (b : Bool) → length x ≡ length y → length (cond b (replicate 24 0) x) ≡ length (cond b (replicate 24 0) y)
    other x y true p = refl
    other x y false p = p

-- an answer that was sent was written
pub sent_written : (r : Result ℕ Refusal) (time : ℕ) (due : Bool) (x : Answer) → answer_with r time due ≡ Ok x → r ≡ Ok x.len
sent_written (Ok n) time due x h = ap Ok (ap len h) where
  len : Result Answer Refusal → ℕ
  len (Ok y) = y.len
  len (Err e) = 0
sent_written (Err e) time due x h = absurd (let z : ◌≡◌ {A = ℕ} 0 1 = cc in omega arith)

pub secret_answered : SecretAnswered
unfolding respond_to sending
secret_answered settings s x out mic lm nt key rooms v8 same = go (decision_on settings s) where
  dom : List ℕ
  dom = domain_to_send x.domain s

  effect : Result Decision Refusal → Supplied → Effect
  effect d y = on_ok (refusing y) d (λ z. sending settings z (with_domain dom y))

  go : (d : Result Decision Refusal) → AnsweredAlike (effect d x) (effect d (with_secrets x out mic lm nt key))
  go (Ok d) =
      let as_long = sent_long settings d x.mic x.lm x.nt x.key mic lm nt key same in
      let ts = d.timestamp in
      record {
        answer =
            ap (λ (r : Result ℕ Refusal). answer_with r (time_to_send settings ts x.clock) (mic_due ts))
            (write_same (length x.out) (length out) rooms d.flags x.version dom x.user x.workstation (mic_to_send ts x.mic) (lm_to_send settings ts x.lm) x.nt (key_to_send d.flags x.key) (mic_to_send ts mic) (lm_to_send settings ts lm) nt (key_to_send d.flags key) v8 as_long);
        messages = λ a h.
            written_alike x.out out rooms d.flags x.version dom x.user x.workstation (mic_to_send ts x.mic) (lm_to_send settings ts x.lm) x.nt (key_to_send d.flags x.key) (mic_to_send ts mic) (lm_to_send settings ts lm) nt (key_to_send d.flags key) v8 as_long a.len
            (sent_written _ (time_to_send settings ts x.clock) (mic_due ts) a h);
      }
  go (Err e) = record { answer = refl; messages = λ a h. absurd (not-sent a h) } where
    not-sent : (a : Answer) → ◌≡◌ {A = Result Answer Refusal} (Err e) (Ok a) → ⊥
    not-sent a h = let z : ◌≡◌ {A = ℕ} 0 1 = cc in omega arith

pub thin_calls_secret : ThinCallsSecret
thin_calls_secret call = secret_answered (settings_for call)
