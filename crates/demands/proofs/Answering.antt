-- A challenge is answered exactly when nothing fails, and the answer reads back.
pub mod Deciding
pub mod DomainSent
pub mod Sending
use Rattle.wire.specs.Check.{on_ok}
use Rattle.std.specs.Prelude.{Result, Ok, Err}
use Prim.Native.Nat.{ℕ, ◌≤◌}
use mathlib.Core.Path.{◌≡◌, refl, sym, ap, ◌∙◌, subst}
use mathlib.Core.Logic.{inl, inr, ⊎_elim, ◌↔◌}
use mathlib.Core.Bool.{Bool, true, false}
use mathlib.Core.List.{List}
use native.Mathlib.Omega.{arith}
use lib.ListN.{length}
use Rattle.wire.specs.declared.refusal.Refusal.{Refusal}
use Rattle.wire.specs.Refusal.{number_of, field_of, place_of}
use Rattle.wire.proofs.Places.{placeless_number}
use Rattle.demands.proofs.Order.{on_row}
use Rattle.head.specs.Head.{flags_at}
use Rattle.write_authenticate.specs.Writing.{write_answer, write_out}
use Rattle.respond.specs.declared.answer.Answer.{Answer}
use Rattle.respond.specs.declared.decision.Decision.{Decision}
use Rattle.respond.specs.declared.decision.Settings.{Settings}
use Rattle.respond.specs.Answer.{mic_due, answer_with, Supplied, Effect, refusing, sending, with_domain, respond_to}
use Rattle.respond.specs.Decision.{decision_on}
use Rattle.respond.specs.Domain.{domain_to_send}
use Rattle.target_info.specs.TargetInfo.{timestamp_in}
use Rattle.demands.specs.PairList.{PairThere}
use Rattle.demands.specs.TakenExactly.{InfoBytes}
use Rattle.demands.specs.WrittenExactly.{WrittenExactly, authenticate_size, AuthenticateWritingFails, authenticate_order}
use Rattle.demands.specs.Answering.{Agreed, Declined, ToSend, AnsweredExactly, RespondIsAnswered, RespondReadsBack}
use Rattle.demands.proofs.Kept.AnswerKept.{mic_long}
use Rattle.demands.proofs.Secret.Answered.{sent_written}
use Rattle.demands.proofs.ReadBack.WriteBack.{authenticate_reads_back}
use Rattle.demands.proofs.WrittenExactly.MessagesWritten.{authenticate_written}
use Rattle.demands.proofs.Answering.Deciding.{Judged, judged, agreed_or_declined, one_decline, decline_is}
use Rattle.demands.proofs.Answering.Sending.{due_is, mic_is, lm_is, key_is, time_is, domain_is}

same_bool : {P : Type 0} (x y : Bool) → (x ≡ true) ↔ P → (y ≡ true) ↔ P → x ≡ y
same_bool true true p q = refl
same_bool true false p q = sym (q.1 (p.0 refl))
same_bool false true p q = p.1 (q.0 refl)
same_bool false false p q = refl

-- none of the writing's numbers has a place
no_place : (room bits : ℕ) (lm nt domain user workstation key : List ℕ) (n i : ℕ) →
    AuthenticateWritingFails room bits lm nt domain user workstation key n i → (10 ≤ n) × (n ≤ 13) → ⊥
no_place room bits lm nt domain user workstation key n i h z =
    on_row 5 n _ _ ⊥ (λ e x. omega (arith, z.0, e)) (
    on_row 31 n _ _ ⊥ (λ e x. omega (arith, z.1, e)) (
    on_row 32 n _ _ ⊥ (λ e x. omega (arith, z.1, e)) (
    on_row 30 n _ _ ⊥ (λ e x. omega (arith, z.1, e)) (
    on_row 33 n _ _ ⊥ (λ e x. omega (arith, z.1, e)) (λ x. x))))) h

module _ (settings : Settings) (s b : List ℕ) (F : ℕ → ℕ → Type 0) (size time : ℕ) where
  -- an exact writing whose refusals have no place, with its time and whether a MIC is due, is an exact answer
  as_answer : (r : Result ℕ Refusal) (due : Bool) → Agreed settings s b → (due ≡ true) ↔ PairThere b 7 → ((n i : ℕ) → F n i → (10 ≤ n) × (n ≤ 13) → ⊥) →
      WrittenExactly r authenticate_order F size → AnsweredExactly (answer_with r time due) settings s b F size time
  as_answer (Ok m) due agreed there none w =
      record {
        refused = λ n i p. (λ t. absurd t, λ f. ⊎_elim (λ d. agreed_or_declined settings s b n i p agreed d) (λ g. (w.refused n i).1 g.1) f);
        sent = λ x. (λ h. told x h, λ h. made x ((w.written x.len).1 (h.1, h.2)) h.3 h.4);
      }
    where
      told : (x : Answer) → ◌≡◌ {A = Result Answer Refusal} (Ok (record { len = m; time = time; mic_due = due })) (Ok x) →
          Agreed settings s b × ((n i : ℕ) → F n i → ⊥) × (x.len ≡ size) × (x.time ≡ time) × ((x.mic_due ≡ true) ↔ PairThere b 7)
      told x h = go (same h) where
        same : ◌≡◌ {A = Result Answer Refusal} (Ok (record { len = m; time = time; mic_due = due })) (Ok x) → record { len = m; time = time; mic_due = due } ≡ x
        same p = cc

        go : record { len = m; time = time; mic_due = due } ≡ x →
            Agreed settings s b × ((n i : ℕ) → F n i → ⊥) × (x.len ≡ size) × (x.time ≡ time) × ((x.mic_due ≡ true) ↔ PairThere b 7)
        go e =
            let v = (w.written m).0 refl in
            subst (λ (y : Answer). Agreed settings s b × ((n i : ℕ) → F n i → ⊥) × (y.len ≡ size) × (y.time ≡ time) × ((y.mic_due ≡ true) ↔ PairThere b 7)) e
            (agreed, v.0, v.1, refl, there)

      made : (x : Answer) → ◌≡◌ {A = Result ℕ Refusal} (Ok m) (Ok x.len) → x.time ≡ time → (x.mic_due ≡ true) ↔ PairThere b 7 →
          ◌≡◌ {A = Result Answer Refusal} (Ok (record { len = m; time = time; mic_due = due })) (Ok x)
      made x l t d = ap Ok (λ k. record { len = same l k; time = sym t k; mic_due = same_bool due x.mic_due there d k }) where
        same : ◌≡◌ {A = Result ℕ Refusal} (Ok m) (Ok x.len) → m ≡ x.len
        same p = cc
  as_answer (Err e) due agreed there none w =
      record {
        refused = λ n i p. (
          λ t. inr (agreed, (w.refused n i).0 (t.0, t.1), sym t.2 ∙ no_place),
          λ f. ⊎_elim (λ d. absurd (agreed_or_declined settings s b n i p agreed d)) (λ g. let k = (w.refused n i).1 g.1 in (k.0, k.1, no_place ∙ sym g.2)) f,
        );
        sent = λ x. (
          λ h. absurd (let z : ◌≡◌ {A = ℕ} 0 1 = cc in omega arith),
          λ h. absurd (never x.len ((w.written x.len).1 (h.1, h.2))),
        );
      }
    where
      no_place : place_of e ≡ 0
      no_place = placeless_number e (none (number_of e) (field_of e) ((w.refused (number_of e) (field_of e)).0 (refl, refl)).fails)

      never : (n : ℕ) → Err e ≡ Ok n → ⊥
      never n h = let z : ◌≡◌ {A = ℕ} 0 1 = cc in omega arith

  -- so is a refusal of the decision
  as_refusal : (e : Refusal) → Declined settings s b (number_of e) (field_of e) (place_of e) → AnsweredExactly (Err e) settings s b F size time
  as_refusal e j =
      record {
        refused = λ n i p. (
          λ t. inl (decline_is settings s b t j),
          λ f. ⊎_elim (λ d. one_decline settings s b (number_of e) (field_of e) (place_of e) n i p j d) (λ g. absurd (agreed_or_declined settings s b (number_of e) (field_of e) (place_of e) g.0 j)) f,
        );
        sent = λ x. (
          λ h. absurd (let z : ◌≡◌ {A = ℕ} 0 1 = cc in omega arith),
          λ h. absurd (agreed_or_declined settings s b (number_of e) (field_of e) (place_of e) h.0 j),
        );
      }

-- what is sent to a challenge that is agreed to
module _ (settings : Settings) (s b : List ℕ) (x : Supplied) (m16 : length x.mic ≡ 16) (info : InfoBytes s b) (t : ToSend settings s b x) where
  pub mic_sent_long : length t.mic_sent ≡ 16
  mic_sent_long = ap length (mic_is settings s b x t) ∙ mic_long (timestamp_in b) x.mic m16

  abbrev decision : Decision
  decision = record { flags = flags_at s 20; timestamp = timestamp_in b }

  -- what the writer answers, and the output after it
  abbrev written : Result ℕ Refusal
  written =
      write_answer (length x.out) (flags_at s 20) x.version t.mic_sent t.lm_sent x.nt t.domain_sent x.user x.workstation t.key_sent

  abbrev leaves : List ℕ
  leaves = write_out x.out (flags_at s 20) x.version t.mic_sent t.lm_sent x.nt t.domain_sent x.user x.workstation t.key_sent

  send_is : Agreed settings s b →
      sending settings decision (with_domain (domain_to_send x.domain s) x)
      ≡ record { answer = answer_with written t.time (mic_due (timestamp_in b)); output = leaves }
  unfolding sending
  send_is agreed =
      rw (mic_is settings s b x t, lm_is settings s b x t, key_is settings s b x t, time_is settings s b x t, domain_is settings s b x t info agreed.reading)

  -- a statement on the effect of answering, by the decision
  on_decision : (P : Effect → Type 0) →
      (Agreed settings s b → P (record { answer = answer_with written t.time (mic_due (timestamp_in b)); output = leaves })) →
      ((e : Refusal) → Declined settings s b (number_of e) (field_of e) (place_of e) → P (refusing x e)) →
      P (respond_to settings s x)
  unfolding respond_to
  on_decision P agreed declined = go (decision_on settings s) (judged settings s b info) where
    go : (d : Result Decision Refusal) → Judged settings s b info d → P (on_ok (refusing x) d (λ y. sending settings y (with_domain (domain_to_send x.domain s) x)))
    go (Ok d) j =
        subst (λ (y : Decision). P (sending settings y (with_domain (domain_to_send x.domain s) x))) (sym j.1)
        (subst P (sym (send_is j.0)) (agreed j.0))
    go (Err e) j = declined e j

pub respond_answered : RespondIsAnswered
respond_answered settings s b x v8 m16 info t = on_decision settings s b x m16 info t Right agreed_to (λ e j. as_refusal settings s b F size t.time e j) where
  F : ℕ → ℕ → Type 0
  F = AuthenticateWritingFails (length x.out) (flags_at s 20).bits t.lm_sent x.nt t.domain_sent x.user x.workstation t.key_sent

  size : ℕ
  size = authenticate_size t.lm_sent x.nt t.domain_sent x.user x.workstation t.key_sent

  Right : Effect → Type 0
  Right y = AnsweredExactly y.answer settings s b F size t.time

  agreed_to : Agreed settings s b →
      Right (record { answer = answer_with (written settings s b x m16 info t) t.time (mic_due (timestamp_in b)); output = leaves settings s b x m16 info t })
  agreed_to agreed =
      as_answer settings s b F size t.time (written settings s b x m16 info t) (mic_due (timestamp_in b)) agreed (due_is b)
      (no_place (length x.out) (flags_at s 20).bits t.lm_sent x.nt t.domain_sent x.user x.workstation t.key_sent)
      (authenticate_written (length x.out) (flags_at s 20) x.version t.mic_sent t.lm_sent x.nt t.domain_sent x.user x.workstation
      t.key_sent v8 (mic_sent_long settings s b x m16 info t))

-- an answer that is sent is written with what is sent
pub respond_writes : (settings : Settings) (s b : List ℕ) (x : Supplied) (m16 : length x.mic ≡ 16) (info : InfoBytes s b)
    (t : ToSend settings s b x) (y : Answer) → (respond_to settings s x).answer ≡ Ok y →
    (written settings s b x m16 info t ≡ Ok y.len) × ((respond_to settings s x).output ≡ leaves settings s b x m16 info t)
respond_writes settings s b x m16 info t y =
    on_decision settings s b x m16 info t
    (λ z. z.answer ≡ Ok y → (written settings s b x m16 info t ≡ Ok y.len) × (z.output ≡ leaves settings s b x m16 info t))
    (λ agreed e. (sent_written _ t.time (mic_due (timestamp_in b)) y e, refl)) none
  where
    none : (e : Refusal) → Declined settings s b (number_of e) (field_of e) (place_of e) → Err e ≡ Ok y →
        (written settings s b x m16 info t ≡ Ok y.len) × (x.out ≡ leaves settings s b x m16 info t)
    none e j h = absurd (let z : ◌≡◌ {A = ℕ} 0 1 = cc in omega arith)

pub respond_reads_back : RespondReadsBack
respond_reads_back settings s b x v8 m16 info t y h =
    let w = respond_writes settings s b x m16 info t y h in
    rw w.1
    (authenticate_reads_back x.out (flags_at s 20) x.version t.mic_sent t.lm_sent x.nt t.domain_sent x.user x.workstation
    t.key_sent y.len v8 (mic_sent_long settings s b x m16 info t) w.0)
