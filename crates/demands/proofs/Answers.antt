-- What a caller in C takes out of each call's answer.
pub mod Decoded
pub mod SmallFields
pub mod LineShort
pub mod LineBounds
use Rattle.wire.specs.Check.{on_ok}
use Rattle.std.specs.Prelude.{Result, Ok, Err, ⊤}
use Rattle.wire.specs.declared.refusal.Refusal.{Refusal}
use Prim.Native.Nat.{ℕ, ◌≤◌, ◌<◌}
use mathlib.Core.Path.{◌≡◌, refl, sym, subst}
use mathlib.Core.Logic.{⊎_elim}
use mathlib.Core.Bool.{Bool, true, false, ◌&&◌}
use mathlib.Core.List.{List}
use native.Mathlib.Omega.{arith}
use lib.Dec.{leb}
use lib.ListN.{length}
use borrow.Author.Tests.{leb-true, le-leb, lt-leb}
use Rattle.wire.specs.declared.check.Checked.{Checked}
use Rattle.wire.specs.declared.check.Checked.TheVariants.{Held, Failed}
use Rattle.wire.specs.declared.refusal.Refusal.TheVariants.{PastEnd, NoRoom}
use Rattle.wire.specs.Check.{checked, after}
use Rattle.wire.proofs.Bools.{and_both, and-false}
use Rattle.field.specs.Field.{ends_inside, field_bytes}
use Rattle.place.specs.Place.{le16, le32}
use Rattle.place.specs.Written.{room_holds, answered, bytes_hold, bytes_answer}
use Rattle.av_pairs.specs.AvPairs.{check_pairs}
use Rattle.write_authenticate.specs.Writing.{authenticate_bytes, check_to_write, write_answer}
use Rattle.write_authenticate.proofs.Sent.{length-message}
use Rattle.write_negotiate.specs.Writing.{negotiate_bytes, check_to_write as negotiate_checks, write_answer as negotiate_answer}
use Rattle.write_negotiate.proofs.Sent.{length-message as negotiate_length}
use Rattle.nl_auth_flags.specs.Flags.{known}
use Rattle.write_nl_auth.specs.Writing.{type_and_flags, request_bytes, response_bytes, check_request, request_answer, response_answer}
use Rattle.respond.specs.declared.answer.Answer.{Answer}
use Rattle.respond.specs.declared.decision.Decision.{Decision}
use Rattle.respond.specs.declared.decision.Settings.{Settings}
use Rattle.respond.specs.Answer.{mic_due, time_to_send, lm_to_send, mic_to_send, key_to_send, answer_with, Supplied, refusing, sending, with_domain, respond_to}
use Rattle.respond.specs.Decision.{decision_on}
use Rattle.respond.specs.Domain.{domain_to_send}
use Rattle.c_number.specs.Number.{refusal_number, verdict_number, written_number}
use Rattle.c_number.specs.Outcome.{Outcome, numbers, refused, outcome_number, call_number, two_array_number}
use Rattle.c_read.specs.FieldCopy.{field_copy_answer}
use Rattle.c_respond.specs.Respond.{answered_number, respond_from_c}
use Rattle.demands.specs.Answers.{DecodesRefusal, DecodesOutcome, CallDecodes, TwoArraysDecode, DecodesVerdict, CheckPairsDecodes, DecodesWritten, Writing, write_negotiate, write_authenticate, write_nl_auth_request, write_nl_auth_response, write_response_pairs, writing_answer, WritingShort, WritingDecodes, called_line, LineDecodes, CopyFits, CopyDecodes, FieldCopyDecodes, RespondShort, DecodesAnswered, RespondDecodes}
use Rattle.demands.specs.FromC.{count, outcome, number_count, byte_count, two_array_outcome}
use Rattle.demands.proofs.Kept.AnswerKept.{message_fits, mic_long}
use Rattle.demands.proofs.Secret.Answered.{sent_written}
use Rattle.demands.proofs.Bools.{after_held, true_not_false}
use Rattle.demands.proofs.Kept.{request_holds}
use Rattle.demands.proofs.Answers.LineShort.{line_short}
use Rattle.demands.proofs.ReadBack.NegotiateBack.{writable}
use Rattle.demands.proofs.ResponsePairs.{response_pairs_short}
use Rattle.demands.proofs.Answers.SmallFields.{SmallV, pairs_small, SmallD, decision_small, SmallW, writing_small, bytes_small, SmallO, outcome_small, two_array_outcome_small}
use Rattle.demands.proofs.Answers.Decoded.{decodes_refusal, decodes_length}
use Rattle.wire.proofs.Laws.{held_true}

-- ---- numbers handed out

outcome_told : (h : Outcome) → SmallO h → DecodesOutcome (outcome_number h) h
outcome_told (numbers xs) w = decodes_length 0 (omega arith)
outcome_told (refused e) w = decodes_refusal e w

-- where check 33 is made first
with_room : (t : Bool) (h : Outcome) → SmallO h →
    (t ≡ false → DecodesRefusal (after (checked t) (refusal_number NoRoom) (outcome_number h)) NoRoom)
    × (t ≡ true → DecodesOutcome (after (checked t) (refusal_number NoRoom) (outcome_number h)) h)
with_room true h w = (λ p. absurd (true_not_false p), λ p. outcome_told h w)
with_room false h w = (λ p. decodes_refusal NoRoom (omega arith), λ p. absurd (true_not_false (sym p)))

pub call_decodes : CallDecodes
unfolding call_number
call_decodes c room =
    let w = with_room (leb (count c) room) (outcome c) (outcome_small c) in
    (λ l. w.0 (lt-leb (count c) room l), λ l. w.1 (le-leb (count c) room l))

pub two_arrays_decode : TwoArraysDecode
unfolding two_array_number
two_arrays_decode c room room' =
    let w = with_room (leb (number_count c) room && leb (byte_count c) room') (two_array_outcome c) (two_array_outcome_small c) in (
      λ l. w.0 (⊎_elim (λ a. rw (lt-leb (number_count c) room a)) (λ b. rw (lt-leb (byte_count c) room' b) (and-false (leb (number_count c) room))) l),
      λ a b. w.1 (and_both (leb (number_count c) room) (leb (byte_count c) room') (le-leb (number_count c) room a) (le-leb (byte_count c) room' b)),
    )

pub check_pairs_decodes : CheckPairsDecodes
check_pairs_decodes s = go (check_pairs s) (pairs_small s) where
  go : (v : Result ⊤ Refusal) → SmallV v → DecodesVerdict (verdict_number v) v
  go (Ok tt) w = decodes_length 0 (omega arith)
  go (Err e) w = decodes_refusal e w

-- ---- lengths written

-- what is written where a verdict is clear
by_size : (v : Result ⊤ Refusal) (bytes : List ℕ) (n most : ℕ) → (v ≡ Ok tt → length bytes ≤ most) → answered v bytes ≡ Ok n → n ≤ most
by_size (Ok tt) bytes n most size h = subst (λ (k : ℕ). k ≤ most) (same h) (size refl) where
  same : ◌≡◌ {A = Result ℕ Refusal} (Ok (length bytes)) (Ok n) → length bytes ≡ n
  same p = cc
by_size (Err e) bytes n most size h = absurd (let z : ◌≡◌ {A = ℕ} 0 1 = cc in omega arith)

pub writing_short : WritingShort
unfolding negotiate_answer write_answer request_answer response_answer response_bytes type_and_flags le32 le16
writing_short (write_negotiate room w v domain workstation v8) n h =
    by_size (negotiate_checks room w domain workstation) (negotiate_bytes w v domain workstation) n 65535
    (λ c. omega (arith, (writable room w domain workstation c).size, negotiate_length domain workstation w v v8)) h
writing_short (write_authenticate room w v mic lm nt domain user workstation key v8 m16) n h =
    by_size (check_to_write room w lm nt domain user workstation key) (authenticate_bytes w v mic lm nt domain user workstation key) n 65535
    (λ c. omega (arith, (message_fits room w lm nt domain user workstation key c).0, length-message lm nt domain user workstation key w v mic v8 m16)) h
writing_short (write_nl_auth_request room flags a b c d e) n h =
    by_size (check_request room (known flags) a b c d e) (request_bytes (known flags) a b c d e) n 65535
    (λ k. (request_holds room (known flags) a b c d e k).size) h
writing_short (write_nl_auth_response room) n h = go (room_holds (length response_bytes) room) h where
  same : (m : ℕ) → ◌≡◌ {A = Result ℕ Refusal} (Ok m) (Ok n) → m ≡ n
  same m p = cc

  go : (k : Checked) → after k (Err NoRoom) (Ok (length response_bytes)) ≡ Ok n → n ≤ 65535
  go Held p = omega (arith, same (length response_bytes) p)
  go Failed p = absurd (let z : ◌≡◌ {A = ℕ} 0 1 = cc in omega arith)
writing_short (write_response_pairs room s name unverified bindings) n h = response_pairs_short room s name unverified bindings n h

written_told : (r : Result ℕ Refusal) → SmallW r → ((n : ℕ) → r ≡ Ok n → n < 0x8000000000000000) → DecodesWritten (written_number r) r
written_told (Ok n) w l = decodes_length n (l n refl)
written_told (Err e) w l = decodes_refusal e w

pub writing_decodes : WritingDecodes
writing_decodes w = written_told (writing_answer w) (writing_small w) (λ n h. omega (arith, writing_short w n h))

pub copy_fits : CopyFits
unfolding bytes_answer
copy_fits bytes out n h =
    by_size (bytes_hold bytes out) bytes n (length out)
    (λ c. leb-true (length bytes) (length out) (held_true _ (after_held (room_holds (length bytes) (length out)) NoRoom (Ok tt) c).0)) h

pub copy_decodes : CopyDecodes
copy_decodes bytes out l = written_told (bytes_answer bytes out) (bytes_small bytes out) (λ n h. omega (arith, copy_fits bytes out n h))

pub field_copy_decodes : FieldCopyDecodes
unfolding field_copy_answer
field_copy_decodes s out f l = go (ends_inside (length s) f) where
  answer : Checked → Result ℕ Refusal
  answer k = after k (Err (PastEnd 0)) (bytes_answer (field_bytes s f) out)

  go : (k : Checked) → DecodesWritten (written_number (answer k)) (answer k)
  go Held = copy_decodes (field_bytes s f) out l
  go Failed = decodes_refusal (PastEnd 0) (omega arith)

-- bytes of a length that leaves the top bit clear
pub short_tells : (bytes out : List ℕ) → length bytes < 0x8000000000000000 → DecodesWritten (written_number (bytes_answer bytes out)) (bytes_answer bytes out)
unfolding bytes_answer
short_tells bytes out l =
    written_told (bytes_answer bytes out) (bytes_small bytes out)
    (λ n h. omega (arith, l, by_size (bytes_hold bytes out) bytes n (length bytes) (λ c. omega arith) h))

pub line_decodes : LineDecodes
line_decodes l out = short_tells (called_line l) out (omega (arith, line_short l))

-- ---- answering a challenge

-- the answer with what was written
answer_told : (r : Result ℕ Refusal) (time : ℕ) (due : Bool) → SmallW r → ((n : ℕ) → r ≡ Ok n → n ≤ 65535) →
    DecodesAnswered (answered_number (answer_with r time due)) (answer_with r time due)
answer_told (Ok n) time due w l = decodes_length n (omega (arith, l n refl))
answer_told (Err e) time due w l = decodes_refusal e w

module _ (settings : Settings) (s : List ℕ) (x : Supplied) (v8 : length x.version ≡ 8) (m16 : length x.mic ≡ 16) where
  -- what is written for a decision, and the answer with it
  sent : Decision → Writing
  sent d =
      write_authenticate (length x.out) d.flags x.version (mic_to_send d.timestamp x.mic) (lm_to_send settings d.timestamp x.lm) x.nt
      (domain_to_send x.domain s) x.user x.workstation (key_to_send d.flags x.key) v8 (mic_long d.timestamp x.mic m16)

  answer : Result Decision Refusal → Result Answer Refusal
  answer d = (on_ok (refusing x) d (λ y. sending settings y (with_domain (domain_to_send x.domain s) x))).answer

  sent_short : (y : Answer) (d : Result Decision Refusal) → answer d ≡ Ok y → y.len ≤ 65535
  unfolding answer sending sent
  sent_short y (Ok d) p =
      writing_short (sent d) y.len (sent_written (writing_answer (sent d)) (time_to_send settings d.timestamp x.clock) (mic_due d.timestamp) y p)
  sent_short y (Err e) p = absurd (let z : ◌≡◌ {A = ℕ} 0 1 = cc in omega arith)

  sent_told : (d : Result Decision Refusal) → SmallD d → DecodesAnswered (answered_number (answer d)) (answer d)
  unfolding answer sending sent
  sent_told (Ok d) w =
      answer_told (writing_answer (sent d)) (time_to_send settings d.timestamp x.clock) (mic_due d.timestamp) (writing_small (sent d)) (writing_short (sent d))
  sent_told (Err e) w = decodes_refusal e w

pub respond_short : RespondShort
unfolding respond_to answer
respond_short settings s x y v8 m16 h = sent_short settings s x v8 m16 y (decision_on settings s) h

pub respond_decodes : RespondDecodes
unfolding respond_from_c respond_to answer
respond_decodes settings s x xs v8 m16 =
    record {
      short = λ l. rw (lt-leb 2 (length xs) l) (decodes_refusal NoRoom (omega arith));
      decoded = λ l. rw (le-leb 2 (length xs) l) (sent_told settings s x v8 m16 (decision_on settings s) (decision_small settings s));
    }
