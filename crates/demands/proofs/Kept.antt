-- A refusal changes no lent byte, and a success only what it writes.
pub mod AnswerKept
pub mod CallKept
pub mod CallFront
use Rattle.std.specs.Prelude.{Result, Ok, Err, ⊤}
use Prim.Native.Nat.{ℕ, ◌≤◌}
use mathlib.Core.Path.{◌≡◌, refl, sym, subst}
use mathlib.Core.Bool.{Bool, true, false}
use mathlib.Core.List.{List}
use native.Mathlib.Omega.{arith}
use lib.Dec.{leb}
use lib.ListN.{length, drop, length-append, length-drop}
use lib.Seq.{drop-append_seam}
use borrow.Author.Tests.{leb-true}
use Rattle.wire.specs.declared.check.Checked.TheVariants.{Held}
use Rattle.wire.specs.declared.refusal.Refusal.{Refusal}
use Rattle.wire.specs.declared.refusal.Refusal.TheVariants.{NoStrings, TooLongToWrite, NoRoom}
use Rattle.wire.specs.Check.{checked, after, on_clear}
use Rattle.wire.proofs.Laws.{held_true}
use Rattle.place.specs.Written.{at_front, answered, out_after, size_holds, room_holds, bytes_hold, bytes_answer, bytes_after}
use Rattle.nl_auth_flags.specs.declared.NlAuthFlags.{NlAuthFlags}
use Rattle.nl_auth_flags.specs.Flags.{known, strings_hold}
use Rattle.write_nl_auth.specs.Writing.{request_bytes, response_bytes, check_under, check_request, request_answer, request_out, response_answer, response_out}
use Rattle.demands.specs.Kept.{Kept, NlRequestKept, NlResponseKept, LineKept}
use Rattle.demands.proofs.Bools.{after_held}

-- what is written at the front of an output that has room for it
module _ (bytes out : List ℕ) (room : length bytes ≤ length out) where
  pub front_length : length (at_front bytes out) ≡ length out
  front_length = simp (length-append, length-drop) (omega arith)

  pub front_rest : drop (length bytes) (at_front bytes out) ≡ drop (length bytes) out
  front_rest = drop-append_seam bytes (drop (length bytes) out)

never : {A : Type 0} (e : Refusal) (n : ℕ) → ◌≡◌ {A = Result ℕ Refusal} (Ok n) (Err e) → A
never e n h = absurd (let z : ◌≡◌ {A = ℕ} 0 1 = cc in omega arith)

same_length : (m n : ℕ) → ◌≡◌ {A = Result ℕ Refusal} (Ok m) (Ok n) → m ≡ n
same_length m n h = cc

-- every writing that goes by a verdict: what it writes has room where the verdict is clear
pub by_verdict : (v : Result ⊤ Refusal) (bytes out : List ℕ) → (v ≡ Ok tt → length bytes ≤ length out) →
    Kept (answered v bytes) out (out_after v bytes out)
by_verdict (Ok tt) bytes out room =
    record {
      refused = λ e h. never e (length bytes) h;
      same_length = λ n h. front_length bytes out (room refl);
      rest = λ n h. subst (λ (k : ℕ). drop k (at_front bytes out) ≡ drop k out) (same_length (length bytes) n h) (front_rest bytes out (room refl));
    }
by_verdict (Err d) bytes out room =
    record {
      refused = λ e h. refl;
      same_length = λ n h. never d n (sym h);
      rest = λ n h. never d n (sym h);
    }

-- what a request that is written went through
pub record RequestHolds (room : ℕ) (w : NlAuthFlags) (a b c d e : List ℕ) : Type 0 where
  pub strings : strings_hold w ≡ Held
  pub strings_under : check_under w a b c d e ≡ Ok tt
  pub size : length (request_bytes w a b c d e) ≤ 65535
  pub room_there : length (request_bytes w a b c d e) ≤ room

pub clear_both : (v x : Result ⊤ Refusal) → on_clear Err v x ≡ Ok tt → (v ≡ Ok tt) × (x ≡ Ok tt)
clear_both (Ok tt) x h = (refl, h)
clear_both (Err e) x h = (cc, cc)

pub request_holds : (room : ℕ) (w : NlAuthFlags) (a b c d e : List ℕ) → check_request room w a b c d e ≡ Ok tt → RequestHolds room w a b c d e
unfolding check_request
request_holds room w a b c d e h =
    let s = after_held (strings_hold w) NoStrings _ h in
    let m = clear_both (check_under w a b c d e) _ s.1 in
    let n = after_held (size_holds (length (request_bytes w a b c d e))) TooLongToWrite _ m.1 in
    let r = after_held (room_holds (length (request_bytes w a b c d e)) room) NoRoom _ n.1 in
    record {
      strings = s.0;
      strings_under = m.0;
      size = leb-true (length (request_bytes w a b c d e)) 65535 (held_true _ n.0);
      room_there = leb-true (length (request_bytes w a b c d e)) room (held_true _ r.0);
    }

pub nl_request_kept : NlRequestKept
unfolding request_answer request_out
nl_request_kept out flags a b c d e =
    by_verdict (check_request (length out) (known flags) a b c d e) (request_bytes (known flags) a b c d e) out
    (λ h. (request_holds (length out) (known flags) a b c d e h).room_there)

pub nl_response_kept : NlResponseKept
unfolding response_answer response_out
nl_response_kept out = go (leb (length response_bytes) (length out)) refl where
  go : (t : Bool) → leb (length response_bytes) (length out) ≡ t →
      Kept (after (checked t) (Err NoRoom) (Ok (length response_bytes))) out (after (checked t) out (at_front response_bytes out))
  go true p = by_verdict (Ok tt) response_bytes out (λ h. leb-true (length response_bytes) (length out) p)
  go false p = by_verdict (Err NoRoom) response_bytes out (λ h. absurd (let z : ◌≡◌ {A = ℕ} 0 1 = cc in omega arith))

pub line_kept : LineKept
unfolding bytes_answer bytes_after
line_kept line out =
    by_verdict (bytes_hold line out) line out
    (λ h. leb-true (length line) (length out) (held_true _ (after_held (room_holds (length line) (length out)) NoRoom (Ok tt) h).0))
