-- Laws of the MIC's checks, and of the three messages that are taken one after the other.
use Rattle.wire.specs.Check.{on_ok}
use Rattle.std.specs.Prelude.{Result, Ok, Err, ⊤}
use Rattle.read_negotiate.specs.declared.Negotiate.{Negotiate}
use Prim.Native.Nat.{ℕ, ◌+◌, ◌-◌, ◌≤◌}
use mathlib.Core.Path.{◌≡◌, refl, sym, ap, ◌∙◌}
use mathlib.Core.Bool.{Bool}
use mathlib.Core.List.{List, ◌++◌}
use native.Mathlib.Omega.{arith}
use borrow.Author.Tests.{eqb-true}
use lib.Dec.{eqb}
use lib.ListN.{length, take, drop, replicate, length-drop}
use lib.Seq.{take_all}
use Rattle.wire.specs.declared.refusal.Refusal.{Refusal}
use Rattle.wire.specs.declared.refusal.Refusal.TheVariants.{WrongSessionKey, NoMic}
use Rattle.wire.specs.Check.{checked, after, on_clear}
use Rattle.wire.specs.Number.{stands_at}
use Rattle.wire.proofs.Laws.{after_clear}
use Rattle.head.specs.Head.{read_head}
use Rattle.head.proofs.Heads.{head_short}
use Rattle.negotiate_flags.specs.declared.NegotiateFlags.{NegotiateFlags}
use Rattle.read_negotiate.specs.Negotiate.{layout as negotiate_layout, read_negotiate}
use Rattle.read_challenge.specs.declared.Challenge.{Challenge}
use Rattle.read_challenge.specs.Challenge.{fields_of, reading_of, read_challenge}
use Rattle.read_challenge.proofs.Laws.{fields_short}
use Rattle.read_authenticate.specs.declared.Answer.{Answer as AuthenticateAnswer}
use Rattle.read_authenticate.specs.declared.Authenticate.{Authenticate}
use Rattle.read_authenticate.specs.Authenticate.{layout as authenticate_layout, reading_of as authenticate_reading_of, read_authenticate}
use Rattle.read_authenticate.proofs.Laws.{taken_by}
use Rattle.read_authenticate.proofs.Mic.{mic_room}
use Rattle.md5_digest.specs.State.{taken}
use Rattle.md5_digest.specs.declared.state.State.{State}
use Rattle.md5_digest.proofs.States.{taken_append}
use Rattle.hmac_md5.specs.Hmac.{begun, hmac_finished}
use Rattle.hmac_md5.proofs.Laws.{of_pieces}
use Rattle.mic.specs.declared.Computed.{Computed}
use Rattle.verdict.specs.Verdict.{nego_verdict, chal_verdict}
use Rattle.mic.specs.Mic.{zeroed, mic_of, authenticate_verdict, check_inputs, computed_mic}

-- ---- the AUTHENTICATE's verdict, by what its reading is known to be

module _ (q r : AuthenticateAnswer) (p : r ≡ q) where
  pub authenticate_taken : (a : Authenticate) (v : Result ⊤ Refusal) → r.reading ≡ Ok a → v ≡ after (checked a.mic_present) (Err NoMic) (Ok tt) →
      v ≡ authenticate_verdict q.reading
  authenticate_taken a v f g = rw (← p, f) g

  pub authenticate_not : (e : Refusal) → r.reading ≡ Err e → Err e ≡ authenticate_verdict q.reading
  authenticate_not e f = rw (← p, f)

-- ---- what no refusal tells

zero_not_one : ◌≡◌ {A = ℕ} 0 1 → ⊥
zero_not_one h = omega arith

negotiate_short : (s : List ℕ) → nego_verdict (read_negotiate s) ≡ Ok tt → length s ≤ 65535
unfolding read_negotiate
negotiate_short s h = go (read_head negotiate_layout s) _ refl h where
  go : (k : Result NegotiateFlags Refusal) (x : NegotiateFlags → Result Negotiate Refusal) → read_head negotiate_layout s ≡ k → nego_verdict (on_ok Err k x) ≡ Ok tt →
      length s ≤ 65535
  go (Ok w) x e h = head_short negotiate_layout s (read_head negotiate_layout s) w refl e
  go (Err d) x e h = absurd (zero_not_one cc)

challenge_short : (s : List ℕ) → chal_verdict (read_challenge s).reading ≡ Ok tt → length s ≤ 65535
unfolding read_challenge reading_of
challenge_short s h = go (fields_of s) _ refl h where
  go : (k : Result Challenge Refusal) (x : Challenge → Result Challenge Refusal) → fields_of s ≡ k → chal_verdict (on_ok Err k x) ≡ Ok tt → length s ≤ 65535
  go (Ok c) x e h = fields_short s c e
  go (Err d) x e h = absurd (zero_not_one cc)

-- the AUTHENTICATE is not too long, and its MIC lies within it
authenticate_room : (s : List ℕ) → authenticate_verdict (read_authenticate s).reading ≡ Ok tt → (length s ≤ 65535) × (88 ≤ length s)
unfolding read_authenticate
authenticate_room s h = go (authenticate_reading_of s) refl h where
  go : (r : Result Authenticate Refusal) → authenticate_reading_of s ≡ r → authenticate_verdict r ≡ Ok tt → (length s ≤ 65535) × (88 ≤ length s)
  go (Ok a) e h =
      let t = taken_by s a e in (
        head_short authenticate_layout s (read_head authenticate_layout s) t.flags refl t.head,
        mic_room s (Ok a) a (sym e) refl (after_clear a.mic_present NoMic (Ok tt) h).0,
      )
  go (Err d) e h = absurd (zero_not_one cc)

on_clear_clear : (k x : Result ⊤ Refusal) → on_clear Err k x ≡ Ok tt → (k ≡ Ok tt) × (x ≡ Ok tt)
on_clear_clear (Ok tt) x h = (refl, h)
on_clear_clear (Err e) x h = (cc, cc)

pub record Passed (n : ℕ) (nego chal auth : List ℕ) : Type 0 where
  pub key : n ≡ 16
  pub nego_short : length nego ≤ 65535
  pub chal_short : length chal ≤ 65535
  pub auth_short : length auth ≤ 65535
  pub mic_inside : 88 ≤ length auth

pub passed : (n : ℕ) (nego chal auth : List ℕ) → check_inputs n nego chal auth ≡ Ok tt → Passed n nego chal auth
unfolding check_inputs
passed n nego chal auth h =
    let k = after_clear (eqb n 16) WrongSessionKey _ h in
    let a = on_clear_clear (nego_verdict (read_negotiate nego)) _ k.1 in
    let b = on_clear_clear (chal_verdict (read_challenge chal).reading) _ a.1 in
    let c = authenticate_room auth b.1 in
    record {
      key = eqb-true n 16 k.0;
      nego_short = negotiate_short nego a.0;
      chal_short = challenge_short chal b.0;
      auth_short = c.0;
      mic_inside = c.1;
    }

module _ (key nego chal auth : List ℕ) (h : check_inputs (length key) nego chal auth ≡ Ok tt) where
  pub key_fits : length key ≤ 64
  key_fits = omega (arith, (passed (length key) nego chal auth h).key)

  pub nego_fits : length nego ≤ 65535
  nego_fits = (passed (length key) nego chal auth h).nego_short

  pub chal_fits : length chal ≤ 65535
  chal_fits = (passed (length key) nego chal auth h).chal_short

  pub auth_fits : length auth ≤ 65535
  auth_fits = (passed (length key) nego chal auth h).auth_short

  pub mic_fits : 88 ≤ length auth
  mic_fits = (passed (length key) nego chal auth h).mic_inside

pub ruleset fits = (key_fits, nego_fits, chal_fits, auth_fits, mic_fits)

-- ---- the answers

pub clear_of : (n : ℕ) (nego chal auth : List ℕ) (v : Result ⊤ Refusal) → v ≡ check_inputs n nego chal auth → v ≡ Ok tt → check_inputs n nego chal auth ≡ Ok tt
clear_of n nego chal auth v e f = sym e ∙ f

pub mic_there : (key nego chal auth : List ℕ) (v : Result ⊤ Refusal) → v ≡ check_inputs (length key) nego chal auth → v ≡ Ok tt → 72 + 16 ≤ length auth
mic_there key nego chal auth v e f = mic_fits key nego chal auth (clear_of (length key) nego chal auth v e f)

pub worked_refused : (key nego chal auth : List ℕ) (v : Result ⊤ Refusal) (e : Refusal) → v ≡ check_inputs (length key) nego chal auth → v ≡ Err e →
    ◌≡◌ {A = Computed} (record { verdict = v; mic = replicate 16 0 }) (computed_mic key nego chal auth)
unfolding computed_mic
worked_refused key nego chal auth v e p q = rw (← p, q)

pub worked_clear : (key nego chal auth mic : List ℕ) (v : Result ⊤ Refusal) → v ≡ check_inputs (length key) nego chal auth → v ≡ Ok tt → mic ≡ mic_of key nego chal auth →
    ◌≡◌ {A = Computed} (record { verdict = v; mic = mic }) (computed_mic key nego chal auth)
unfolding computed_mic
worked_clear key nego chal auth mic v p q r = rw (← p, q, r)

pub compared : (key nego chal auth mic : List ℕ) (b : Bool) → b ≡ stands_at auth 72 mic → mic ≡ mic_of key nego chal auth →
    ◌≡◌ {A = Result Bool Refusal} (Ok b) (Ok (stands_at auth 72 (mic_of key nego chal auth)))
compared key nego chal auth mic b p q = rw (p, q)

pub ruleset worked = (clear_of, worked_refused, worked_clear)

-- ---- the three messages

pub is_zeroed : (s t u r : State) (m : List ℕ) → t ≡ taken s (take 72 m) → u ≡ taken t (replicate 16 0) →
    r ≡ taken u (take (length m - 88) (drop 88 m)) → r ≡ taken s (zeroed m)
unfolding zeroed
is_zeroed s t u r m e f g =
    let all : take (length m - 88) (drop 88 m) ≡ drop 88 m = take_all (length m - 88) (drop 88 m) (simp length-drop (omega arith)) in
    g ∙ ap (taken u) all ∙ ap (λ (v : State). taken v (drop 88 m)) (f ∙ ap (λ (v : State). taken v (replicate 16 0)) e)
    ∙ sym (taken_append (taken s (take 72 m)) (replicate 16 0) (drop 88 m))
    ∙ sym (taken_append s (take 72 m) (replicate 16 0 ++ drop 88 m))

pub two_pieces : (s t r : State) (key a b : List ℕ) → s ≡ begun key → t ≡ taken s a → r ≡ taken t b → r ≡ taken (taken (begun key) a) b
two_pieces s t r key a b e f g = simp (g, f, e)

pub is_mic : (key a b m r : List ℕ) (s t : State) → s ≡ taken (taken (begun key) a) b → t ≡ taken s (zeroed m) → r ≡ hmac_finished key t → r ≡ mic_of key a b m
unfolding mic_of
is_mic key a b m r s t e f g =
    g ∙ ap (hmac_finished key) (f ∙ ap (λ (u : State). taken u (zeroed m)) e ∙ sym (taken_append (taken (begun key) a) b (zeroed m))
    ∙ sym (taken_append (begun key) a (b ++ zeroed m)))
    ∙ of_pieces key (a ++ (b ++ zeroed m))

pub ruleset keyed = (fits, is_mic)
