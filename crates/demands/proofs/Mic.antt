-- The MIC's calls: when there is an answer and what it is, that the two agree, and what they don't depend on.
pub mod Ignored
pub mod PutIn
use Rattle.std.specs.Prelude.{Result, Ok, Err, ⊤}
use Rattle.read_authenticate.specs.declared.Authenticate.{Authenticate}
use Prim.Native.Nat.{ℕ, ◌+◌, ◌≤◌, ◌<◌}
use mathlib.Core.Path.{◌≡◌, refl, sym, ap, ◌∙◌, subst}
use mathlib.Core.Logic.{◌⊎◌, inl, inr, ⊎_elim, ◌↔◌}
use mathlib.Core.Bool.{Bool, true, false}
use mathlib.Core.List.{List}
use native.Mathlib.Omega.{arith}
use borrow.Author.Tests.{eqb-true, eqb-false, leb-true, leb-false, le-leb}
use lib.Dec.{eqb, leb}
use lib.ListN.{length, get_or, take, drop, length-take, length-drop}
use lib.Seq.{ext_get_or, get_or-take, get_or-drop, take_all}
use Rattle.wire.specs.declared.refusal.Refusal.{Refusal}
use Rattle.wire.specs.declared.refusal.Refusal.TheVariants.{NoRoom, WrongSessionKey, NoMic}
use Rattle.wire.specs.Check.{checked, after, on_clear}
use Rattle.wire.specs.Number.{stands_at}
use Rattle.wire.specs.Refusal.{number_of, field_of, place_of}
use Rattle.head.proofs.Stands.{stands, stand}
use Rattle.read_authenticate.specs.Authenticate.{read_authenticate}
use Rattle.head.specs.declared.Kind.TheVariants.{Negotiate, Challenge}
use Rattle.verdict.specs.Verdict.{auth_verdict, read_as}
use Rattle.mic.specs.Mic.{zeroed, mic_of, key_size_holds, authenticate_verdict, check_inputs, when_clear, computed_mic, check_mic}
use Rattle.mic.proofs.Laws.{passed}
use Rattle.place.specs.Written.{room_holds}
use Rattle.c_number.specs.Number.{refusal_number, bit}
use Rattle.c_number.specs.Outcome.{call_number, call_out, outcome_number}
use Rattle.c_mic.specs.Numbers.{handed_out, mic_outcome, checking_number}
use Rattle.demands.specs.Answers.{is_refused, DecodesLength, DecodesRefusal, DecodesOutcome, DecodesVerdict}
use Rattle.demands.specs.FromC.{compute_mic}
use Rattle.demands.specs.Kept.{Front}
use Rattle.demands.specs.Message.{negotiate, challenge, authenticate, MicThere, Fails}
use Rattle.demands.specs.TakenExactly.{RefusalIs, Judged, NoneFails, FirstFails, InfoBytes, ChallengeHolds, ChallengeFails, in_fields, in_list}
use Rattle.demands.specs.Mic.{MicHolds, MicFails, wrong_key, in_negotiate, in_challenge, in_authenticate, no_mic, MicJudged, MicRefusedZeros, MicIs, mic_number, MicDecodes, DecodesChecking, CheckMicDecodes, MicAgree, MicBlind, SameMicRefusals, MicSecret, MicUnwritten, MicKept}
use Rattle.demands.proofs.Alike.{same_part}
use Rattle.demands.proofs.Answers.{call_decodes}
use Rattle.demands.proofs.Answers.SmallFields.{SmallV, mic_small}
use Rattle.demands.proofs.Answers.Decoded.{decodes_length, decodes_refusal}
use Rattle.demands.proofs.First64.{authenticate_same}
use Rattle.demands.proofs.Judged.{judged_same, check_judged, as_verdict, judged_then}
use Rattle.demands.proofs.Kept.CallFront.{at_front_lem, mic_length}
use Rattle.demands.proofs.Message.Chain.{up_to_9}
use Rattle.demands.proofs.PairList.{first_number}
use Rattle.demands.proofs.OwnBytes.{authenticate_own}
use Rattle.demands.proofs.TakenExactly.{authenticate_judged}
use Rattle.demands.proofs.TakenExactly.Challenge.{info_there, challenge_judged}
use Rattle.demands.proofs.TakenExactly.Negotiate.{negotiate_judged}

true_not_false : {A : Type 0} → true ≡ false → A
true_not_false h = absurd (let z : ◌≡◌ {A = ℕ} 0 1 = cc in omega arith)

-- ---- exactly

module _ (size : ℕ) (nego chal info auth : List ℕ) (known : InfoBytes chal info) where
  abbrev NoKey : ℕ → ℕ → ℕ → Type 0
  NoKey n i p = (size ≡ 16 → ⊥) × RefusalIs WrongSessionKey n i p

  -- the AUTHENTICATE and its MIC
  abbrev AuthHolds : Type 0
  AuthHolds = NoneFails (Fails authenticate auth) × MicThere authenticate auth

  abbrev AuthFails : ℕ → ℕ → ℕ → Type 0
  AuthFails n i p =
      FirstFails (Fails authenticate auth) n i p ⊎ (NoneFails (Fails authenticate auth) × ((MicThere authenticate auth → ⊥) × RefusalIs NoMic n i p))

  auth_judged : Judged (authenticate_verdict (read_authenticate auth).reading) AuthHolds AuthFails
  auth_judged = go (read_authenticate auth).reading refl (authenticate_judged auth) where
    go : (r : Result Authenticate Refusal) → (read_authenticate auth).reading ≡ r →
        Judged (auth_verdict r) (NoneFails (Fails authenticate auth)) (FirstFails (Fails authenticate auth)) → Judged (authenticate_verdict r) AuthHolds AuthFails
    go (Ok a) e j =
        judged_then (Ok tt) (after (checked a.mic_present) (Err NoMic) (Ok tt)) j
        (λ t. check_judged (MicThere authenticate auth) a.mic_present NoMic (authenticate_own auth a e).mic_present_is.0
        (λ p m. true_not_false (sym ((authenticate_own auth a e).mic_present_is.1 m) ∙ p)))
    go (Err d) e j = judged_then (Err d) (Ok tt) j (λ t. absurd t)

  -- the key, and the messages in turn
  abbrev AllHolds : Type 0
  AllHolds = (size ≡ 16) × (NoneFails (Fails negotiate nego) × (ChallengeHolds chal info × AuthHolds))

  abbrev FirstFailed : ℕ → ℕ → ℕ → Type 0
  FirstFailed n i p =
      NoKey n i p ⊎ ((size ≡ 16) × (
      FirstFails (Fails negotiate nego) n i p ⊎ (NoneFails (Fails negotiate nego) × (
      ChallengeFails chal info n i p ⊎ (ChallengeHolds chal info × AuthFails n i p)))))

  in_turn : Judged (check_inputs size nego chal auth) AllHolds FirstFailed
  unfolding check_inputs
  in_turn =
      subst (λ (v : Result ⊤ Refusal). Judged v AllHolds FirstFailed) (as_verdict (key_size_holds size) WrongSessionKey _)
      (judged_then (after (key_size_holds size) (Err WrongSessionKey) (Ok tt)) _ (check_judged (size ≡ 16) (eqb size 16) WrongSessionKey (eqb-true size 16) (eqb-false size 16)) (λ k.
      judged_then (read_as Negotiate nego) _ (negotiate_judged nego) (λ n.
      judged_then (read_as Challenge chal) _ (challenge_judged chal info known) (λ c. auth_judged))))

  first_failed : (n i p : ℕ) → FirstFailed n i p → MicFails size nego chal info auth n i p
  first_failed n i p =
      ⊎_elim (λ f. wrong_key f.0 (sym f.1.0) (sym f.1.1) (sym f.1.2)) (λ k.
      ⊎_elim (λ f. in_negotiate k.0 f.0 f.1) (λ m.
      ⊎_elim (λ f. in_challenge k.0 m.0 f) (λ c.
      ⊎_elim (λ f. in_authenticate k.0 m.0 c.0 f.0 f.1)
      (λ a. no_mic k.0 m.0 c.0 a.0 a.1.0 (sym a.1.1.0) (sym a.1.1.1) (sym a.1.1.2))
      c.1) m.1) k.1)

  failed_first : (n i p : ℕ) → MicFails size nego chal info auth n i p → FirstFailed n i p
  failed_first n i p (wrong_key k a b c) = inl (k, (sym a, sym b, sym c))
  failed_first n i p (in_negotiate k f z) = inr (k, inl (f, z))
  failed_first n i p (in_challenge k none f) = inr (k, inr (none, inl f))
  failed_first n i p (in_authenticate k none c f z) = inr (k, inr (none, inr (c, inl (f, z))))
  failed_first n i p (no_mic k none c f m a b z) = inr (k, inr (none, inr (c, inr (f, (m, (sym a, sym b, sym z))))))

  all_judged : Judged (check_inputs size nego chal auth) (MicHolds size nego chal info auth) (MicFails size nego chal info auth)
  all_judged = judged_same (check_inputs size nego chal auth) holds (λ n i p. (first_failed n i p, failed_first n i p)) in_turn where
    holds : AllHolds ↔ MicHolds size nego chal info auth
    holds = (
      λ x. record { key = x.0; nego_taken = x.1.0; chal_taken = x.1.1.0; auth_taken = x.1.1.1.0; mic = x.1.1.1.1 },
      λ h. (h.key, (h.nego_taken, (h.chal_taken, (h.auth_taken, h.mic)))),
    )

pub mic_judged : MicJudged
unfolding computed_mic
mic_judged key nego chal info auth known = all_judged (length key) nego chal info auth known

pub mic_refused_zeros : MicRefusedZeros
unfolding computed_mic
mic_refused_zeros key nego chal auth e h = simp h

pub mic_is : MicIs
unfolding computed_mic mic_of zeroed
mic_is key nego chal auth h = simp h

-- ---- sixteen bytes, and whether they stand at 72

-- byte k of a MIC that is there
byte_at : (auth : List ℕ) (k : ℕ) → k < 16 → get_or (take 16 (drop 72 auth)) k 0 ≡ get_or auth (72 + k) 0
byte_at auth k l = get_or-take 16 (drop 72 auth) k 0 l ∙ get_or-drop 72 auth k 0

there_same : (auth mic : List ℕ) → 88 ≤ length auth → length mic ≡ 16 → stands_at auth 72 mic ≡ true → take 16 (drop 72 auth) ≡ mic
there_same auth mic h n e =
    let l : length (take 16 (drop 72 auth)) ≡ 16 = simp (length-take, length-drop) (omega arith) in
    ext_get_or 0 (take 16 (drop 72 auth)) mic (l ∙ sym n)
    (λ k m. byte_at auth k (omega (arith, l)) ∙ stands auth 72 mic e k (omega (arith, l)))

same_there : (auth mic : List ℕ) → length mic ≡ 16 → take 16 (drop 72 auth) ≡ mic → stands_at auth 72 mic ≡ true
same_there auth mic n e =
    stand auth 72 mic (λ k m. sym (byte_at auth k (omega arith)) ∙ ap (λ (l : List ℕ). get_or l k 0) e)

-- ---- the two calls agree

-- an answer is no refusal
not-refused : (b : Bool) → is_refused (bit b) ≡ 0
not-refused true = refl
not-refused false = refl

pub mic_agree : MicAgree
unfolding computed_mic check_mic call_number
mic_agree key nego chal auth =
    record {
      refused = refused_both (check_inputs (length key) nego chal auth) (stands_at auth 72 mic);
      yes = yes_both (check_inputs (length key) nego chal auth) refl;
      refused_from_c = λ room l. simp (le-leb 16 room l) (top_same (check_inputs (length key) nego chal auth) (stands_at auth 72 mic));
      same_number = λ room l h. simp (le-leb 16 room l) (number_same (check_inputs (length key) nego chal auth) (stands_at auth 72 mic) h);
    }
  where
    mic : List ℕ
    mic = mic_of key nego chal auth

    refused_both : (v : Result ⊤ Refusal) (b : Bool) (e : Refusal) → (on_clear Err v (Ok b) ≡ Err e) ↔ (v ≡ Err e)
    refused_both (Ok tt) b e = (λ h. absurd (let z : ◌≡◌ {A = ℕ} 0 1 = cc in omega arith), λ h. absurd (let z : ◌≡◌ {A = ℕ} 0 1 = cc in omega arith))
    refused_both (Err d) b e = (λ h. cc, λ h. cc)

    top_same : (v : Result ⊤ Refusal) (b : Bool) → is_refused (outcome_number (handed_out v (when_clear v mic))) ≡ is_refused (checking_number (on_clear Err v (Ok b)))
    top_same (Ok tt) b = sym (not-refused b)
    top_same (Err e) b = refl

    number_same : (v : Result ⊤ Refusal) (b : Bool) → is_refused (checking_number (on_clear Err v (Ok b))) ≡ 1 →
        outcome_number (handed_out v (when_clear v mic)) ≡ checking_number (on_clear Err v (Ok b))
    number_same (Ok tt) b h = absurd (omega (arith, not-refused b, h))
    number_same (Err e) b h = refl

    yes_both : (v : Result ⊤ Refusal) → check_inputs (length key) nego chal auth ≡ v →
        (on_clear Err v (Ok (stands_at auth 72 mic)) ≡ Ok true) ↔ ((v ≡ Ok tt) × (take 16 (drop 72 auth) ≡ when_clear v mic))
    yes_both (Ok tt) e = (
      λ h. (refl, there_same auth mic (passed (length key) nego chal auth e).mic_inside (mic_length key nego chal auth) (let b : stands_at auth 72 mic ≡ true = cc in b)),
      λ h. ap Ok (same_there auth mic (mic_length key nego chal auth) h.1),
    )
    yes_both (Err d) e = (λ h. absurd (let z : ◌≡◌ {A = ℕ} 0 1 = cc in omega arith), λ h. absurd (let q : Err d ≡ (Ok tt) = h.0 in let z : ◌≡◌ {A = ℕ} 0 1 = cc in omega arith))

-- ---- what the verdict depends on

verdict_same : (s t : List ℕ) → length s ≡ length t → ((p : ℕ) → p < 64 → get_or s p 0 ≡ get_or t p 0) → (n : ℕ) (nego chal : List ℕ) →
    check_inputs n nego chal s ≡ check_inputs n nego chal t
unfolding check_inputs
verdict_same s t long first n nego chal = simp (authenticate_same s t long first)

-- ---- the MIC's own bytes

pub mic_blind : MicBlind
unfolding computed_mic mic_of zeroed
mic_blind key nego chal s t d =
    let at : (p : ℕ) → ((72 ≤ p) × (p < 88) → ⊥) → get_or s p 0 ≡ get_or t p 0 = λ p out. ⊎_elim (λ e. e) (λ x. absurd (out x)) (d.elsewhere p) in
    let v : check_inputs (length key) nego chal s ≡ check_inputs (length key) nego chal t =
    verdict_same s t d.length_same (λ p l. at p (λ x. omega arith)) (length key) nego chal in
    let a : take 72 s ≡ take 72 t = same_part s t d.length_same 0 72 (λ p l m. at p (λ x. omega arith)) in
    let all : (u : List ℕ) → take (length u) (drop 88 u) ≡ drop 88 u = λ u. take_all (length u) (drop 88 u) (simp length-drop (omega arith)) in
    let b : drop 88 s ≡ drop 88 t =
    sym (all s) ∙ same_part s t d.length_same 88 (length s) (λ p l m. at p (λ x. omega arith))
    ∙ ap (λ (n : ℕ). take n (drop 88 t)) d.length_same ∙ all t in
    simp (v, a, b)

-- ---- refusals

number_by : (v : Result ⊤ Refusal) (a b : List ℕ) → outcome_number (handed_out v a) ≡ outcome_number (handed_out v b)
number_by (Ok tt) a b = refl
number_by (Err e) a b = refl

-- the same of a check, where it is refused
checked_by : (v : Result ⊤ Refusal) (a b : Bool) → is_refused (checking_number (on_clear Err v (Ok a))) ≡ is_refused (checking_number (on_clear Err v (Ok b)))
checked_by (Ok tt) a b = not-refused a ∙ sym (not-refused b)
checked_by (Err e) a b = refl

refused_by : (v : Result ⊤ Refusal) (a b : Bool) → is_refused (checking_number (on_clear Err v (Ok a))) ≡ 1 →
    checking_number (on_clear Err v (Ok a)) ≡ checking_number (on_clear Err v (Ok b))
refused_by (Ok tt) a b h = absurd (omega (arith, not-refused a, h))
refused_by (Err e) a b h = refl

-- both calls have the same refusals where the messages' checks have the same outcome
pub same_refusals : (key nego chal s key' nego' chal' t : List ℕ) → check_inputs (length key) nego chal s ≡ check_inputs (length key') nego' chal' t →
    SameMicRefusals key nego chal s key' nego' chal' t
unfolding computed_mic check_mic call_number
same_refusals key nego chal s key' nego' chal' t v =
    let p = mic_agree key nego chal s in
    let q = mic_agree key' nego' chal' t in
    let yes = stands_at s 72 (mic_of key nego chal s) in
    let yes' = stands_at t 72 (mic_of key' nego' chal' t) in
    record {
      computed = v;
      checked = λ e. (λ h. (q.refused e).1 (sym v ∙ (p.refused e).0 h), λ h. (p.refused e).1 (v ∙ (q.refused e).0 h));
      from_c = λ room.
          ap (λ (x : ℕ). after (room_holds 16 room) (refusal_number NoRoom) x)
          (ap (λ (w : Result ⊤ Refusal). outcome_number (handed_out w (when_clear (check_inputs (length key) nego chal s) (mic_of key nego chal s)))) v
          ∙ number_by (check_inputs (length key') nego' chal' t) _ _);
      check_refused =
          checked_by (check_inputs (length key) nego chal s) yes yes'
          ∙ ap (λ (w : Result ⊤ Refusal). is_refused (checking_number (on_clear Err w (Ok yes')))) v;
      check_from_c = λ h.
          refused_by (check_inputs (length key) nego chal s) yes yes' h
          ∙ ap (λ (w : Result ⊤ Refusal). checking_number (on_clear Err w (Ok yes'))) v;
    }

pub mic_secret : MicSecret
mic_secret key key' nego chal s t k long first =
    same_refusals key nego chal s key' nego chal t
    (verdict_same s t long first (length key) nego chal ∙ ap (λ (n : ℕ). check_inputs n nego chal t) k)

-- ---- from C

pub mic_decodes : MicDecodes
unfolding computed_mic
mic_decodes room key nego chal auth =
    let w = call_decodes (compute_mic key nego chal auth) room in
    (w.0, λ l. go (check_inputs (length key) nego chal auth) (w.1 l))
  where
    mic : List ℕ
    mic = mic_of key nego chal auth

    go : (v : Result ⊤ Refusal) → DecodesOutcome (call_number 16 (handed_out v (when_clear v mic)) room) (handed_out v (when_clear v mic)) →
        DecodesVerdict (call_number 16 (handed_out v (when_clear v mic)) room) v
    go (Ok tt) w = w
    go (Err e) w = w

pub check_mic_decodes : CheckMicDecodes
unfolding check_mic
check_mic_decodes key nego chal auth =
    go (check_inputs (length key) nego chal auth) (stands_at auth 72 (mic_of key nego chal auth)) (mic_small (length key) nego chal auth)
  where
    go : (v : Result ⊤ Refusal) (b : Bool) → SmallV v → DecodesChecking (checking_number (on_clear Err v (Ok b))) (on_clear Err v (Ok b))
    go (Ok tt) true w = decodes_length 1 (omega arith)
    go (Ok tt) false w = decodes_length 0 (omega arith)
    go (Err e) b w = decodes_refusal e w

-- ---- kept

-- no message is refused 33
not-33 : (n : ℕ) (nego chal auth : List ℕ) (e : Refusal) → check_inputs n nego chal auth ≡ Err e → number_of e ≡ 33 → ⊥
not-33 n nego chal auth e h = go (info_there chal) where
  go : (b : List ℕ) × InfoBytes chal b → number_of e ≡ 33 → ⊥
  go i = fails_otherwise (((all_judged n nego chal i.0 auth i.1).refused (number_of e) (field_of e) (place_of e)).0 (rw h (refl, refl, refl))) where
    fails_otherwise : {m j p : ℕ} → MicFails n nego chal i.0 auth m j p → m ≡ 33 → ⊥
    fails_otherwise (wrong_key k a b c) q = omega (arith, a)
    fails_otherwise {m} {j} {p} (in_negotiate k f z) q = omega (arith, up_to_9 negotiate nego m j f.fails)
    fails_otherwise {m} {j} {p} (in_challenge k none (in_fields z f)) q = omega (arith, up_to_9 challenge chal m j f.fails)
    fails_otherwise {m} {j} {p} (in_challenge k none (in_list free f z)) q = omega (arith, (first_number i.0 f.2).1)
    fails_otherwise {m} {j} {p} (in_authenticate k none c f z) q = omega (arith, up_to_9 authenticate auth m j f.fails)
    fails_otherwise (no_mic k none c f t a b z) q = omega (arith, a)

pub mic_kept : MicKept
unfolding computed_mic call_out
mic_kept key nego chal auth out = go (leb 16 (length out)) refl (check_inputs (length key) nego chal auth) refl where
  mic : List ℕ
  mic = mic_of key nego chal auth

  told : (length out < 16 → DecodesRefusal (mic_number (length out) key nego chal auth) NoRoom)
      × (16 ≤ length out → DecodesVerdict (mic_number (length out) key nego chal auth) (computed_mic key nego chal auth).verdict)
  told = mic_decodes (length out) key nego chal auth

  unwritten : (d : Refusal) → 16 ≤ length out → check_inputs (length key) nego chal auth ≡ Err d →
      call_out 16 (mic_outcome (computed_mic key nego chal auth)) out ≡ out → MicUnwritten key nego chal auth out d
  unwritten d l h same =
      let t : DecodesRefusal (mic_number (length out) key nego chal auth) d = subst (DecodesVerdict (mic_number (length out) key nego chal auth)) h (told.1 l) in
      record {
        unchanged = same;
        answer = t;
        which = inr (l, h);
        no_room = (λ q. absurd (not-33 (length key) nego chal auth d h (sym t.number ∙ q)), λ m. absurd (omega arith));
      }

  go : (b : Bool) → leb 16 (length out) ≡ b → (v : Result ⊤ Refusal) → check_inputs (length key) nego chal auth ≡ v →
      ((mic_number (length out) key nego chal auth ≡ 0) × ((computed_mic key nego chal auth).verdict ≡ Ok tt)
      × Front (computed_mic key nego chal auth).mic out (call_out 16 (mic_outcome (computed_mic key nego chal auth)) out))
      ⊎ ((e : Refusal) × MicUnwritten key nego chal auth out e)
  go true e (Ok tt) h =
      let l = leb-true 16 (length out) e in
      let t : DecodesLength (mic_number (length out) key nego chal auth) 0 = subst (DecodesVerdict (mic_number (length out) key nego chal auth)) h (told.1 l) in
      inl (t.is_length, h, simp (e, h) (at_front_lem mic out (omega (arith, l, mic_length key nego chal auth))))
  go true e (Err d) h = inr (d, unwritten d (leb-true 16 (length out) e) h (simp (e, h)))
  go false e v h =
      let l = leb-false 16 (length out) e in
      inr (
        NoRoom,
        record {
          unchanged = simp e;
          answer = told.0 l;
          which = inl (l, refl);
          no_room = (λ q. l, λ m. (told.0 l).number);
        },
      )
