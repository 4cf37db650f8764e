-- Each field handed out is that field's own bytes.
pub mod ChallengeOwn
pub mod Found
use Rattle.std.specs.Prelude.{Result, Ok}
use Rattle.wire.specs.declared.refusal.Refusal.{Refusal}
use Prim.Native.Nat.{ℕ, zero, suc, ◌+◌, ◌≤◌, ◌<◌}
use mathlib.Core.Path.{◌≡◌, refl, sym, ap, ◌∙◌, subst}
use mathlib.Core.Bool.{Bool, true, false, cond}
use mathlib.Core.List.{List, [], ◌∷◌}
use native.Mathlib.Omega.{arith}
use lib.ListN.{length, take, drop, replicate}
use borrow.Author.Tests.{eqb-true, le-leb, lt-leb}
use Rattle.field.specs.declared.Field.{Field}
use Rattle.field.specs.Field.{is_empty, field_bytes}
use Rattle.head.specs.Head.{flags_at}
use Rattle.field.proofs.Fields.{own_bytes_lem, no_bytes}
use Rattle.read_authenticate.specs.declared.Authenticate.{Authenticate}
use Rattle.read_authenticate.specs.Authenticate.{fields_at, mic_present, mic_bytes, read_authenticate}
use Rattle.read_nl_auth.specs.NlAuth.{string_bytes}
use Rattle.read_authenticate.proofs.Laws.{taken_by}
use Rattle.demands.specs.Message.{Format, authenticate, len_of, offset_of, Nonempty, Fails}
use Rattle.demands.specs.OwnBytes.{OwnField, AuthenticateOwn, AuthenticateRefusedMic, FieldRecordBytes, StringRecordBytes}
use Rattle.demands.proofs.Message.Chain.{JudgedH, head_judged}
use Rattle.demands.proofs.Message.{Stands, empty_bytes}
use Rattle.demands.proofs.TakenExactly.{six, authenticate_judged}
use Rattle.demands.proofs.Message.Mic.{mic_there}

module _ (k : Format) (s : List ℕ) (i : ℕ) (f : Field) (w : Stands k s i f) where
  pub is_full : Nonempty k s i → is_empty f ≡ false
  is_full ne = go (is_empty f) refl where
    go : (e : Bool) → is_empty f ≡ e → is_empty f ≡ false
    go true p = absurd (w.empty p ne)
    go false p = p

  is_empty_lem : (Nonempty k s i → ⊥) → is_empty f ≡ true
  is_empty_lem no_bytes = go (is_empty f) refl where
    go : (e : Bool) → is_empty f ≡ e → is_empty f ≡ true
    go true p = p
    go false p = absurd (no_bytes (w.full p))

  pub own_field : (Fails k s 6 i → ⊥) → OwnField k s i f
  own_field ends =
      record {
        place = λ ne. (w.offset (is_full ne), w.len (is_full ne));
        whole = whole;
        bytes = λ ne.
            own_bytes_lem s f (omega (arith, whole ne, w.offset (is_full ne), w.len (is_full ne)))
            ∙ simp (w.offset (is_full ne), w.len (is_full ne));
        none = λ empty.
            let e = is_empty_lem empty in
            (w.none e, eqb-true f.len 0 e, empty_bytes k s i f w e s);
        max_len = λ c. (w.counted c).1;
        no_max_len = λ c. ap (λ (x : Field). x.max_len) (w.uncounted c);
      }
    where
      whole : Nonempty k s i → offset_of k s i + len_of k s i ≤ length s
      whole ne = go (λ l. ends (ne, l)) where
        go : (length s < offset_of k s i + len_of k s i → ⊥) → offset_of k s i + len_of k s i ≤ length s
        go h = omega (arith, h)

-- what a taken message is answered with
pub taken_answer : (s : List ℕ) (a : Authenticate) → (read_authenticate s).reading ≡ Ok a →
    a ≡ record { flags = flags_at s 60; fields = fields_at s (flags_at s 60); mic_present = mic_present (length s) (fields_at s (flags_at s 60)) }
unfolding read_authenticate
taken_answer s a h =
    let t = taken_by s a h in
    t.answer ∙ simp (subst (JudgedH authenticate s) t.head (head_judged authenticate s (omega arith))).0

-- a taken message fails no check
pub none_fails : (s : List ℕ) (a : Authenticate) → (read_authenticate s).reading ≡ Ok a → (n i : ℕ) → Fails authenticate s n i → ⊥
none_fails s a h = (authenticate_judged s).taken.0 (rw h tt)

not_there : (s : List ℕ) → (mic_present (length s) (fields_at s (flags_at s 60)) ≡ true → ⊥) → mic_present (length s) (fields_at s (flags_at s 60)) ≡ false
not_there s h = go (mic_present (length s) (fields_at s (flags_at s 60))) refl where
  go : (b : Bool) → mic_present (length s) (fields_at s (flags_at s 60)) ≡ b → mic_present (length s) (fields_at s (flags_at s 60)) ≡ false
  go true p = absurd (h p)
  go false p = p

-- the MIC's bytes of a taken message, by whether it is there
mic_is : (s : List ℕ) (a : Authenticate) → (read_authenticate s).reading ≡ Ok a →
    (b : Bool) → mic_present (length s) (fields_at s (flags_at s 60)) ≡ b →
    (read_authenticate s).mic ≡ cond b (take 16 (drop 72 s)) (replicate 16 0)
unfolding read_authenticate
mic_is s a h b p = simp (h, taken_answer s a h, p)

pub authenticate_own : AuthenticateOwn
unfolding read_authenticate
authenticate_own s a h =
    rw (taken_answer s a h)
    (let x = six s (λ i f. (Fails authenticate s 6 i → ⊥) → OwnField authenticate s i f) (own_field authenticate s) in
    record {
      flags = refl;
      lm = x.0 (none_fails s a h 6 1);
      nt = x.1 (none_fails s a h 6 2);
      domain = x.2 (none_fails s a h 6 3);
      user = x.3 (none_fails s a h 6 4);
      workstation = x.4 (none_fails s a h 6 5);
      key = x.5 (none_fails s a h 6 6);
      mic_present_is = mic_there s;
      mic_bytes_is = λ m. mic_is s a h true ((mic_there s).1 m);
      mic_zeros = λ absent. mic_is s a h false (not_there s (λ p. absent ((mic_there s).0 p)));
    })

pub authenticate_refused_mic : AuthenticateRefusedMic
unfolding read_authenticate
authenticate_refused_mic s e h = ap (λ (r : Result Authenticate Refusal). mic_bytes r s) h

-- a field that holds these bytes hands them out, also where they are none
pub own_same : (k : Format) (M : List ℕ) (i : ℕ) (g : Field) (x : List ℕ) → OwnField k M i g → (0 < len_of k M i → Nonempty k M i) →
    len_of k M i ≡ length x → take (length x) (drop (offset_of k M i) M) ≡ x → field_bytes M g ≡ x
own_same k M i g x o full l e = go (length x) refl where
  go : (n : ℕ) → length x ≡ n → field_bytes M g ≡ x
  go zero p = (o.none (λ ne. omega (arith, ne.some))).2 ∙ sym (empty x p) where
    empty : (y : List ℕ) → length y ≡ 0 → y ≡ []
    empty [] q = refl
    empty (y ∷ ys) q = absurd (omega arith)
  go (suc n) p = o.bytes (full (omega arith)) ∙ ap (λ (n : ℕ). take n (drop (offset_of k M i) M)) l ∙ e

-- ---- any record

pub field_record_bytes : FieldRecordBytes
field_record_bytes s f = record { within = own_bytes_lem s f; outside = no_bytes s f }

pub string_record_bytes : StringRecordBytes
unfolding string_bytes
string_record_bytes s x =
    record {
      within = λ h. simp (le-leb (x.offset + x.len) (length s) h);
      outside = λ h. simp (lt-leb (x.offset + x.len) (length s) h);
    }
