-- MaxLen and ignored bytes change nothing but a record's MaxLen.
pub mod ChallengeIgnored
pub mod LineIgnored
pub mod NlIgnored
pub mod RespondIgnored
use Rattle.std.specs.Prelude.{Result, Ok, Err, ⊤}
use Rattle.read_authenticate.specs.declared.Authenticate.{Authenticate}
use Rattle.wire.specs.declared.refusal.Refusal.{Refusal}
use Prim.Native.Nat.{ℕ, ◌≤◌, ◌<◌}
use mathlib.Core.Path.{◌≡◌, refl, sym, ap, ◌∙◌}
use mathlib.Core.Logic.{inr, ⊎_elim}
use mathlib.Core.Bool.{Bool, true, false, cond}
use mathlib.Core.List.{List}
use native.Mathlib.Omega.{arith}
use lib.ListN.{length, take, drop, replicate}
use borrow.Author.Tests.{eqb-true}
use Rattle.negotiate_flags.specs.declared.NegotiateFlags.{NegotiateFlags}
use Rattle.wire.specs.Check.{on_clear}
use Rattle.field.specs.Field.{field_at}
use Rattle.negotiate_flags.specs.Flags.{unicode, key_exch}
use Rattle.head.specs.Head.{flags_at}
use Rattle.read_authenticate.specs.declared.Fields.{Fields}
use Rattle.read_authenticate.specs.Authenticate.{fields_at, check_ends, check_begins, check_names, check_shared, check_fields, mic_present, mic_bytes, reading_of, read_authenticate}
use Rattle.demands.specs.Message.{authenticate, MicThere, Fails, Ignored, DifferInIgnored, SameMaxLen}
use Rattle.demands.specs.Ignored.{SameBytes, AuthenticateIgnored}
use Rattle.demands.proofs.Alike.{same_part}
use Rattle.demands.proofs.MaxLen.{bare_only, kept, kept_fields, kept_reading, as_it_is, bare_is}
use Rattle.demands.proofs.Message.Apart.{Apart, spaced, lies, seen as apart_seen}
use Rattle.demands.proofs.Message.Unchanged.{Seen}
use Rattle.demands.proofs.Message.Unchanged as same
use Rattle.demands.proofs.TakenExactly.{six}
use Rattle.demands.proofs.Message.Mic.{mic_there}
use Rattle.demands.proofs.OwnBytes.{taken_answer, none_fails}

apart : Apart authenticate
apart =
    record {
      flags = (omega arith, omega arith);
      heads = λ i a b. (omega arith, omega arith);
      from_flags = λ i a b. inr (omega arith);
      from_heads = λ i j a b c d. spaced 4 i j;
      unused = λ p u. absurd u;
    }

pub seen : (s : List ℕ) → Seen authenticate s
seen s = apart_seen authenticate apart s

-- a MIC that is there is looked at too
at_mic : (s : List ℕ) (p : ℕ) → MicThere authenticate s → 72 ≤ p → p < 88 → Ignored authenticate s p → ⊥
at_mic s p there l r g =
    ⊎_elim (λ u. absurd u) (⊎_elim (λ h. omega (arith, h.last, h.to)) (λ o. o.2 there l r)) (lies authenticate s p g)

-- what follows the head's checks goes by the records without MaxLen
module _ (m : Bool) (w : NegotiateFlags) where
  abbrev rest : ℕ → Fields → Result Authenticate Refusal
  rest n f =
      on_clear Err (check_fields n (unicode w) f)
      (Ok (record { flags = w; fields = f; mic_present = mic_present n f }))

  rest_kept : (n : ℕ) (f : Fields) → kept_reading m (rest n f) ≡ rest n (kept_fields m f)
  unfolding check_fields check_ends check_begins check_names check_shared mic_present kept
  rest_kept n f = go (check_fields n (unicode w) f) where
    go : (v : Result ⊤ Refusal) →
        kept_reading m (on_clear Err v (Ok (record { flags = w; fields = f; mic_present = mic_present n f })))
        ≡ on_clear Err v (Ok (record { flags = w; fields = kept_fields m f; mic_present = mic_present n f }))
    go (Ok tt) = refl
    go (Err e) = refl

module _ (a b : List ℕ) (d : DifferInIgnored authenticate a b) where
  -- without MaxLen, and with it where it is the same
  module _ (m : Bool) (max : m ≡ true → SameMaxLen authenticate a b) where
    pub fields_same : kept_fields m (fields_at a (flags_at a 60)) ≡ kept_fields m (fields_at b (flags_at a 60))
    unfolding fields_at
    fields_same = λ i.
        record {
          lm = always 1 (omega arith) (omega arith) i;
          nt = always 2 (omega arith) (omega arith) i;
          domain = always 3 (omega arith) (omega arith) i;
          user = always 4 (omega arith) (omega arith) i;
          workstation = always 5 (omega arith) (omega arith) i;
          key = same.field_same authenticate a b (seen a) d m max 6 (key_exch (flags_at a 60)) (omega arith) (omega arith) (λ h e. eqb-true _ 1 h) i;
        }
      where
        always : (i : ℕ) → 1 ≤ i → i ≤ 5 → kept m (field_at a (authenticate.head i) true) ≡ kept m (field_at b (authenticate.head i) true)
        always i f t = same.field_same authenticate a b (seen a) d m max i true f (omega arith) (λ h e. absurd (omega arith))

    pub reading_same : kept_reading m (reading_of a) ≡ kept_reading m (reading_of b)
    unfolding reading_of
    reading_same = same.read_same authenticate a b (seen a) d Err (rest m) fields_at (kept_fields m) (kept_reading m) (omega arith) (rest_kept m) fields_same

  whole_reading : SameMaxLen authenticate a b → reading_of a ≡ reading_of b
  whole_reading x = sym (as_it_is (reading_of a)) ∙ reading_same true (λ e. x) ∙ as_it_is (reading_of b)

  -- the MIC goes by whether it is there
  mic_of : (r : Result Authenticate Refusal) (s : List ℕ) → mic_bytes (kept_reading false r) s ≡ mic_bytes r s
  mic_of (Ok x) s = refl
  mic_of (Err e) s = refl

  mic_same : mic_bytes (reading_of a) a ≡ mic_bytes (reading_of b) b
  unfolding read_authenticate
  mic_same =
      go (reading_of a) refl ∙ sym (mic_of (reading_of a) b)
      ∙ ap (λ (r : Result Authenticate Refusal). mic_bytes r b) (reading_same false bare_only) ∙ mic_of (reading_of b) b
    where
      go : (r : Result Authenticate Refusal) → reading_of a ≡ r → mic_bytes r a ≡ mic_bytes r b
      go (Ok x) p = rw (taken_answer a x p) (at (mic_present (length a) (fields_at a (flags_at a 60))) refl) where
        at : (m : Bool) → mic_present (length a) (fields_at a (flags_at a 60)) ≡ m → cond m (take 16 (drop 72 a)) (replicate 16 0) ≡ cond m (take 16 (drop 72 b)) (replicate 16 0)
        at true h = same_part a b d.length_same 72 16 (λ q l r. same.looked authenticate a b (seen a) d q (at_mic a q ((mic_there a).0 h) l r))
        at false h = refl
      go (Err e) p = refl

pub authenticate_ignored : AuthenticateIgnored
unfolding read_authenticate kept
authenticate_ignored a b d =
    record {
      reading = bare_is (reading_of a) ∙ reading_same a b d false bare_only ∙ sym (bare_is (reading_of b));
      mic = mic_same a b d;
      whole = λ x. λ i. record { reading = whole_reading a b d x i; mic = mic_same a b d i };
      bytes = λ x h.
          rw (taken_answer a x h)
          (let y = six a (λ i f. (Fails authenticate a 6 i → ⊥) → (Fails authenticate a 7 i → ⊥) → SameBytes a b f) (same.bytes_same authenticate a b (seen a) d) in
          let none = none_fails a x h in
          record {
            lm = y.0 (none 6 1) (none 7 1);
            nt = y.1 (none 6 2) (none 7 2);
            domain = y.2 (none 6 3) (none 7 3);
            user = y.3 (none 6 4) (none 7 4);
            workstation = y.4 (none 6 5) (none 7 5);
            key = y.5 (none 6 6) (none 7 6);
          });
    }
