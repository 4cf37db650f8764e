-- Reading AUTHENTICATE and its line tell no secret.
pub mod SecretPrinted
pub mod Answered
use Rattle.std.specs.Prelude.{Result, Ok, Err}
use Rattle.wire.specs.declared.refusal.Refusal.{Refusal}
use Prim.Native.Nat.{ℕ, ◌+◌, ◌≤◌, ◌<◌}
use mathlib.Core.Path.{◌≡◌, refl, sym, ap, ◌∙◌, subst}
use mathlib.Core.Logic.{◌⊎◌, inl, inr, ⊎_elim}
use mathlib.Core.Bool.{Bool, true, false}
use mathlib.Core.List.{List}
use native.Mathlib.Omega.{arith}
use lib.Dec.{eqb}
use lib.Seq.{get_or-set_other}
use borrow.Author.Tests.{eqb-true, eqb-false}
use lib.ListN.{length, get_or, set, take, replicate, length-set}
use Rattle.field.specs.declared.Field.{Field}
use Rattle.negotiate_flags.specs.declared.NegotiateFlags.{NegotiateFlags}
use Rattle.field.specs.Field.{is_empty, field_at}
use Rattle.head.specs.Head.{signature_holds, read_head, flags_at, kind_of}
use Rattle.field.proofs.Fields.{own_bytes_lem}
use Rattle.read_authenticate.specs.declared.Authenticate.{Authenticate}
use Rattle.read_authenticate.specs.Authenticate.{fields_at, check_ends, check_begins, check_names, check_shared, check_fields, mic_present, reading_of, read_authenticate}
use Rattle.line_authenticate.specs.Auth.{auth_names, auth_text}
use Rattle.line.specs.Line.{auth_line, authenticate_line}
use Rattle.place.specs.Written.{bytes_answer, bytes_after}
use Rattle.c_read.specs.Numbers.{authenticate_outcome}
use Rattle.demands.specs.Bench.{p1, user_offset}
use Rattle.demands.specs.Ignored.{SameBytes}
use Rattle.demands.specs.Message.{authenticate, len_of, offset_of, Nonempty, Covers, Fails}
use Rattle.demands.specs.Secret.{Secret, secret_field, mic, DifferInSecrets, LineWrittenAlike, SecretRead, SecretExample}
use Rattle.demands.proofs.Alike.{same_part, same32}
use Rattle.demands.proofs.First64.{auth_fields, authenticate_same}
use Rattle.demands.proofs.Message.{Stands, empty_bytes}
use Rattle.demands.proofs.OwnBytes.{taken_answer, none_fails, authenticate_own, authenticate_refused_mic}
use Rattle.demands.proofs.TakenExactly.{six}
use Rattle.demands.proofs.WrittenExactly.{line_written, line_stands}

module _ (s t : List ℕ) (d : DifferInSecrets s t) where
  -- what stands in the first 64 bytes is the same
  pub flags_same : flags_at s 60 ≡ flags_at t 60
  flags_same = ap (λ (x : ℕ). record { bits = x }) (same32 s t 60 (λ p a b. d.first_64 p (omega arith)))

  pub fields_same : (w : NegotiateFlags) → fields_at s w ≡ fields_at t w
  fields_same w = auth_fields s t d.length_same d.first_64 w

  reading_same : (read_authenticate s).reading ≡ (read_authenticate t).reading
  reading_same = authenticate_same s t d.length_same d.first_64

  -- a name of a taken message has no secret byte
  name_same : (i : ℕ) (f : Field) → Stands authenticate s i f → ((n j : ℕ) → Fails authenticate s n j → ⊥) → authenticate.Name i → SameBytes s t f
  name_same i f w none name = go (is_empty f) refl where
    plain : (p : ℕ) → Nonempty authenticate s i → Covers authenticate s i p → Secret s p → ⊥
    plain p ne c (secret_field j l q nj cj) = none 9 i (ne, name, (j, p, nj, q, c, cj))
    plain p ne c (mic l m a b) = omega (arith, m.fields i ne, c.0)

    fit : (n : ℕ) → is_empty f ≡ false → n ≡ length s → f.offset + f.len ≤ n
    fit n p e = inside (λ l. none 6 i (w.full p, l)) where
      inside : (length s < offset_of authenticate s i + len_of authenticate s i → ⊥) → f.offset + f.len ≤ n
      inside h = omega (arith, h, w.offset p, w.len p)

    go : (e : Bool) → is_empty f ≡ e → SameBytes s t f
    go true p = empty_bytes authenticate s i f w p s ∙ sym (empty_bytes authenticate s i f w p t)
    go false p =
        own_bytes_lem s f (fit (length s) p refl)
        ∙ same_part s t d.length_same f.offset f.len
        (λ q l r. ⊎_elim (λ e. e) (λ x. absurd (plain q (w.full p) (omega (arith, w.offset p, w.len p), omega (arith, w.offset p, w.len p)) x)) (d.elsewhere q))
        ∙ sym (own_bytes_lem t f (fit (length t) p (sym d.length_same)))

  names_same : (a : Authenticate) → (read_authenticate s).reading ≡ Ok a →
      SameBytes s t a.fields.domain × SameBytes s t a.fields.user × SameBytes s t a.fields.workstation
  names_same a h =
      rw (taken_answer s a h)
      (let x = six s (λ i f. authenticate.Name i → SameBytes s t f) (λ i f w. name_same i f w (none_fails s a h)) in
      (x.2 (omega arith, omega arith), x.3 (omega arith, omega arith), x.4 (omega arith, omega arith)))

  line_of : (r : Result Authenticate Refusal) → (read_authenticate s).reading ≡ r → auth_line s r ≡ auth_line t r
  unfolding auth_text auth_names
  line_of (Ok a) e = let n = names_same a e in simp (n.0, n.1, n.2)
  line_of (Err x) e = refl

  line_same : authenticate_line s ≡ authenticate_line t
  unfolding authenticate_line
  line_same = line_of (read_authenticate s).reading refl ∙ ap (λ (r : Result Authenticate Refusal). auth_line t r) reading_same

-- ---- a line's call, twice

-- the answer goes by the room's length
answer_same : (x out out' : List ℕ) → length out ≡ length out' → bytes_answer x out ≡ bytes_answer x out'
unfolding bytes_answer
answer_same x out out' l = simp l

-- what is written is the line
stands : (x out : List ℕ) (n : ℕ) → bytes_answer x out ≡ Ok n → take n (bytes_after x out) ≡ x
stands x out n h =
    let w = ((line_written x out).written n).0 h in
    let fits : length out < length x → ⊥ = λ r. w.0 33 0 (refl, r) in
    subst (λ (k : ℕ). take k (bytes_after x out) ≡ x) (sym w.1) (line_stands x out (omega (arith, fits)))

pub line_written_alike : LineWrittenAlike
line_written_alike x out out' l =
    record {
      answer = answer_same x out out' l;
      bytes = λ n h. stands x out n h ∙ sym (stands x out' n (sym (answer_same x out out' l) ∙ h));
    }

-- ---- the answer

-- the sixteen bytes, where the message isn't taken with a MIC
zeros : (s : List ℕ) → ((a : Authenticate) → (read_authenticate s).reading ≡ Ok a → a.mic_present ≡ true → ⊥) → (read_authenticate s).mic ≡ replicate 16 0
zeros s none = go (read_authenticate s).reading refl where
  go : (r : Result Authenticate Refusal) → (read_authenticate s).reading ≡ r → (read_authenticate s).mic ≡ replicate 16 0
  go (Ok a) e = let own = authenticate_own s a e in own.mic_zeros (λ m. none a e (own.mic_present_is.1 m))
  go (Err d) e = authenticate_refused_mic s d e

pub secret_read : SecretRead
secret_read s t d =
    record {
      reading = reading_same s t d;
      from_c = ap authenticate_outcome (reading_same s t d);
      domain = λ a h. (names_same s t d a h).0;
      user = λ a h. (names_same s t d a h).1;
      workstation = λ a h. (names_same s t d a h).2;
      no_mic = λ none.
          let present : (a : Authenticate) → (read_authenticate s).reading ≡ Ok a → a.mic_present ≡ true → ⊥ =
          λ a h p. none (rw h tt) ((authenticate_own s a h).mic_present_is.0 p) in
          (zeros s present, zeros t (λ a h p. present a (reading_same s t d ∙ h) p));
      line = line_same s t d;
    }

-- ---- examples

-- another byte in a secret, after the first 64 bytes
other_byte : (s : List ℕ) (at v : ℕ) → 64 ≤ at → Secret s at → DifferInSecrets s (set s at v)
other_byte s at v l secret =
    record {
      length_same = sym (length-set s at v);
      first_64 = λ p m. sym (get_or-set_other s at p v 0 (λ e. omega arith));
      elsewhere = λ p. go p (eqb p at) refl;
    }
  where
    go : (p : ℕ) (b : Bool) → eqb p at ≡ b → (get_or s p 0 ≡ get_or (set s at v) p 0) ⊎ Secret s p
    go p true e = inr (subst (λ (q : ℕ). Secret s q) (sym (eqb-true p at e)) secret)
    go p false e = inl (sym (get_or-set_other s at p v 0 (eqb-false p at e)))

-- bytes 96 to 119 are the NT response, in P1 and in P2
nt_byte : (s : List ℕ) (p : ℕ) → length s ≡ 120 → len_of authenticate s 2 ≡ 24 → offset_of authenticate s 2 ≡ 96 → 96 ≤ p → p < 120 → Secret s p
nt_byte s p n l o a b =
    secret_field 2 (omega (arith, n)) (inr (inl refl))
    (record { first = omega arith; last = omega arith; counts = λ e. absurd (omega arith); some = omega (arith, l) })
    (omega (arith, o, a), omega (arith, o, l, b))

pub secret_example : SecretExample
unfolding kind_of read_authenticate reading_of fields_at check_ends check_begins check_names check_shared check_fields mic_present read_head signature_holds field_at
secret_example =
    record {
      taken = tt;
      of_taken = (refl, other_byte p1 96 0xFF (omega arith) (nt_byte p1 96 refl refl refl (omega arith) (omega arith)), λ e. two (ap (λ (l : List ℕ). get_or l 96 0) e));
      refused = (refl, refl, refl);
      in_name = (
        record { first = omega arith; last = omega arith; counts = λ e. absurd (omega arith); some = omega arith },
        (omega arith, omega arith),
      );
      of_refused = (
        refl,
        other_byte (user_offset 112) 112 0xFF (omega arith) (nt_byte (user_offset 112) 112 refl refl refl (omega arith) (omega arith)),
        λ e. two (ap (λ (l : List ℕ). get_or l 112 0) e),
      );
    }
  where
    two : ◌≡◌ {A = ℕ} 0xAA 0xFF → ⊥
    two e = omega arith
