-- The examples of a night's messages.
use Prim.Native.Nat.{ℕ, ◌≤◌, ◌<◌}
use mathlib.Core.Path.{◌≡◌, refl, sym, ap, subst, ◌∙◌}
use mathlib.Core.Logic.{◌⊎◌, inl, inr}
use mathlib.Core.Bool.{Bool, true, false}
use mathlib.Core.List.{List}
use native.Mathlib.Omega.{arith}
use lib.Dec.{eqb}
use lib.ListN.{get_or}
use lib.Seq.{get_or-set_other}
use borrow.Author.Tests.{eqb-true, eqb-false}
use Rattle.field.specs.Field.{field_at, field_bytes}
use Rattle.head.specs.declared.Kind.{Kind}
use Rattle.head.specs.declared.Kind.TheVariants.{Negotiate, Challenge, Authenticate}
use Rattle.head.specs.Head.{signature_holds, read_head}
use Rattle.av_pairs.specs.AvPairs.{check_pairs, step_at, pair_of, left}
use Rattle.read_challenge.specs.Challenge.{fields_at as challenge_fields_at, check_ends as challenge_ends, check_begins as challenge_begins, check_names as challenge_names, check_fields as challenge_checks, fields_of, check_info, reading_of as challenge_reading_of, read_challenge}
use Rattle.read_authenticate.specs.Authenticate.{fields_at, check_ends, check_begins, check_names, check_shared, check_fields, mic_present, reading_of, read_authenticate}
use Rattle.batch.specs.declared.Entry.{Entry}
use Rattle.batch.specs.Batch.{with_answer}
use Rattle.demands.specs.Bench.{p1}
use Rattle.demands.specs.Examples.{challenge_message}
use Rattle.demands.specs.Hypotheses.{other_challenge}
use Rattle.demands.specs.Explained.{format_of}
use Rattle.demands.specs.Message.{authenticate, Covers, DifferInIgnored}
use Rattle.demands.specs.Secret.{secret_field}
use Rattle.demands.proofs.Hypotheses.{hypotheses_met}
use Rattle.demands.specs.Batch.{mark_of, message, InMessage, NameOf, other_ignored_buffer, Open, in_name, in_first_64, in_challenge, Listed, ListedSecret, two_messages, two_entries, other_secret_buffer, BatchExample}

abbrev second : Entry
second = record { start = 100; length = 120; mark = 3; answer = record { number = 7; field = 8; place = 9 } }

-- byte 196 of the night is one of P1's NT response
nt_byte : ListedSecret two_entries two_messages 196
nt_byte =
    record {
      entry = second;
      listed = inr (inl refl);
      marked = refl;
      within = (omega arith, omega arith);
      secret = secret_field 2 (omega arith) (inr (inl refl))
          (record { first = omega arith; last = omega arith; counts = λ e. absurd (omega arith); some = omega arith })
          (omega arith, omega arith);
    }

-- and no other entry's name, among its first 64 bytes or in a challenge
not-open : (e : Entry) → Listed e two_entries → InMessage e 196 → Open two_messages e 196 → ⊥
not-open e (inl h) w o = let z : 196 < 100 = rw h at w.1 in omega (arith, z)
not-open e (inr (inl h)) w o = go (subst (λ (y : Entry). Open two_messages y 196) h o) where
  go : Open two_messages second 196 → ⊥
  go (in_first_64 l) = omega (arith, l)
  go (in_challenge m) = let z : ◌≡◌ {A = ℕ} 3 2 = m in omega (arith, z)
  go (in_name k i m n f ne c) = of k m n c where
    named : (j : ℕ) → i ≡ j → Covers authenticate p1 i 96 → Covers authenticate p1 j 96
    named j e = subst (λ (q : ℕ). Covers authenticate p1 q 96) e

    by_name : (a b : Bool) → eqb i 3 ≡ a → eqb i 4 ≡ b → (3 ≤ i) × (i ≤ 5) → Covers authenticate p1 i 96 → ⊥
    by_name true b p q l c = let z = named 3 (eqb-true i 3 p) c in omega (arith, z.0, z.1)
    by_name false true p q l c = let z = named 4 (eqb-true i 4 q) c in omega (arith, z.0, z.1)
    by_name false false p q l c =
        let z = named 5 (omega (arith, eqb-false i 3 p, eqb-false i 4 q, l.0, l.1)) c in omega (arith, z.0, z.1)

    of : (k : Kind) → ◌≡◌ {A = ℕ} 3 (mark_of k) → NameOf k i → Covers (format_of k) (message two_messages second) i 96 → ⊥
    of Negotiate m n c = omega (arith, m)
    of Challenge m n c = omega (arith, m)
    of Authenticate m n c = by_name (eqb i 3) (eqb i 4) refl refl n c
not-open e (inr (inr h)) w o = absurd h

-- its first message differs in MaxLen, and its second in nothing
in_ignored : (e : Entry) → Listed e two_entries → (k : Kind) → e.mark ≡ mark_of k →
    DifferInIgnored (format_of k) (message two_messages e) (message other_ignored_buffer e)
in_ignored e (inl h) k m = rw h (first k (sym (ap (λ (y : Entry). y.mark) h) ∙ m)) where
  first : (k : Kind) → ◌≡◌ {A = ℕ} 2 (mark_of k) → DifferInIgnored (format_of k) challenge_message other_challenge
  first Negotiate m = absurd (omega (arith, m))
  first Challenge m = hypotheses_met.challenge_ignored.0
  first Authenticate m = absurd (omega (arith, m))
in_ignored e (inr (inl h)) k m = rw h (record { length_same = refl; bytes_same = λ p. inl refl })
in_ignored e (inr (inr h)) k m = absurd h

pub batch_example : BatchExample
unfolding with_answer read_head signature_holds field_at field_bytes read_authenticate reading_of fields_at check_ends check_begins check_names check_shared check_fields mic_present read_challenge challenge_reading_of check_info fields_of challenge_fields_at challenge_ends challenge_begins challenge_names challenge_checks check_pairs step_at pair_of left
batch_example =
    record {
      differ = (
        record {
          length_same = refl;
          only_secrets = λ p. secret p (eqb p 196) refl;
          open_same = λ e l i p w o. opened p (eqb p 196) refl e l w o;
        },
        λ e. two (ap (λ (l : List ℕ). get_or l 196 0) e),
      );
      ignored = (record { length_same = refl; messages = λ e l i k m. in_ignored e l k m }, λ e. six (ap (λ (l : List ℕ). get_or l 14 0) e));
      answers = refl;
      in_message = refl;
    }
  where
    secret : (p : ℕ) (b : Bool) → eqb p 196 ≡ b → (get_or two_messages p 0 ≡ get_or other_secret_buffer p 0) ⊎ ListedSecret two_entries two_messages p
    secret p true e = inr (subst (λ (q : ℕ). ListedSecret two_entries two_messages q) (sym (eqb-true p 196 e)) nt_byte)
    secret p false e = inl (sym (get_or-set_other two_messages 196 p 0xBB 0 (eqb-false p 196 e)))

    opened : (p : ℕ) (b : Bool) → eqb p 196 ≡ b → (e : Entry) → Listed e two_entries → InMessage e p → Open two_messages e p →
        get_or two_messages p 0 ≡ get_or other_secret_buffer p 0
    opened p true h e l w o = let at = eqb-true p 196 h in absurd (not-open e l (subst (λ (q : ℕ). InMessage e q) at w) (subst (λ (q : ℕ). Open two_messages e q) at o))
    opened p false h e l w o = sym (get_or-set_other two_messages 196 p 0xBB 0 (eqb-false p 196 h))

    two : ◌≡◌ {A = ℕ} 0xAA 0xBB → ⊥
    two e = omega arith

    six : ◌≡◌ {A = ℕ} 8 0xFF → ⊥
    six e = omega arith
