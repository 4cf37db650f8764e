-- MaxLen and ignored bytes of a CHALLENGE message change nothing but a record's MaxLen.
use Rattle.wire.specs.Check.{on_ok}
use Rattle.std.specs.Prelude.{Result, Ok, Err, ⊤}
use Rattle.read_challenge.specs.declared.Challenge.{Challenge}
use Prim.Native.Nat.{ℕ, ◌+◌, ◌-◌, ◌*◌, ◌≤◌, ◌<◌}
use mathlib.Core.Path.{◌≡◌, refl, sym, ap, ◌∙◌}
use mathlib.Core.Logic.{◌⊎◌, inl, inr, ⊎_elim}
use mathlib.Core.Bool.{Bool, true, false}
use mathlib.Core.List.{List}
use native.Mathlib.Omega.{arith}
use lib.Dec.{ltb, eqb}
use borrow.Author.Tests.{eqb-true, eqb-false, ltb-true, ltb-false}
use Rattle.negotiate_flags.specs.declared.NegotiateFlags.{NegotiateFlags}
use Rattle.wire.specs.declared.refusal.Refusal.{Refusal}
use Rattle.wire.specs.Check.{on_clear}
use Rattle.field.specs.Field.{field_bytes}
use Rattle.negotiate_flags.specs.Flags.{unicode, request_target, target_info}
use Rattle.head.specs.Head.{flags_at}
use Rattle.av_pairs.specs.AvPairs.{check_pairs}
use Rattle.read_challenge.specs.declared.Challenge.{Challenge as Message}
use Rattle.read_challenge.specs.declared.Fields.{Fields}
use Rattle.read_challenge.specs.Challenge.{fields_at, check_ends, check_begins, check_names, check_fields, fields_of, info_of, in_message, check_info, reading_of, server_challenge, read_challenge, timestamp_of, server_names_of}
use Rattle.target_info.specs.TargetInfo.{timestamp_in, server_names_in}
use Rattle.demands.specs.Message.{challenge, Fails, Ignored, DifferInIgnored, SameMaxLen}
use Rattle.demands.specs.Ignored.{SameBytes, ChallengeIgnored}
use Rattle.demands.proofs.Alike.{same_part}
use Rattle.demands.proofs.MaxLen.{bare_only, kept, kept_challenge_fields, kept_message, kept_challenge, challenge_as_it_is, challenge_bare_is}
use Rattle.demands.proofs.Message.Apart.{Apart, lies, seen as apart_seen}
use Rattle.demands.proofs.Message.Unchanged.{Seen}
use Rattle.demands.proofs.Message.Unchanged as same
use Rattle.demands.proofs.TakenExactly.Challenge.{two, JudgedF, fields_of_judged}
use Rattle.demands.proofs.OwnBytes.ChallengeOwn.{taken_as}

apart : Apart challenge
apart =
    record {
      flags = (omega arith, omega arith);
      heads = λ i a b. (omega arith, omega arith);
      from_flags = λ i a b. by_flags i (eqb i 1) refl a b;
      from_heads = λ i j a b c d. by i j (ltb i j) (ltb j i) refl refl a c;
      unused = λ p u. (omega (arith, u.0), omega (arith, u.1), inr (omega (arith, u.0)), λ i a b. by_unused p u i (eqb i 1) refl a b);
    }
  where
    by_flags : (i : ℕ) (x : Bool) → eqb i 1 ≡ x → 1 ≤ i → i ≤ 2 → (24 ≤ 28 * i - 16) ⊎ (28 * i - 16 + 8 ≤ 20)
    by_flags i true p a b = inr (omega (arith, eqb-true i 1 p))
    by_flags i false p a b = inl (omega (arith, eqb-false i 1 p))

    by : (i j : ℕ) (x y : Bool) → ltb i j ≡ x → ltb j i ≡ y → 1 ≤ i → 1 ≤ j →
        (i ≡ j) ⊎ ((28 * i - 16 + 8 ≤ 28 * j - 16) ⊎ (28 * j - 16 + 8 ≤ 28 * i - 16))
    by i j true y p q a c = inr (inl (omega (arith, ltb-true i j p)))
    by i j false true p q a c = inr (inr (omega (arith, ltb-true j i q)))
    by i j false false p q a c = inl (omega (arith, ltb-false i j p, ltb-false j i q))

    by_unused : (p : ℕ) → (32 ≤ p) × (p < 40) → (i : ℕ) (x : Bool) → eqb i 1 ≡ x → 1 ≤ i → i ≤ 2 → (p < 28 * i - 16) ⊎ (28 * i - 16 + 8 ≤ p)
    by_unused p u i true q a b = inr (omega (arith, eqb-true i 1 q, u.0))
    by_unused p u i false q a b = inl (omega (arith, eqb-false i 1 q, u.1))

pub seen : (s : List ℕ) → Seen challenge s
seen s = apart_seen challenge apart s

-- ServerChallenge is looked at too
at_server : (s : List ℕ) (p : ℕ) → 24 ≤ p → p < 32 → Ignored challenge s p → ⊥
at_server s p l r g =
    ⊎_elim (λ u. omega (arith, u.0))
    (⊎_elim (λ h. omega (arith, h.first, h.last, h.from, h.to)) (λ o. omega (arith, o.0)))
    (lies challenge s p g)

-- what follows the head's checks goes by the records without MaxLen
module _ (m : Bool) (w : NegotiateFlags) where
  abbrev rest : ℕ → Fields → Result Challenge Refusal
  rest n f = on_clear Err (check_fields n (unicode w) f) (Ok (record { flags = w; fields = f }))

  rest_kept : (n : ℕ) (f : Fields) → kept_challenge m (rest n f) ≡ rest n (kept_challenge_fields m f)
  unfolding check_fields check_ends check_begins check_names kept
  rest_kept n f = go (check_fields n (unicode w) f) where
    go : (v : Result ⊤ Refusal) →
        kept_challenge m (on_clear Err v (Ok (record { flags = w; fields = f })))
        ≡ on_clear Err v (Ok (record { flags = w; fields = kept_challenge_fields m f }))
    go (Ok tt) = refl
    go (Err e) = refl

-- and so do checks 10 to 13
module _ (m : Bool) (s : List ℕ) where
  abbrev listed : Message → Result Challenge Refusal
  listed c = on_clear Err (check_info s c) (Ok c)

  listed_kept : (r : Result Challenge Refusal) → kept_challenge m (on_ok Err r listed) ≡ on_ok Err (kept_challenge m r) (λ c. kept_challenge m (listed c))
  unfolding check_info kept field_bytes
  listed_kept (Ok c) = go (check_pairs (info_of s c)) where
    go : (v : Result ⊤ Refusal) →
        kept_challenge m (on_clear Err (in_message c.fields.target_info v) (Ok c))
        ≡ kept_challenge m (on_clear Err (in_message (kept m c.fields.target_info) v) (Ok (kept_message m c)))
    go (Ok tt) = by m where
      by : (n : Bool) → kept_challenge n (Ok c) ≡ kept_challenge n (Ok (kept_message n c))
      by true = refl
      by false = refl
    go (Err e) = refl
  listed_kept (Err e) = refl

module _ (a b : List ℕ) (d : DifferInIgnored challenge a b) where
  -- the fields' bytes of a message that passed checks 1 to 8
  bytes_same : ((n i : ℕ) → Fails challenge a n i → ⊥) → SameBytes a b (fields_at a (flags_at a 20)).target_name × SameBytes a b (fields_at a (flags_at a 20)).target_info
  bytes_same none =
      let y = two a (λ i f. (Fails challenge a 6 i → ⊥) → (Fails challenge a 7 i → ⊥) → SameBytes a b f) (same.bytes_same challenge a b (seen a) d) in
      (y.0 (none 6 1) (none 7 1), y.1 (none 6 2) (none 7 2))

  -- without MaxLen, and with it where it is the same
  module _ (m : Bool) (max : m ≡ true → SameMaxLen challenge a b) where
    pub fields_same : kept_challenge_fields m (fields_at a (flags_at a 20)) ≡ kept_challenge_fields m (fields_at b (flags_at a 20))
    unfolding fields_at
    fields_same = λ i.
        record {
          target_name = same.field_same challenge a b (seen a) d m max 1 (request_target (flags_at a 20)) (omega arith) (omega arith) (λ h. (λ e. eqb-true _ 1 h, λ e. absurd (omega arith))) i;
          target_info = same.field_same challenge a b (seen a) d m max 2 (target_info (flags_at a 20)) (omega arith) (omega arith) (λ h. (λ e. absurd (omega arith), λ e. eqb-true _ 1 h)) i;
        }

    -- checks 1 to 8
    head_same : kept_challenge m (fields_of a) ≡ kept_challenge m (fields_of b)
    unfolding fields_of
    head_same = same.read_same challenge a b (seen a) d Err (rest m) fields_at (kept_challenge_fields m) (kept_challenge m) (omega arith) (rest_kept m) fields_same

    pub reading_same : kept_challenge m (reading_of a) ≡ kept_challenge m (reading_of b)
    unfolding reading_of check_info
    reading_same =
        ap (kept_challenge m) (go (fields_of a) (fields_of_judged a))
        ∙ listed_kept m b (fields_of a)
        ∙ ap (λ (r : Result Challenge Refusal). on_ok Err r (λ c. kept_challenge m (listed m b c))) head_same
        ∙ sym (listed_kept m b (fields_of b))
      where
        go : (r : Result Challenge Refusal) → JudgedF a r → on_ok Err r (listed m a) ≡ on_ok Err r (listed m b)
        go (Ok c) j = rw j.1 (ap (λ (l : List ℕ). on_clear Err (in_message (fields_at a (flags_at a 20)).target_info (check_pairs l)) (Ok (record { flags = flags_at a 20; fields = fields_at a (flags_at a 20) }))) (bytes_same j.0).1)
        go (Err e) j = refl

  pub bare_same : kept_challenge false (reading_of a) ≡ kept_challenge false (reading_of b)
  bare_same = reading_same false bare_only

  -- what is made of a taken message and its TargetInfo, without a look at MaxLen
  pub made_same : {A : Type 0} (refuse : Refusal → A) (x : Message → List ℕ → A) → ((c : Message) (l : List ℕ) → x c l ≡ x (kept_message false c) l) →
      on_ok refuse (reading_of a) (λ c. x c (info_of a c)) ≡ on_ok refuse (reading_of b) (λ c. x c (info_of b c))
  unfolding read_challenge kept field_bytes
  made_same refuse x blind =
      go (reading_of a) refl ∙ by (reading_of a)
      ∙ ap (λ (r : Result Challenge Refusal). on_ok refuse r (λ c. x c (info_of b c))) bare_same
      ∙ sym (by (reading_of b))
    where
      go : (r : Result Challenge Refusal) → reading_of a ≡ r → on_ok refuse r (λ c. x c (info_of a c)) ≡ on_ok refuse r (λ c. x c (info_of b c))
      go (Ok c) e = let t = taken_as a c e in rw t.answer (ap (x (record { flags = flags_at a 20; fields = fields_at a (flags_at a 20) })) (bytes_same t.none).1)
      go (Err f) e = refl

      by : (r : Result Challenge Refusal) → on_ok refuse r (λ c. x c (info_of b c)) ≡ on_ok refuse (kept_challenge false r) (λ c. x c (info_of b c))
      by (Ok c) = blind c (info_of b c)
      by (Err f) = refl

  server_same : server_challenge (reading_of a) a ≡ server_challenge (reading_of b) b
  server_same =
      go (reading_of a) ∙ by (reading_of a)
      ∙ ap (λ (r : Result Challenge Refusal). server_challenge r b) bare_same ∙ sym (by (reading_of b))
    where
      go : (r : Result Challenge Refusal) → server_challenge r a ≡ server_challenge r b
      go (Ok c) = same_part a b d.length_same 24 8 (λ p l r. same.looked challenge a b (seen a) d p (at_server a p l r))
      go (Err e) = refl

      by : (r : Result Challenge Refusal) → server_challenge r b ≡ server_challenge (kept_challenge false r) b
      by (Ok c) = refl
      by (Err e) = refl

  whole_reading : SameMaxLen challenge a b → reading_of a ≡ reading_of b
  whole_reading x = sym (challenge_as_it_is (reading_of a)) ∙ reading_same true (λ e. x) ∙ challenge_as_it_is (reading_of b)

pub challenge_ignored : ChallengeIgnored
unfolding read_challenge timestamp_of server_names_of
challenge_ignored a b d =
    record {
      reading = challenge_bare_is (reading_of a) ∙ bare_same a b d ∙ sym (challenge_bare_is (reading_of b));
      server_challenge_is = server_same a b d;
      whole = λ x. λ i. record { reading = whole_reading a b d x i; server_challenge = server_same a b d i };
      timestamp = made_same a b d Err (λ c l. Ok (timestamp_in l)) (λ c l. refl);
      server_names = made_same a b d Err (λ c l. Ok (server_names_in l)) (λ c l. refl);
      target_name = λ c h. let t = taken_as a c h in rw t.answer (bytes_same a b d t.none).0;
      target_info_is = λ c h. let t = taken_as a c h in rw t.answer (bytes_same a b d t.none).1;
    }
