-- What is known of the refusal of a reading: where it has a field, the message has its fixed part; where it is of a pair, the pair's
-- head stands in the message.
use Rattle.wire.specs.Check.{on_ok}
use Rattle.std.specs.Prelude.{Result, Ok, Err, ⊤}
use Prim.Native.Nat.{ℕ, ◌+◌, ◌^◌, ◌≤◌, ◌<◌}
use mathlib.Core.Path.{◌≡◌, refl, sym, ◌∙◌}
use mathlib.Core.Bool.{Bool, true, false, ◌&&◌, not}
use mathlib.Core.List.{List}
use native.Mathlib.Omega.{arith}
use lib.Dec.{leb, eqb}
use lib.ListN.{length}
use borrow.Author.Tests.{leb-true}
use Rattle.wire.specs.declared.check.Checked.{Checked}
use Rattle.wire.specs.declared.refusal.Refusal.{Refusal}
use Rattle.wire.specs.declared.refusal.Refusal.TheVariants.{PastEnd, InFixedPart, OddName, NameOverSecret}
use Rattle.wire.specs.Check.{over_all, on_clear}
use Rattle.wire.specs.Refusal.{number_of, field_of, place_of, moved_by}
use Rattle.wire.proofs.Bools.{and_left}
use Rattle.wire.proofs.Places.{Refuses, of_group, of_all}
use Rattle.field.specs.Field.{ends_inside, begins_after, even_name}
use Rattle.negotiate_flags.specs.declared.NegotiateFlags.{NegotiateFlags}
use Rattle.negotiate_flags.specs.Flags.{unicode}
use Rattle.head.specs.declared.Kind.{Kind}
use Rattle.head.specs.declared.Kind.TheVariants.{Negotiate, Challenge, Authenticate}
use Rattle.head.specs.declared.Layout.{Layout}
use Rattle.head.specs.Head.{read_head}
use Rattle.head.proofs.Heads.{of_reading}
use Rattle.read_negotiate.specs.declared.Fields.{Fields as NegoFields}
use Rattle.read_negotiate.specs.declared.Negotiate.{Negotiate as NegoMessage}
use Rattle.read_negotiate.specs.Negotiate as N
use Rattle.read_negotiate.specs.Negotiate.{read_negotiate}
use Rattle.read_authenticate.specs.declared.Authenticate.{Authenticate as AuthMessage}
use Rattle.read_authenticate.specs.declared.Fields.{Fields as AuthFields}
use Rattle.read_authenticate.specs.Authenticate as A
use Rattle.read_authenticate.specs.Authenticate.{read_authenticate}
use Rattle.read_challenge.specs.declared.Challenge.{Challenge as ChalMessage}
use Rattle.read_challenge.specs.declared.Fields.{Fields as ChalFields}
use Rattle.read_challenge.specs.Challenge as C
use Rattle.read_challenge.specs.Challenge.{read_challenge, check_info, info_of, in_message}
use Rattle.read_challenge.proofs.Laws.{fields_short}
use Rattle.av_pairs.specs.AvPairs.{check_pairs}
use Rattle.verdict.specs.Verdict.{nego_verdict, chal_verdict, auth_verdict, read_as, refused_place, fixed_of, fails_at_pair, FixedPart, Placed}
use Rattle.verdict.proofs.Faults.{Fault, past_end, missing, end_pair, pair_size, fault_of, list_inside}

-- ---- refusals without a pair

no_pair : (number : ℕ) → number < 10 → fails_at_pair number ≡ true → ⊥
no_pair number h p = omega (arith, leb-true 10 number (and_left (leb 10 number) (leb number 13) (and_left (leb 10 number && leb number 13) (not (eqb number 11)) p)))

-- what is known of a refusal: where it gives a field the fixed part is there, and its place is one of the message, with its pair there
record Known (fixed n : ℕ) (e : Refusal) : Type 0 where
  fixed_part : FixedPart fixed (field_of e) n
  near : place_of e ≤ 65535
  placed : Placed e n

plain : (fixed n : ℕ) (e : Refusal) → number_of e < 10 → place_of e ≡ 0 → FixedPart fixed (field_of e) n → Known fixed n e
plain fixed n e h p f = record { fixed_part = f; near = omega arith; placed = record { short = omega arith; there = λ t. absurd (no_pair (number_of e) h t) } }

-- of the head: no field
of_head : (fixed n : ℕ) (e : Refusal) → number_of e < 10 → field_of e ≡ 0 → place_of e ≡ 0 → Known fixed n e
of_head fixed n e h f p = plain fixed n e h p (record { there = λ t. absurd (t f) })

-- of a field: the fixed part is there
of_field : (fixed n : ℕ) (e : Refusal) → fixed ≤ n → number_of e < 10 → place_of e ≡ 0 → Known fixed n e
of_field fixed n e l h p = plain fixed n e h p (record { there = λ t. l })

abbrev KnownV : ℕ → ℕ → Result ⊤ Refusal → Type 0
KnownV fixed n = Refuses (Known fixed n)

-- a group of checks, whose refusal is handed on, and what follows it
group : (fixed n : ℕ) (v x : Result ⊤ Refusal) → KnownV fixed n v → KnownV fixed n x → KnownV fixed n (on_clear Err v x)
group fixed n v x h = of_group (Known fixed n) (KnownV fixed n) Err v x h (λ e k. k)

-- one check over all fields
all : {A : Type 0} (fixed n : ℕ) (ok : A → Checked) (refusal : ℕ → Refusal) (fs : List (ℕ × A)) → fixed ≤ n →
    ((i : ℕ) → (number_of (refusal i) < 10) × (place_of (refusal i) ≡ 0)) → KnownV fixed n (over_all ok refusal fs)
all fixed n ok refusal fs l h = of_all (Known fixed n) ok refusal fs (λ i. of_field fixed n (refusal i) l (h i).0 (h i).1)

-- a reading: its head, the checks of its fields where the fixed part is there, and what is taken
reading : {A : Type 0} (P : A → Type 0) (f : Refusal → A) (l : Layout) (s : List ℕ) (v : NegotiateFlags → Result ⊤ Refusal) (x : NegotiateFlags → A) →
    ((e : Refusal) → Known l.fixed (length s) e → P (f e)) →
    ((w : NegotiateFlags) → l.fixed ≤ length s → KnownV l.fixed (length s) (v w) × P (x w)) →
    P (on_ok f (read_head l s) (λ w. on_clear f (v w) (x w)))
reading P f l s v x p q =
    of_reading (Known l.fixed (length s)) (of_head _ _ _ (omega arith) refl refl) (of_head _ _ _ (omega arith) refl refl) (of_head _ _ _ (omega arith) refl refl)
    (of_head _ _ _ (omega arith) refl refl) (of_head _ _ _ (omega arith) refl refl) l s P f _ p
    (λ w k. of_group (Known l.fixed (length s)) P f (v w) (x w) (q w k).0 p (q w k).1)

-- ---- NEGOTIATE

nego_fields : (n : ℕ) (f : NegoFields) → 32 ≤ n → KnownV 32 n (N.check_fields n f)
unfolding N.check_fields N.check_ends N.check_begins
nego_fields n f l =
    group 32 n (N.check_ends n f) _ (all 32 n (ends_inside n) PastEnd (N.all_fields f) l (λ i. (omega arith, refl)))
    (all 32 n (begins_after 32) InFixedPart (N.all_fields f) l (λ i. (omega arith, refl)))

negotiate_known : (s : List ℕ) → KnownV 32 (length s) (nego_verdict (read_negotiate s))
unfolding read_negotiate
negotiate_known s =
    reading (λ (r : Result NegoMessage Refusal). KnownV 32 (length s) (nego_verdict r)) Err N.layout s (λ w. N.check_fields (length s) (N.fields_at s w)) (λ w. Ok (record { flags = w; fields = N.fields_at s w })) (λ e h. h)
    (λ w l. (nego_fields (length s) (N.fields_at s w) l, tt))

-- ---- AUTHENTICATE

auth_fields : (n : ℕ) (u : Bool) (f : AuthFields) → 64 ≤ n → KnownV 64 n (A.check_fields n u f)
unfolding A.check_fields A.check_ends A.check_begins A.check_names A.check_shared
auth_fields n u f l =
    group 64 n (A.check_ends n f) _ (all 64 n (ends_inside n) PastEnd (A.all_fields f) l (λ i. (omega arith, refl))) (
    group 64 n (A.check_begins f) _ (all 64 n (begins_after 64) InFixedPart (A.all_fields f) l (λ i. (omega arith, refl))) (
    group 64 n (A.check_names u f) _ (all 64 n (even_name u) OddName (A.names f) l (λ i. (omega arith, refl)))
    (all 64 n (A.apart f) NameOverSecret (A.names f) l (λ i. (omega arith, refl)))))

authenticate_known : (s : List ℕ) → KnownV 64 (length s) (auth_verdict (read_authenticate s).reading)
unfolding read_authenticate A.reading_of
authenticate_known s =
    reading (λ (r : Result AuthMessage Refusal). KnownV 64 (length s) (auth_verdict r)) Err A.layout s (λ w. A.check_fields (length s) (unicode w) (A.fields_at s w))
    (λ w. Ok (record { flags = w; fields = A.fields_at s w; mic_present = A.mic_present (length s) (A.fields_at s w) })) (λ e h. h)
    (λ w l. (auth_fields (length s) (unicode w) (A.fields_at s w) l, tt))

-- ---- CHALLENGE

abbrev KnownC : ℕ → Result ChalMessage Refusal → Type 0
KnownC n (Ok c) = 48 ≤ n
KnownC n (Err e) = Known 48 n e

chal_fields : (n : ℕ) (u : Bool) (f : ChalFields) → 48 ≤ n → KnownV 48 n (C.check_fields n u f)
unfolding C.check_fields C.check_ends C.check_begins C.check_names
chal_fields n u f l =
    group 48 n (C.check_ends n f) _ (all 48 n (ends_inside n) PastEnd (C.all_fields f) l (λ i. (omega arith, refl))) (
    group 48 n (C.check_begins f) _ (all 48 n (begins_after 48) InFixedPart (C.all_fields f) l (λ i. (omega arith, refl)))
    (all 48 n (even_name u) OddName (C.names f) l (λ i. (omega arith, refl))))

fields_known : (s : List ℕ) → KnownC (length s) (C.fields_of s)
unfolding C.fields_of
fields_known s =
    reading (KnownC (length s)) Err C.layout s (λ w. C.check_fields (length s) (unicode w) (C.fields_at s w))
    (λ w. Ok (record { flags = w; fields = C.fields_at s w })) (λ e h. h) (λ w l. (chal_fields (length s) (unicode w) (C.fields_at s w) l, l))

-- a fault of the list, moved into the message
not-true : false ≡ true → ⊥
not-true h = let z : ◌≡◌ {A = ℕ} 0 1 = cc in omega arith

moved : (m n off : ℕ) (e : Refusal) → Fault m e → off + m ≤ n → n ≤ 65535 → (place_of (moved_by off e) ≤ 65535) × Placed (moved_by off e) n
moved m n off e (past_end at p h) i b = rw p (omega arith, record { short = omega arith; there = λ t. omega arith })
moved m n off e (missing at p h) i b = rw p (omega arith, record { short = omega arith; there = λ t. absurd (not-true t) })
moved m n off e (end_pair at p h) i b = rw p (omega arith, record { short = omega arith; there = λ t. omega arith })
moved m n off e (pair_size at p h) i b = rw p (omega arith, record { short = omega arith; there = λ t. omega arith })

info_known : (s : List ℕ) (c : ChalMessage) → C.fields_of s ≡ Ok c → 48 ≤ length s → KnownV 48 (length s) (check_info s c)
unfolding check_info
info_known s c h l = go (check_pairs (info_of s c)) refl where
  go : (v : Result ⊤ Refusal) → check_pairs (info_of s c) ≡ v → KnownV 48 (length s) (in_message c.fields.target_info v)
  go (Ok tt) e = tt
  go (Err e) i =
      let m =
      moved (length (info_of s c)) (length s) c.fields.target_info.offset e (fault_of (info_of s c) e i) (list_inside s c.fields.target_info e i) (fields_short s c h) in
      record { fixed_part = record { there = λ t. l }; near = m.0; placed = m.1 }

challenge_known : (s : List ℕ) → KnownC (length s) (read_challenge s).reading
unfolding read_challenge C.reading_of
challenge_known s = go (C.fields_of s) refl (fields_known s) where
  go : (r : Result ChalMessage Refusal) → C.fields_of s ≡ r → KnownC (length s) r → KnownC (length s) (on_ok Err r (λ c. on_clear Err (check_info s c) (Ok c)))
  go (Ok c) i l = of_group (Known 48 (length s)) (KnownC (length s)) Err (check_info s c) _ (info_known s c i l) (λ e h. h) l
  go (Err e) i h = h

-- ---- the verdict

chal_v : (n : ℕ) (r : Result ChalMessage Refusal) → KnownC n r → KnownV 48 n (chal_verdict r)
chal_v n (Ok m) h = tt
chal_v n (Err e) h = h

verdict_known : (k : Kind) (s : List ℕ) → KnownV (fixed_of k) (length s) (read_as k s)
verdict_known Negotiate s = negotiate_known s
verdict_known Challenge s = chal_v (length s) (read_challenge s).reading (challenge_known s)
verdict_known Authenticate s = authenticate_known s

pub read_near : (k : Kind) (s : List ℕ) → refused_place (read_as k s) ≤ 65535
read_near k s = go (read_as k s) (verdict_known k s) where
  go : (v : Result ⊤ Refusal) → KnownV (fixed_of k) (length s) v → refused_place v ≤ 65535
  go (Ok tt) h = omega arith
  go (Err e) h = h.near

pub read_short : (k : Kind) (s : List ℕ) → refused_place (read_as k s) < 2 ^ 32
read_short k s = omega (arith, read_near k s)

module _ (k : Kind) (s : List ℕ) (v : Result ⊤ Refusal) (e : Refusal) (p : v ≡ read_as k s) (h : v ≡ Err e) where
  known : Known (fixed_of k) (length s) e
  known = rw (sym p ∙ h) at (verdict_known k s)

  pub fixed_there : (i : ℕ) → i ≡ field_of e → FixedPart (fixed_of k) i (length s)
  fixed_there i q = rw q known.fixed_part

  pub placed_there : Placed e (length s)
  placed_there = known.placed
