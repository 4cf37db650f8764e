-- Secrets, MaxLen and ignored bytes change nothing in the print.
use Rattle.read_authenticate.specs.declared.Authenticate.{Authenticate as AuthenticateMessage}
use Rattle.read_challenge.specs.declared.Challenge.{Challenge as ChallengeMessage}
use Rattle.read_negotiate.specs.declared.Negotiate.{Negotiate as NegotiateMessage}
use Rattle.std.specs.Prelude.{Result, Ok, Err, ⊤}
use Prim.Native.Nat.{ℕ, ◌+◌, ◌≤◌, ◌<◌}
use mathlib.Core.Path.{◌≡◌, refl, sym, ap, ◌∙◌}
use mathlib.Core.Logic.{inl, inr}
use mathlib.Core.Bool.{Bool, true, false, ◌&&◌, not, cond}
use mathlib.Core.List.{List, [], ◌∷◌, ◌++◌}
use native.Mathlib.Nat.{add-zero}
use native.Mathlib.Omega.{arith}
use lib.Dec.{leb, eqb}
use lib.ListN.{length, get_or, length-take}
use borrow.Author.Tests.{leb-true, eqb-true, eqb-false}
use Rattle.wire.specs.declared.refusal.Refusal.{Refusal}
use Rattle.wire.specs.Number.{u16_at}
use Rattle.wire.specs.Refusal.{number_of, field_of, place_of}
use Rattle.wire.proofs.Bools.{and_left, and_right}
use Rattle.field.specs.declared.Field.{Field}
use Rattle.negotiate_flags.specs.declared.NegotiateFlags.{NegotiateFlags}
use Rattle.head.specs.declared.Kind.{Kind}
use Rattle.head.specs.declared.Kind.TheVariants.{Negotiate, Challenge, Authenticate}
use Rattle.head.specs.Head.{flags_at, kind_of}
use Rattle.read_negotiate.specs.Negotiate.{read_negotiate}
use Rattle.read_negotiate.specs.Negotiate as N
use Rattle.read_challenge.specs.Challenge.{read_challenge}
use Rattle.read_challenge.specs.Challenge as C
use Rattle.read_authenticate.specs.declared.Fields.{Fields as AuthFields}
use Rattle.read_authenticate.specs.Authenticate.{read_authenticate}
use Rattle.read_authenticate.specs.Authenticate as A
use Rattle.line_checks.specs.declared.Figures.{Figures as Given}
use Rattle.line_checks.specs.Checks.{pair_figures, pair_words, message_words, figure_words, failed_words, words_of, check_line, lines_from, check_lines}
use Rattle.verdict.specs.Verdict.{nego_verdict, chal_verdict, auth_verdict, read_as, fails_at_pair}
use Rattle.explain.specs.Explain.{checks_of, fields_by_number, field_numbered, figures_of, figures_on, figures_as, explained_as, explanation}
use Rattle.demands.specs.MaxLen.{negotiate_without_max_len, challenge_without_max_len, authenticate_without_max_len}
use Rattle.demands.specs.Message.{negotiate, authenticate, challenge, len_of, offset_of, Nonempty, DifferInIgnored}
use Rattle.demands.specs.Secret.{DifferInSecrets}
use Rattle.demands.specs.Explained.{printed_checks, format_of, FailsAt, at_field, at_pair, Before, ExplainedIgnored, SecretExplained}
use Rattle.demands.proofs.MaxLen.{kept, kept_fields, kept_challenge_fields, kept_negotiate_fields, bare_only}
use Rattle.demands.proofs.Message.Unchanged.{looked, flags_same}
use Rattle.demands.proofs.TakenExactly.Negotiate.{negotiate_ignored, negotiate_seen, fields_same as nego_fields}
use Rattle.demands.proofs.Ignored.ChallengeIgnored.{challenge_ignored, seen as challenge_seen, fields_same as chal_fields}
use Rattle.demands.proofs.Ignored.{authenticate_ignored, seen as authenticate_seen, fields_same as auth_fields}
use Rattle.demands.proofs.Secret.{secret_read, fields_same as secret_fields, flags_same as secret_flags}
use Rattle.demands.proofs.Secret.SecretPrinted.{secret_printed}
use Rattle.demands.proofs.Ignored.LineIgnored.{kind_same}
use Rattle.demands.proofs.Explained.{OfPair, by_pair, pair_inside}
use Rattle.demands.proofs.Judged.{refused_as}
use Rattle.demands.proofs.Message.Chain.{up_to_9}
use Rattle.demands.proofs.Explained.Reasons.{Why, why, info_counts, not-negotiate, not-authenticate}

-- a print without the MaxLen of the head that it tells
abbrev figures_without_max_len : Given → Given
figures_without_max_len g =
    record { number = g.number; field = g.field; head = kept false g.head; message = g.message; at = g.at; id = g.id; size = g.size }

lines_bare : (reached : Bool) (g : Given) (checks : List ℕ) → lines_from reached g checks ≡ lines_from reached (figures_without_max_len g) checks
unfolding kept check_line words_of failed_words figure_words message_words pair_words pair_figures
lines_bare reached g [] = refl
lines_bare reached g (n ∷ ns) = ap (λ (l : List ℕ). check_line reached g n ++ l) (lines_bare (reached && not (eqb n g.number)) g ns)

-- heads by number, without MaxLen
abbrev heads_without_max_len : List (ℕ × Field) → List (ℕ × Field)
heads_without_max_len [] = []
heads_without_max_len (f ∷ fs) = (f.0, kept false f.1) ∷ heads_without_max_len fs

numbered_bare : (i : ℕ) (fs : List (ℕ × Field)) → kept false (field_numbered i fs) ≡ field_numbered i (heads_without_max_len fs)
unfolding kept
numbered_bare i [] = refl
numbered_bare i (f ∷ fs) = go (eqb i f.0) (numbered_bare i fs) where
  go : (b : Bool) → kept false (field_numbered i fs) ≡ field_numbered i (heads_without_max_len fs) →
      kept false (cond b f.1 (field_numbered i fs)) ≡ cond b (kept false f.1) (field_numbered i (heads_without_max_len fs))
  go true p = refl
  go false p = p

-- the figures of one refusal are the same where the heads are, MaxLen apart, and the numbers of its pair
figures_same : (s t : List ℕ) (fs gs : List (ℕ × Field)) (v : Result ⊤ Refusal) → length s ≡ length t → heads_without_max_len fs ≡ heads_without_max_len gs →
    ((e : Refusal) → v ≡ Err e → fails_at_pair (number_of e) ≡ true → (u16_at s (place_of e) ≡ u16_at t (place_of e)) × (u16_at s (place_of e + 2) ≡ u16_at t (place_of e + 2))) →
    figures_without_max_len (figures_on s fs v) ≡ figures_without_max_len (figures_on t gs v)
unfolding figures_of
figures_same s t fs gs (Ok tt) l f h = refl
figures_same s t fs gs (Err e) l f h = go (fails_at_pair (number_of e)) refl where
  head : kept false (field_numbered (field_of e) fs) ≡ kept false (field_numbered (field_of e) gs)
  head = numbered_bare (field_of e) fs ∙ ap (field_numbered (field_of e)) f ∙ sym (numbered_bare (field_of e) gs)

  go : (b : Bool) → fails_at_pair (number_of e) ≡ b →
      figures_without_max_len (figures_of s (field_numbered (field_of e) fs) e) ≡ figures_without_max_len (figures_of t (field_numbered (field_of e) gs) e)
  go true p = let x = h e refl p in simp (l, head, x.0, x.1)
  go false p = simp (l, head, p)

-- ---- the pair of a refusal

pair_number : (n : ℕ) → fails_at_pair n ≡ true → OfPair n
pair_number n h = go (eqb n 10) (eqb n 12) refl refl where
  within : leb 10 n && leb n 13 ≡ true
  within = and_left (leb 10 n && leb n 13) (not (eqb n 11)) h

  other : (t : Bool) → not t ≡ true → t ≡ false
  other true r = sym r
  other false r = refl

  go : (a b : Bool) → eqb n 10 ≡ a → eqb n 12 ≡ b → OfPair n
  go true b p q = inl (eqb-true n 10 p)
  go false true p q = inr (inl (eqb-true n 12 q))
  go false false p q =
      inr (inr (omega (arith, leb-true 10 n (and_left (leb 10 n) (leb n 13) within), leb-true n 13 (and_right (leb 10 n) (leb n 13) within), eqb-false n 10 p, eqb-false n 12 q, eqb-false n 11 (other (eqb n 11) (and_right (leb 10 n && leb n 13) (not (eqb n 11)) h)))))

-- only a challenge has one
no_pair : (k : Kind) (s : List ℕ) → (k ≡ Challenge → ⊥) → (e : Refusal) → read_as k s ≡ Err e → fails_at_pair (number_of e) ≡ true → ⊥
no_pair k s other e h p = go (why k s _ _ _ (refused_as (read_as k s) e h)).fails where
  go : FailsAt k s (number_of e) (field_of e) (place_of e) → ⊥
  go (at_field f z) = omega (arith, up_to_9 _ s (number_of e) (field_of e) f, by_pair (number_of e) (λ m. 10 ≤ m) (pair_number (number_of e) p) (omega arith) (omega arith) (omega arith))
  go (at_pair b q c i x l t f z) = other c

-- and its numbers are no ignored bytes
module _ (s t : List ℕ) (d : DifferInIgnored challenge s t) (e : Refusal) (h : read_as Challenge s ≡ Err e) (p : fails_at_pair (number_of e) ≡ true) where
  reason : Why Challenge s (number_of e) (field_of e) (place_of e)
  reason = why Challenge s _ _ _ (refused_as (read_as Challenge s) e h)

  of_pair_lem : OfPair (number_of e)
  of_pair_lem = pair_number (number_of e) p

  byte_same : (j : ℕ) → j < 4 → get_or s (place_of e + j) 0 ≡ get_or t (place_of e + j) 0
  byte_same j l = go reason.fails where
    go : FailsAt Challenge s (number_of e) (field_of e) (place_of e) → get_or s (place_of e + j) 0 ≡ get_or t (place_of e + j) 0
    go (at_field f z) = absurd (omega (arith, up_to_9 challenge s (number_of e) (field_of e) f, by_pair (number_of e) (λ m. 10 ≤ m) of_pair_lem (omega arith) (omega arith) (omega arith)))
    go (at_pair b q c i x m w f z) =
        let there : Nonempty challenge s 2 = info_counts s b x m in
        let inside : q + 4 ≤ length b = pair_inside Challenge s _ _ _ reason of_pair_lem b q x z in
        let short : length b ≤ len_of challenge s 2 = rw (x.there there) (simp length-take (omega arith)) in
        let begins : offset_of challenge s 2 < 48 → ⊥ =
        λ u. (reason.holds 7 (by_pair (number_of e) (λ m. Before (printed_checks Challenge) 7 m) of_pair_lem (omega arith) (omega arith) (omega arith))).fields 2 (there, u) in
        looked challenge s t (challenge_seen s) d (place_of e + j)
        ((challenge_seen s).at_field 2 (place_of e + j) there (omega (arith, begins, z)) (omega (arith, z), omega (arith, z, inside, short)))

  pair_same : (u16_at s (place_of e) ≡ u16_at t (place_of e)) × (u16_at s (place_of e + 2) ≡ u16_at t (place_of e + 2))
  pair_same =
      let b0 : get_or s (place_of e) 0 ≡ get_or t (place_of e) 0 = rw add-zero at (byte_same 0 (omega arith)) in
      let b3 : get_or s (place_of e + 2 + 1) 0 ≡ get_or t (place_of e + 2 + 1) 0 =
      let three : place_of e + 2 + 1 ≡ place_of e + 3 = omega arith in rw three (byte_same 3 (omega arith)) in
      (simp (b0, byte_same 1 (omega arith)), simp (byte_same 2 (omega arith), b3))

-- ---- the print

print_same : (k : Kind) (s t : List ℕ) → length s ≡ length t → read_as k s ≡ read_as k t → heads_without_max_len (fields_by_number k s) ≡ heads_without_max_len (fields_by_number k t) →
    ((e : Refusal) → read_as k s ≡ Err e → fails_at_pair (number_of e) ≡ true → (u16_at s (place_of e) ≡ u16_at t (place_of e)) × (u16_at s (place_of e + 2) ≡ u16_at t (place_of e + 2))) →
    explained_as k s ≡ explained_as k t
unfolding explained_as figures_as check_lines
print_same k s t l v f h =
    lines_bare true (figures_as k s) (checks_of k)
    ∙ ap (λ (g : Given). lines_from true g (checks_of k))
    (figures_same s t (fields_by_number k s) (fields_by_number k t) (read_as k s) l f h ∙ ap (λ (x : Result ⊤ Refusal). figures_without_max_len (figures_on t (fields_by_number k t) x)) v)
    ∙ sym (lines_bare true (figures_as k t) (checks_of k))

secret_print : (s t : List ℕ) → DifferInSecrets s t → explained_as Authenticate s ≡ explained_as Authenticate t
secret_print s t d =
    print_same Authenticate s t d.length_same (ap auth_verdict (secret_read s t d).reading)
    (ap (λ (f : AuthFields). heads_without_max_len (A.all_fields f)) (secret_fields s t d (flags_at s 60) ∙ ap (λ (w : NegotiateFlags). A.fields_at t w) (secret_flags s t d)))
    (λ e h p. absurd (no_pair Authenticate s not-authenticate e h p))

pub secret_explained : SecretExplained
unfolding explanation
secret_explained s t d e =
    let kind = (secret_printed s t d e).kind in
    let same : explanation s ≡ explanation t = rw (e, kind) (secret_print s t d) in
    record {
      kind = kind;
      print = same;
    }

-- a reading's verdict doesn't go by MaxLen
nego_verdict_lem : (r : Result NegotiateMessage Refusal) → nego_verdict r ≡ nego_verdict (negotiate_without_max_len r)
nego_verdict_lem (Ok m) = refl
nego_verdict_lem (Err e) = refl

auth_verdict_lem : (r : Result AuthenticateMessage Refusal) → auth_verdict r ≡ auth_verdict (authenticate_without_max_len r)
auth_verdict_lem (Ok a) = refl
auth_verdict_lem (Err e) = refl

chal_verdict_lem : (r : Result ChallengeMessage Refusal) → chal_verdict r ≡ chal_verdict (challenge_without_max_len r)
chal_verdict_lem (Ok c) = refl
chal_verdict_lem (Err e) = refl

pub ignored_read : (k : Kind) (s t : List ℕ) → DifferInIgnored (format_of k) s t → read_as k s ≡ read_as k t
ignored_read Negotiate s t d =
    nego_verdict_lem (read_negotiate s) ∙ ap nego_verdict (negotiate_ignored s t d).reading ∙ sym (nego_verdict_lem (read_negotiate t))
ignored_read Challenge s t d =
    chal_verdict_lem (read_challenge s).reading ∙ ap chal_verdict (challenge_ignored s t d).reading ∙ sym (chal_verdict_lem (read_challenge t).reading)
ignored_read Authenticate s t d =
    auth_verdict_lem (read_authenticate s).reading ∙ ap auth_verdict (authenticate_ignored s t d).reading
    ∙ sym (auth_verdict_lem (read_authenticate t).reading)

negotiate_print : (s t : List ℕ) → DifferInIgnored negotiate s t → explained_as Negotiate s ≡ explained_as Negotiate t
negotiate_print s t d =
    print_same Negotiate s t d.length_same (ignored_read Negotiate s t d)
    (ap N.all_fields (nego_fields s t d false bare_only ∙ ap (λ (w : NegotiateFlags). kept_negotiate_fields false (N.fields_at t w)) (flags_same negotiate s t (negotiate_seen s) d)))
    (λ e h p. absurd (no_pair Negotiate s not-negotiate e h p))

authenticate_print : (s t : List ℕ) → DifferInIgnored authenticate s t → explained_as Authenticate s ≡ explained_as Authenticate t
authenticate_print s t d =
    print_same Authenticate s t d.length_same (ignored_read Authenticate s t d)
    (ap A.all_fields (auth_fields s t d false bare_only ∙ ap (λ (w : NegotiateFlags). kept_fields false (A.fields_at t w)) (flags_same authenticate s t (authenticate_seen s) d)))
    (λ e h p. absurd (no_pair Authenticate s not-authenticate e h p))

challenge_print : (s t : List ℕ) → DifferInIgnored challenge s t → explained_as Challenge s ≡ explained_as Challenge t
challenge_print s t d =
    print_same Challenge s t d.length_same (ignored_read Challenge s t d)
    (ap C.all_fields (chal_fields s t d false bare_only ∙ ap (λ (w : NegotiateFlags). kept_challenge_fields false (C.fields_at t w)) (flags_same challenge s t (challenge_seen s) d)))
    (pair_same s t d)

pub explained_ignored : ExplainedIgnored
unfolding explanation
explained_ignored s t d = go (kind_of s) refl where
  go : (k : Kind) → kind_of s ≡ k → explained_as (kind_of s) s ≡ explained_as (kind_of t) t
  go Negotiate e =
      rw (← (kind_same negotiate s t (negotiate_seen s) (d.as_negotiate e)), e) (negotiate_print s t (d.as_negotiate e))
  go Challenge e =
      rw (← (kind_same challenge s t (challenge_seen s) (d.as_challenge e)), e) (challenge_print s t (d.as_challenge e))
  go Authenticate e =
      rw (← (kind_same authenticate s t (authenticate_seen s) (d.as_authenticate e)), e) (authenticate_print s t (d.as_authenticate e))
