-- The line of a refused message, and what is printed for it.
use Rattle.read_authenticate.specs.declared.Authenticate.{Authenticate as AuthenticateMessage}
use Rattle.read_challenge.specs.declared.Challenge.{Challenge as ChallengeMessage}
use Rattle.read_negotiate.specs.declared.Negotiate.{Negotiate as NegotiateMessage}
use Rattle.std.specs.Prelude.{Result, Ok, Err}
use Rattle.read_nl_auth.specs.declared.NlAuth.{NlAuth}
use Prim.Native.Nat.{ℕ, ◌≤◌}
use mathlib.Core.Path.{◌≡◌, refl, sym, ap, ◌∙◌, subst}
use mathlib.Core.Logic.{◌⊎◌, inl, inr, ◌↔◌}
use mathlib.Core.Bool.{Bool, true, false}
use mathlib.Core.List.{List, [], ◌∷◌, ◌++◌, append_assoc}
use native.Mathlib.Omega.{arith}
use lib.Dec.{leb}
use lib.ListN.{length, length-append}
use borrow.Author.Tests.{leb-true, leb-false}
use Rattle.wire.specs.Text.{ascii}
use Rattle.wire.specs.declared.refusal.Refusal.{Refusal}
use Rattle.av_pairs.specs.AvPairs.{check_pairs, step_at, pair_of, left}
use Rattle.field.specs.Field.{field_at, field_bytes}
use Rattle.line_words.specs.Digits.{hex_digit, decimal_size, decimal}
use Rattle.line_words.proofs.Numbers.{decimal_bound}
use Rattle.line_words.specs.Words.{number_word}
use Rattle.head.specs.declared.Kind.{Kind}
use Rattle.head.specs.declared.Kind.TheVariants.{Negotiate, Challenge, Authenticate}
use Rattle.head.specs.Head.{signature_holds, read_head, kind_of}
use Rattle.read_negotiate.specs.Negotiate.{read_negotiate}
use Rattle.read_challenge.specs.Challenge as C
use Rattle.read_challenge.specs.Challenge.{read_challenge}
use Rattle.read_authenticate.specs.Authenticate.{fields_at, check_ends, check_begins, check_names, check_shared, check_fields, mic_present, reading_of, read_authenticate}
use Rattle.read_nl_auth.specs.NlAuth.{read_nl_auth, read_request, string_under, string_at}
use Rattle.verdict.specs.Verdict.{nego_verdict, chal_verdict, auth_verdict, read_as}
use Rattle.line_refused.specs.Refused.{refused_end, refused_text, refused_line}
use Rattle.line.specs.Line.{challenge_line, authenticate_line, line_as, ntlm_line, nl_auth_line, shown_line}
use Rattle.demands.specs.Explained.{RefusedAs}
use Rattle.demands.specs.LineShows.{RefusedBy, refused, Opens}
use Rattle.demands.specs.TakenExactly.{RefusalIs, RefusedWith, nl_verdict}
use Rattle.demands.specs.RefusedLine.{refused_bytes, NlRefusedAs, RefusedLineExactly, IsNoRoom, RefusedPrintExactly, RefusedLineExample}
use Rattle.demands.proofs.Answers.SmallFields.{SmallC, negotiate_small, challenge_small, authenticate_small, nl_auth_small}
use Rattle.demands.proofs.Answers.Decoded.{Small, number_small}
use Rattle.demands.proofs.Judged.{fails_is, refused_not, refused_as}
use Rattle.demands.proofs.LineShows.{line_refused, opens_refusal, nl_refused, nl_opens_refusal}
use Rattle.demands.proofs.LineShows.Lines.{refused_words}
use Rattle.demands.proofs.LineShows.Names.{decimal_visible, decimal_shows}
use Rattle.demands.proofs.LineShows.TakenShown.{told}
use Rattle.demands.proofs.LineShows.Words.{IsLine, words_of}
use Rattle.demands.proofs.Printed.{printed_exactly}
use Rattle.demands.proofs.NlAuth.{nl_auth_judged}
use Rattle.demands.proofs.TakenExactly.{authenticate_judged}
use Rattle.demands.proofs.TakenExactly.Negotiate.{negotiate_judged}
use Rattle.demands.proofs.TakenExactly.Places.{place_in_message}

-- ---- the bytes

bytes_line : (n i p : ℕ) → IsLine (refused_bytes n i p) (ascii "refused") (refused_words n i p)
bytes_line n i p = record { line_is = simp append_assoc; first_visible = refl; words_visible = simp decimal_visible }

-- they tell the three numbers
told_by : (n i p m j q : ℕ) → refused_bytes n i p ≡ refused_bytes m j q → (n ≡ m) × (i ≡ j) × (p ≡ q)
told_by n i p m j q h =
    let w = (words_of _ _ _ _ (refused_words n i p) (refused_words m j q) (bytes_line n i p) (bytes_line m j q) h).1 in (
      decimal_shows n m (told 0 [] _ _ _ _ w refl refl),
      decimal_shows i j (told 1 (ascii "field=") _ _ _ _ w refl refl),
      decimal_shows p q (told 2 (ascii "at=") _ _ _ _ w refl refl),
    )

-- the line of a refusal
line_bytes : (e : Refusal) (n i p : ℕ) → RefusalIs e n i p → refused_line e ≡ refused_bytes n i p
unfolding refused_line refused_text refused_end number_word
line_bytes e n i p r = simp (r.0, r.1, r.2)

-- that of 33, by computation
no_room : (n i p : ℕ) → n ≡ 33 → i ≡ 0 → p ≡ 0 → ascii "refused 33 field=0 at=0" ++ (0x0A ∷ []) ≡ refused_bytes n i p
unfolding decimal decimal_size hex_digit
no_room n i p a b c = rw (a, b, c)

opens_bytes : (n i p : ℕ) → Opens refused (refused_bytes n i p)
opens_bytes n i p = record { rest = _; line_is = refl }

bytes_short : (n i p : ℕ) → n ≤ 58 → i ≤ 6 → p ≤ 65535 → length (refused_bytes n i p) ≤ 28
bytes_short n i p a b c = simp length-append (omega (arith, decimal_bound 1 n (omega arith), decimal_bound 0 i (omega arith), decimal_bound 4 p (omega arith)))

-- ---- the line of a refused message

-- the refusal that a reading returns
refused_by : (k : Kind) (s : List ℕ) (e : Refusal) → read_as k s ≡ Err e → RefusedBy k s e
refused_by Negotiate s e h = go (read_negotiate s) h where
  go : (r : Result NegotiateMessage Refusal) → nego_verdict r ≡ Err e → r ≡ Err e
  go (Ok m) q = cc
  go (Err d) q = cc
refused_by Challenge s e h = go (read_challenge s).reading h where
  go : (r : Result ChallengeMessage Refusal) → chal_verdict r ≡ Err e → r ≡ Err e
  go (Ok c) q = cc
  go (Err d) q = cc
refused_by Authenticate s e h = go (read_authenticate s).reading h where
  go : (r : Result AuthenticateMessage Refusal) → auth_verdict r ≡ Err e → r ≡ Err e
  go (Ok a) q = cc
  go (Err d) q = cc

by_verdict : (k : Kind) (s : List ℕ) (e : Refusal) → RefusedBy k s e → read_as k s ≡ Err e
by_verdict Negotiate s e h = ap nego_verdict h
by_verdict Challenge s e h = ap chal_verdict h
by_verdict Authenticate s e h = ap auth_verdict h

line_said : (k : Kind) (s : List ℕ) (n i p : ℕ) → RefusedAs k s n i p → line_as k s ≡ refused_bytes n i p
line_said k s n i p r =
    let x = refused_not (read_as k s) n i p r in
    line_refused k s x.0 (refused_by k s x.0 x.1) ∙ line_bytes x.0 n i p x.2

read_so : (k : Kind) (s : List ℕ) (n i p : ℕ) → line_as k s ≡ refused_bytes n i p → RefusedAs k s n i p
read_so k s n i p h =
    let x = opens_refusal k s (subst (Opens refused) (sym h) (opens_bytes n i p)) in
    let r = refused_as (read_as k s) x.0 (by_verdict k s x.0 x.1) in
    let w = told_by _ _ _ n i p (sym (line_said k s _ _ _ r) ∙ h) in
    fails_is (RefusedWith (read_as k s)) w r

said : (k : Kind) (s : List ℕ) (n i p : ℕ) → RefusedAs k s n i p ↔ (line_as k s ≡ refused_bytes n i p)
said k s n i p = (line_said k s n i p, read_so k s n i p)

-- ---- NL_AUTH

nl_refused_by : (s : List ℕ) (n i p : ℕ) → NlRefusedAs s n i p → (e : Refusal) × (read_nl_auth s ≡ Err e) × RefusalIs e n i p
nl_refused_by s n i p = go (read_nl_auth s) where
  go : (r : Result NlAuth Refusal) → RefusedWith (nl_verdict r) n i p → (e : Refusal) × (r ≡ Err e) × RefusalIs e n i p
  go (Ok m) t = absurd t
  go (Err e) t = (e, refl, t)

nl_line_said : (s : List ℕ) (n i p : ℕ) → NlRefusedAs s n i p → nl_auth_line s ≡ refused_bytes n i p
nl_line_said s n i p r =
    let x = nl_refused_by s n i p r in
    nl_refused s x.0 x.1 ∙ line_bytes x.0 n i p x.2

nl_read_so : (s : List ℕ) (n i p : ℕ) → nl_auth_line s ≡ refused_bytes n i p → NlRefusedAs s n i p
nl_read_so s n i p h =
    let x = nl_opens_refusal s (subst (Opens refused) (sym h) (opens_bytes n i p)) in
    let w = told_by _ _ _ n i p (sym (line_bytes x.0 _ _ _ (refl, refl, refl)) ∙ sym (nl_refused s x.0 x.1) ∙ h) in
    rw x.1 w

pub refused_line_exactly : RefusedLineExactly
unfolding ntlm_line
refused_line_exactly s n i p =
    record {
      as_kind = λ k. said k s n i p;
      nl_auth = (nl_line_said s n i p, nl_read_so s n i p);
    }

-- ---- what is printed

as_short : (k : Kind) (s : List ℕ) (n i p : ℕ) → RefusedAs k s n i p → length (refused_bytes n i p) ≤ 28
unfolding read_challenge
as_short k s n i p r = let x = refused_not (read_as k s) n i p r in go k r x.0 (refused_by k s x.0 x.1) x.2 where
  by : (e : Refusal) → RefusalIs e n i p → Small e → p ≤ 65535 → length (refused_bytes n i p) ≤ 28
  by e w small near = bytes_short n i p (omega (arith, number_small e, w.0)) (omega (arith, small, w.1)) near

  of_challenge : (r : Result ChallengeMessage Refusal) (e : Refusal) → r ≡ Err e → SmallC r → Small e
  of_challenge r e h w = rw h at w

  go : (k : Kind) → RefusedAs k s n i p → (e : Refusal) → RefusedBy k s e → RefusalIs e n i p → length (refused_bytes n i p) ≤ 28
  go Negotiate r e h w = by e w (negotiate_small s e h) (omega (arith, (((negotiate_judged s).refused n i p).0 r).1))
  go Challenge r e h w = by e w (of_challenge (read_challenge s).reading e h (challenge_small s)) (omega (arith, place_in_message s e h, w.2))
  go Authenticate r e h w = by e w (authenticate_small s e h) (omega (arith, (((authenticate_judged s).refused n i p).0 r).1))

nl_as_short : (s : List ℕ) (n i p : ℕ) → NlRefusedAs s n i p → length (refused_bytes n i p) ≤ 28
nl_as_short s n i p r =
    let x = nl_refused_by s n i p r in
    bytes_short n i p (omega (arith, number_small x.0, x.2.0)) (omega (arith, nl_auth_small s x.0 x.1, x.2.1)) (omega (arith, (((nl_auth_judged s).refused n i p).0 r).1))

-- of any line that is said so
module _ (Refuses : Type 0) (line out : List ℕ) (n i p : ℕ) (so : Refuses ↔ (line ≡ refused_bytes n i p)) (fits : Refuses → length (refused_bytes n i p) ≤ length out) where
  shown : Refuses ⊎ IsNoRoom line out n i p → shown_line line out ≡ refused_bytes n i p
  shown (inl r) = (printed_exactly line out).whole (subst (λ (l : List ℕ). length l ≤ length out) (sym (so.0 r)) (fits r)) ∙ so.0 r
  shown (inr x) = (printed_exactly line out).instead x.0 ∙ no_room n i p x.1 x.2 x.3

  shown_so : shown_line line out ≡ refused_bytes n i p → Refuses ⊎ IsNoRoom line out n i p
  shown_so h = go (leb (length line) (length out)) refl where
    go : (b : Bool) → leb (length line) (length out) ≡ b → Refuses ⊎ IsNoRoom line out n i p
    go true e = inl (so.1 (sym ((printed_exactly line out).whole (leb-true (length line) (length out) e)) ∙ h))
    go false e =
        let l = leb-false (length line) (length out) e in
        let w = told_by n i p 33 0 0 (sym h ∙ (printed_exactly line out).instead l ∙ no_room 33 0 0 refl refl refl) in
        inr (l, w.0, w.1, w.2)

pub refused_print_exactly : RefusedPrintExactly
unfolding ntlm_line
refused_print_exactly s out n i p room =
    let e = refused_line_exactly s n i p in
    let ntlm_fits : RefusedAs (kind_of s) s n i p → length (refused_bytes n i p) ≤ length out = λ r. omega (arith, room, as_short (kind_of s) s n i p r) in
    let nl_fits : NlRefusedAs s n i p → length (refused_bytes n i p) ≤ length out = λ r. omega (arith, room, nl_as_short s n i p r) in
    record {
      ntlm = (shown _ (ntlm_line s) out n i p (said (kind_of s) s n i p) ntlm_fits, shown_so _ (ntlm_line s) out n i p (said (kind_of s) s n i p) ntlm_fits);
      nl_auth = (shown _ (nl_auth_line s) out n i p e.nl_auth nl_fits, shown_so _ (nl_auth_line s) out n i p e.nl_auth nl_fits);
    }

-- ---- examples

pub refused_line_example : RefusedLineExample
unfolding ntlm_line challenge_line authenticate_line nl_auth_line refused_line refused_text refused_end number_word decimal decimal_size hex_digit kind_of read_head signature_holds field_at field_bytes read_authenticate reading_of fields_at check_ends check_begins check_names check_shared check_fields mic_present read_challenge C.reading_of C.check_info C.fields_of C.fields_at C.check_ends C.check_begins C.check_names C.check_fields check_pairs step_at pair_of left read_nl_auth read_request string_under string_at
refused_line_example = record { of_pair_lem = refl; of_field = refl; of_string = refl }
