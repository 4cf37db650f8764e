-- A log line is one line, of one form, and shows all that it is about.
pub mod Words
pub mod Names
pub mod Lines
pub mod TakenShown
pub mod LabelsShown
pub mod NlShown
use Rattle.std.specs.Prelude.{Result, Ok, Err}
use Rattle.read_authenticate.specs.declared.Authenticate.{Authenticate}
use Rattle.read_negotiate.specs.declared.Negotiate.{Negotiate}
use Rattle.read_nl_auth.specs.declared.NlAuth.{NlAuth}
use Prim.Native.Nat.{ℕ, zero, suc}
use mathlib.Core.Path.{◌≡◌, refl, sym, ap, ◌∙◌, subst}
use mathlib.Core.Logic.{◌⊎◌, inl, inr, ⊎_elim}
use mathlib.Core.Bool.{Bool, true, false, ◌&&◌, cond}
use mathlib.Core.List.{List, [], ◌∷◌, ◌++◌}
use native.Mathlib.Omega.{arith}
use lib.Dec.{eqb, leb, ltb}
use lib.ListN.{length, get_or}
use borrow.Author.Tests.{ltb-true, leb-false}
use Rattle.wire.proofs.Bools.{and_left, and_right}
use Rattle.line_words.specs.Digits.{hex_digit, hex}
use Rattle.line_words.specs.Name.{escape, unit_text, text_of, name_text}
use Rattle.line_dns_name.specs.DnsNameText.{byte_text, label_text, part_text, joined, dns_name_text as dns_text}
use Rattle.wire.specs.declared.refusal.Refusal.{Refusal}
use Rattle.wire.specs.declared.refusal.Refusal.TheVariants.{NoRoom}
use Rattle.wire.specs.Refusal.{number_of, field_of, place_of}
use Rattle.wire.specs.Check.{checked, after}
use Rattle.field.specs.Field.{field_at, field_bytes}
use Rattle.head.specs.declared.Kind.{Kind}
use Rattle.head.specs.declared.Kind.TheVariants.{Negotiate as AsNegotiate, Challenge as AsChallenge, Authenticate as AsAuthenticate}
use Rattle.head.specs.Head.{signature_holds, read_head, kind_of}
use Rattle.read_negotiate.specs.Negotiate.{fields_at, check_ends, check_begins, check_fields, read_negotiate}
use Rattle.read_authenticate.specs.Authenticate.{read_authenticate}
use Rattle.av_pairs.specs.AvPairs.{pairs_of}
use Rattle.read_challenge.specs.declared.Challenge.{Challenge}
use Rattle.read_challenge.specs.Challenge.{info_of, read_challenge}
use Rattle.target_info.specs.TargetInfo.{timestamp_in}
use Rattle.read_nl_auth.specs.NlAuth.{read_nl_auth}
use Rattle.line_refused.specs.Refused.{refused_line}
use Rattle.line_negotiate.specs.Nego.{nego_names, nego_text}
use Rattle.line_challenge.specs.Chal.{chal_text}
use Rattle.line.specs.Line.{nego_line, negotiate_line, chal_line, challenge_line, auth_line, authenticate_line, line_as, ntlm_line, nl_line, nl_auth_line, shown_line}
use Rattle.demands.specs.Examples.{negotiate_message}
use Rattle.demands.specs.HeaderLine.{Bytes}
use Rattle.demands.specs.PairList.{FirstFault}
use Rattle.demands.specs.TakenExactly.{ChallengeFails, in_fields, in_list}
use Rattle.demands.proofs.NlAuth.{nl_auth_judged}
use Rattle.demands.proofs.PairList.{first_number}
use Rattle.demands.proofs.TakenExactly.{authenticate_judged}
use Rattle.demands.proofs.TakenExactly.Challenge.{info_there, challenge_judged}
use Rattle.demands.proofs.TakenExactly.Negotiate.{negotiate_judged}
use Rattle.demands.specs.LineShows.{OneLine, EachOneLine, Form, nego, chal, auth, nl, refused, opening, Opens, OneForm, EachForm, RefusedBy, ReadFor, negotiates, challenges, authenticates, refuses, Alike, ReadAlike, LinesShow, NlReadFor, takes, refuses_nl, NlAlike, NlReadAlike, NlLinesShow, NoRoomFor, NtlmPrintShows, NlPrintShows, NamesEscaped, other_version, ShowsExample}
use Rattle.demands.proofs.LineShows.Words.{visible, spaced, IsLine, split, one_line}
use Rattle.demands.proofs.LineShows.Lines.{refused_line_lem, nego_line_lem, auth_line_lem, chal_line_lem}
use Rattle.demands.proofs.LineShows.TakenShown.{chal_words_lem, refused_line_shows, negotiate_line_shows, authenticate_line_shows, challenge_line_shows}
use Rattle.demands.proofs.LineShows.NlShown.{nl_line_lem, nl_auth_line_shows}

-- ---- one line

one_refused : (e : Refusal) → OneLine (refused_line e)
one_refused e = one_line _ _ _ (refused_line_lem e)

one_nego : (s : List ℕ) (r : Result Negotiate Refusal) → OneLine (nego_line s r)
one_nego s (Ok m) = one_line _ _ _ (nego_line_lem s m)
one_nego s (Err e) = one_refused e

one_chal : (s : List ℕ) (r : Result Challenge Refusal) → OneLine (chal_line s r)
unfolding chal_text
one_chal s (Ok c) = one_line _ _ _ (chal_line_lem s c (length (pairs_of (info_of s c))) (timestamp_in (info_of s c)))
one_chal s (Err e) = one_refused e

one_auth : (s : List ℕ) (r : Result Authenticate Refusal) → OneLine (auth_line s r)
one_auth s (Ok a) = one_line _ _ _ (auth_line_lem s a)
one_auth s (Err e) = one_refused e

one_nl : (s : List ℕ) (r : Result NlAuth Refusal) → OneLine (nl_line s r)
one_nl s (Ok m) = one_line _ _ _ (nl_line_lem s m)
one_nl s (Err e) = one_refused e

one_as : (k : Kind) (s : List ℕ) → OneLine (line_as k s)
unfolding negotiate_line challenge_line authenticate_line
one_as AsNegotiate s = one_nego s (read_negotiate s)
one_as AsChallenge s = one_chal s (read_challenge s).reading
one_as AsAuthenticate s = one_auth s (read_authenticate s).reading

pub each_one_line : EachOneLine
unfolding ntlm_line nl_auth_line shown_line
each_one_line =
    record {
      nego = λ s. one_as AsNegotiate s;
      chal = λ s. one_as AsChallenge s;
      auth = λ s. one_as AsAuthenticate s;
      ntlm = λ s. one_as (kind_of s) s;
      nl_auth = λ s. one_nl s (read_nl_auth s);
      printed = λ line out h. either (leb (length line) (length out)) line h;
    }
  where
    either : (b : Bool) (line : List ℕ) → OneLine line → OneLine (after (checked b) (refused_line NoRoom) line)
    either true line h = h
    either false line h = one_refused NoRoom

-- ---- one form

-- by the third byte of the word
form_of : List ℕ → Form
form_of word =
    cond (eqb (get_or word 2 0) 0x67) nego (
    cond (eqb (get_or word 2 0) 0x61) chal (
    cond (eqb (get_or word 2 0) 0x74) auth (
    cond (eqb (get_or word 2 0) 0x66) refused
    nl)))

form_of_lem : (f : Form) → form_of (opening f) ≡ f
unfolding form_of
form_of_lem nego = refl
form_of_lem chal = refl
form_of_lem auth = refl
form_of_lem nl = refl
form_of_lem refused = refl

opening_visible : (f : Form) → visible (opening f) ≡ true
opening_visible nego = refl
opening_visible chal = refl
opening_visible auth = refl
opening_visible nl = refl
opening_visible refused = refl

pub one_form : OneForm
one_form f g line a b =
    sym (form_of_lem f)
    ∙ ap form_of (split 0x21 (opening f) (opening g) 0x20 0x20 a.rest b.rest (opening_visible f) (opening_visible g) (omega arith) (omega arith) (sym a.line_is ∙ b.line_is)).0
    ∙ form_of_lem g

-- a line with a word past its first
opens : (f : Form) (line w : List ℕ) (ws : List (List ℕ)) → IsLine line (opening f) (w ∷ ws) → Opens f line
opens f line w ws h = record { rest = w ++ spaced ws; line_is = h.line_is }

opens_refused : (e : Refusal) → Opens refused (refused_line e)
opens_refused e = opens refused _ _ _ (refused_line_lem e)

opens_chal : (s : List ℕ) (c : Challenge) → Opens chal (chal_text s c)
opens_chal s c = rw (chal_words_lem s c) (opens chal _ _ _ (chal_line_lem s c (length (pairs_of (info_of s c))) (timestamp_in (info_of s c))))

pub each_form : EachForm
unfolding negotiate_line challenge_line authenticate_line nl_auth_line
each_form =
    record {
      as_nego = λ s m h. rw h (opens nego _ _ _ (nego_line_lem s m));
      as_chal = λ s c h. rw h (opens_chal s c);
      as_auth = λ s a h. rw h (opens auth _ _ _ (auth_line_lem s a));
      as_nl = λ s m h. rw h (opens nl _ _ _ (nl_line_lem s m));
      as_refused = opens_refused;
    }

-- ---- any two messages

pub line_refused : (k : Kind) (s : List ℕ) (e : Refusal) → RefusedBy k s e → line_as k s ≡ refused_line e
unfolding negotiate_line challenge_line authenticate_line
line_refused AsNegotiate s e h = simp h
line_refused AsChallenge s e h = simp h
line_refused AsAuthenticate s e h = simp h

-- how a message is read, and its line's form
Read : Kind → List ℕ → Type 0
Read k s = (f : Form) × Opens f (line_as k s) × ReadFor k s f

refused_read : (k : Kind) (s : List ℕ) (e : Refusal) → RefusedBy k s e → Read k s
unfolding Read
refused_read k s e h = (refused, subst (Opens refused) (sym (line_refused k s e h)) (opens_refused e), refuses e h)

reads : (k : Kind) (s : List ℕ) → Read k s
unfolding Read
reads AsNegotiate s = go (read_negotiate s) refl where
  go : (r : Result Negotiate Refusal) → read_negotiate s ≡ r → Read AsNegotiate s
  go (Ok m) h = (nego, each_form.as_nego s m h, negotiates m refl h)
  go (Err e) h = refused_read AsNegotiate s e h
reads AsChallenge s = go (read_challenge s).reading refl where
  go : (r : Result Challenge Refusal) → (read_challenge s).reading ≡ r → Read AsChallenge s
  go (Ok c) h = (chal, each_form.as_chal s c h, challenges c refl h)
  go (Err e) h = refused_read AsChallenge s e h
reads AsAuthenticate s = go (read_authenticate s).reading refl where
  go : (r : Result Authenticate Refusal) → (read_authenticate s).reading ≡ r → Read AsAuthenticate s
  go (Ok a) h = (auth, each_form.as_auth s a h, authenticates a refl h)
  go (Err e) h = refused_read AsAuthenticate s e h

-- a line that opens as that of a refusal is one's
pub opens_refusal : (k : Kind) (s : List ℕ) → Opens refused (line_as k s) → (e : Refusal) × RefusedBy k s e
unfolding Read
opens_refusal k s o = let x = reads k s in go (subst (ReadFor k s) (one_form x.0 refused (line_as k s) x.1 o) x.2) where
  go : ReadFor k s refused → (e : Refusal) × RefusedBy k s e
  go (refuses e p) = (e, p)

module _ (k l : Kind) (s t : List ℕ) (b : Bytes s) (d : Bytes t) (e : line_as k s ≡ line_as l t) where
  same_line : (m : Kind) → k ≡ m → l ≡ m → line_as m s ≡ line_as m t
  same_line m p q = sym (ap (λ (x : Kind). line_as x s) p) ∙ e ∙ ap (λ (x : Kind). line_as x t) q

  alike_of : (f : Form) (x : ReadFor k s f) (y : ReadFor l t f) → Alike k l s t f x y
  alike_of nego (negotiates m h p) (negotiates n j q) = (negotiate_line_shows s t m n b d p q).0 (same_line AsNegotiate h j)
  alike_of chal (challenges c h p) (challenges f j q) = (challenge_line_shows s t c f b d p q).0 (same_line AsChallenge h j)
  alike_of auth (authenticates a h p) (authenticates f j q) = (authenticate_line_shows s t a f b d p q).0 (same_line AsAuthenticate h j)
  alike_of refused (refuses x p) (refuses y q) = (refused_line_shows x y).0 (sym (line_refused k s x p) ∙ e ∙ line_refused l t y q)
  alike_of nl x y = elim x [ ]

read_alike : (k l : Kind) (s t : List ℕ) → Bytes s → Bytes t → line_as k s ≡ line_as l t → ReadAlike k l s t
unfolding Read
read_alike k l s t b d e =
    let x = reads k s in
    let y = reads l t in
    let f : x.0 ≡ y.0 = one_form x.0 y.0 (line_as l t) (subst (Opens x.0) e x.1) y.1 in
    let z = subst (ReadFor k s) f x.2 in
    record { form = y.0; first = z; second = y.2; alike = alike_of k l s t b d e y.0 z y.2 }

-- and back
module _ (k l : Kind) (s t : List ℕ) (b : Bytes s) (d : Bytes t) where
  as_one : (m : Kind) → k ≡ m → l ≡ m → line_as m s ≡ line_as m t → line_as k s ≡ line_as l t
  as_one m p q e = ap (λ (x : Kind). line_as x s) p ∙ e ∙ sym (ap (λ (x : Kind). line_as x t) q)

  line_of : (f : Form) (x : ReadFor k s f) (y : ReadFor l t f) → Alike k l s t f x y → line_as k s ≡ line_as l t
  line_of nego (negotiates m h p) (negotiates n j q) w = as_one AsNegotiate h j ((negotiate_line_shows s t m n b d p q).1 w)
  line_of chal (challenges c h p) (challenges f j q) w = as_one AsChallenge h j ((challenge_line_shows s t c f b d p q).1 w)
  line_of auth (authenticates a h p) (authenticates f j q) w = as_one AsAuthenticate h j ((authenticate_line_shows s t a f b d p q).1 w)
  line_of refused (refuses x p) (refuses y q) w = line_refused k s x p ∙ (refused_line_shows x y).1 w ∙ sym (line_refused l t y q)
  line_of nl x y w = elim x [ ]

pub lines_show : LinesShow
lines_show k l s t b d = (read_alike k l s t b d, λ w. line_of k l s t b d w.form w.first w.second w.alike)

-- ---- NL_AUTH

pub nl_refused : (s : List ℕ) (e : Refusal) → read_nl_auth s ≡ Err e → nl_auth_line s ≡ refused_line e
unfolding nl_auth_line
nl_refused s e h = simp h

NlRead : List ℕ → Type 0
NlRead s = (f : Form) × Opens f (nl_auth_line s) × NlReadFor s f

nl_reads : (s : List ℕ) → NlRead s
unfolding NlRead
nl_reads s = go (read_nl_auth s) refl where
  go : (r : Result NlAuth Refusal) → read_nl_auth s ≡ r → NlRead s
  go (Ok m) h = (nl, each_form.as_nl s m h, takes m h)
  go (Err e) h = (refused, subst (Opens refused) (sym (nl_refused s e h)) (opens_refused e), refuses_nl e h)

pub nl_opens_refusal : (s : List ℕ) → Opens refused (nl_auth_line s) → (e : Refusal) × (read_nl_auth s ≡ Err e)
unfolding NlRead
nl_opens_refusal s o = let x = nl_reads s in go (subst (NlReadFor s) (one_form x.0 refused (nl_auth_line s) x.1 o) x.2) where
  go : NlReadFor s refused → (e : Refusal) × (read_nl_auth s ≡ Err e)
  go (refuses_nl e p) = (e, p)

nl_alike_of : (s t : List ℕ) → Bytes s → Bytes t → nl_auth_line s ≡ nl_auth_line t → (f : Form) (x : NlReadFor s f) (y : NlReadFor t f) → NlAlike s t f x y
nl_alike_of s t b d e nl (takes m p) (takes n q) = (nl_auth_line_shows s t m n b d p q).0 e
nl_alike_of s t b d e refused (refuses_nl x p) (refuses_nl y q) = (refused_line_shows x y).0 (sym (nl_refused s x p) ∙ e ∙ nl_refused t y q)
nl_alike_of s t b d e nego x y = elim x [ ]
nl_alike_of s t b d e chal x y = elim x [ ]
nl_alike_of s t b d e auth x y = elim x [ ]

nl_read_alike : (s t : List ℕ) → Bytes s → Bytes t → nl_auth_line s ≡ nl_auth_line t → NlReadAlike s t
unfolding NlRead
nl_read_alike s t b d e =
    let x = nl_reads s in
    let y = nl_reads t in
    let f : x.0 ≡ y.0 = one_form x.0 y.0 (nl_auth_line t) (subst (Opens x.0) e x.1) y.1 in
    let z = subst (NlReadFor s) f x.2 in
    record { form = y.0; first = z; second = y.2; alike = nl_alike_of s t b d e y.0 z y.2 }

nl_line_of : (s t : List ℕ) → Bytes s → Bytes t → (f : Form) (x : NlReadFor s f) (y : NlReadFor t f) → NlAlike s t f x y → nl_auth_line s ≡ nl_auth_line t
nl_line_of s t b d nl (takes m p) (takes n q) w = (nl_auth_line_shows s t m n b d p q).1 w
nl_line_of s t b d refused (refuses_nl x p) (refuses_nl y q) w = nl_refused s x p ∙ (refused_line_shows x y).1 w ∙ sym (nl_refused t y q)
nl_line_of s t b d nego x y w = elim x [ ]
nl_line_of s t b d chal x y w = elim x [ ]
nl_line_of s t b d auth x y w = elim x [ ]

pub nl_lines_show : NlLinesShow
nl_lines_show s t b d = (nl_read_alike s t b d, λ w. nl_line_of s t b d w.form w.first w.second w.alike)

-- ---- what is printed

no_fault_33 : (b : List ℕ) (q : ℕ) → FirstFault b 33 q 0 → ⊥
no_fault_33 b q f = omega (arith, first_number b f)

-- nothing is refused by 33 in reading
never_33 : (k : Kind) (s : List ℕ) (e : Refusal) → RefusedBy k s e → number_of e ≡ 33 → ⊥
never_33 AsNegotiate s e p h = (((negotiate_judged s).refused 33 (field_of e) (place_of e)).0 (rw p (h, refl, refl))).0.fails
never_33 AsAuthenticate s e p h = (((authenticate_judged s).refused 33 (field_of e) (place_of e)).0 (rw p (h, refl, refl))).0.fails
never_33 AsChallenge s e p h = go (((challenge_judged s (info_there s).0 (info_there s).1).refused 33 (field_of e) (place_of e)).0 (rw p (h, refl, refl))) where
  go : ChallengeFails s (info_there s).0 33 (field_of e) (place_of e) → ⊥
  go (in_fields z f) = f.fails
  go (in_list {q = q} n f z) = no_fault_33 (info_there s).0 q f.2

never_33_nl : (s : List ℕ) (e : Refusal) → read_nl_auth s ≡ Err e → number_of e ≡ 33 → ⊥
never_33_nl s e p h = (((nl_auth_judged s).refused 33 (field_of e) (place_of e)).0 (rw p (h, refl, refl))).0.fails

-- so no line of a message is that of 33
no_33 : (k : Kind) (s : List ℕ) → line_as k s ≡ refused_line NoRoom → ⊥
no_33 k s h =
    let r = opens_refusal k s (subst (Opens refused) (sym h) (opens_refused NoRoom)) in
    never_33 k s r.0 r.1 ((refused_line_shows r.0 NoRoom).0 (sym (line_refused k s r.0 r.1) ∙ h)).number

no_33_ntlm : (s : List ℕ) → ntlm_line s ≡ refused_line NoRoom → ⊥
unfolding ntlm_line
no_33_ntlm s h = no_33 (kind_of s) s h

no_33_nl : (s : List ℕ) → nl_auth_line s ≡ refused_line NoRoom → ⊥
no_33_nl s h =
    let r = nl_opens_refusal s (subst (Opens refused) (sym h) (opens_refused NoRoom)) in
    never_33_nl s r.0 r.1 ((refused_line_shows r.0 NoRoom).0 (sym (nl_refused s r.0 r.1) ∙ h)).number

-- two lines that are not it
print_shows : (a b out : List ℕ) → (a ≡ refused_line NoRoom → ⊥) → (b ≡ refused_line NoRoom → ⊥) → shown_line a out ≡ shown_line b out → (a ≡ b) ⊎ NoRoomFor out a b
unfolding shown_line
print_shows a b out f g h = go (leb (length a) (length out)) (leb (length b) (length out)) refl refl h where
  go : (x y : Bool) → leb (length a) (length out) ≡ x → leb (length b) (length out) ≡ y →
      after (checked x) (refused_line NoRoom) a ≡ after (checked y) (refused_line NoRoom) b → (a ≡ b) ⊎ NoRoomFor out a b
  go true true p q e = inl e
  go true false p q e = absurd (f e)
  go false true p q e = absurd (g (sym e))
  go false false p q e = inr (leb-false (length a) (length out) p, leb-false (length b) (length out) q)

pub ntlm_print_shows : NtlmPrintShows
unfolding ntlm_line
ntlm_print_shows s t out b d h =
    ⊎_elim (λ e. inl ((lines_show (kind_of s) (kind_of t) s t b d).0 e)) (λ n. inr n) (print_shows (ntlm_line s) (ntlm_line t) out (no_33_ntlm s) (no_33_ntlm t) h)

pub nl_print_shows : NlPrintShows
nl_print_shows s t out b d h =
    ⊎_elim (λ e. inl ((nl_lines_show s t b d).0 e)) (λ n. inr n) (print_shows (nl_auth_line s) (nl_auth_line t) out (no_33_nl s) (no_33_nl t) h)

-- ---- examples

pub names_escaped : NamesEscaped
unfolding name_text text_of unit_text escape hex hex_digit dns_text joined part_text label_text byte_text
names_escaped = record { line_end = refl; word = refl; escape = refl; label = refl; labels = refl }

abbrev small : List ℕ → Bool
small [] = true
small (x ∷ s) = ltb x 256 && small s

of_bytes : (s : List ℕ) → small s ≡ true → Bytes s
of_bytes [] h i = omega arith
of_bytes (x ∷ s) h zero = ltb-true x 256 (and_left (ltb x 256) (small s) h)
of_bytes (x ∷ s) h (suc i) = of_bytes s (and_right (ltb x 256) (small s) h) i

pub shows_example : ShowsExample
unfolding read_negotiate fields_at check_ends check_begins check_fields read_head signature_holds field_at field_bytes nego_names nego_text negotiate_line kind_of ntlm_line
shows_example = (
  of_bytes negotiate_message refl,
  of_bytes other_version refl,
  λ e. two (ap (λ (l : List ℕ). get_or l 32 0) e),
  same,
  (lines_show AsNegotiate AsNegotiate negotiate_message other_version (of_bytes negotiate_message refl) (of_bytes other_version refl)).0 same,
)
  where
    two : ◌≡◌ {A = ℕ} 0x00 0x06 → ⊥
    two z = omega arith

    same : ntlm_line negotiate_message ≡ ntlm_line other_version
    same = refl
