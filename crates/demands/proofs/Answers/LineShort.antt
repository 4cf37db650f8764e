-- A line has under 2^20 bytes.
use Rattle.std.specs.Prelude.{Result, Ok, Err}
use Prim.Native.Nat.{ℕ, ◌+◌, ◌/◌, ◌%◌, ◌^◌, ◌≤◌, ◌<◌}
use mathlib.Core.Path.{◌≡◌, refl, ap}
use mathlib.Core.Logic.{⊎_elim}
use mathlib.Core.Bool.{Bool, true, false}
use mathlib.Core.List.{List}
use native.Mathlib.Omega.{arith}
use lib.Dec.{leb, eqb}
use lib.ListN.{length, length-append}
use borrow.Author.Tests.{leb-true, leb-false, eqb-true, eqb-false}
use Rattle.wire.specs.Text.{ascii}
use Rattle.wire.specs.declared.check.Checked.{Checked}
use Rattle.wire.specs.declared.check.Checked.TheVariants.{Held, Failed}
use Rattle.wire.specs.declared.refusal.Refusal.{Refusal}
use Rattle.wire.specs.declared.refusal.Refusal.TheVariants.{NoRoom}
use Rattle.wire.specs.Number.{u32_at}
use Rattle.wire.specs.Check.{after}
use Rattle.wire.specs.Refusal.{number_of, field_of, place_of}
use Rattle.place.specs.Written.{room_holds}
use Rattle.field.specs.declared.Field.{Field}
use Rattle.negotiate_flags.specs.Flags.{unicode}
use Rattle.read_authenticate.specs.declared.Authenticate.{Authenticate}
use Rattle.read_authenticate.specs.Authenticate.{read_authenticate}
use Rattle.av_pairs.specs.AvPairs.{pairs_of}
use Rattle.av_pairs.proofs.Walks.{few_pairs}
use Rattle.read_challenge.specs.declared.Challenge.{Challenge}
use Rattle.read_challenge.specs.Challenge.{info_of, read_challenge}
use Rattle.head.specs.declared.Kind.{Kind}
use Rattle.head.specs.declared.Kind.TheVariants.{Negotiate as AsNegotiate, Challenge as AsChallenge, Authenticate as AsAuthenticate}
use Rattle.head.specs.Head.{kind_of}
use Rattle.read_negotiate.specs.declared.Negotiate.{Negotiate}
use Rattle.read_negotiate.specs.Negotiate.{read_negotiate}
use Rattle.read_nl_auth.specs.declared.NlAuth.{NlAuth}
use Rattle.read_nl_auth.specs.declared.string.NlString.{NlString}
use Rattle.read_nl_auth.specs.NlAuth.{no_string, read_nl_auth}
use Rattle.line_words.specs.Words.{number_word}
use Rattle.line_words.proofs.Names.{field_small}
use Rattle.line_words.proofs.Labels.{number_word_bound}
use Rattle.line_authenticate.proofs.Laws.{lengths_bound, auth_bound}
use Rattle.line_negotiate.proofs.Laws.{nego_bound}
use Rattle.line_nl_auth.proofs.Bounds.{nl_bound}
use Rattle.line_refused.specs.Refused.{refused_end, refused_text, refused_line}
use Rattle.line.proofs.Places as place
use Rattle.line.specs.Line.{nego_line, negotiate_line, auth_line, authenticate_line, chal_line, challenge_line, nl_line, nl_auth_line, line_as, ntlm_line, shown_line}
use Rattle.target_info.specs.TargetInfo.{timestamp_in}
use Rattle.line_challenge.specs.Chal.{chal_words, chal_text}
use Rattle.demands.proofs.TakenExactly.Places.{place_in_message}
use Rattle.demands.specs.Answers.{negotiate_line_call, authenticate_line_call, challenge_line_call, nl_auth_line_call, ntlm_line_call, ntlm_program_line, nl_auth_program_line, LineShort}
use Rattle.demands.specs.Message.{Format, negotiate, authenticate, challenge}
use Rattle.demands.specs.NlAuth.{mask_of}
use Rattle.demands.specs.OwnBytes.{OwnField, OwnString}
use Rattle.demands.proofs.OwnBytes.ChallengeOwn.{taken_as, challenge_own}
use Rattle.demands.proofs.Answers.LineBounds.{chal_bound}
use Rattle.demands.proofs.TakenExactly.Negotiate.{negotiate_judged, negotiate_own}
use Rattle.demands.proofs.NlAuth.{nl_auth_judged, nl_auth_own}
use Rattle.demands.proofs.OwnBytes.{none_fails, authenticate_own}
use Rattle.demands.proofs.Answers.SmallFields.{authenticate_small, negotiate_small, nl_auth_small, challenge_small, SmallC}
use Rattle.demands.proofs.Answers.Decoded.{Small, number_small}

-- ---- what a taken message's line is made of

-- a message that check 1 lets pass
not-long : (n : ℕ) → (65535 < n → ⊥) → n ≤ 65535
not-long n h = omega (arith, h)

-- a field is no longer than its message
own_len : (k : Format) (s : List ℕ) (i : ℕ) (f : Field) → OwnField k s i f → f.len ≤ length s
own_len k s i f o = go (leb f.len (length s)) refl where
  go : (t : Bool) → leb f.len (length s) ≡ t → f.len ≤ length s
  go true p = leb-true f.len (length s) p
  go false p =
      let l = leb-false f.len (length s) p in
      let none = o.none (λ ne. omega (arith, l, (o.place ne).1, o.whole ne)) in
      omega (arith, l, none.1)

-- a number of 64 bits has at most 20 digits
number_bound : (label : List ℕ) (n : ℕ) → n < 0x10000000000000000 → length (number_word label n) ≤ length label + 20
number_bound label n l = number_word_bound label 19 n (omega (arith, l))

refused_short : (e : Refusal) → Small e → place_of e < 2 ^ 32 → length (refused_line e) < 0x100000
unfolding refused_line refused_text refused_end
refused_short e small near =
    simp length-append
    (omega (arith, number_bound (ascii "refused ") (number_of e) (omega (arith, number_small e)), number_bound (ascii " field=") (field_of e) (omega (arith, small)), number_bound (ascii " at=") (place_of e) (omega (arith, near))))

-- ---- AUTHENTICATE

auth_short : (s : List ℕ) (a : Authenticate) → (read_authenticate s).reading ≡ Ok a → length (auth_line s (Ok a)) < 0x100000
auth_short s a h =
    let n = not-long (length s) (λ l. none_fails s a h 1 0 (refl, l)) in
    let o = authenticate_own s a h in
    let lm = own_len authenticate s 1 a.fields.lm o.lm in
    let nt = own_len authenticate s 2 a.fields.nt o.nt in
    let domain = own_len authenticate s 3 a.fields.domain o.domain in
    let user = own_len authenticate s 4 a.fields.user o.user in
    let workstation = own_len authenticate s 5 a.fields.workstation o.workstation in
    let key = own_len authenticate s 6 a.fields.key o.key in
    let lengths = lengths_bound a.fields.lm.len a.fields.nt.len a.fields.key.len (omega (arith, n, lm)) (omega (arith, n, nt)) (omega (arith, n, key)) in
    omega (arith, n, lengths, domain, user, workstation, auth_bound s a)

authenticate_short : (s : List ℕ) → length (authenticate_line s) < 0x100000
unfolding authenticate_line
authenticate_short s = go (read_authenticate s).reading refl where
  go : (r : Result Authenticate Refusal) → (read_authenticate s).reading ≡ r → length (auth_line s r) < 0x100000
  go (Ok a) p = auth_short s a p
  go (Err e) p = refused_short e (authenticate_small s e p) (place.auth_short s (read_authenticate s) e refl p)

-- ---- NEGOTIATE

nego_short : (s : List ℕ) (m : Negotiate) → read_negotiate s ≡ Ok m → length (nego_line s (Ok m)) < 0x100000
nego_short s m h =
    let n = not-long (length s) (λ l. (negotiate_judged s).taken.0 (rw h tt) 1 0 (refl, l)) in
    let o = negotiate_own s m h in
    let domain = own_len negotiate s 1 m.fields.domain o.domain in
    let workstation = own_len negotiate s 2 m.fields.workstation o.workstation in
    omega (arith, n, domain, workstation, nego_bound s m)

negotiate_short : (s : List ℕ) → length (negotiate_line s) < 0x100000
unfolding negotiate_line
negotiate_short s = go (read_negotiate s) refl where
  go : (r : Result Negotiate Refusal) → read_negotiate s ≡ r → length (nego_line s r) < 0x100000
  go (Ok m) p = nego_short s m p
  go (Err e) p = refused_short e (negotiate_small s e p) (place.nego_short s (read_negotiate s) e refl p)

-- ---- CHALLENGE

chal_short : (s : List ℕ) (c : Challenge) → (read_challenge s).reading ≡ Ok c → length (chal_line s (Ok c)) < 0x100000
unfolding chal_text
chal_short s c h = words_short where
  n : length s ≤ 65535
  n = not-long (length s) (λ l. (taken_as s c h).none 1 0 (refl, l))

  words_short : length (chal_words (unicode c.flags) s c (length (pairs_of (info_of s c))) (timestamp_in (info_of s c))) < 0x100000
  words_short =
      let o = challenge_own s c h in
      let name = own_len challenge s 1 c.fields.target_name o.target_name in
      let info = own_len challenge s 2 c.fields.target_info o.target_info_is in
      let bytes = field_small s (info_of s c) c.fields.target_info refl in
      let pairs = few_pairs (info_of s c) in
      let word = number_bound (ascii " pairs=") (length (pairs_of (info_of s c))) (omega (arith, n, info, bytes, pairs)) in
      omega (arith, n, name, word, chal_bound (unicode c.flags) s c (length (pairs_of (info_of s c))) (timestamp_in (info_of s c)))

challenge_short : (s : List ℕ) → length (challenge_line s) < 0x100000
unfolding challenge_line read_challenge
challenge_short s = go (read_challenge s).reading refl (challenge_small s) where
  go : (r : Result Challenge Refusal) → (read_challenge s).reading ≡ r → SmallC r → length (chal_line s r) < 0x100000
  go (Ok c) p w = chal_short s c p
  go (Err e) p w = refused_short e w (omega (arith, place_in_message s e p))

-- ---- NL_AUTH: strings A and B lie within the message

own_short : (s : List ℕ) (i : ℕ) (x : NlString) → OwnString s i x → x.len ≤ length s
own_short s i x o = go (eqb (u32_at s 4 / mask_of i % 2) 1) refl where
  go : (b : Bool) → eqb (u32_at s 4 / mask_of i % 2) 1 ≡ b → x.len ≤ length s
  go true e = let w = o.there (eqb-true _ 1 e) in omega (arith, w.5, w.3.inside)
  go false e = omega (arith, (o.none (eqb-false _ 1 e)).1)

nl_short : (s : List ℕ) (m : NlAuth) → read_nl_auth s ≡ Ok m → length (nl_line s (Ok m)) < 0x100000
nl_short s m h =
    let n = not-long (length s) (λ l. (nl_auth_judged s).taken.0 (rw h tt) 1 0 (refl, l)) in
    ⊎_elim
    (λ w. by n (omega (arith, w.1.message_type)) (own_short s 1 m.strings.nb_domain w.1.a) (own_short s 2 m.strings.nb_computer w.1.b))
    (λ w. by n (omega (arith, w.1.message_type)) (none m.strings.nb_domain w.1.a) (none m.strings.nb_computer w.1.b))
    (nl_auth_own s m h)
  where
    none : (x : NlString) → x ≡ no_string → x.len ≤ length s
    none x e = omega (arith, ap (λ (y : NlString). y.len) e)

    by : length s ≤ 65535 → m.message_type ≤ 1 → m.strings.nb_domain.len ≤ length s → m.strings.nb_computer.len ≤ length s →
        length (nl_line s (Ok m)) < 0x100000
    by n t a b =
        let word = number_bound (ascii "nl type=") m.message_type (omega (arith, t)) in
        omega (arith, n, a, b, word, nl_bound s m)

nl_auth_short : (s : List ℕ) → length (nl_auth_line s) < 0x100000
unfolding nl_auth_line
nl_auth_short s = go (read_nl_auth s) refl where
  go : (r : Result NlAuth Refusal) → read_nl_auth s ≡ r → length (nl_line s r) < 0x100000
  go (Ok m) p = nl_short s m p
  go (Err e) p = refused_short e (nl_auth_small s e p) (place.nl_short s (read_nl_auth s) e refl p)

-- ---- all of them

ntlm_short : (s : List ℕ) → length (ntlm_line s) < 0x100000
unfolding ntlm_line
ntlm_short s = go (kind_of s) where
  go : (k : Kind) → length (line_as k s) < 0x100000
  go AsNegotiate = negotiate_short s
  go AsChallenge = challenge_short s
  go AsAuthenticate = authenticate_short s

shown_short : (line out : List ℕ) → length line < 0x100000 → length (shown_line line out) < 0x100000
unfolding shown_line
shown_short line out l = go (room_holds (length line) (length out)) where
  go : (c : Checked) → length (after c (refused_line NoRoom) line) < 0x100000
  go Held = l
  go Failed = refused_short NoRoom (omega arith) (omega arith)

pub line_short : LineShort
line_short (negotiate_line_call s) = negotiate_short s
line_short (authenticate_line_call s) = authenticate_short s
line_short (challenge_line_call s) = challenge_short s
line_short (nl_auth_line_call s) = nl_auth_short s
line_short (ntlm_line_call s) = ntlm_short s
line_short (ntlm_program_line s out) = shown_short (ntlm_line s) out (ntlm_short s)
line_short (nl_auth_program_line s out) = shown_short (nl_auth_line s) out (nl_auth_short s)
