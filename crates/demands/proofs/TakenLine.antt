-- The line of every taken message, whole.
pub mod NlWhole
pub mod Fixed
use Rattle.std.specs.Prelude.{Result, Option, Ok, Err, Some, None, ⊤}
use Rattle.wire.specs.declared.refusal.Refusal.{Refusal}
use Prim.Native.Nat.{ℕ, zero, suc, ◌/◌, ◌%◌, ◌≤◌}
use mathlib.Core.Path.{◌≡◌, refl, sym, ap, ◌∙◌}
use mathlib.Core.Logic.{◌⊎◌, inl, inr}
use mathlib.Core.Bool.{Bool, true, false, ◌&&◌, not, cond}
use mathlib.Core.List.{List, [], ◌∷◌, ◌++◌}
use native.Mathlib.Omega.{arith}
use lib.Dec.{leb, eqb}
use lib.ListN.{length}
use lib.Seq.{ext_get_or}
use borrow.Author.Tests.{le-leb, lt-leb, eq-eqb, ne_eqb}
use Rattle.wire.specs.Text.{ascii}
use Rattle.wire.proofs.Bools.{and_both}
use Rattle.wire.specs.Check.{on_clear}
use Rattle.wire.specs.Number.{u32_at}
use Rattle.field.specs.declared.Field.{Field}
use Rattle.field.specs.Field.{field_at, field_bytes}
use Rattle.negotiate_flags.specs.declared.NegotiateFlags.{NegotiateFlags}
use Rattle.negotiate_flags.specs.Flags.{unicode}
use Rattle.head.specs.Head.{signature_holds, read_head}
use Rattle.line_words.specs.Digits.{hex_digit, hex, decimal_size, decimal}
use Rattle.line_words.specs.Name.{plain, escape, unit_text, text_of, numbers16, name_text}
use Rattle.line_words.specs.Words.{number_word, name_word, flags_word, set_word, start_text, mic_word, kind_word}
use Rattle.line_max.specs.Max.{max_digit, max_digits, max_word, max_end}
use Rattle.line_authenticate.specs.Auth.{auth_names, auth_lengths, auth_end, auth_text}
use Rattle.line_challenge.specs.Chal.{time_text, time_word, chal_end, chal_words, chal_text}
use Rattle.line.specs.Line.{negotiate_line, challenge_line, authenticate_line}
use Rattle.read_negotiate.specs.declared.Negotiate.{Negotiate}
use Rattle.read_negotiate.specs.Negotiate as N
use Rattle.read_authenticate.specs.declared.Authenticate.{Authenticate}
use Rattle.read_authenticate.specs.Authenticate as A
use Rattle.av_pairs.specs.AvPairs.{check_pairs, count_pairs, pairs_of, step_at, pair_of, left}
use Rattle.read_challenge.specs.declared.Challenge.{Challenge}
use Rattle.read_challenge.specs.Challenge as C
use Rattle.target_info.specs.TargetInfo.{timestamp_in}
use Rattle.demands.specs.Answering.{TimestampIs}
use Rattle.demands.specs.Message.{Format, negotiate, authenticate, challenge, Set, Counts, len_of, MicThere}
use Rattle.demands.specs.OwnBytes.{OwnField}
use Rattle.demands.specs.PairList.{Holds}
use Rattle.demands.specs.TakenExactly.{IsTaken, InfoBytes}
use Rattle.verdict.specs.Verdict.{nego_verdict, chal_verdict, auth_verdict}
use Rattle.demands.specs.Units.{WholeUnits}
use Rattle.demands.proofs.Bools.{true_not_false}
use Rattle.demands.proofs.OwnBytes.{authenticate_own}
use Rattle.demands.proofs.OwnBytes.ChallengeOwn.{challenge_own, info_of_lem, time_judged, no_time_judged}
use Rattle.demands.proofs.PairList.{pairs_taken}
use Rattle.demands.proofs.TakenExactly.Challenge.{challenge_judged}
use Rattle.demands.proofs.TakenExactly.Negotiate.{negotiate_own}
use Rattle.demands.proofs.Units.{authenticate_names_whole, target_name_whole}
use Rattle.demands.proofs.LineShows.Words.{spaced}
use Rattle.demands.proofs.LineShows.Names.{plain_visible, plain_no_backslash}
use Rattle.demands.proofs.LineShows.Lines.{set_text, mic_text, kind_text, time_first, nego_line_lem, auth_line_lem, chal_line_lem}
use Rattle.demands.proofs.LineShows.TakenShown.{nego_said, auth_said, chal_said, chal_words_lem}
use Rattle.demands.specs.TakenLine.{together, ForItself, wide_escape, byte_escape, UnitsShown, UnitsOf, FieldHas, NameShown, InLabel, LabelsShown, OneText, SetShown, LengthIs, MicShown, KindShown, time_shown, NegoLine, NegoLineWhole, AuthLine, AuthLineWhole, ChalLine, ChalLineWhole, TakenLineExample}

-- ---- N

pub plain_itself : (u : ℕ) → plain u ≡ true → ForItself u
plain_itself u e = ((plain_visible u e).0, (plain_visible u e).1, plain_no_backslash u e)

pub itself_plain : (u : ℕ) → ForItself u → plain u ≡ true
itself_plain u w =
    and_both (leb 0x21 u && leb u 0x7E) (not (eqb u 0x5C))
    (and_both (leb 0x21 u) (leb u 0x7E) (le-leb 0x21 u w.0) (le-leb u 0x7E w.1))
    (ap not (ne_eqb u 0x5C w.2))

-- one unit before a text
unit_shown : (u : ℕ) (escaped rest : List ℕ) →
    (ForItself u × (cond (plain u) (u ∷ []) escaped ++ rest ≡ u ∷ rest)) ⊎ ((ForItself u → ⊥) × (cond (plain u) (u ∷ []) escaped ++ rest ≡ escaped ++ rest))
unit_shown u escaped rest = go (plain u) refl where
  go : (t : Bool) → plain u ≡ t →
      (ForItself u × (cond t (u ∷ []) escaped ++ rest ≡ u ∷ rest)) ⊎ ((ForItself u → ⊥) × (cond t (u ∷ []) escaped ++ rest ≡ escaped ++ rest))
  go true e = inl (plain_itself u e, refl)
  go false e = inr (λ w. true_not_false (sym (itself_plain u w) ∙ e), refl)

units_shown : (us : List ℕ) → UnitsShown ForItself wide_escape us (text_of true us)
unfolding text_of unit_text escape
units_shown [] = refl
units_shown (u ∷ us) = (text_of true us, units_shown us, unit_shown u (wide_escape u) (text_of true us))

pub bytes_shown : (name : List ℕ) → UnitsShown ForItself byte_escape name (text_of false name)
unfolding text_of unit_text escape
bytes_shown [] = refl
bytes_shown (b ∷ bs) = (text_of false bs, bytes_shown bs, unit_shown b (byte_escape b) (text_of false bs))

-- ---- one text

module _ (Itself : ℕ → Type 0) (escaped : ℕ → List ℕ) where
  one_text : (us a b : List ℕ) → UnitsShown Itself escaped us a → UnitsShown Itself escaped us b → a ≡ b
  one_text [] a b x y = x ∙ sym y
  one_text (u ∷ us) a b x y = go x.0 y.0 (one_text us x.0 y.0 x.1 y.1) x.2 y.2 where
    go : (r t : List ℕ) → r ≡ t → (Itself u × (a ≡ u ∷ r)) ⊎ ((Itself u → ⊥) × (a ≡ escaped u ++ r)) →
        (Itself u × (b ≡ u ∷ t)) ⊎ ((Itself u → ⊥) × (b ≡ escaped u ++ t)) → a ≡ b
    go r t e (inl p) (inl q) = p.1 ∙ ap (λ (z : List ℕ). u ∷ z) e ∙ sym q.1
    go r t e (inl p) (inr q) = absurd (q.0 p.0)
    go r t e (inr p) (inl q) = absurd (p.0 q.0)
    go r t e (inr p) (inr q) = p.1 ∙ ap (λ (z : List ℕ). escaped u ++ z) e ∙ sym q.1

one_labels : (ls : List (List ℕ)) (a b : List ℕ) → LabelsShown ls a → LabelsShown ls b → a ≡ b
one_labels [] a b x y = x ∙ sym y
one_labels (l ∷ []) a b x y = one_text InLabel byte_escape l a b x y
one_labels (l ∷ m ∷ ls) a b x y =
    x.4
    ∙ ap (λ (z : List ℕ). z ++ (0x2E ∷ x.1)) (one_text InLabel byte_escape l x.0 y.0 x.2 y.2)
    ∙ ap (λ (z : List ℕ). y.0 ++ (0x2E ∷ z)) (one_labels (m ∷ ls) x.1 y.1 x.3 y.3)
    ∙ sym y.4

one_units : (name us vs : List ℕ) → UnitsOf name us → UnitsOf name vs → us ≡ vs
one_units name us vs x y =
    let n : length us ≡ length vs = omega (arith, x.count, y.count) in
    ext_get_or 0 us vs n (λ i l. x.unit i l ∙ sym (y.unit i (omega (arith, n))))

pub one_text_shown : OneText
one_text_shown =
    record {
      units = one_units;
      wide = one_text ForItself wide_escape;
      bytes = one_text ForItself byte_escape;
      labels = one_labels;
    }

-- ---- the other letters

set_letter : Bool → List ℕ
set_letter b = cond b (ascii "U") (ascii "O")

set_split : (b : Bool) → set_text b ≡ ascii "set=" ++ set_letter b
unfolding set_letter
set_split true = refl
set_split false = refl

mic_digit : Bool → List ℕ
mic_digit b = cond b (ascii "1") (ascii "0")

mic_split : (b : Bool) → mic_text b ≡ ascii "mic=" ++ mic_digit b
unfolding mic_digit
mic_split true = refl
mic_split false = refl

kind_by : Bool → Bool → Bool → List ℕ
kind_by a b c = cond a (ascii "none") (cond b (ascii "v1") (cond c (ascii "v2") (ascii "odd")))

kind_name : ℕ → List ℕ
kind_name nt = kind_by (eqb nt 0) (eqb nt 24) (leb 44 nt)

kind_split : (nt : ℕ) → kind_text nt ≡ ascii "kind=" ++ kind_name nt
unfolding kind_text kind_name kind_by
kind_split nt = go (eqb nt 0) (eqb nt 24) (leb 44 nt) where
  go : (a b c : Bool) →
      cond a (ascii "kind=none") (cond b (ascii "kind=v1") (cond c (ascii "kind=v2") (ascii "kind=odd")))
      ≡ ascii "kind=" ++ cond a (ascii "none") (cond b (ascii "v1") (cond c (ascii "v2") (ascii "odd")))
  go true b c = refl
  go false true c = refl
  go false false true = refl
  go false false false = refl

kind_shown : (nt : ℕ) → KindShown nt (kind_name nt)
unfolding kind_name kind_by
kind_shown nt =
    record {
      none = λ e. rw (eq-eqb nt 0 e) refl;
      v1 = λ e. rw (ne_eqb nt 0 (λ z. omega (arith, e, z)), eq-eqb nt 24 e) refl;
      v2 = λ l. rw (ne_eqb nt 0 (λ z. omega (arith, l, z)), ne_eqb nt 24 (λ z. omega (arith, l, z)), le-leb 44 nt l) refl;
      odd = λ a b l. rw (ne_eqb nt 0 a, ne_eqb nt 24 b, lt-leb 44 nt l) refl;
    }

-- UNICODE is set, by the flags that a reading answers with
module _ (k : Format) (s : List ℕ) (f : NegotiateFlags) (same : f.bits ≡ u32_at s k.flags) where
  is_set : Set k s 0x1 → unicode f ≡ true
  is_set z = eq-eqb (f.bits / 0x1 % 2) 1 (ap (λ (v : ℕ). v / 0x1 % 2) same ∙ z)

  is_clear : (Set k s 0x1 → ⊥) → unicode f ≡ false
  is_clear n = ne_eqb (f.bits / 0x1 % 2) 1 (λ z. n (sym (ap (λ (v : ℕ). v / 0x1 % 2) same) ∙ z))

  set-shown : SetShown k s (set_letter (unicode f))
  unfolding set_letter
  set-shown = record { unicode = λ z. rw (is_set z) refl; oem = λ n. rw (is_clear n) refl }

field_has : (k : Format) (s : List ℕ) (i : ℕ) (f : Field) → OwnField k s i f → FieldHas k s i (field_bytes s f)
field_has k s i f o = record { there = o.bytes; absent = λ e. (o.none e).2 }

-- a name in either unit
name_shown : (k : Format) (s : List ℕ) (i : ℕ) (f : Field) (g : NegotiateFlags) → g.bits ≡ u32_at s k.flags → k.Name i → OwnField k s i f →
    (Set k s 0x1 → WholeUnits (field_bytes s f)) → NameShown k s i (name_text (unicode g) (field_bytes s f))
unfolding name_text
name_shown k s i f g same name o whole =
    record {
      name = field_bytes s f;
      own = field_has k s i f o;
      wide = λ w.
          let x = whole w.1 in
          (numbers16 (field_bytes s f), record { count = x.count; unit = x.unit }, rw (is_set k s g same w.1) (units_shown (numbers16 (field_bytes s f))));
      bytes = λ n. rw (is_clear k s g same (λ z. n (name, z))) (bytes_shown (field_bytes s f));
    }

-- a name in bytes
bytes_named : (k : Format) (s : List ℕ) (i : ℕ) (f : Field) → (k.Name i → ⊥) → OwnField k s i f → NameShown k s i (name_text false (field_bytes s f))
unfolding name_text
bytes_named k s i f none o =
    record {
      name = field_bytes s f;
      own = field_has k s i f o;
      wide = λ w. absurd (none w.0);
      bytes = λ n. bytes_shown (field_bytes s f);
    }

length-is : (k : Format) (s : List ℕ) (i : ℕ) (f : Field) → 1 ≤ i → i ≤ k.last → OwnField k s i f → LengthIs k s i f.len
length-is k s i f l r o =
    record {
      counted = λ c. go c (len_of k s i) refl;
      uncounted = λ n. (o.none (λ ne. n ne.counts)).1;
    }
  where
    go : Counts k s i → (n : ℕ) → len_of k s i ≡ n → f.len ≡ len_of k s i
    go c zero e = (o.none (λ ne. omega (arith, ne.some, e))).1 ∙ sym e
    go c (suc n) e = (o.place (record { first = l; last = r; counts = c; some = omega (arith, e) })).1

-- ---- NEGOTIATE

nego_together : (h g : ℕ) (a b x : List ℕ) → h ≡ g →
    ascii "nego" ++ spaced ((ascii "flags=" ++ hex 8 h) ∷ (ascii "domain=" ++ a) ∷ (ascii "work=" ++ b) ∷ (ascii "max=" ++ x) ∷ [])
    ≡ together (ascii "nego flags=" ∷ hex 8 g ∷ ascii " domain=" ∷ a ∷ ascii " work=" ∷ b ∷ ascii " max=" ∷ x ∷ (0x0A ∷ []) ∷ [])
nego_together h g a b x e = simp e

nego_whole : (s : List ℕ) (m : Negotiate) → N.read_negotiate s ≡ Ok m → NegoLine s (negotiate_line s)
unfolding negotiate_line
nego_whole s m h =
    let o = negotiate_own s m h in
    record {
      domain = name_text false (field_bytes s m.fields.domain);
      workstation = name_text false (field_bytes s m.fields.workstation);
      digits = max_digits (N.all_fields m.fields);
      line_is = rw h ((nego_line_lem s m).line_is ∙ nego_together m.flags.bits (u32_at s 12) (name_text false (field_bytes s m.fields.domain))
          (name_text false (field_bytes s m.fields.workstation)) (max_digits (N.all_fields m.fields)) o.flags);
      domain_is = bytes_named negotiate s 1 m.fields.domain (λ n. n) o.domain;
      workstation_is = bytes_named negotiate s 2 m.fields.workstation (λ n. n) o.workstation;
      digits_are = nego_said s m h;
    }

pub nego_line_whole : NegoLineWhole
nego_line_whole s t = go (N.read_negotiate s) refl t where
  go : (r : Result Negotiate Refusal) → N.read_negotiate s ≡ r → IsTaken (nego_verdict r) → NegoLine s (negotiate_line s)
  go (Ok m) h i = nego_whole s m h
  go (Err e) h i = absurd i

-- ---- AUTHENTICATE

auth_together : (h g lm nt key : ℕ) (u m : Bool) (a b c x : List ℕ) → h ≡ g →
    ascii "auth" ++ spaced (
    (ascii "flags=" ++ hex 8 h) ∷ set_text u ∷ (ascii "domain=" ++ a) ∷ (ascii "user=" ++ b) ∷ (ascii "work=" ++ c) ∷
    (ascii "lm=" ++ decimal lm) ∷ (ascii "nt=" ++ decimal nt) ∷ (ascii "key=" ++ decimal key) ∷ mic_text m ∷ kind_text nt ∷ (ascii "max=" ++ x) ∷ [])
    ≡ together (
    ascii "auth flags=" ∷ hex 8 g ∷ ascii " set=" ∷ set_letter u ∷ ascii " domain=" ∷ a ∷ ascii " user=" ∷ b ∷ ascii " work=" ∷ c ∷
    ascii " lm=" ∷ decimal lm ∷ ascii " nt=" ∷ decimal nt ∷ ascii " key=" ∷ decimal key ∷ ascii " mic=" ∷ mic_digit m ∷ ascii " kind=" ∷ kind_name nt ∷
    ascii " max=" ∷ x ∷ (0x0A ∷ []) ∷ [])
auth_together h g lm nt key u m a b c x e = simp (e, set_split, mic_split, kind_split)

mic_shown : (s : List ℕ) (b : Bool) → ((b ≡ true → MicThere authenticate s) × (MicThere authenticate s → b ≡ true)) → MicShown s (mic_digit b)
unfolding mic_digit
mic_shown s true h = record { there = λ m. refl; absent = λ n. absurd (n (h.0 refl)) }
mic_shown s false h = record { there = λ m. absurd (true_not_false (sym (h.1 m))); absent = λ n. refl }

auth_whole : (s : List ℕ) (a : Authenticate) → (A.read_authenticate s).reading ≡ Ok a → AuthLine s (authenticate_line s)
unfolding authenticate_line
auth_whole s a h =
    let o = authenticate_own s a h in
    record {
      set = set_letter (unicode a.flags);
      domain = name_text (unicode a.flags) (field_bytes s a.fields.domain);
      user = name_text (unicode a.flags) (field_bytes s a.fields.user);
      workstation = name_text (unicode a.flags) (field_bytes s a.fields.workstation);
      lm = a.fields.lm.len;
      nt = a.fields.nt.len;
      key = a.fields.key.len;
      mic = mic_digit a.mic_present;
      kind = kind_name a.fields.nt.len;
      digits = max_digits (A.all_fields a.fields);
      line_is = rw h ((auth_line_lem s a).line_is ∙ auth_together a.flags.bits (u32_at s 60) a.fields.lm.len a.fields.nt.len a.fields.key.len
          (unicode a.flags) a.mic_present (name_text (unicode a.flags) (field_bytes s a.fields.domain))
          (name_text (unicode a.flags) (field_bytes s a.fields.user)) (name_text (unicode a.flags) (field_bytes s a.fields.workstation))
          (max_digits (A.all_fields a.fields)) o.flags);
      set_is = set-shown authenticate s a.flags o.flags;
      domain_is = name_shown authenticate s 3 a.fields.domain a.flags o.flags (omega arith, omega arith) o.domain (λ z. (authenticate_names_whole s a h z).domain);
      user_is = name_shown authenticate s 4 a.fields.user a.flags o.flags (omega arith, omega arith) o.user (λ z. (authenticate_names_whole s a h z).user);
      workstation_is = name_shown authenticate s 5 a.fields.workstation a.flags o.flags (omega arith, omega arith) o.workstation
          (λ z. (authenticate_names_whole s a h z).workstation);
      lm_is = length-is authenticate s 1 a.fields.lm (omega arith) (omega arith) o.lm;
      nt_is = length-is authenticate s 2 a.fields.nt (omega arith) (omega arith) o.nt;
      key_is = length-is authenticate s 6 a.fields.key (omega arith) (omega arith) o.key;
      mic_is = mic_shown s a.mic_present o.mic_present_is;
      kind_is = kind_shown a.fields.nt.len;
      digits_are = auth_said s a h;
    }

pub auth_line_whole : AuthLineWhole
auth_line_whole s t = go (A.read_authenticate s).reading refl t where
  go : (r : Result Authenticate Refusal) → (A.read_authenticate s).reading ≡ r → IsTaken (auth_verdict r) → AuthLine s (authenticate_line s)
  go (Ok a) h i = auth_whole s a h
  go (Err e) h i = absurd i

-- ---- CHALLENGE

time_first_lem : (x : Option ℕ) (w : List ℕ) → spaced (time_first x (w ∷ [])) ≡ time_shown x ++ (0x20 ∷ (w ++ (0x0A ∷ [])))
time_first_lem (Some t) w = refl
time_first_lem None w = refl

chal_together : (h g n : ℕ) (u : Bool) (a x : List ℕ) (t : Option ℕ) → h ≡ g →
    ascii "chal" ++ spaced ((ascii "flags=" ++ hex 8 h) ∷ set_text u ∷ (ascii "target=" ++ a) ∷ (ascii "pairs=" ++ decimal n) ∷ time_first t ((ascii "max=" ++ x) ∷ []))
    ≡ together (
    ascii "chal flags=" ∷ hex 8 g ∷ ascii " set=" ∷ set_letter u ∷ ascii " target=" ∷ a ∷ ascii " pairs=" ∷ decimal n ∷ time_shown t ∷
    ascii " max=" ∷ x ∷ (0x0A ∷ []) ∷ [])
chal_together h g n u a x t e = simp (e, set_split, time_first_lem)

-- the pairs that are counted are the list's
pub pairs_counted : (b : List ℕ) (n : ℕ) → Holds b n → length (pairs_of b) ≡ n
unfolding count_pairs
pairs_counted b n h = go (check_pairs b) ((pairs_taken b n).1 h) where
  go : (v : Result ⊤ Refusal) → on_clear Err v (Ok (length (pairs_of b))) ≡ Ok n → length (pairs_of b) ≡ n
  go (Ok tt) e = cc
  go (Err x) e = cc

time_is : (b : List ℕ) (x : Option ℕ) → timestamp_in b ≡ x → TimestampIs b x
time_is b (Some t) e = time_judged b t e
time_is b None e = λ p. no_time_judged b e p.0 p.1

chal_whole : (s b : List ℕ) (c : Challenge) → (C.read_challenge s).reading ≡ Ok c → InfoBytes s b → ChalLine s b (challenge_line s)
unfolding challenge_line C.read_challenge
chal_whole s b c h info =
    let o = challenge_own s c h in
    let held = (challenge_judged s b info).taken.0 (rw h tt) in
    let same : C.info_of s c ≡ b = info_of_lem s b c info h in
    record {
      set = set_letter (unicode c.flags);
      target = name_text (unicode c.flags) (field_bytes s c.fields.target_name);
      pairs = length (pairs_of (C.info_of s c));
      time = timestamp_in (C.info_of s c);
      digits = max_digits (C.all_fields c.fields);
      line_is = rw h (chal_words_lem s c
          ∙ (chal_line_lem s c (length (pairs_of (C.info_of s c))) (timestamp_in (C.info_of s c))).line_is
          ∙ chal_together c.flags.bits (u32_at s 20) (length (pairs_of (C.info_of s c))) (unicode c.flags)
          (name_text (unicode c.flags) (field_bytes s c.fields.target_name)) (max_digits (C.all_fields c.fields)) (timestamp_in (C.info_of s c)) o.flags);
      set_is = set-shown challenge s c.flags o.flags;
      target_is = name_shown challenge s 1 c.fields.target_name c.flags o.flags refl o.target_name (λ z. target_name_whole s c h z);
      pairs_are = rw (same, pairs_counted b held.count held.list) held.list;
      time_is = rw same (time_is b (timestamp_in b) refl);
      digits_are = chal_said s c h;
    }

pub chal_line_whole : ChalLineWhole
chal_line_whole s b t info = go (C.read_challenge s).reading refl t where
  go : (r : Result Challenge Refusal) → (C.read_challenge s).reading ≡ r → IsTaken (chal_verdict r) → ChalLine s b (challenge_line s)
  go (Ok c) h i = chal_whole s b c h info
  go (Err e) h i = absurd i

-- ---- lines worked out by hand

pub taken_line_example : TakenLineExample
unfolding authenticate_line challenge_line A.read_authenticate A.reading_of read_head signature_holds A.fields_at field_at A.check_fields A.check_ends A.check_begins A.check_names A.check_shared A.mic_present C.read_challenge C.reading_of C.check_info C.fields_of C.fields_at C.check_ends C.check_begins C.check_names C.check_fields check_pairs pairs_of step_at pair_of left timestamp_in field_bytes hex_digit hex decimal_size decimal escape unit_text text_of name_text number_word name_word flags_word set_word start_text mic_word kind_word time_text time_word max_digit max_word max_end auth_names auth_lengths auth_end auth_text chal_end chal_words chal_text
taken_line_example = record { oem = refl; unicode = refl; both = refl; no_time = refl }
