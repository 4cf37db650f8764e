-- What the lines of two taken messages show.
use Rattle.std.specs.Prelude.{Option, Ok, Some, None, Result}
use Prim.Native.Nat.{ℕ, zero, suc, ◌+◌, ◌-◌, ◌/◌, ◌%◌, ◌^◌, ◌≤◌, ◌<◌}
use mathlib.Core.Path.{◌≡◌, refl, sym, ap, ◌∙◌, subst}
use mathlib.Core.Logic.{◌⊎◌, inl, inr}
use mathlib.Core.Bool.{Bool, true, false, cond}
use mathlib.Core.List.{List, [], ◌∷◌, ◌++◌}
use native.Mathlib.Omega.{arith}
use lib.Dec.{eqb}
use lib.ListN.{length, get_or, take, drop}
use lib.Seq.{get_or-drop, ext_get_or}
use borrow.Author.Tests.{eqb-true, eqb-false}
use Rattle.wire.specs.Text.{ascii}
use Rattle.wire.specs.declared.refusal.Refusal.{Refusal}
use Rattle.wire.specs.Number.{has, u32_at}
use Rattle.wire.specs.Refusal.{number_of, field_of, place_of}
use Rattle.field.specs.declared.Field.{Field}
use Rattle.field.specs.Field.{fits, field_bytes}
use Rattle.head.specs.Head.{flags_at}
use Rattle.negotiate_flags.specs.declared.NegotiateFlags.{NegotiateFlags}
use Rattle.negotiate_flags.specs.Flags.{unicode}
use Rattle.line_words.specs.Digits.{hex, decimal}
use Rattle.line_words.specs.Name.{name_text}
use Rattle.line_max.specs.Max.{max_digit, max_digits}
use Rattle.line_refused.specs.Refused.{refused_line}
use Rattle.line_negotiate.specs.Nego.{nego_text}
use Rattle.line_authenticate.specs.Auth.{auth_text}
use Rattle.line_challenge.specs.Chal.{chal_words, chal_text}
use Rattle.line.specs.Line.{negotiate_line, authenticate_line, challenge_line}
use Rattle.read_negotiate.specs.declared.Negotiate.{Negotiate}
use Rattle.read_negotiate.specs.Negotiate as N
use Rattle.read_authenticate.specs.declared.Authenticate.{Authenticate}
use Rattle.read_authenticate.specs.Authenticate as A
use Rattle.av_pairs.specs.AvPairs.{pairs_of}
use Rattle.read_challenge.specs.declared.Challenge.{Challenge}
use Rattle.read_challenge.specs.Challenge as C
use Rattle.target_info.specs.TargetInfo.{timestamp_in}
use Rattle.demands.specs.HeaderLine.{Bytes}
use Rattle.demands.specs.MaxLen.{Unlike, MaxDigits}
use Rattle.demands.specs.Message.{Format, negotiate, authenticate, challenge, FlagSet, Set, Counts}
use Rattle.demands.specs.Units.{NamesWhole}
use Rattle.demands.proofs.Digits.{hex_is_enough}
use Rattle.demands.proofs.MaxLen.MaxDigits.{digits_said}
use Rattle.demands.proofs.OwnBytes.{taken_answer, authenticate_own}
use Rattle.demands.proofs.OwnBytes.ChallengeOwn.{taken_as, challenge_own, time_judged}
use Rattle.demands.proofs.TakenExactly.{all as auth_all}
use Rattle.demands.proofs.TakenExactly.Challenge.{all as chal_all}
use Rattle.demands.proofs.TakenExactly.Negotiate.{negotiate_own, all as nego_all, taken_as as opening_as}
use Rattle.demands.proofs.Units.{authenticate_names_whole, target_name_whole}
use Rattle.demands.specs.LineShows.{Whole, SameUnlike, SameRefusal, RefusedLineShows, SameNego, NegotiateLineShows, SameAuth, AuthenticateLineShows, SameChal, ChallengeLineShows}
use Rattle.demands.proofs.LineShows.Words.{words_of, same_line}
use Rattle.demands.proofs.LineShows.Names.{hex_shows, decimal_shows, bytes_show, name_shows}
use Rattle.demands.proofs.LineShows.Lines.{past, mic_text, set_text, kind_text, time_first, refused_words, refused_line_lem, nego_words, nego_line_lem, auth_words, auth_line_lem, chal_line_lem}

-- ---- bytes of a message

pub bytes_taken : (n : ℕ) (l : List ℕ) → Bytes l → Bytes (take n l)
bytes_taken zero l b i = omega arith
bytes_taken (suc n) [] b i = omega arith
bytes_taken (suc n) (x ∷ l) b zero = b 0
bytes_taken (suc n) (x ∷ l) b (suc i) = bytes_taken n l (λ k. b (suc k)) i

pub bytes_left : (n : ℕ) (l : List ℕ) → Bytes l → Bytes (drop n l)
bytes_left n l b i = rw get_or-drop (b (n + i))

pub bytes_part : (t : Bool) (at n : ℕ) (s : List ℕ) → Bytes s → Bytes (cond t (take n (drop at s)) [])
bytes_part true at n s b = bytes_taken n (drop at s) (bytes_left at s b)
bytes_part false at n s b = λ i. omega arith

field_bytes_lem : (s : List ℕ) (f : Field) → Bytes s → Bytes (field_bytes s f)
unfolding field_bytes
field_bytes_lem s f b = bytes_part (fits s f) f.offset f.len s b

-- ---- words told

-- the k-th word past its label
pub told : (k : ℕ) (label a b : List ℕ) (ws vs : List (List ℕ)) → ws ≡ vs → get_or ws k [] ≡ label ++ a → get_or vs k [] ≡ label ++ b → a ≡ b
told k label a b ws vs e p q = past label a b (sym p ∙ ap (λ (x : List (List ℕ)). get_or x k []) e ∙ q)

pub flags_told : (s t : List ℕ) (p x y : ℕ) → Bytes s → Bytes t → x ≡ u32_at s p → y ≡ u32_at t p → hex 8 x ≡ hex 8 y → x ≡ y
flags_told s t p x y b d f g e =
    hex_shows 8 x y (subst (λ (z : ℕ). z < 16 ^ 8) (sym f) (hex_is_enough s b p).2) (subst (λ (z : ℕ). z < 16 ^ 8) (sym g) (hex_is_enough t d p).2) e

-- two names, each in its own message's units
name_told : (u v : Bool) (a b : List ℕ) → u ≡ v → Bytes a → Bytes b → Whole u a → Whole v b → name_text u a ≡ name_text v b → a ≡ b
name_told u v a b e p q w x h =
    name_shows u a b p q w (λ g. x (sym e ∙ g)) (h ∙ ap (λ (z : Bool). name_text z b) (sym e))

-- whether a field counts is a test
abbrev Decides : Format → List ℕ → Type 0
Decides k s = (i : ℕ) → ((Counts k s i → ⊥) → ⊥) → Counts k s i

bit_decides : (bits mask : ℕ) → ((FlagSet bits mask → ⊥) → ⊥) → FlagSet bits mask
bit_decides bits mask h = go (eqb (bits / mask % 2) 1) refl where
  go : (b : Bool) → eqb (bits / mask % 2) 1 ≡ b → bits / mask % 2 ≡ 1
  go true e = eqb-true (bits / mask % 2) 1 e
  go false e = absurd (h (eqb-false (bits / mask % 2) 1 e))

zero_no_one : ◌≡◌ {A = ℕ} 0x30 0x31 → ⊥
zero_no_one z = omega arith

-- equal digits, for one of the two
max_one : (k : Format) (s t ds es : List ℕ) → Decides k t → MaxDigits k s ds → MaxDigits k t es → ds ≡ es → (i : ℕ) → 1 ≤ i → i ≤ k.last → Unlike k s i → Unlike k t i
max_one k s t ds es c p q e i l m u = (c i (λ f. some (λ v. f v.0)), λ z. some (λ v. v.1 z)) where
  some : (Unlike k t i → ⊥) → ⊥
  some f = zero_no_one (sym (q.else i l m f) ∙ sym (ap (λ (x : List ℕ). get_or x (i - 1) 0) e) ∙ p.one i l m u)

max_told : (k : Format) (s t ds es : List ℕ) → Decides k s → Decides k t → MaxDigits k s ds → MaxDigits k t es → ds ≡ es → SameUnlike k s t
max_told k s t ds es b c p q e i l m = (max_one k s t ds es c p q e i l m, max_one k t s es ds b q p (sym e) i l m)

-- a digit is 0 or 1
zero_or_one : (fs : List (ℕ × Field)) (j : ℕ) → j < length fs → (get_or (max_digits fs) j 0 ≡ 0x30) ⊎ (get_or (max_digits fs) j 0 ≡ 0x31)
unfolding max_digit
zero_or_one [] j l = absurd (omega arith)
zero_or_one (f ∷ fs) zero l = go (eqb f.1.max_len f.1.len) where
  go : (b : Bool) → (◌≡◌ {A = ℕ} (cond b 0x30 0x31) 0x30) ⊎ (◌≡◌ {A = ℕ} (cond b 0x30 0x31) 0x31)
  go true = inl refl
  go false = inr refl
zero_or_one (f ∷ fs) (suc j) l = zero_or_one fs j (omega arith)

max_same : (k : Format) (s t : List ℕ) (fs gs : List (ℕ × Field)) → MaxDigits k s (max_digits fs) → MaxDigits k t (max_digits gs) → length fs ≡ k.last → length gs ≡ k.last →
    SameUnlike k s t → max_digits fs ≡ max_digits gs
max_same k s t fs gs p q l m h = ext_get_or 0 (max_digits fs) (max_digits gs) (p.count ∙ sym q.count) at where
  at : (j : ℕ) → j < length (max_digits fs) → get_or (max_digits fs) j 0 ≡ get_or (max_digits gs) j 0
  at j r = go (zero_or_one fs j (omega (arith, p.count))) (zero_or_one gs j (omega (arith, p.count))) where
    last : j + 1 ≤ k.last
    last = omega (arith, p.count)

    back : j + 1 - 1 ≡ j
    back = omega arith

    -- a digit 0 is that of a field whose lengths are alike
    alike : (u ds : List ℕ) → MaxDigits k u ds → get_or ds j 0 ≡ 0x30 → Unlike k u (j + 1) → ⊥
    alike u ds w e x = zero_no_one (sym e ∙ sym (ap (λ (z : ℕ). get_or ds z 0) back) ∙ w.one (j + 1) (omega arith) last x)

    none : (u ds : List ℕ) → MaxDigits k u ds → (Unlike k u (j + 1) → ⊥) → get_or ds j 0 ≡ 0x30
    none u ds w f = sym (ap (λ (z : ℕ). get_or ds z 0) back) ∙ w.else (j + 1) (omega arith) last f

    go : (get_or (max_digits fs) j 0 ≡ 0x30) ⊎ (get_or (max_digits fs) j 0 ≡ 0x31) → (get_or (max_digits gs) j 0 ≡ 0x30) ⊎ (get_or (max_digits gs) j 0 ≡ 0x31) →
        get_or (max_digits fs) j 0 ≡ get_or (max_digits gs) j 0
    go (inl a) y = a ∙ sym (none t (max_digits gs) q (λ u. alike s (max_digits fs) p a ((h (j + 1) (omega arith) last).1 u)))
    go (inr a) (inl b) = absurd (zero_no_one (sym (none s (max_digits fs) p (λ u. alike t (max_digits gs) q b ((h (j + 1) (omega arith) last).0 u))) ∙ a))
    go (inr a) (inr b) = a ∙ sym b

-- ---- a refusal

refused_told : (e f : Refusal) → refused_line e ≡ refused_line f → SameRefusal e f
refused_told e f h =
    let w = (words_of (refused_line e) (refused_line f) (ascii "refused") (ascii "refused") (refused_words (number_of e) (field_of e) (place_of e)) (refused_words (number_of f) (field_of f) (place_of f))
    (refused_line_lem e) (refused_line_lem f) h).1 in
    record {
      number = decimal_shows (number_of e) (number_of f) (told 0 [] _ _ _ _ w refl refl);
      field = decimal_shows (field_of e) (field_of f) (told 1 (ascii "field=") _ _ _ _ w refl refl);
      place = decimal_shows (place_of e) (place_of f) (told 2 (ascii "at=") _ _ _ _ w refl refl);
    }

pub refused_line_shows : RefusedLineShows
refused_line_shows e f = (refused_told e f, λ w. same_line _ _ _ _ _ (refused_line_lem e) (refused_line_lem f) (simp (w.number, w.field, w.place)))

-- ---- NEGOTIATE

nego_decides : (s : List ℕ) → Decides negotiate s
nego_decides s i h = (λ e. bit_decides _ 0x1000 (λ n. h (λ c. n (c.0 e))), λ e. bit_decides _ 0x2000 (λ n. h (λ c. n (c.1 e))))

pub nego_said : (s : List ℕ) (m : Negotiate) → N.read_negotiate s ≡ Ok m → MaxDigits negotiate s (max_digits (N.all_fields m.fields))
nego_said s m h = rw (opening_as s m h).1 (digits_said negotiate s (N.all_fields (N.fields_at s (flags_at s 12))) (nego_all s) refl)

nego_told : (s t : List ℕ) (m n : Negotiate) → Bytes s → Bytes t → N.read_negotiate s ≡ Ok m → N.read_negotiate t ≡ Ok n →
    nego_text s m ≡ nego_text t n → SameNego s t m n
nego_told s t m n b d p q e =
    let w = (words_of (nego_text s m) (nego_text t n) (ascii "nego") (ascii "nego") (nego_words s m) (nego_words t n) (nego_line_lem s m) (nego_line_lem t n) e).1 in
    record {
      flags = flags_told s t 12 m.flags.bits n.flags.bits b d (negotiate_own s m p).flags (negotiate_own t n q).flags (told 0 (ascii "flags=") _ _ _ _ w refl refl);
      domain = bytes_show _ _ (field_bytes_lem s m.fields.domain b) (field_bytes_lem t n.fields.domain d) (told 1 (ascii "domain=") _ _ _ _ w refl refl);
      workstation = bytes_show _ _ (field_bytes_lem s m.fields.workstation b) (field_bytes_lem t n.fields.workstation d) (told 2 (ascii "work=") _ _ _ _ w refl refl);
      max = max_told negotiate s t _ _ (nego_decides s) (nego_decides t) (nego_said s m p) (nego_said t n q) (told 3 (ascii "max=") _ _ _ _ w refl refl);
    }

pub negotiate_line_shows : NegotiateLineShows
unfolding negotiate_line
negotiate_line_shows s t m n b d p q =
    rw (p, q) (
      λ e. nego_told s t m n b d p q e,
      λ w.
          let x : max_digits (N.all_fields m.fields) ≡ max_digits (N.all_fields n.fields) =
          max_same negotiate s t (N.all_fields m.fields) (N.all_fields n.fields) (nego_said s m p) (nego_said t n q) refl refl w.max in
          same_line _ _ _ _ _ (nego_line_lem s m) (nego_line_lem t n) (by_parts m.flags.bits n.flags.bits _ _ _ _ _ _ w.flags w.domain w.workstation x),
    )
  where
    by_parts : (f g : ℕ) (a b c d x y : List ℕ) → f ≡ g → a ≡ b → c ≡ d → x ≡ y →
        (ascii "flags=" ++ hex 8 f) ∷ (ascii "domain=" ++ name_text false a) ∷ (ascii "work=" ++ name_text false c) ∷ (ascii "max=" ++ x) ∷ []
        ≡ (ascii "flags=" ++ hex 8 g) ∷ (ascii "domain=" ++ name_text false b) ∷ (ascii "work=" ++ name_text false d) ∷ (ascii "max=" ++ y) ∷ []
    by_parts f g a b c d x y p q r t = simp (p, q, r, t)

-- ---- AUTHENTICATE

auth_decides : (s : List ℕ) → Decides authenticate s
auth_decides s i h e = bit_decides _ 0x40000000 (λ n. h (λ c. n (c e)))

pub auth_said : (s : List ℕ) (a : Authenticate) → (A.read_authenticate s).reading ≡ Ok a → MaxDigits authenticate s (max_digits (A.all_fields a.fields))
auth_said s a h = rw (taken_answer s a h) (digits_said authenticate s (A.all_fields (A.fields_at s (flags_at s 60))) (auth_all s) refl)

-- UNICODE, as the flags' bit of a message
wide : (k : Format) (s : List ℕ) (f : NegotiateFlags) → f.bits ≡ u32_at s k.flags → unicode f ≡ true → Set k s 0x1
wide k s f e h = subst (λ (x : ℕ). x / 0x1 % 2 ≡ 1) e (eqb-true (f.bits / 0x1 % 2) 1 h)

mic_told : (x y : Bool) → mic_text x ≡ mic_text y → x ≡ y
mic_told true true e = refl
mic_told true false e = absurd (two (ap (λ (t : List ℕ). get_or t 4 0) e)) where
  two : ◌≡◌ {A = ℕ} 0x31 0x30 → ⊥
  two z = omega arith
mic_told false true e = absurd (two (ap (λ (t : List ℕ). get_or t 4 0) e)) where
  two : ◌≡◌ {A = ℕ} 0x30 0x31 → ⊥
  two z = omega arith
mic_told false false e = refl

auth_told : (s t : List ℕ) (a b : Authenticate) → Bytes s → Bytes t → (A.read_authenticate s).reading ≡ Ok a → (A.read_authenticate t).reading ≡ Ok b →
    auth_text s a ≡ auth_text t b → SameAuth s t a b
auth_told s t a b p q h k e =
    let w = (words_of (auth_text s a) (auth_text t b) (ascii "auth") (ascii "auth") (auth_words s a) (auth_words t b) (auth_line_lem s a) (auth_line_lem t b) e).1 in
    let o = authenticate_own s a h in
    let r = authenticate_own t b k in
    let f = flags_told s t 60 a.flags.bits b.flags.bits p q o.flags r.flags (told 0 (ascii "flags=") _ _ _ _ w refl refl) in
    let u : unicode a.flags ≡ unicode b.flags = ap (λ (x : ℕ). eqb (x / 0x1 % 2) 1) f in
    let x : unicode a.flags ≡ true → NamesWhole s a = λ z. authenticate_names_whole s a h (wide authenticate s a.flags o.flags z) in
    let y : unicode b.flags ≡ true → NamesWhole t b = λ z. authenticate_names_whole t b k (wide authenticate t b.flags r.flags z) in
    record {
      flags = f;
      domain = name_told (unicode a.flags) (unicode b.flags) _ _ u (field_bytes_lem s a.fields.domain p) (field_bytes_lem t b.fields.domain q)
          (λ z. (x z).domain.even) (λ z. (y z).domain.even) (told 2 (ascii "domain=") _ _ _ _ w refl refl);
      user = name_told (unicode a.flags) (unicode b.flags) _ _ u (field_bytes_lem s a.fields.user p) (field_bytes_lem t b.fields.user q)
          (λ z. (x z).user.even) (λ z. (y z).user.even) (told 3 (ascii "user=") _ _ _ _ w refl refl);
      workstation = name_told (unicode a.flags) (unicode b.flags) _ _ u (field_bytes_lem s a.fields.workstation p) (field_bytes_lem t b.fields.workstation q)
          (λ z. (x z).workstation.even) (λ z. (y z).workstation.even) (told 4 (ascii "work=") _ _ _ _ w refl refl);
      lm = decimal_shows _ _ (told 5 (ascii "lm=") _ _ _ _ w refl refl);
      nt = decimal_shows _ _ (told 6 (ascii "nt=") _ _ _ _ w refl refl);
      key = decimal_shows _ _ (told 7 (ascii "key=") _ _ _ _ w refl refl);
      mic = mic_told a.mic_present b.mic_present (told 8 [] _ _ _ _ w refl refl);
      max = max_told authenticate s t _ _ (auth_decides s) (auth_decides t) (auth_said s a h) (auth_said t b k) (told 10 (ascii "max=") _ _ _ _ w refl refl);
    }

-- the words by what they show
abbrev words : ℕ → ℕ → ℕ → ℕ → List ℕ → List ℕ → List ℕ → List ℕ → Bool → List (List ℕ)
words f lm nt key domain user workstation max mic =
    (ascii "flags=" ++ hex 8 f) ∷
    set_text (has f 0x1) ∷
    (ascii "domain=" ++ name_text (has f 0x1) domain) ∷
    (ascii "user=" ++ name_text (has f 0x1) user) ∷
    (ascii "work=" ++ name_text (has f 0x1) workstation) ∷
    (ascii "lm=" ++ decimal lm) ∷
    (ascii "nt=" ++ decimal nt) ∷
    (ascii "key=" ++ decimal key) ∷
    mic_text mic ∷
    kind_text nt ∷
    (ascii "max=" ++ max) ∷
    []

pub authenticate_line_shows : AuthenticateLineShows
unfolding authenticate_line
authenticate_line_shows s t a b p q h k =
    rw (h, k) (
      λ e. auth_told s t a b p q h k e,
      λ w.
          let x : max_digits (A.all_fields a.fields) ≡ max_digits (A.all_fields b.fields) =
          max_same authenticate s t (A.all_fields a.fields) (A.all_fields b.fields) (auth_said s a h) (auth_said t b k) refl refl w.max in
          same_line _ _ _ _ _ (auth_line_lem s a) (auth_line_lem t b)
          (by_parts a.flags.bits b.flags.bits a.fields.lm.len b.fields.lm.len a.fields.nt.len b.fields.nt.len a.fields.key.len b.fields.key.len _ _ _ _ _ _ _ _ a.mic_present b.mic_present
          w.flags w.lm w.nt w.key w.domain w.user w.workstation x w.mic),
    )
  where
    by_parts : (f f' l l' n n' k k' : ℕ) (a a' b b' c c' x x' : List ℕ) (m m' : Bool) →
        f ≡ f' → l ≡ l' → n ≡ n' → k ≡ k' → a ≡ a' → b ≡ b' → c ≡ c' → x ≡ x' → m ≡ m' → words f l n k a b c x m ≡ words f' l' n' k' a' b' c' x' m'
    by_parts f f' l l' n n' k k' a a' b b' c c' x x' m m' ef el en ek ea eb ec ex em = simp (ef, el, en, ek, ea, eb, ec, ex, em)

-- ---- CHALLENGE

chal_decides : (s : List ℕ) → Decides challenge s
chal_decides s i h = (λ e. bit_decides _ 0x4 (λ n. h (λ c. n (c.0 e))), λ e. bit_decides _ 0x800000 (λ n. h (λ c. n (c.1 e))))

pub chal_said : (s : List ℕ) (c : Challenge) → (C.read_challenge s).reading ≡ Ok c → MaxDigits challenge s (max_digits (C.all_fields c.fields))
chal_said s c h = rw (taken_as s c h).answer (digits_said challenge s (C.all_fields (C.fields_at s (flags_at s 20))) (chal_all s) refl)

-- the line of a taken one is its words
pub chal_words_lem : (s : List ℕ) (c : Challenge) →
    chal_text s c ≡ chal_words (unicode c.flags) s c (length (pairs_of (C.info_of s c))) (timestamp_in (C.info_of s c))
unfolding chal_text
chal_words_lem s c = refl

-- a timestamp has 64 bits
small_time : (b : List ℕ) → Bytes b → (x : Option ℕ) → timestamp_in b ≡ x → (v : ℕ) → x ≡ Some v → v < 16 ^ 16
small_time b p x e v h =
    let j = time_judged b v (e ∙ h) in
    subst (λ (z : ℕ). z < 16 ^ 16) (sym j.2) (hex_is_enough b p (j.0 + 4)).3

-- the word of a timestamp that is there, and the last word
time_told : (x y : Option ℕ) (u v : List ℕ) → ((n : ℕ) → x ≡ Some n → n < 16 ^ 16) → ((n : ℕ) → y ≡ Some n → n < 16 ^ 16) →
    time_first x (u ∷ []) ≡ time_first y (v ∷ []) → (x ≡ y) × (u ≡ v)
time_told (Some m) (Some n) u v p q e = (
  ap Some (hex_shows 16 m n (p m refl) (q n refl) (told 0 (ascii "time=") _ _ _ _ e refl refl)),
  ap (λ (x : List (List ℕ)). get_or x 1 []) e,
)
time_told (Some m) None u v p q e = absurd (let l = ap length e in omega (arith, l))
time_told None (Some n) u v p q e = absurd (let l = ap length e in omega (arith, l))
time_told None None u v p q e = (refl, ap (λ (x : List (List ℕ)). get_or x 0 []) e)

time_is : (s : List ℕ) (c : Challenge) → (C.read_challenge s).reading ≡ Ok c → C.timestamp_of s ≡ Ok (timestamp_in (C.info_of s c))
unfolding C.read_challenge C.timestamp_of
time_is s c h = simp h

chal_told : (s t : List ℕ) (c d : Challenge) → Bytes s → Bytes t → (C.read_challenge s).reading ≡ Ok c → (C.read_challenge t).reading ≡ Ok d →
    chal_text s c ≡ chal_text t d → SameChal s t c d
chal_told s t c d p q h k e =
    let w = (words_of _ _ (ascii "chal") (ascii "chal") _ _
    (chal_line_lem s c (length (pairs_of (C.info_of s c))) (timestamp_in (C.info_of s c))) (chal_line_lem t d (length (pairs_of (C.info_of t d))) (timestamp_in (C.info_of t d)))
    (sym (chal_words_lem s c) ∙ e ∙ chal_words_lem t d)).1 in
    let o = challenge_own s c h in
    let r = challenge_own t d k in
    let f = flags_told s t 20 c.flags.bits d.flags.bits p q o.flags r.flags (told 0 (ascii "flags=") _ _ _ _ w refl refl) in
    let u : unicode c.flags ≡ unicode d.flags = ap (λ (x : ℕ). eqb (x / 0x1 % 2) 1) f in
    let z = time_told (timestamp_in (C.info_of s c)) (timestamp_in (C.info_of t d)) _ _
    (small_time (C.info_of s c) (field_bytes_lem s c.fields.target_info p) _ refl) (small_time (C.info_of t d) (field_bytes_lem t d.fields.target_info q) _ refl)
    (ap (λ (x : List (List ℕ)). drop 4 x) w) in
    record {
      flags = f;
      target_name = name_told (unicode c.flags) (unicode d.flags) _ _ u (field_bytes_lem s c.fields.target_name p) (field_bytes_lem t d.fields.target_name q)
          (λ v. (target_name_whole s c h (wide challenge s c.flags o.flags v)).even) (λ v. (target_name_whole t d k (wide challenge t d.flags r.flags v)).even)
          (told 2 (ascii "target=") _ _ _ _ w refl refl);
      pairs = decimal_shows _ _ (told 3 (ascii "pairs=") _ _ _ _ w refl refl);
      time = time_is s c h ∙ ap Ok z.0 ∙ sym (time_is t d k);
      max = max_told challenge s t _ _ (chal_decides s) (chal_decides t) (chal_said s c h) (chal_said t d k) (past (ascii "max=") _ _ z.1);
    }

same_time : (x y : Option ℕ) → ◌≡◌ {A = Result (Option ℕ) Refusal} (Ok x) (Ok y) → x ≡ y
same_time x y e = cc

pub challenge_line_shows : ChallengeLineShows
unfolding challenge_line
challenge_line_shows s t c d p q h k =
    rw (h, k) (
      λ e. chal_told s t c d p q h k e,
      λ w.
          let x : max_digits (C.all_fields c.fields) ≡ max_digits (C.all_fields d.fields) =
          max_same challenge s t (C.all_fields c.fields) (C.all_fields d.fields) (chal_said s c h) (chal_said t d k) refl refl w.max in
          let z = same_time (timestamp_in (C.info_of s c)) (timestamp_in (C.info_of t d)) (sym (time_is s c h) ∙ w.time ∙ time_is t d k) in
          chal_words_lem s c
          ∙ same_line _ _ _ _ _ (chal_line_lem s c (length (pairs_of (C.info_of s c))) (timestamp_in (C.info_of s c))) (chal_line_lem t d (length (pairs_of (C.info_of t d))) (timestamp_in (C.info_of t d)))
          (by_parts c.flags.bits d.flags.bits _ _ _ _ _ _ _ _ w.flags w.target_name w.pairs z x)
          ∙ sym (chal_words_lem t d),
    )
  where
    by_parts : (f g : ℕ) (a b : List ℕ) (n o : ℕ) (i j : Option ℕ) (x y : List ℕ) → f ≡ g → a ≡ b → n ≡ o → i ≡ j → x ≡ y →
        (ascii "flags=" ++ hex 8 f) ∷ set_text (has f 0x1) ∷ (ascii "target=" ++ name_text (has f 0x1) a) ∷ (ascii "pairs=" ++ decimal n) ∷ time_first i ((ascii "max=" ++ x) ∷ [])
        ≡ (ascii "flags=" ++ hex 8 g) ∷ set_text (has g 0x1) ∷ (ascii "target=" ++ name_text (has g 0x1) b) ∷ (ascii "pairs=" ++ decimal o) ∷ time_first j ((ascii "max=" ++ y) ∷ [])
    by_parts f g a b n o i j x y p q r t u = simp (p, q, r, t, u)
