-- What a line is made of fixes it.
use Rattle.std.specs.Prelude.{Option, Some, None}
use Prim.Native.Nat.{ℕ, ◌+◌, ◌-◌, ◌≤◌, ◌<◌}
use mathlib.Core.Path.{◌≡◌, refl, sym, ap, ◌∙◌, subst}
use mathlib.Core.Logic.{◌⊎◌, inl, inr}
use mathlib.Core.Bool.{Bool, true, false}
use mathlib.Core.List.{List, [], ◌∷◌, ◌++◌}
use native.Mathlib.Omega.{arith}
use lib.Dec.{eqb}
use lib.ListN.{length, get_or, take, drop}
use lib.Seq.{ext_get_or}
use borrow.Author.Tests.{eqb-true, eqb-false}
use Rattle.wire.specs.Text.{ascii}
use Rattle.wire.specs.Number.{u64_at}
use Rattle.line_words.specs.Digits.{hex}
use Rattle.demands.specs.Answering.{TimestampIs}
use Rattle.demands.specs.MaxLen.{Unlike, MaxDigits}
use Rattle.demands.specs.Message.{Format, Set, Counts, Nonempty, MicThere, authenticate, FlagSet}
use Rattle.demands.specs.NlAuth.{type_of, numbered, mask_of}
use Rattle.demands.proofs.DnsName.{only_name}
use Rattle.demands.proofs.NlAuth.{one_zero, one_place as one_start}
use Rattle.demands.proofs.PairList.{one_place}
use Rattle.demands.proofs.LineShows.Words.{heads, tails}
use Rattle.demands.proofs.TakenLine.{one_text_shown, pairs_counted}
use Rattle.demands.specs.TakenLine.{ForItself, wide_escape, byte_escape, UnitsShown, UnitsOf, FieldHas, Wide, NameShown, SetShown, LengthIs, MicShown, KindShown, time_shown, NegoLine, AuthLine, ChalLine, OemShown, DnsShown, WordShown, NlLine, LineFixed}

-- ---- two lists are equal or not, so they are equal if they are so either way

same_or_not : (x y : List ℕ) → (x ≡ y) ⊎ (x ≡ y → ⊥)
same_or_not [] [] = inl refl
same_or_not [] (d ∷ y) = inr (λ e. let l = ap length e in omega (arith, l))
same_or_not (c ∷ x) [] = inr (λ e. let l = ap length e in omega (arith, l))
same_or_not (c ∷ x) (d ∷ y) = go (eqb c d) refl (same_or_not x y) where
  go : (t : Bool) → eqb c d ≡ t → (x ≡ y) ⊎ (x ≡ y → ⊥) → (c ∷ x ≡ d ∷ y) ⊎ (c ∷ x ≡ d ∷ y → ⊥)
  go true p (inl e) = inl (ap (λ (n : ℕ). n ∷ x) (eqb-true c d p) ∙ ap (λ (l : List ℕ). d ∷ l) e)
  go true p (inr n) = inr (λ e. n (tails c d x y e))
  go false p r = inr (λ e. eqb-false c d p (heads c d x y e))

either : (P : Type 0) (x y : List ℕ) → (P → x ≡ y) → ((P → ⊥) → x ≡ y) → x ≡ y
either P x y f g = go (same_or_not x y) where
  go : (x ≡ y) ⊎ (x ≡ y → ⊥) → x ≡ y
  go (inl e) = e
  go (inr n) = absurd (n (g (λ p. n (f p))))

either_number : (P : Type 0) (m n : ℕ) → (P → m ≡ n) → ((P → ⊥) → m ≡ n) → m ≡ n
either_number P m n f g =
    heads m n [] [] (either P (m ∷ []) (n ∷ []) (λ p. ap (λ (x : ℕ). x ∷ []) (f p)) (λ q. ap (λ (x : ℕ). x ∷ []) (g q)))

-- ---- the letters

one_field : (k : Format) (s : List ℕ) (i : ℕ) (x y : List ℕ) → FieldHas k s i x → FieldHas k s i y → x ≡ y
one_field k s i x y a b = either (Nonempty k s i) x y (λ n. a.there n ∙ sym (b.there n)) (λ n. a.absent n ∙ sym (b.absent n))

one_name : (k : Format) (s : List ℕ) (i : ℕ) (x y : List ℕ) → NameShown k s i x → NameShown k s i y → x ≡ y
one_name k s i x y a b = either (Wide k s i) x y wide bytes where
  own : b.name ≡ a.name
  own = one_field k s i b.name a.name b.own a.own

  wide : Wide k s i → x ≡ y
  wide w =
      let v = a.wide w in
      let z = b.wide w in
      let us : z.0 ≡ v.0 = one_text_shown.units a.name z.0 v.0 (subst (λ (n : List ℕ). UnitsOf n z.0) own z.1) v.1 in
      one_text_shown.wide v.0 x y v.2 (subst (λ (u : List ℕ). UnitsShown ForItself wide_escape u y) us z.2)

  bytes : (Wide k s i → ⊥) → x ≡ y
  bytes n = one_text_shown.bytes a.name x y (a.bytes n) (subst (λ (u : List ℕ). UnitsShown ForItself byte_escape u y) own (b.bytes n))

one_set : (k : Format) (s x y : List ℕ) → SetShown k s x → SetShown k s y → x ≡ y
one_set k s x y a b = either (Set k s 0x1) x y (λ z. a.unicode z ∙ sym (b.unicode z)) (λ n. a.oem n ∙ sym (b.oem n))

one_length : (k : Format) (s : List ℕ) (i m n : ℕ) → LengthIs k s i m → LengthIs k s i n → m ≡ n
one_length k s i m n a b =
    either_number (Counts k s i) m n (λ c. a.counted c ∙ sym (b.counted c)) (λ c. a.uncounted c ∙ sym (b.uncounted c))

one_mic : (s x y : List ℕ) → MicShown s x → MicShown s y → x ≡ y
one_mic s x y a b = either (MicThere authenticate s) x y (λ z. a.there z ∙ sym (b.there z)) (λ n. a.absent n ∙ sym (b.absent n))

one_kind : (nt : ℕ) (x y : List ℕ) → KindShown nt x → KindShown nt y → x ≡ y
one_kind nt x y a b =
    either (nt ≡ 0) x y (λ z. a.none z ∙ sym (b.none z)) (λ p.
    either (nt ≡ 24) x y (λ z. a.v1 z ∙ sym (b.v1 z)) (λ q.
    either (44 ≤ nt) x y (λ z. a.v2 z ∙ sym (b.v2 z)) (λ r.
    let l : nt < 44 = omega (arith, r) in a.odd p q l ∙ sym (b.odd p q l))))

one_digits : (k : Format) (s ds es : List ℕ) → MaxDigits k s ds → MaxDigits k s es → ds ≡ es
one_digits k s ds es a b = ext_get_or 0 ds es (a.count ∙ sym b.count) (λ j l. at j l) where
  at : (j : ℕ) → j < length ds → get_or ds j 0 ≡ get_or es j 0
  at j l =
      let low : 1 ≤ j + 1 = omega arith in
      let last : j + 1 ≤ k.last = omega (arith, a.count) in
      let back : j + 1 - 1 ≡ j = omega arith in
      subst (λ (i : ℕ). get_or ds i 0 ≡ get_or es i 0) back
      (either_number (Unlike k s (j + 1)) (get_or ds (j + 1 - 1) 0) (get_or es (j + 1 - 1) 0)
      (λ u. a.one (j + 1) low last u ∙ sym (b.one (j + 1) low last u)) (λ u. a.else (j + 1) low last u ∙ sym (b.else (j + 1) low last u)))

one_time : (b : List ℕ) (x y : Option ℕ) → TimestampIs b x → TimestampIs b y → time_shown x ≡ time_shown y
one_time b (Some t) (Some u) p q =
    ap (λ (n : ℕ). ascii " time=" ++ hex 16 n)
    (p.2 ∙ ap (λ (n : ℕ). u64_at b (n + 4)) (one_place b 7 p.0 q.0 0 p.1 q.1) ∙ sym q.2)
one_time b (Some t) None p q = absurd (q (p.0, p.1))
one_time b None (Some u) p q = absurd (p (q.0, q.1))
one_time b None None p q = refl

-- ---- NL_AUTH

one_oem : (s : List ℕ) (i : ℕ) (x y : List ℕ) → OemShown s i x → OemShown s i y → x ≡ y
one_oem s i x y a b =
    let p : a.0 ≡ b.0 = one_start s (take (i - 1) numbered) 8 a.0 b.0 a.2 b.2 in
    let q : a.1 ≡ b.1 = one_zero s b.0 a.1 b.1 (rw p at a.3) b.3 in
    one_text_shown.bytes (take (b.1 - b.0) (drop b.0 s)) x y (rw (p, q) at a.4) b.4

one_dns : (s : List ℕ) (i : ℕ) (x y : List ℕ) → DnsShown s i x → DnsShown s i y → x ≡ y
one_dns s i x y a b =
    let p : a.place ≡ b.place = one_start s (take (i - 1) numbered) 8 a.place b.place a.starts b.starts in
    let l : a.labels ≡ b.labels = one_labels_of p in
    one_text_shown.labels b.labels x y (rw l at a.shown) b.shown
  where
    one_labels_of : a.place ≡ b.place → a.labels ≡ b.labels
    one_labels_of p = (only_name (drop 8 s) (b.place - 8) a.labels b.labels a.jumps b.jumps a.next b.next (rw p at a.name) b.name).0

one_word : (f g i : ℕ) (label : List ℕ) (Shows : List ℕ → Type 0) (x y : List ℕ) → ((a b : List ℕ) → Shows a → Shows b → a ≡ b) → f ≡ g →
    WordShown f i label Shows x → WordShown g i label Shows y → x ≡ y
one_word f g i label Shows x y one e a b = go (subst (λ (n : ℕ). WordShown n i label Shows x) e a) where
  go : WordShown g i label Shows x → x ≡ y
  go c =
      either (FlagSet g (mask_of i)) x y
      (λ z. (c.there z).2 ∙ ap (λ (t : List ℕ). label ++ t) (one (c.there z).0 (b.there z).0 (c.there z).1 (b.there z).1) ∙ sym (b.there z).2)
      (λ n. c.left_out n ∙ sym (b.left_out n))

one_flags : (s x y : List ℕ) (a : NlLine s x) (b : NlLine s y) → a.flags ≡ b.flags
one_flags s x y a b = go a.type where
  go : (type_of s ≡ 0) ⊎ (type_of s ≡ 1) → a.flags ≡ b.flags
  go (inl t) = a.request t ∙ sym (b.request t)
  go (inr t) = a.response t ∙ sym (b.response t)

-- ---- the lines

one_nego : (s x y : List ℕ) → NegoLine s x → NegoLine s y → x ≡ y
one_nego s x y a b =
    simp (a.line_is, b.line_is, one_name _ s 1 _ _ a.domain_is b.domain_is, one_name _ s 2 _ _ a.workstation_is b.workstation_is, one_digits _ s _ _ a.digits_are b.digits_are)

one_auth : (s x y : List ℕ) → AuthLine s x → AuthLine s y → x ≡ y
one_auth s x y a b =
    let nt : a.nt ≡ b.nt = one_length authenticate s 2 a.nt b.nt a.nt_is b.nt_is in
    let kind : a.kind ≡ b.kind = one_kind b.nt a.kind b.kind (subst (λ (n : ℕ). KindShown n a.kind) nt a.kind_is) b.kind_is in
    simp (a.line_is, b.line_is, one_set _ s _ _ a.set_is b.set_is, one_name _ s 3 _ _ a.domain_is b.domain_is, one_name _ s 4 _ _ a.user_is b.user_is, one_name _ s 5 _ _ a.workstation_is b.workstation_is, one_length _ s 1 _ _ a.lm_is b.lm_is, nt, one_length _ s 6 _ _ a.key_is b.key_is, one_mic s _ _ a.mic_is b.mic_is, kind, one_digits _ s _ _ a.digits_are b.digits_are)

one_chal : (s i x y : List ℕ) → ChalLine s i x → ChalLine s i y → x ≡ y
one_chal s i x y a b =
    let pairs : a.pairs ≡ b.pairs = sym (pairs_counted i a.pairs a.pairs_are) ∙ pairs_counted i b.pairs b.pairs_are in
    simp (a.line_is, b.line_is, one_set _ s _ _ a.set_is b.set_is, one_name _ s 1 _ _ a.target_is b.target_is, pairs, one_time i a.time b.time a.time_is b.time_is, one_digits _ s _ _ a.digits_are b.digits_are)

one_nl : (s x y : List ℕ) → NlLine s x → NlLine s y → x ≡ y
one_nl s x y a b =
    let f = one_flags s x y a b in
    simp (a.line_is, b.line_is, f, one_word _ _ _ _ _ _ _ (one_oem s 1) f a.a_is b.a_is, one_word _ _ _ _ _ _ _ (one_oem s 2) f a.b_is b.b_is, one_word _ _ _ _ _ _ _ (one_dns s 3) f a.c_is b.c_is, one_word _ _ _ _ _ _ _ (one_dns s 4) f a.d_is b.d_is, one_word _ _ _ _ _ _ _ (one_dns s 5) f a.e_is b.e_is)

pub line_fixed : LineFixed
line_fixed = record { nego = one_nego; auth = one_auth; chal = one_chal; nl = one_nl }
