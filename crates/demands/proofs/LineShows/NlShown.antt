-- What the line of NL_AUTH shows.
use Rattle.std.specs.Prelude.{Ok}
use Prim.Native.Nat.{ℕ, ◌+◌, ◌/◌, ◌%◌, ◌^◌, ◌<◌}
use mathlib.Core.Path.{◌≡◌, refl, sym, ap, ◌∙◌, subst}
use mathlib.Core.Logic.{◌⊎◌, inl, inr, ⊎_elim}
use mathlib.Core.Bool.{Bool, true, false}
use mathlib.Core.List.{List, [], ◌∷◌, ◌++◌, append_assoc}
use native.Mathlib.Omega.{arith}
use lib.Dec.{leb}
use lib.ListN.{length, get_or, drop, length-take, length-drop}
use borrow.Author.Tests.{eqb-true}
use Rattle.wire.specs.Text.{ascii}
use Rattle.wire.proofs.Bools.{and_both}
use Rattle.wire.specs.Number.{has, u32_at}
use Rattle.line_words.specs.Digits.{hex, decimal}
use Rattle.line_words.specs.Name.{name_text}
use Rattle.line_dns_name.specs.DnsNameText.{dns_name_text as dns_text}
use Rattle.line_words.specs.Words.{number_word, string_word, flags_word, line_end}
use Rattle.read_dns_name.specs.Rfc1035.{NameFrom, end, label, jump}
use Rattle.nl_auth_flags.specs.Flags.{nb_domain, nb_computer, dns_domain, dns_host, utf8_computer}
use Rattle.read_nl_auth.specs.declared.NlAuth.{NlAuth}
use Rattle.read_nl_auth.specs.declared.string.NlString.{NlString}
use Rattle.read_nl_auth.specs.NlAuth.{string_bytes, labels_of, read_nl_auth}
use Rattle.line_nl_string.specs.StringText.{oem_text, utf8_text}
use Rattle.line_nl_auth.specs.Nl.{nl_start, nl_oem, nl_utf8, nl_text}
use Rattle.line.specs.Line.{nl_auth_line}
use Rattle.demands.specs.HeaderLine.{Bytes}
use Rattle.demands.specs.NlAuth.{type_of, BitSet}
use Rattle.demands.specs.OwnBytes.{OwnRequest, OwnResponse}
use Rattle.demands.proofs.Bools.{true_not_false, bit4, bit8, bit16}
use Rattle.demands.proofs.NlAuth.{nl_auth_own}
use Rattle.demands.specs.LineShows.{Labels, SameNl, NlAuthLineShows}
use Rattle.demands.proofs.LineShows.Words.{visible, all_visible, spaced, IsLine, words_of, same_line}
use Rattle.demands.proofs.LineShows.Names.{hex_shows, decimal_shows, bytes_show, hex_visible, decimal_visible, name_is_visible}
use Rattle.demands.proofs.LineShows.Lines.{past}
use Rattle.demands.proofs.LineShows.TakenShown.{bytes_taken, bytes_left, bytes_part, told}
use Rattle.demands.proofs.LineShows.LabelsShown.{labels_show, dns_visible}

-- ---- the labels of a taken name

module _ (s : List ℕ) (b : Bytes s) where
  name_labels : {run at jumps next : ℕ} {ls : List (List ℕ)} → NameFrom s run at ls jumps next → Labels ls
  name_labels (end h e j n) = subst Labels (sym e) tt
  name_labels (label {at = at} {n = n} h e r) =
      subst Labels (sym e) (
        simp (length-take, length-drop) (omega (arith, h.some, h.whole)),
        bytes_taken n (drop (at + 1) s) (bytes_left (at + 1) s b),
        name_labels r,
      )
  name_labels (jump h l j n r) = name_labels r

-- a name under a set bit
module _ (s : List ℕ) (b : Bytes s) (m : NlAuth) (h : read_nl_auth s ≡ Ok m) where
  under : (i mask : ℕ) (x : NlString) (pick : OwnRequest s m → BitSet s mask → Labels (labels_of s x)) →
      u32_at s 4 % 32 / mask % 2 ≡ u32_at s 4 / mask % 2 → (0 / mask % 2 ≡ 1 → ⊥) → has m.flags.bits mask ≡ true → Labels (labels_of s x)
  under i mask x pick bit none set = go (nl_auth_own s m h) where
    on : m.flags.bits / mask % 2 ≡ 1
    on = eqb-true (m.flags.bits / mask % 2) 1 set

    go : ((type_of s ≡ 0) × OwnRequest s m) ⊎ ((type_of s ≡ 1) × OwnResponse s m) → Labels (labels_of s x)
    go (inl o) = pick o.1 (sym bit ∙ ap (λ (z : ℕ). z / mask % 2) (sym o.1.flags) ∙ on)
    go (inr o) = absurd (none (ap (λ (z : ℕ). z / mask % 2) (sym o.1.flags) ∙ on))

  c_labels : has m.flags.bits 0x4 ≡ true → Labels (labels_of s m.strings.dns_domain)
  c_labels = under 3 0x4 m.strings.dns_domain (λ o z. name_labels (drop 8 s) (bytes_left 8 s b) (o.c.there z).name.coded) (bit4 (u32_at s 4)) (λ e. omega arith)

  d_labels : has m.flags.bits 0x8 ≡ true → Labels (labels_of s m.strings.dns_host)
  d_labels = under 4 0x8 m.strings.dns_host (λ o z. name_labels (drop 8 s) (bytes_left 8 s b) (o.d.there z).name.coded) (bit8 (u32_at s 4)) (λ e. omega arith)

  e_labels : has m.flags.bits 0x10 ≡ true → Labels (labels_of s m.strings.utf8_computer)
  e_labels = under 5 0x10 m.strings.utf8_computer (λ o z. name_labels (drop 8 s) (bytes_left 8 s b) (o.e.there z).name.coded) (bit16 (u32_at s 4)) (λ e. omega arith)

  flags_small : m.flags.bits < 16 ^ 8
  flags_small = ⊎_elim (λ o. omega (arith, o.1.flags)) (λ o. omega (arith, o.1.flags)) (nl_auth_own s m h)

-- ---- the line by its words

-- a word that is there, or not
abbrev opt : Bool → List ℕ → List (List ℕ) → List (List ℕ)
opt true w ws = w ∷ ws
opt false w ws = ws

opt_is : (given : Bool) (name text : List ℕ) (ws : List (List ℕ)) →
    string_word (0x20 ∷ name) given text ++ spaced ws ≡ spaced (opt given (name ++ text) ws)
unfolding string_word
opt_is true name text ws = refl
opt_is false name text ws = refl

opt_visible : (given : Bool) (w : List ℕ) (ws : List (List ℕ)) → visible w ≡ true → all_visible ws ≡ true → all_visible (opt given w ws) ≡ true
opt_visible true w ws p q = and_both (visible w) (all_visible ws) p q
opt_visible false w ws p q = q

opt_told : (x y : Bool) (w v : List ℕ) (ws vs : List (List ℕ)) → x ≡ y → opt x w ws ≡ opt y v vs → (x ≡ true → w ≡ v) × (ws ≡ vs)
opt_told true true w v ws vs h e = (λ z. ap (λ (l : List (List ℕ)). get_or l 0 []) e, ap (λ (l : List (List ℕ)). drop 1 l) e)
opt_told true false w v ws vs h e = absurd (true_not_false h)
opt_told false true w v ws vs h e = absurd (true_not_false (sym h))
opt_told false false w v ws vs h e = (λ z. absurd (true_not_false (sym z)), e)

module _ (s : List ℕ) (m : NlAuth) where
  abbrev words5 : List (List ℕ)
  words5 = opt (utf8_computer m.flags) (ascii "e=" ++ utf8_text s m.strings.utf8_computer) []

  abbrev words4 : List (List ℕ)
  words4 = opt (dns_host m.flags) (ascii "d=" ++ utf8_text s m.strings.dns_host) words5

  abbrev words3 : List (List ℕ)
  words3 = opt (dns_domain m.flags) (ascii "c=" ++ utf8_text s m.strings.dns_domain) words4

  abbrev words2 : List (List ℕ)
  words2 = opt (nb_computer m.flags) (ascii "b=" ++ oem_text s m.strings.nb_computer) words3

  abbrev words1 : List (List ℕ)
  words1 = opt (nb_domain m.flags) (ascii "a=" ++ oem_text s m.strings.nb_domain) words2

  abbrev nl_words : List (List ℕ)
  nl_words = (ascii "type=" ++ decimal m.message_type) ∷ (ascii "flags=" ++ hex 8 m.flags.bits) ∷ words1

  pub nl_parts : nl_text s m
      ≡ number_word (ascii "nl type=") m.message_type ++ (
      flags_word m.flags.bits ++ (
      string_word (ascii " a=") (nb_domain m.flags) (oem_text s m.strings.nb_domain) ++ (
      string_word (ascii " b=") (nb_computer m.flags) (oem_text s m.strings.nb_computer) ++ (
      string_word (ascii " c=") (dns_domain m.flags) (utf8_text s m.strings.dns_domain) ++ (
      string_word (ascii " d=") (dns_host m.flags) (utf8_text s m.strings.dns_host) ++ (
      string_word (ascii " e=") (utf8_computer m.flags) (utf8_text s m.strings.utf8_computer) ++
      line_end))))))
  unfolding nl_text nl_start nl_oem nl_utf8
  nl_parts = simp append_assoc

  strings_are : string_word (ascii " a=") (nb_domain m.flags) (oem_text s m.strings.nb_domain) ++ (
      string_word (ascii " b=") (nb_computer m.flags) (oem_text s m.strings.nb_computer) ++ (
      string_word (ascii " c=") (dns_domain m.flags) (utf8_text s m.strings.dns_domain) ++ (
      string_word (ascii " d=") (dns_host m.flags) (utf8_text s m.strings.dns_host) ++ (
      string_word (ascii " e=") (utf8_computer m.flags) (utf8_text s m.strings.utf8_computer) ++
      line_end))))
      ≡ spaced words1
  strings_are =
      ap (λ (x : List ℕ). string_word (ascii " a=") (nb_domain m.flags) (oem_text s m.strings.nb_domain) ++ x)
      (ap (λ (x : List ℕ). string_word (ascii " b=") (nb_computer m.flags) (oem_text s m.strings.nb_computer) ++ x)
      (ap (λ (x : List ℕ). string_word (ascii " c=") (dns_domain m.flags) (utf8_text s m.strings.dns_domain) ++ x)
      (ap (λ (x : List ℕ). string_word (ascii " d=") (dns_host m.flags) (utf8_text s m.strings.dns_host) ++ x)
      (opt_is (utf8_computer m.flags) (ascii "e=") (utf8_text s m.strings.utf8_computer) [])
      ∙ opt_is (dns_host m.flags) (ascii "d=") (utf8_text s m.strings.dns_host) words5)
      ∙ opt_is (dns_domain m.flags) (ascii "c=") (utf8_text s m.strings.dns_domain) words4)
      ∙ opt_is (nb_computer m.flags) (ascii "b=") (oem_text s m.strings.nb_computer) words3)
      ∙ opt_is (nb_domain m.flags) (ascii "a=") (oem_text s m.strings.nb_domain) words2

  words_visible : all_visible words1 ≡ true
  unfolding oem_text utf8_text
  words_visible =
      opt_visible (nb_domain m.flags) (ascii "a=" ++ oem_text s m.strings.nb_domain) words2 (name_is_visible false (string_bytes s m.strings.nb_domain))
      (opt_visible (nb_computer m.flags) (ascii "b=" ++ oem_text s m.strings.nb_computer) words3 (name_is_visible false (string_bytes s m.strings.nb_computer))
      (opt_visible (dns_domain m.flags) (ascii "c=" ++ utf8_text s m.strings.dns_domain) words4 (dns_visible (labels_of s m.strings.dns_domain))
      (opt_visible (dns_host m.flags) (ascii "d=" ++ utf8_text s m.strings.dns_host) words5 (dns_visible (labels_of s m.strings.dns_host))
      (opt_visible (utf8_computer m.flags) (ascii "e=" ++ utf8_text s m.strings.utf8_computer) [] (dns_visible (labels_of s m.strings.utf8_computer)) refl))))

  pub nl_line_lem : IsLine (nl_text s m) (ascii "nl") nl_words
  unfolding number_word flags_word
  nl_line_lem =
      record {
        line_is = nl_parts ∙ ap (λ (x : List ℕ). number_word (ascii "nl type=") m.message_type ++ (flags_word m.flags.bits ++ x)) strings_are;
        first_visible = refl;
        words_visible = simp (decimal_visible, hex_visible) words_visible;
      }

opt_same : (x y : Bool) (w v : List ℕ) (ws vs : List (List ℕ)) → x ≡ y → (x ≡ true → w ≡ v) → ws ≡ vs → opt x w ws ≡ opt y v vs
opt_same true true w v ws vs h f e = ap (λ (z : List ℕ). z ∷ ws) (f refl) ∙ ap (λ (z : List (List ℕ)). v ∷ z) e
opt_same true false w v ws vs h f e = absurd (true_not_false h)
opt_same false true w v ws vs h f e = absurd (true_not_false (sym h))
opt_same false false w v ws vs h f e = e

-- ---- what it shows

string_bytes_lem : (s : List ℕ) (x : NlString) → Bytes s → Bytes (string_bytes s x)
unfolding string_bytes
string_bytes_lem s x b = bytes_part (leb (x.offset + x.len) (length s)) x.offset x.len s b

oem_told : (s t : List ℕ) (x y : NlString) → Bytes s → Bytes t → oem_text s x ≡ oem_text t y → string_bytes s x ≡ string_bytes t y
unfolding oem_text
oem_told s t x y b d e = bytes_show _ _ (string_bytes_lem s x b) (string_bytes_lem t y d) e

utf8_told : (s t : List ℕ) (x y : NlString) → Labels (labels_of s x) → Labels (labels_of t y) → utf8_text s x ≡ utf8_text t y → labels_of s x ≡ labels_of t y
unfolding utf8_text
utf8_told s t x y p q e = labels_show (labels_of s x) (labels_of t y) p q e

nl_told : (s t : List ℕ) (m n : NlAuth) → Bytes s → Bytes t → read_nl_auth s ≡ Ok m → read_nl_auth t ≡ Ok n → nl_text s m ≡ nl_text t n → SameNl s t m n
nl_told s t m n p q h k e =
    let w = (words_of (nl_text s m) (nl_text t n) (ascii "nl") (ascii "nl") (nl_words s m) (nl_words t n) (nl_line_lem s m) (nl_line_lem t n) e).1 in
    let f = hex_shows 8 m.flags.bits n.flags.bits (flags_small s p m h) (flags_small t q n k) (told 1 (ascii "flags=") _ _ _ _ w refl refl) in
    let bit : (mask : ℕ) → has m.flags.bits mask ≡ has n.flags.bits mask = λ mask. ap (λ (x : ℕ). has x mask) f in
    let w1 = opt_told (nb_domain m.flags) (nb_domain n.flags) _ _ (words2 s m) (words2 t n) (bit 0x1) (ap (λ (l : List (List ℕ)). drop 2 l) w) in
    let w2 = opt_told (nb_computer m.flags) (nb_computer n.flags) _ _ (words3 s m) (words3 t n) (bit 0x2) w1.1 in
    let w3 = opt_told (dns_domain m.flags) (dns_domain n.flags) _ _ (words4 s m) (words4 t n) (bit 0x4) w2.1 in
    let w4 = opt_told (dns_host m.flags) (dns_host n.flags) _ _ (words5 s m) (words5 t n) (bit 0x8) w3.1 in
    let w5 = opt_told (utf8_computer m.flags) (utf8_computer n.flags) _ _ [] [] (bit 0x10) w4.1 in
    record {
      message_type = decimal_shows _ _ (told 0 (ascii "type=") _ _ _ _ w refl refl);
      flags = f;
      a = λ z. oem_told s t m.strings.nb_domain n.strings.nb_domain p q (past (ascii "a=") _ _ (w1.0 z));
      b = λ z. oem_told s t m.strings.nb_computer n.strings.nb_computer p q (past (ascii "b=") _ _ (w2.0 z));
      c = λ z. utf8_told s t m.strings.dns_domain n.strings.dns_domain (c_labels s p m h z) (c_labels t q n k (sym (bit 0x4) ∙ z)) (past (ascii "c=") _ _ (w3.0 z));
      d = λ z. utf8_told s t m.strings.dns_host n.strings.dns_host (d_labels s p m h z) (d_labels t q n k (sym (bit 0x8) ∙ z)) (past (ascii "d=") _ _ (w4.0 z));
      e = λ z. utf8_told s t m.strings.utf8_computer n.strings.utf8_computer (e_labels s p m h z) (e_labels t q n k (sym (bit 0x10) ∙ z)) (past (ascii "e=") _ _ (w5.0 z));
    }

same_nl : (s t : List ℕ) (m n : NlAuth) → SameNl s t m n → nl_words s m ≡ nl_words t n
unfolding oem_text utf8_text
same_nl s t m n w =
    ap (λ (x : ℕ). (ascii "type=" ++ decimal x) ∷ (ascii "flags=" ++ hex 8 m.flags.bits) ∷ words1 s m) w.message_type
    ∙ ap (λ (x : ℕ). (ascii "type=" ++ decimal n.message_type) ∷ (ascii "flags=" ++ hex 8 x) ∷ words1 s m) w.flags
    ∙ ap (λ (x : List (List ℕ)). (ascii "type=" ++ decimal n.message_type) ∷ (ascii "flags=" ++ hex 8 n.flags.bits) ∷ x)
    (opt_same (nb_domain m.flags) (nb_domain n.flags) _ _ (words2 s m) (words2 t n) (bit 0x1) (λ z. ap (λ (x : List ℕ). ascii "a=" ++ name_text false x) (w.a z))
    (opt_same (nb_computer m.flags) (nb_computer n.flags) _ _ (words3 s m) (words3 t n) (bit 0x2) (λ z. ap (λ (x : List ℕ). ascii "b=" ++ name_text false x) (w.b z))
    (opt_same (dns_domain m.flags) (dns_domain n.flags) _ _ (words4 s m) (words4 t n) (bit 0x4) (λ z. ap (λ (x : List (List ℕ)). ascii "c=" ++ dns_text x) (w.c z))
    (opt_same (dns_host m.flags) (dns_host n.flags) _ _ (words5 s m) (words5 t n) (bit 0x8) (λ z. ap (λ (x : List (List ℕ)). ascii "d=" ++ dns_text x) (w.d z))
    (opt_same (utf8_computer m.flags) (utf8_computer n.flags) _ _ [] [] (bit 0x10) (λ z. ap (λ (x : List (List ℕ)). ascii "e=" ++ dns_text x) (w.e z)) refl)))))
  where
    bit : (mask : ℕ) → has m.flags.bits mask ≡ has n.flags.bits mask
    bit mask = ap (λ (x : ℕ). has x mask) w.flags

pub nl_auth_line_shows : NlAuthLineShows
unfolding nl_auth_line
nl_auth_line_shows s t m n p q h k =
    rw (h, k) (λ e. nl_told s t m n p q h k e, λ w. same_line _ _ _ _ _ (nl_line_lem s m) (nl_line_lem t n) (same_nl s t m n w))
