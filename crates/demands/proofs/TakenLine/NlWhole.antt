-- The line of NL_AUTH, whole.
use Rattle.std.specs.Prelude.{Result, Ok, Err}
use Rattle.wire.specs.declared.refusal.Refusal.{Refusal}
use Prim.Native.Nat.{ℕ, ◌/◌, ◌%◌}
use mathlib.Core.Path.{◌≡◌, refl, sym, ap, ◌∙◌, subst}
use mathlib.Core.Logic.{◌⊎◌, inl, inr, ⊎_elim}
use mathlib.Core.Bool.{Bool, true, false, not, cond}
use mathlib.Core.List.{List, [], ◌∷◌, ◌++◌, append-nil}
use native.Mathlib.Omega.{arith}
use lib.Dec.{eqb}
use borrow.Author.Tests.{eq-eqb, ne_eqb}
use Rattle.wire.specs.Text.{ascii}
use Rattle.wire.proofs.Bools.{and_both}
use Rattle.wire.specs.Number.{has, u32_at}
use Rattle.line_words.specs.Digits.{hex, decimal}
use Rattle.line_words.specs.Name.{plain, escape, name_text}
use Rattle.line_words.specs.Words.{number_word, string_word, flags_word}
use Rattle.line_dns_name.specs.DnsNameText.{byte_text, label_text, part_text, joined, dns_name_text as dns_text}
use Rattle.nl_auth_flags.specs.Flags.{nb_domain, nb_computer, dns_domain, dns_host, utf8_computer}
use Rattle.read_nl_auth.specs.declared.NlAuth.{NlAuth}
use Rattle.read_nl_auth.specs.declared.string.NlString.{NlString}
use Rattle.read_nl_auth.specs.NlAuth.{string_bytes, labels_of, read_nl_auth}
use Rattle.line_nl_string.specs.StringText.{oem_text, utf8_text}
use Rattle.line.specs.Line.{nl_auth_line}
use Rattle.demands.specs.Message.{FlagSet}
use Rattle.demands.specs.NlAuth.{type_of, mask_of, BitSet}
use Rattle.demands.specs.OwnBytes.{OwnString, OwnName, OwnRequest, OwnResponse}
use Rattle.demands.specs.TakenExactly.{IsTaken, nl_verdict}
use Rattle.demands.proofs.Bools.{true_not_false, bit1, bit2, bit4, bit8, bit16}
use Rattle.demands.proofs.NlAuth.{nl_auth_own}
use Rattle.demands.proofs.LineShows.LabelsShown.{alone, byte_is, alone_plain, alone_no_stop}
use Rattle.demands.proofs.LineShows.NlShown.{nl_parts}
use Rattle.demands.proofs.TakenLine.{plain_itself, itself_plain, bytes_shown}
use Rattle.demands.specs.TakenLine.{together, ForItself, byte_escape, UnitsShown, InLabel, LabelsShown, OemShown, DnsShown, WordShown, NlLine, NlLineWhole}

-- ---- the text of a name

byte_shown : (b : ℕ) (rest : List ℕ) →
    (InLabel b × (byte_text b ++ rest ≡ b ∷ rest)) ⊎ ((InLabel b → ⊥) × (byte_text b ++ rest ≡ byte_escape b ++ rest))
unfolding escape
byte_shown b rest = go (alone b) refl where
  by : (t : Bool) → alone b ≡ t → byte_text b ++ rest ≡ cond t (b ∷ []) (escape false b) ++ rest
  by t e = ap (λ (x : List ℕ). x ++ rest) (byte_is b ∙ ap (λ (x : Bool). cond x (b ∷ []) (escape false b)) e)

  in_label : InLabel b → alone b ≡ true
  in_label w = and_both (plain b) (not (eqb b 0x2E)) (itself_plain b w.0) (ap not (ne_eqb b 0x2E w.1))

  go : (t : Bool) → alone b ≡ t → (InLabel b × (byte_text b ++ rest ≡ b ∷ rest)) ⊎ ((InLabel b → ⊥) × (byte_text b ++ rest ≡ byte_escape b ++ rest))
  go true e = inl ((plain_itself b (alone_plain b e), alone_no_stop b e), by true e)
  go false e = inr (λ w. true_not_false (sym (in_label w) ∙ e), by false e)

label_shown : (l : List ℕ) → UnitsShown InLabel byte_escape l (label_text l)
unfolding label_text
label_shown [] = refl
label_shown (b ∷ bs) = (label_text bs, label_shown bs, byte_shown b (label_text bs))

labels_shown : (ls : List (List ℕ)) → LabelsShown ls (dns_text ls)
unfolding dns_text joined part_text
labels_shown [] = refl
labels_shown (l ∷ []) = subst (λ (x : List ℕ). UnitsShown InLabel byte_escape l x) (sym (append-nil (label_text l))) (label_shown l)
labels_shown (l ∷ m ∷ ls) = (label_text l, dns_text (m ∷ ls), label_shown l, labels_shown (m ∷ ls), refl)

-- ---- a word under its bit

word_shown : (flags i : ℕ) (label text : List ℕ) (Shows : List ℕ → Type 0) → (FlagSet flags (mask_of i) → Shows text) →
    WordShown flags i label Shows (string_word label (has flags (mask_of i)) text)
unfolding string_word
word_shown flags i label text Shows f =
    record {
      there = λ z. (text, f z, ap (λ (t : Bool). cond t (label ++ text) []) (eq-eqb (flags / mask_of i % 2) 1 z));
      left_out = λ n. ap (λ (t : Bool). cond t (label ++ text) []) (ne_eqb (flags / mask_of i % 2) 1 n);
    }

module _ (s : List ℕ) (m : NlAuth) (h : read_nl_auth s ≡ Ok m) where
  -- a bit that the answer has is the request's
  asked : (A : Type 0) (mask : ℕ) → u32_at s 4 % 32 / mask % 2 ≡ u32_at s 4 / mask % 2 → (0 / mask % 2 ≡ 1 → ⊥) →
      (OwnRequest s m → BitSet s mask → A) → FlagSet m.flags.bits mask → A
  asked A mask bit none f on = go (nl_auth_own s m h) where
    go : ((type_of s ≡ 0) × OwnRequest s m) ⊎ ((type_of s ≡ 1) × OwnResponse s m) → A
    go (inl o) = f o.1 (sym bit ∙ ap (λ (z : ℕ). z / mask % 2) (sym o.1.flags) ∙ on)
    go (inr o) = absurd (none (ap (λ (z : ℕ). z / mask % 2) (sym o.1.flags) ∙ on))

  oem_shown : (i : ℕ) (x : NlString) → OwnString s i x → BitSet s (mask_of i) → OemShown s i (oem_text s x)
  unfolding oem_text name_text
  oem_shown i x o z =
      let t = o.there z in
      (t.0, t.1, t.2, t.3, subst (λ (b : List ℕ). UnitsShown ForItself byte_escape b (name_text false (string_bytes s x))) t.6 (bytes_shown (string_bytes s x)))

  dns_shown : (i : ℕ) (x : NlString) → OwnName s i x → BitSet s (mask_of i) → DnsShown s i (utf8_text s x)
  unfolding utf8_text
  dns_shown i x o z =
      let t = o.there z in
      record {
        place = x.offset;
        labels = labels_of s x;
        jumps = x.jumps;
        next = t.next;
        starts = t.starts;
        name = t.name;
        shown = labels_shown (labels_of s x);
      }

  nl_together : (t u : ℕ) (a b c d e : List ℕ) → t ≡ u →
      number_word (ascii "nl type=") t ++ (flags_word m.flags.bits ++ (a ++ (b ++ (c ++ (d ++ (e ++ (0x0A ∷ [])))))))
      ≡ together (ascii "nl type=" ∷ decimal u ∷ ascii " flags=" ∷ hex 8 m.flags.bits ∷ a ∷ b ∷ c ∷ d ∷ e ∷ (0x0A ∷ []) ∷ [])
  unfolding number_word flags_word
  nl_together t u a b c d e p = simp p

  type_is : m.message_type ≡ type_of s
  type_is = ⊎_elim (λ o. o.1.message_type ∙ sym o.0) (λ o. o.1.message_type ∙ sym o.0) (nl_auth_own s m h)

  flags_of : (t : ℕ) (A : Type 0) → type_of s ≡ t → (OwnRequest s m → t ≡ 0 → A) → (OwnResponse s m → t ≡ 1 → A) → A
  flags_of t A e f g = ⊎_elim (λ o. f o.1 (sym e ∙ o.0)) (λ o. g o.1 (sym e ∙ o.0)) (nl_auth_own s m h)

  nl_whole : NlLine s (nl_auth_line s)
  unfolding nl_auth_line
  nl_whole =
      record {
        flags = m.flags.bits;
        a = string_word (ascii " a=") (nb_domain m.flags) (oem_text s m.strings.nb_domain);
        b = string_word (ascii " b=") (nb_computer m.flags) (oem_text s m.strings.nb_computer);
        c = string_word (ascii " c=") (dns_domain m.flags) (utf8_text s m.strings.dns_domain);
        d = string_word (ascii " d=") (dns_host m.flags) (utf8_text s m.strings.dns_host);
        e = string_word (ascii " e=") (utf8_computer m.flags) (utf8_text s m.strings.utf8_computer);
        line_is = rw h (nl_parts s m ∙ nl_together m.message_type (type_of s)
            (string_word (ascii " a=") (nb_domain m.flags) (oem_text s m.strings.nb_domain))
            (string_word (ascii " b=") (nb_computer m.flags) (oem_text s m.strings.nb_computer))
            (string_word (ascii " c=") (dns_domain m.flags) (utf8_text s m.strings.dns_domain))
            (string_word (ascii " d=") (dns_host m.flags) (utf8_text s m.strings.dns_host))
            (string_word (ascii " e=") (utf8_computer m.flags) (utf8_text s m.strings.utf8_computer))
            type_is);
        request = λ e. flags_of 0 (m.flags.bits ≡ u32_at s 4 % 32) e (λ o z. o.flags) (λ o z. absurd (omega (arith, z)));
        response = λ e. flags_of 1 (m.flags.bits ≡ 0) e (λ o z. absurd (omega (arith, z))) (λ o z. o.flags);
        type = ⊎_elim (λ o. inl o.0) (λ o. inr o.0) (nl_auth_own s m h);
        a_is = word_shown m.flags.bits 1 (ascii " a=") (oem_text s m.strings.nb_domain) (OemShown s 1)
            (asked (OemShown s 1 (oem_text s m.strings.nb_domain)) 0x1 (bit1 (u32_at s 4)) (λ e. omega arith) (λ o z. oem_shown 1 m.strings.nb_domain o.a z));
        b_is = word_shown m.flags.bits 2 (ascii " b=") (oem_text s m.strings.nb_computer) (OemShown s 2)
            (asked (OemShown s 2 (oem_text s m.strings.nb_computer)) 0x2 (bit2 (u32_at s 4)) (λ e. omega arith) (λ o z. oem_shown 2 m.strings.nb_computer o.b z));
        c_is = word_shown m.flags.bits 3 (ascii " c=") (utf8_text s m.strings.dns_domain) (DnsShown s 3)
            (asked (DnsShown s 3 (utf8_text s m.strings.dns_domain)) 0x4 (bit4 (u32_at s 4)) (λ e. omega arith) (λ o z. dns_shown 3 m.strings.dns_domain o.c z));
        d_is = word_shown m.flags.bits 4 (ascii " d=") (utf8_text s m.strings.dns_host) (DnsShown s 4)
            (asked (DnsShown s 4 (utf8_text s m.strings.dns_host)) 0x8 (bit8 (u32_at s 4)) (λ e. omega arith) (λ o z. dns_shown 4 m.strings.dns_host o.d z));
        e_is = word_shown m.flags.bits 5 (ascii " e=") (utf8_text s m.strings.utf8_computer) (DnsShown s 5)
            (asked (DnsShown s 5 (utf8_text s m.strings.utf8_computer)) 0x10 (bit16 (u32_at s 4)) (λ e. omega arith) (λ o z. dns_shown 5 m.strings.utf8_computer o.e z));
      }

pub nl_line_whole : NlLineWhole
nl_line_whole s t = go (read_nl_auth s) refl t where
  go : (r : Result NlAuth Refusal) → read_nl_auth s ≡ r → IsTaken (nl_verdict r) → NlLine s (nl_auth_line s)
  go (Ok m) h i = nl_whole s m h
  go (Err e) h i = absurd i
