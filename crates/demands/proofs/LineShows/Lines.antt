-- The lines of the forms, each by its words.
use Rattle.std.specs.Prelude.{Option, Some, None}
use Prim.Native.Nat.{ℕ}
use mathlib.Core.Path.{◌≡◌, refl, sym, ap, ◌∙◌}
use mathlib.Core.Bool.{Bool, true, false, cond}
use mathlib.Core.List.{List, [], ◌∷◌, ◌++◌, append_assoc}
use lib.Dec.{leb, eqb}
use lib.ListN.{length, drop}
use lib.Seq.{drop_at}
use Rattle.wire.specs.Text.{ascii}
use Rattle.wire.specs.declared.refusal.Refusal.{Refusal}
use Rattle.wire.specs.Refusal.{number_of, field_of, place_of}
use Rattle.field.specs.declared.Field.{Field}
use Rattle.field.specs.Field.{field_bytes}
use Rattle.negotiate_flags.specs.declared.NegotiateFlags.{NegotiateFlags}
use Rattle.negotiate_flags.specs.Flags.{unicode}
use Rattle.line_words.specs.Digits.{hex, decimal}
use Rattle.line_words.specs.Name.{name_text}
use Rattle.line_words.specs.Words.{number_word, name_word, start_text, flags_word, set_word, mic_word, kind_word}
use Rattle.line_max.specs.Max.{max_digit, max_digits, max_word, max_end}
use Rattle.line_refused.specs.Refused.{refused_end, refused_text, refused_line}
use Rattle.line_negotiate.specs.Nego.{nego_names, nego_text}
use Rattle.line_authenticate.specs.Auth.{auth_names, auth_lengths, auth_end, auth_text}
use Rattle.line_challenge.specs.Chal.{time_text, time_word, chal_end, chal_words}
use Rattle.read_negotiate.specs.declared.Negotiate.{Negotiate}
use Rattle.read_negotiate.specs.Negotiate.{all_fields}
use Rattle.read_authenticate.specs.declared.Authenticate.{Authenticate}
use Rattle.read_authenticate.specs.Authenticate as A
use Rattle.read_challenge.specs.declared.Challenge.{Challenge}
use Rattle.read_challenge.specs.Challenge as C
use Rattle.demands.proofs.LineShows.Words.{visible, IsLine}
use Rattle.demands.proofs.LineShows.Names.{hex_visible, decimal_visible, name_is_visible}

-- ---- words of one of a few texts

abbrev pub set_text : Bool → List ℕ
set_text b = cond b (ascii "set=U") (ascii "set=O")

set_is : (b : Bool) → set_word b ≡ 0x20 ∷ set_text b
unfolding set_word
set_is true = refl
set_is false = refl

set-visible : (b : Bool) → visible (set_text b) ≡ true
set-visible true = refl
set-visible false = refl

abbrev pub mic_text : Bool → List ℕ
mic_text b = cond b (ascii "mic=1") (ascii "mic=0")

mic_is : (b : Bool) → mic_word b ≡ 0x20 ∷ mic_text b
unfolding mic_word
mic_is true = refl
mic_is false = refl

mic_visible : (b : Bool) → visible (mic_text b) ≡ true
mic_visible true = refl
mic_visible false = refl

abbrev kind_by : Bool → Bool → Bool → List ℕ
kind_by a b c = cond a (ascii "kind=none") (cond b (ascii "kind=v1") (cond c (ascii "kind=v2") (ascii "kind=odd")))

unfoldable pub kind_text : ℕ → List ℕ
kind_text nt = kind_by (eqb nt 0) (eqb nt 24) (leb 44 nt)

kind_is : (nt : ℕ) → kind_word nt ≡ 0x20 ∷ kind_text nt
unfolding kind_word kind_text
kind_is nt = go (eqb nt 0) (eqb nt 24) (leb 44 nt) where
  go : (a b c : Bool) →
      cond a (ascii " kind=none") (cond b (ascii " kind=v1") (cond c (ascii " kind=v2") (ascii " kind=odd"))) ≡ 0x20 ∷ kind_by a b c
  go true b c = refl
  go false true c = refl
  go false false true = refl
  go false false false = refl

kind_visible : (nt : ℕ) → visible (kind_text nt) ≡ true
unfolding kind_text
kind_visible nt = go (eqb nt 0) (eqb nt 24) (leb 44 nt) where
  go : (a b c : Bool) → visible (kind_by a b c) ≡ true
  go true b c = refl
  go false true c = refl
  go false false true = refl
  go false false false = refl

max_visible : (fs : List (ℕ × Field)) → visible (max_digits fs) ≡ true
unfolding max_digit
max_visible [] = refl
max_visible (f ∷ fs) = go (eqb f.1.max_len f.1.len) (max_visible fs) where
  go : (b : Bool) → visible (max_digits fs) ≡ true → visible (cond b 0x30 0x31 ∷ max_digits fs) ≡ true
  go true h = h
  go false h = h

-- ---- a refusal

abbrev pub refused_words : ℕ → ℕ → ℕ → List (List ℕ)
refused_words number field place = decimal number ∷ (ascii "field=" ++ decimal field) ∷ (ascii "at=" ++ decimal place) ∷ []

pub refused_line_lem : (e : Refusal) → IsLine (refused_line e) (ascii "refused") (refused_words (number_of e) (field_of e) (place_of e))
unfolding refused_line refused_text refused_end number_word
refused_line_lem e = record { line_is = simp append_assoc; first_visible = refl; words_visible = simp decimal_visible }

-- ---- NEGOTIATE

abbrev pub nego_words : List ℕ → Negotiate → List (List ℕ)
nego_words s m =
    (ascii "flags=" ++ hex 8 m.flags.bits) ∷
    (ascii "domain=" ++ name_text false (field_bytes s m.fields.domain)) ∷
    (ascii "work=" ++ name_text false (field_bytes s m.fields.workstation)) ∷
    (ascii "max=" ++ max_digits (all_fields m.fields)) ∷
    []

nego_parts : (s : List ℕ) (m : Negotiate) →
    nego_text s m
    ≡ ascii "nego" ++ (
    flags_word m.flags.bits ++ (
    name_word (ascii " domain=") false (field_bytes s m.fields.domain) ++ (
    name_word (ascii " work=") false (field_bytes s m.fields.workstation) ++
    max_end (all_fields m.fields))))
unfolding nego_text nego_names
nego_parts s m = simp append_assoc

pub nego_line_lem : (s : List ℕ) (m : Negotiate) → IsLine (nego_text s m) (ascii "nego") (nego_words s m)
unfolding flags_word name_word max_end max_word
nego_line_lem s m = record { line_is = nego_parts s m; first_visible = refl; words_visible = simp (hex_visible, name_is_visible, max_visible) }

-- ---- AUTHENTICATE

-- the start that it has in common with CHALLENGE
started : (label : List ℕ) (flags : NegotiateFlags) (b : Bool) (rest : List ℕ) →
    start_text label flags b ++ rest ≡ label ++ (flags_word flags.bits ++ (set_word b ++ rest))
unfolding start_text
started label flags b rest = simp append_assoc

abbrev pub auth_words : List ℕ → Authenticate → List (List ℕ)
auth_words s a =
    (ascii "flags=" ++ hex 8 a.flags.bits) ∷
    set_text (unicode a.flags) ∷
    (ascii "domain=" ++ name_text (unicode a.flags) (field_bytes s a.fields.domain)) ∷
    (ascii "user=" ++ name_text (unicode a.flags) (field_bytes s a.fields.user)) ∷
    (ascii "work=" ++ name_text (unicode a.flags) (field_bytes s a.fields.workstation)) ∷
    (ascii "lm=" ++ decimal a.fields.lm.len) ∷
    (ascii "nt=" ++ decimal a.fields.nt.len) ∷
    (ascii "key=" ++ decimal a.fields.key.len) ∷
    mic_text a.mic_present ∷
    kind_text a.fields.nt.len ∷
    (ascii "max=" ++ max_digits (A.all_fields a.fields)) ∷
    []

auth_parts : (s : List ℕ) (a : Authenticate) →
    auth_text s a
    ≡ ascii "auth" ++ (
    flags_word a.flags.bits ++ (
    set_word (unicode a.flags) ++ (
    name_word (ascii " domain=") (unicode a.flags) (field_bytes s a.fields.domain) ++ (
    name_word (ascii " user=") (unicode a.flags) (field_bytes s a.fields.user) ++ (
    name_word (ascii " work=") (unicode a.flags) (field_bytes s a.fields.workstation) ++ (
    number_word (ascii " lm=") a.fields.lm.len ++ (
    number_word (ascii " nt=") a.fields.nt.len ++ (
    number_word (ascii " key=") a.fields.key.len ++ (
    mic_word a.mic_present ++ (
    kind_word a.fields.nt.len ++
    max_end (A.all_fields a.fields)))))))))))
unfolding auth_text auth_names auth_lengths auth_end
auth_parts s a = simp (started, append_assoc)

pub auth_line_lem : (s : List ℕ) (a : Authenticate) → IsLine (auth_text s a) (ascii "auth") (auth_words s a)
unfolding flags_word name_word number_word max_end max_word
auth_line_lem s a =
    record {
      line_is = auth_parts s a ∙ simp (set_is, mic_is, kind_is);
      first_visible = refl;
      words_visible = simp (hex_visible, set-visible, name_is_visible, decimal_visible, mic_visible, kind_visible, max_visible);
    }

-- ---- CHALLENGE

-- with no timestamp its word is left out
abbrev pub time_first : Option ℕ → List (List ℕ) → List (List ℕ)
time_first (Some t) ws = (ascii "time=" ++ hex 16 t) ∷ ws
time_first None ws = ws

abbrev pub chal_words_of : List ℕ → Challenge → ℕ → Option ℕ → List (List ℕ)
chal_words_of s c pairs time =
    (ascii "flags=" ++ hex 8 c.flags.bits) ∷
    set_text (unicode c.flags) ∷
    (ascii "target=" ++ name_text (unicode c.flags) (field_bytes s c.fields.target_name)) ∷
    (ascii "pairs=" ++ decimal pairs) ∷
    time_first time ((ascii "max=" ++ max_digits (C.all_fields c.fields)) ∷ [])

chal_parts : (s : List ℕ) (c : Challenge) (pairs : ℕ) (time : Option ℕ) →
    chal_words (unicode c.flags) s c pairs time
    ≡ ascii "chal" ++ (
    flags_word c.flags.bits ++ (
    set_word (unicode c.flags) ++ (
    name_word (ascii " target=") (unicode c.flags) (field_bytes s c.fields.target_name) ++ (
    number_word (ascii " pairs=") pairs ++ (
    time_word time ++
    max_end (C.all_fields c.fields))))))
unfolding chal_words chal_end
chal_parts s c pairs time = simp started

pub chal_line_lem : (s : List ℕ) (c : Challenge) (pairs : ℕ) (time : Option ℕ) →
    IsLine (chal_words (unicode c.flags) s c pairs time) (ascii "chal") (chal_words_of s c pairs time)
unfolding flags_word name_word number_word time_word time_text max_end max_word
chal_line_lem s c pairs (Some t) =
    record {
      line_is = chal_parts s c pairs (Some t) ∙ simp set_is;
      first_visible = refl;
      words_visible = simp (hex_visible, set-visible, name_is_visible, decimal_visible, max_visible);
    }
chal_line_lem s c pairs None =
    record {
      line_is = chal_parts s c pairs None ∙ simp set_is;
      first_visible = refl;
      words_visible = simp (hex_visible, set-visible, name_is_visible, decimal_visible, max_visible);
    }

-- ---- a word past its label

pub past : (label a b : List ℕ) → label ++ a ≡ label ++ b → a ≡ b
past label a b e = sym (drop_at label a (length label) refl) ∙ ap (λ (t : List ℕ). drop (length label) t) e ∙ drop_at label b (length label) refl
