-- The scheme word, the spaces and the text of a line.
use Prim.Native.Nat.{ℕ, zero, suc, ◌-◌, ◌≤◌}
use mathlib.Core.Path.{◌≡◌, refl, sym, ap, ap₂, ◌∙◌, subst}
use mathlib.Core.Logic.{inl, inr}
use mathlib.Core.Bool.{Bool, true, false, cond, ◌&&◌}
use mathlib.Core.List.{List, [], ◌∷◌, ◌++◌}
use native.Mathlib.Omega.{arith}
use lib.Dec.{eqb, leb}
use lib.ListN.{length, get_or, drop, replicate}
use borrow.Author.Tests.{eqb-true, eqb-false, eq-eqb, ne_eqb, leb-true, le-leb}
use Rattle.wire.specs.Text.{ascii}
use Rattle.wire.specs.declared.check.Checked.TheVariants.{Held}
use Rattle.wire.proofs.Laws.{held_true}
use Rattle.wire.proofs.Bools.{and_left, and_right}
use Rattle.http_header_line.specs.HttpHeader.{upper, scheme_holds, after_spaces, text_after_scheme}
use Rattle.demands.specs.HeaderLine.{InCase, SchemeAt, TextAfter, TextIsThere, EqualIgnoringCase, LineOf}

-- ---- letters

-- a capital among the 26, in either case, is that capital in upper case
pub up : (k c : ℕ) → 65 ≤ k → k ≤ 90 → InCase k c → upper c ≡ k
up k c l h (inl e) = go (leb 97 c) (leb c 122) refl where
  go : (x y : Bool) → leb 97 c ≡ x → cond (x && y) (c - 32) c ≡ k
  go true y p = absurd (omega (arith, leb-true 97 c p, e))
  go false y p = e
up k c l h (inr e) =
    simp (le-leb 97 c (omega (arith, e)), le-leb c 122 (omega (arith, e))) (let z : c - 32 ≡ k = omega (arith, e) in z)

pub down : (k c : ℕ) → 65 ≤ k → k ≤ 90 → upper c ≡ k → InCase k c
down k c l h = go (leb 97 c) (leb c 122) refl refl where
  go : (x y : Bool) → leb 97 c ≡ x → leb c 122 ≡ y → cond (x && y) (c - 32) c ≡ k → InCase k c
  go true true p q e = inr (omega (arith, leb-true 97 c p, e))
  go true false p q e = inl e
  go false y p q e = inl e

-- ---- check 57

five_long : (t : List ℕ) → get_or t 4 0 ≡ 0x20 → 5 ≤ length t
five_long [] h = absurd (omega (arith, h))
five_long (a ∷ []) h = absurd (omega (arith, h))
five_long (a ∷ b ∷ []) h = absurd (omega (arith, h))
five_long (a ∷ b ∷ c ∷ []) h = absurd (omega (arith, h))
five_long (a ∷ b ∷ c ∷ d ∷ []) h = absurd (omega (arith, h))
five_long (a ∷ b ∷ c ∷ d ∷ e ∷ t) h = omega arith

pub scheme_held : (t : List ℕ) → SchemeAt t → scheme_holds t ≡ Held
unfolding scheme_holds
scheme_held t s =
    simp (
      le-leb 5 (length t) (five_long t s.space),
      up 0x4E (get_or t 0 0) (omega arith) (omega arith) s.letter_n,
      up 0x54 (get_or t 1 0) (omega arith) (omega arith) s.letter_t,
      up 0x4C (get_or t 2 0) (omega arith) (omega arith) s.letter_l,
      up 0x4D (get_or t 3 0) (omega arith) (omega arith) s.letter_m,
      s.space,
    )

pub held_scheme : (t : List ℕ) → scheme_holds t ≡ Held → SchemeAt t
unfolding scheme_holds
held_scheme t h =
    let p0 : Bool = leb 5 (length t) in
    let p1 : Bool = p0 && eqb (upper (get_or t 0 0)) 0x4E in
    let p2 : Bool = p1 && eqb (upper (get_or t 1 0)) 0x54 in
    let p3 : Bool = p2 && eqb (upper (get_or t 2 0)) 0x4C in
    let p4 : Bool = p3 && eqb (upper (get_or t 3 0)) 0x4D in
    let h5 = held_true (p4 && eqb (get_or t 4 0) 0x20) h in
    let h4 = and_left p4 (eqb (get_or t 4 0) 0x20) h5 in
    let h3 = and_left p3 (eqb (upper (get_or t 3 0)) 0x4D) h4 in
    let h2 = and_left p2 (eqb (upper (get_or t 2 0)) 0x4C) h3 in
    let h1 = and_left p1 (eqb (upper (get_or t 1 0)) 0x54) h2 in
    record {
      letter_n = down 0x4E (get_or t 0 0) (omega arith) (omega arith) (eqb-true (upper (get_or t 0 0)) 0x4E (and_right p0 (eqb (upper (get_or t 0 0)) 0x4E) h1));
      letter_t = down 0x54 (get_or t 1 0) (omega arith) (omega arith) (eqb-true (upper (get_or t 1 0)) 0x54 (and_right p1 (eqb (upper (get_or t 1 0)) 0x54) h2));
      letter_l = down 0x4C (get_or t 2 0) (omega arith) (omega arith) (eqb-true (upper (get_or t 2 0)) 0x4C (and_right p2 (eqb (upper (get_or t 2 0)) 0x4C) h3));
      letter_m = down 0x4D (get_or t 3 0) (omega arith) (omega arith) (eqb-true (upper (get_or t 3 0)) 0x4D (and_right p3 (eqb (upper (get_or t 3 0)) 0x4D) h4));
      space = eqb-true (get_or t 4 0) 0x20 (and_right p4 (eqb (get_or t 4 0) 0x20) h5);
    }

-- ---- the spaces

pub spaced : (s : List ℕ) → (n : ℕ) × (s ≡ replicate n 0x20 ++ after_spaces s)
spaced [] = (0, refl)
spaced (c ∷ s) = go (eqb c 0x20) refl (spaced s) where
  go : (b : Bool) → eqb c 0x20 ≡ b → ((n : ℕ) × (s ≡ replicate n 0x20 ++ after_spaces s)) →
      (n : ℕ) × (c ∷ s ≡ replicate n 0x20 ++ cond b (after_spaces s) (c ∷ s))
  go true e r = (suc r.0, ap₂ (λ (x : ℕ) (y : List ℕ). x ∷ y) (eqb-true c 0x20 e) r.1)
  go false e r = (0, refl)

-- no space is left in front
pub none_left : (s : List ℕ) → get_or (after_spaces s) 0 0 ≡ 0x20 → ⊥
none_left [] h = omega (arith, h)
none_left (c ∷ s) h = go (eqb c 0x20) refl (none_left s) h where
  go : (b : Bool) → eqb c 0x20 ≡ b → (get_or (after_spaces s) 0 0 ≡ 0x20 → ⊥) → get_or (cond b (after_spaces s) (c ∷ s)) 0 0 ≡ 0x20 → ⊥
  go true e i h = i h
  go false e i h = eqb-false c 0x20 e h

-- spaces in front go, and nothing of what has none there
pub spaces_go : (n : ℕ) (b : List ℕ) → after_spaces (replicate n 0x20 ++ b) ≡ after_spaces b
spaces_go zero b = refl
spaces_go (suc n) b = spaces_go n b

pub starts_so : (b : List ℕ) → (get_or b 0 0 ≡ 0x20 → ⊥) → after_spaces b ≡ b
starts_so [] h = refl
starts_so (c ∷ b) h = simp (ne_eqb c 0x20 h)

pub text_is : (t b : List ℕ) → TextAfter t b → b ≡ text_after_scheme t
unfolding text_after_scheme
text_is t b a = sym (ap after_spaces a.split ∙ spaces_go a.spaces b ∙ starts_so b a.no_space)

pub text_is_there : TextIsThere
unfolding text_after_scheme
text_is_there t =
    record {
      text = text_after_scheme t;
      follows = record { spaces = (spaced (drop 4 t)).0; split = (spaced (drop 4 t)).1; no_space = none_left (drop 4 t) };
      only = λ b a. text_is t b a;
    }

-- ---- a line of a word, spaces and a text

-- a line with its scheme word is one, of the text that follows
pub line_of : (t : List ℕ) → SchemeAt t → LineOf (text_after_scheme t) t
unfolding text_after_scheme
line_of [] s = absurd (omega (arith, s.space))
line_of (a ∷ []) s = absurd (omega (arith, s.space))
line_of (a ∷ b ∷ []) s = absurd (omega (arith, s.space))
line_of (a ∷ b ∷ c ∷ []) s = absurd (omega (arith, s.space))
line_of (a ∷ b ∷ c ∷ d ∷ []) s = absurd (omega (arith, s.space))
line_of (a ∷ b ∷ c ∷ d ∷ e ∷ t) s =
    record {
      word = a ∷ b ∷ c ∷ d ∷ [];
      spaces = suc (spaced t).0;
      letters = (s.letter_n, (s.letter_t, (s.letter_l, (s.letter_m, tt))));
      some = omega arith;
      whole =
          ap₂ (λ (x : ℕ) (y : List ℕ). a ∷ b ∷ c ∷ d ∷ x ∷ y) s.space (spaced t).1
          ∙ ap (λ (y : List ℕ). a ∷ b ∷ c ∷ d ∷ 0x20 ∷ (replicate (spaced t).0 0x20 ++ y)) (sym (simp (eq-eqb e 0x20 s.space)));
    }

-- and back: such a line has its scheme word, and what follows is its text, but for spaces in front
module _ (b : List ℕ) where
  scheme_word : (word : List ℕ) (n : ℕ) → EqualIgnoringCase (ascii "NTLM") word → 1 ≤ n → SchemeAt (word ++ (replicate n 0x20 ++ b))
  scheme_word [] n w l = absurd w
  scheme_word (x ∷ []) n w l = absurd w.1
  scheme_word (x ∷ y ∷ []) n w l = absurd w.1.1
  scheme_word (x ∷ y ∷ z ∷ []) n w l = absurd w.1.1.1
  scheme_word (x ∷ y ∷ z ∷ u ∷ v ∷ word) n w l = absurd w.1.1.1.1
  scheme_word (x ∷ y ∷ z ∷ u ∷ []) zero w l = absurd (omega (arith, l))
  scheme_word (x ∷ y ∷ z ∷ u ∷ []) (suc n) w l =
      record { letter_n = w.0; letter_t = w.1.0; letter_l = w.1.1.0; letter_m = w.1.1.1.0; space = refl }

  word_text : (word : List ℕ) (n : ℕ) → EqualIgnoringCase (ascii "NTLM") word → text_after_scheme (word ++ (replicate n 0x20 ++ b)) ≡ after_spaces b
  unfolding text_after_scheme
  word_text [] n w = absurd w
  word_text (x ∷ []) n w = absurd w.1
  word_text (x ∷ y ∷ []) n w = absurd w.1.1
  word_text (x ∷ y ∷ z ∷ []) n w = absurd w.1.1.1
  word_text (x ∷ y ∷ z ∷ u ∷ v ∷ word) n w = absurd w.1.1.1.1
  word_text (x ∷ y ∷ z ∷ u ∷ []) n w = spaces_go n b

  pub line_scheme : (t : List ℕ) → LineOf b t → scheme_holds t ≡ Held
  line_scheme t l = scheme_held t (subst SchemeAt (sym l.whole) (scheme_word l.word l.spaces l.letters l.some))

  pub line_text : (t : List ℕ) → LineOf b t → text_after_scheme t ≡ after_spaces b
  line_text t l = ap text_after_scheme l.whole ∙ word_text l.word l.spaces l.letters
