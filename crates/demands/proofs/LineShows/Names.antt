-- A number's digits show which it is, and a name's text shows the name.
use Prim.Native.Nat.{ℕ, zero, suc, ◌+◌, ◌*◌, ◌%◌, ◌^◌, ◌≤◌, ◌<◌}
use mathlib.Core.Path.{◌≡◌, refl, sym, ap, ◌∙◌}
use mathlib.Core.Logic.{inl, inr}
use mathlib.Core.Bool.{Bool, true, false, ◌&&◌, not, cond}
use mathlib.Core.List.{List, [], ◌∷◌, ◌++◌}
use native.Mathlib.Omega.{arith}
use lib.Dec.{leb, eqb}
use lib.ListN.{length, get_or, take, drop}
use lib.Seq.{take_at, drop_at}
use borrow.Author.Tests.{leb-true, eq-eqb}
use Rattle.wire.proofs.Bools.{and_left, and_right}
use Rattle.line_words.specs.Digits.{hex, decimal}
use Rattle.line_words.specs.Name.{plain, escape, unit_text, text_of, numbers16, units, name_text}
use Rattle.demands.specs.Digits.{IsHexDigit, digits_value}
use Rattle.demands.specs.HeaderLine.{Bytes}
use Rattle.demands.proofs.Bools.{true_not_false}
use Rattle.demands.proofs.Digits.{decimal_has_value, hex_has_value}
use Rattle.demands.specs.LineShows.{NameShows, NameVisible}
use Rattle.demands.proofs.LineShows.Words.{visible, within_both, within_at, within_all, heads, tails}

-- ---- numbers

pub hex_shows : (k m n : ℕ) → m < 16 ^ k → n < 16 ^ k → hex k m ≡ hex k n → m ≡ n
hex_shows k m n l r e = sym ((hex_has_value k m).value l) ∙ ap (λ (t : List ℕ). digits_value 16 t) e ∙ (hex_has_value k n).value r

pub decimal_shows : (m n : ℕ) → decimal m ≡ decimal n → m ≡ n
decimal_shows m n e = sym (decimal_has_value m).value ∙ ap (λ (t : List ℕ). digits_value 10 t) e ∙ (decimal_has_value n).value

hex_digit_visible : (c : ℕ) → IsHexDigit c → (0x21 ≤ c) × (c ≤ 0x7E)
hex_digit_visible c (inl h) = (omega (arith, h.0), omega (arith, h.1))
hex_digit_visible c (inr h) = (omega (arith, h.0), omega (arith, h.1))

pub hex_visible : (k n : ℕ) → visible (hex k n) ≡ true
hex_visible k n =
    let h = hex_has_value k n in
    within_all 0x21 (hex k n) (λ i l. hex_digit_visible (get_or (hex k n) i 0) (h.digits i (omega (arith, h.count))))

pub decimal_visible : (n : ℕ) → visible (decimal n) ≡ true
decimal_visible n =
    within_all 0x21 (decimal n) (λ i l. hex_digit_visible (get_or (decimal n) i 0) (inl ((decimal_has_value n).digits i l)))

-- ---- one unit: itself, or an escape

same_front : (a b u v : List ℕ) → length a ≡ length b → a ++ u ≡ b ++ v → (a ≡ b) × (u ≡ v)
same_front a b u v l e = (
  sym (take_at a u (length a) refl) ∙ ap (λ (t : List ℕ). take (length a) t) e ∙ take_at b v (length a) (sym l),
  sym (drop_at a u (length a) refl) ∙ ap (λ (t : List ℕ). drop (length a) t) e ∙ drop_at b v (length a) (sym l),
)

abbrev pub width : Bool → ℕ
width true = 4
width false = 2

abbrev mark : Bool → ℕ
mark true = 0x75
mark false = 0x78

pub escape_is : (unicode : Bool) (u : ℕ) → escape unicode u ≡ 0x5C ∷ mark unicode ∷ hex (width unicode) u
unfolding escape
escape_is true u = refl
escape_is false u = refl

-- two units, by whether each stands for itself; a backslash never does
pub coded_shows : (unicode p q : Bool) (u v : ℕ) (r t : List ℕ) → (p ≡ true → u ≡ 0x5C → ⊥) → (q ≡ true → v ≡ 0x5C → ⊥) →
    u < 16 ^ width unicode → v < 16 ^ width unicode →
    cond p (u ∷ []) (escape unicode u) ++ r ≡ cond q (v ∷ []) (escape unicode v) ++ t → (u ≡ v) × (r ≡ t)
coded_shows unicode true true u v r t f g l m e = (heads u v r t e, tails u v r t e)
coded_shows unicode true false u v r t f g l m e =
    absurd (f refl (heads u 0x5C r (mark unicode ∷ (hex (width unicode) v ++ t)) (rw escape_is at e)))
coded_shows unicode false true u v r t f g l m e =
    absurd (g refl (sym (heads 0x5C v (mark unicode ∷ (hex (width unicode) u ++ r)) t (rw escape_is at e))))
coded_shows unicode false false u v r t f g l m e =
    let a : escape unicode u ++ r ≡ 0x5C ∷ mark unicode ∷ (hex (width unicode) u ++ r) = ap (λ (x : List ℕ). x ++ r) (escape_is unicode u) in
    let b : escape unicode v ++ t ≡ 0x5C ∷ mark unicode ∷ (hex (width unicode) v ++ t) = ap (λ (x : List ℕ). x ++ t) (escape_is unicode v) in
    let d = same_front (hex (width unicode) u) (hex (width unicode) v) r t ((hex_has_value (width unicode) u).count ∙ sym (hex_has_value (width unicode) v).count)
    (tails (mark unicode) (mark unicode) (hex (width unicode) u ++ r) (hex (width unicode) v ++ t)
    (tails 0x5C 0x5C (mark unicode ∷ (hex (width unicode) u ++ r)) (mark unicode ∷ (hex (width unicode) v ++ t)) (sym a ∙ e ∙ b))) in
    (hex_shows (width unicode) u v l m d.0, d.1)

pub coded_visible : (unicode p : Bool) (u : ℕ) → (p ≡ true → (0x21 ≤ u) × (u ≤ 0x7E)) → visible (cond p (u ∷ []) (escape unicode u)) ≡ true
coded_visible unicode true u h = within_all 0x21 (u ∷ []) one where
  one : (k : ℕ) → k < 1 → (0x21 ≤ get_or (u ∷ []) k 0) × (get_or (u ∷ []) k 0 ≤ 0x7E)
  one zero l = h refl
  one (suc k) l = absurd (omega arith)
coded_visible true false u h = rw escape_is (hex_visible 4 u)
coded_visible false false u h = rw escape_is (hex_visible 2 u)

-- it has a byte
pub coded_some : (unicode p : Bool) (u : ℕ) (r : List ℕ) → cond p (u ∷ []) (escape unicode u) ++ r ≡ [] → ⊥
coded_some unicode true u r e = let z : ◌≡◌ {A = ℕ} 0 1 = cc in omega arith
coded_some unicode false u r e = let f = rw escape_is at e in let z : ◌≡◌ {A = ℕ} 0 1 = cc in omega arith

module _ (u : ℕ) (h : plain u ≡ true) where
  pub plain_visible : (0x21 ≤ u) × (u ≤ 0x7E)
  plain_visible =
      let a = and_left (leb 0x21 u && leb u 0x7E) (not (eqb u 0x5C)) h in
      (leb-true 0x21 u (and_left (leb 0x21 u) (leb u 0x7E) a), leb-true u 0x7E (and_right (leb 0x21 u) (leb u 0x7E) a))

  pub plain_no_backslash : u ≡ 0x5C → ⊥
  plain_no_backslash e = true_not_false (sym (and_right (leb 0x21 u && leb u 0x7E) (not (eqb u 0x5C)) h) ∙ ap not (eq-eqb u 0x5C e))

-- ---- a name

text_shows : (unicode : Bool) (us vs : List ℕ) → ((i : ℕ) → get_or us i 0 < 16 ^ width unicode) → ((i : ℕ) → get_or vs i 0 < 16 ^ width unicode) →
    text_of unicode us ≡ text_of unicode vs → us ≡ vs
unfolding text_of unit_text
text_shows unicode [] [] p q e = refl
text_shows unicode [] (v ∷ vs) p q e = absurd (coded_some unicode (plain v) v (text_of unicode vs) (sym e))
text_shows unicode (u ∷ us) [] p q e = absurd (coded_some unicode (plain u) u (text_of unicode us) e)
text_shows unicode (u ∷ us) (v ∷ vs) p q e =
    let d = coded_shows unicode (plain u) (plain v) u v (text_of unicode us) (text_of unicode vs) (plain_no_backslash u) (plain_no_backslash v) (p 0) (q 0) e in
    ap (λ (x : ℕ). x ∷ us) d.0 ∙ ap (λ (x : List ℕ). v ∷ x) (text_shows unicode us vs (λ i. p (suc i)) (λ i. q (suc i)) d.1)

text_visible : (unicode : Bool) (us : List ℕ) → visible (text_of unicode us) ≡ true
unfolding text_of unit_text
text_visible unicode [] = refl
text_visible unicode (u ∷ us) =
    within_both 0x21 (cond (plain u) (u ∷ []) (escape unicode u)) (text_of unicode us) (coded_visible unicode (plain u) u (plain_visible u)) (text_visible unicode us)

pub name_is_visible : (unicode : Bool) (name : List ℕ) → visible (name_text unicode name) ≡ true
unfolding name_text
name_is_visible unicode name = text_visible unicode (units unicode name)

small16 : (s : List ℕ) → Bytes s → (i : ℕ) → get_or (numbers16 s) i 0 < 16 ^ 4
small16 [] b i = omega arith
small16 (x ∷ []) b i = omega arith
small16 (x ∷ y ∷ s) b zero = omega (arith, b 0, b 1)
small16 (x ∷ y ∷ s) b (suc i) = small16 s (λ k. b (suc (suc k))) i

numbers_show : (a b : List ℕ) → Bytes a → Bytes b → length a % 2 ≡ 0 → length b % 2 ≡ 0 → numbers16 a ≡ numbers16 b → a ≡ b
numbers_show [] [] p q l m e = refl
numbers_show [] (y ∷ []) p q l m e = absurd (omega arith)
numbers_show [] (y ∷ z ∷ b) p q l m e = absurd (let n : ◌≡◌ {A = ℕ} 0 1 = cc in omega arith)
numbers_show (x ∷ []) b p q l m e = absurd (omega arith)
numbers_show (x ∷ w ∷ a) [] p q l m e = absurd (let n : ◌≡◌ {A = ℕ} 0 1 = cc in omega arith)
numbers_show (x ∷ w ∷ a) (y ∷ []) p q l m e = absurd (omega arith)
numbers_show (x ∷ w ∷ a) (y ∷ z ∷ b) p q l m e =
    let h : x + 256 * w ≡ y + 256 * z = heads (x + 256 * w) (y + 256 * z) (numbers16 a) (numbers16 b) e in
    let r = numbers_show a b (λ k. p (suc (suc k))) (λ k. q (suc (suc k))) (omega arith) (omega arith) (tails (x + 256 * w) (y + 256 * z) (numbers16 a) (numbers16 b) e) in
    let low : x ≡ y = omega (arith, h, p 0, q 0, p 1, q 1) in
    let high : w ≡ z = omega (arith, h, p 0, q 0, p 1, q 1) in
    cc

pub bytes_show : (a b : List ℕ) → Bytes a → Bytes b → name_text false a ≡ name_text false b → a ≡ b
unfolding name_text
bytes_show a b p q e = text_shows false a b p q e

pub name_shows : NameShows
unfolding name_text
name_shows true a b p q l m e = numbers_show a b p q (l refl) (m refl) (text_shows true (numbers16 a) (numbers16 b) (small16 a p) (small16 b q) e)
name_shows false a b p q l m e = bytes_show a b p q e

pub name_visible : NameVisible
name_visible unicode name = within_at 0x21 (name_text unicode name) (name_is_visible unicode name)
