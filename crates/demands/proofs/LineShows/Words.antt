-- A line by its words: which bytes they have, and that equal lines have equal words.
use Prim.Native.Nat.{ℕ, zero, suc, ◌≤◌, ◌<◌}
use mathlib.Core.Path.{◌≡◌, refl, sym, ap, ◌∙◌}
use mathlib.Core.Bool.{Bool, true, ◌&&◌}
use mathlib.Core.List.{List, [], ◌∷◌, ◌++◌, append_assoc}
use native.Mathlib.Omega.{arith}
use lib.Dec.{leb}
use lib.ListN.{length, get_or, length-append}
use borrow.Author.Tests.{leb-true, le-leb}
use Rattle.wire.proofs.Bools.{and_left, and_right, and_both}
use Rattle.line_words.specs.Words.{line_end}
use Rattle.demands.specs.LineShows.{OneLine, log_of, LogShows}

-- ---- bytes from a lowest one to 0x7E

abbrev pub within : ℕ → List ℕ → Bool
within low [] = true
within low (c ∷ cs) = (leb low c && leb c 0x7E) && within low cs

-- those of a word: no space, and nothing that a terminal takes for more than a character
abbrev pub visible : List ℕ → Bool
visible text = within 0x21 text

module _ (low : ℕ) where
  pub within_both : (a b : List ℕ) → within low a ≡ true → within low b ≡ true → within low (a ++ b) ≡ true
  within_both [] b p q = q
  within_both (c ∷ a) b p q =
      and_both (leb low c && leb c 0x7E) (within low (a ++ b)) (and_left (leb low c && leb c 0x7E) (within low a) p)
      (within_both a b (and_right (leb low c && leb c 0x7E) (within low a) p) q)

  first_within : (c : ℕ) (cs : List ℕ) → within low (c ∷ cs) ≡ true → (low ≤ c) × (c ≤ 0x7E)
  first_within c cs p =
      let t : leb low c && leb c 0x7E ≡ true = and_left (leb low c && leb c 0x7E) (within low cs) p in
      (leb-true low c (and_left (leb low c) (leb c 0x7E) t), leb-true c 0x7E (and_right (leb low c) (leb c 0x7E) t))

  pub within_at : (text : List ℕ) → within low text ≡ true → (k : ℕ) → k < length text → (low ≤ get_or text k 0) × (get_or text k 0 ≤ 0x7E)
  within_at [] p k l = absurd (omega arith)
  within_at (c ∷ cs) p zero l = first_within c cs p
  within_at (c ∷ cs) p (suc k) l = within_at cs (and_right (leb low c && leb c 0x7E) (within low cs) p) k (omega arith)

  pub within_all : (text : List ℕ) → ((k : ℕ) → k < length text → (low ≤ get_or text k 0) × (get_or text k 0 ≤ 0x7E)) → within low text ≡ true
  within_all [] h = refl
  within_all (c ∷ cs) h =
      let f = h 0 (omega arith) in
      and_both (leb low c && leb c 0x7E) (within low cs) (and_both (leb low c) (leb c 0x7E) (le-leb low c f.0) (le-leb c 0x7E f.1))
      (within_all cs (λ k l. h (suc k) (omega arith)))

-- a word's bytes are a line's
spaces_too : (text : List ℕ) → visible text ≡ true → within 0x20 text ≡ true
spaces_too text p = within_all 0x20 text (λ k l. let w = within_at 0x21 text p k l in (omega (arith, w.0), w.1))

-- ---- words

-- a space before each of these, and the line's end
abbrev pub spaced : List (List ℕ) → List ℕ
spaced [] = line_end
spaced (w ∷ ws) = 0x20 ∷ (w ++ spaced ws)

abbrev pub all_visible : List (List ℕ) → Bool
all_visible [] = true
all_visible (w ∷ ws) = visible w && all_visible ws

-- a line is its first word and these
pub record IsLine (line first : List ℕ) (words : List (List ℕ)) : Type 0 where
  pub line_is : line ≡ first ++ spaced words
  pub first_visible : visible first ≡ true
  pub words_visible : all_visible words ≡ true

pub heads : (c d : ℕ) (a b : List ℕ) → c ∷ a ≡ d ∷ b → c ≡ d
heads c d a b e = cc

pub tails : (c d : ℕ) (a b : List ℕ) → c ∷ a ≡ d ∷ b → a ≡ b
tails c d a b e = cc

-- where a part of bytes from the lowest on ends, the other reading's ends too
pub split : (low : ℕ) (a b : List ℕ) (x y : ℕ) (u v : List ℕ) → within low a ≡ true → within low b ≡ true → x < low → y < low →
    a ++ (x ∷ u) ≡ b ++ (y ∷ v) → (a ≡ b) × (x ∷ u ≡ y ∷ v)
split low [] [] x y u v p q l m e = (refl, e)
split low [] (d ∷ b) x y u v p q l m e = absurd (omega (arith, (first_within low d b q).0, heads x d u (b ++ (y ∷ v)) e))
split low (c ∷ a) [] x y u v p q l m e = absurd (omega (arith, (first_within low c a p).0, heads c y (a ++ (x ∷ u)) v e))
split low (c ∷ a) (d ∷ b) x y u v p q l m e =
    let h : c ≡ d = heads c d (a ++ (x ∷ u)) (b ++ (y ∷ v)) e in
    let r = split low a b x y u v (and_right (leb low c && leb c 0x7E) (within low a) p) (and_right (leb low d && leb d 0x7E) (within low b) q) l m
    (tails c d (a ++ (x ∷ u)) (b ++ (y ∷ v)) e) in
    (ap (λ (n : ℕ). n ∷ a) h ∙ ap (λ (t : List ℕ). d ∷ t) r.0, r.1)

same_words : (w v : List ℕ) (ws vs : List (List ℕ)) → visible w ≡ true → visible v ≡ true → all_visible ws ≡ true → all_visible vs ≡ true →
    w ++ spaced ws ≡ v ++ spaced vs → (w ≡ v) × (ws ≡ vs)
same_words w v [] [] p q r t e = ((split 0x21 w v 0x0A 0x0A [] [] p q (omega arith) (omega arith) e).0, refl)
same_words w v [] (y ∷ vs) p q r t e =
    absurd (omega (arith, heads 0x0A 0x20 [] (y ++ spaced vs) (split 0x21 w v 0x0A 0x20 [] (y ++ spaced vs) p q (omega arith) (omega arith) e).1))
same_words w v (x ∷ ws) [] p q r t e =
    absurd (omega (arith, heads 0x20 0x0A (x ++ spaced ws) [] (split 0x21 w v 0x20 0x0A (x ++ spaced ws) [] p q (omega arith) (omega arith) e).1))
same_words w v (x ∷ ws) (y ∷ vs) p q r t e =
    let s = split 0x21 w v 0x20 0x20 (x ++ spaced ws) (y ++ spaced vs) p q (omega arith) (omega arith) e in
    let n = same_words x y ws vs (and_left (visible x) (all_visible ws) r) (and_left (visible y) (all_visible vs) t)
    (and_right (visible x) (all_visible ws) r) (and_right (visible y) (all_visible vs) t)
    (tails 0x20 0x20 (x ++ spaced ws) (y ++ spaced vs) s.1) in
    (s.0, ap (λ (z : List ℕ). z ∷ ws) n.0 ∙ ap (λ (zs : List (List ℕ)). y ∷ zs) n.1)

-- one line, one way to read it
pub words_of : (line line' w v : List ℕ) (ws vs : List (List ℕ)) → IsLine line w ws → IsLine line' v vs → line ≡ line' → (w ≡ v) × (ws ≡ vs)
words_of line line' w v ws vs a b e =
    same_words w v ws vs a.first_visible b.first_visible a.words_visible b.words_visible (sym a.line_is ∙ e ∙ b.line_is)

pub same_line : (line line' w : List ℕ) (ws vs : List (List ℕ)) → IsLine line w ws → IsLine line' w vs → ws ≡ vs → line ≡ line'
same_line line line' w ws vs a b e = a.line_is ∙ ap (λ (x : List (List ℕ)). w ++ spaced x) e ∙ sym b.line_is

-- ---- and it is one line

before_end : List (List ℕ) → List ℕ
before_end [] = []
before_end (w ∷ ws) = 0x20 ∷ (w ++ before_end ws)

spaced_is : (ws : List (List ℕ)) → spaced ws ≡ before_end ws ++ line_end
unfolding before_end
spaced_is [] = refl
spaced_is (w ∷ ws) = ap (λ (t : List ℕ). 0x20 ∷ (w ++ t)) (spaced_is ws) ∙ ap (λ (t : List ℕ). 0x20 ∷ t) (sym (append_assoc w (before_end ws) line_end))

before_within : (ws : List (List ℕ)) → all_visible ws ≡ true → within 0x20 (before_end ws) ≡ true
unfolding before_end
before_within [] p = refl
before_within (w ∷ ws) p =
    within_both 0x20 w (before_end ws) (spaces_too w (and_left (visible w) (all_visible ws) p))
    (before_within ws (and_right (visible w) (all_visible ws) p))

pub one_line : (line w : List ℕ) (ws : List (List ℕ)) → IsLine line w ws → OneLine line
one_line line w ws a =
    record {
      before = w ++ before_end ws;
      line_is = a.line_is ∙ ap (λ (t : List ℕ). w ++ t) (spaced_is ws) ∙ sym (append_assoc w (before_end ws) line_end);
      shown = within_at 0x20 (w ++ before_end ws) (within_both 0x20 w (before_end ws) (spaces_too w a.first_visible) (before_within ws a.words_visible));
    }

-- ---- a log of lines

-- a line and what follows it
after_line : (l r : List ℕ) (h : OneLine l) → l ++ r ≡ h.before ++ (0x0A ∷ r)
after_line l r h = ap (λ (x : List ℕ). x ++ r) h.line_is ∙ append_assoc h.before line_end r

no_log : (l r : List ℕ) → OneLine l → l ++ r ≡ [] → ⊥
no_log l r h e = omega (arith, ap length (sym (after_line l r h) ∙ e), length-append h.before (0x0A ∷ r))

pub log_shows : LogShows
log_shows [] [] p q e = refl
log_shows [] (m ∷ ms) p q e = absurd (no_log m (log_of ms) q.0 (sym e))
log_shows (l ∷ ls) [] p q e = absurd (no_log l (log_of ls) p.0 e)
log_shows (l ∷ ls) (m ∷ ms) p q e =
    let a = p.0 in
    let b = q.0 in
    let c = split 0x20 a.before b.before 0x0A 0x0A (log_of ls) (log_of ms) (within_all 0x20 a.before a.shown) (within_all 0x20 b.before b.shown)
    (omega arith) (omega arith) (sym (after_line l (log_of ls) a) ∙ e ∙ after_line m (log_of ms) b) in
    let h : l ≡ m = a.line_is ∙ ap (λ (x : List ℕ). x ++ line_end) c.0 ∙ sym b.line_is in
    ap (λ (x : List ℕ). x ∷ ls) h ∙ ap (λ (x : List (List ℕ)). m ∷ x) (log_shows ls ms p.1 q.1 (tails 0x0A 0x0A (log_of ls) (log_of ms) c.1))
