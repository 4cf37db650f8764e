-- The text of a name by RFC 1035 shows its labels.
use Prim.Native.Nat.{ℕ, suc, ◌≤◌, ◌<◌}
use mathlib.Core.Path.{◌≡◌, refl, sym, ap, ◌∙◌}
use mathlib.Core.Logic.{◌⊎◌, inl, inr}
use mathlib.Core.Bool.{Bool, true, false, ◌&&◌, not, cond}
use mathlib.Core.List.{List, [], ◌∷◌, ◌++◌, append_assoc}
use native.Mathlib.Omega.{arith}
use lib.Dec.{eqb}
use lib.ListN.{length}
use borrow.Author.Tests.{eq-eqb}
use Rattle.wire.proofs.Bools.{and_left, and_right}
use Rattle.line_words.specs.Digits.{hex}
use Rattle.line_words.specs.Name.{plain, escape, unit_text}
use Rattle.line_dns_name.specs.DnsNameText.{byte_text, label_text, part_text, joined, dns_name_text}
use Rattle.demands.specs.HeaderLine.{Bytes}
use Rattle.demands.proofs.Bools.{true_not_false}
use Rattle.demands.specs.LineShows.{Labels, LabelsShow, LabelsVisible}
use Rattle.demands.proofs.LineShows.Words.{visible, within_both, within_at, heads, tails}
use Rattle.demands.proofs.LineShows.Names.{escape_is, coded_shows, coded_visible, coded_some, plain_visible, plain_no_backslash}

-- ---- a byte of a label

-- it stands for itself: as in any name, and no full stop
abbrev pub alone : ℕ → Bool
alone b = plain b && not (eqb b 0x2E)

pub byte_is : (b : ℕ) → byte_text b ≡ cond (alone b) (b ∷ []) (escape false b)
unfolding byte_text unit_text
byte_is b = go (eqb b 0x2E) (plain b) where
  go : (x y : Bool) → cond x (escape false b) (cond y (b ∷ []) (escape false b)) ≡ cond (y && not x) (b ∷ []) (escape false b)
  go true true = refl
  go true false = refl
  go false true = refl
  go false false = refl

module _ (b : ℕ) (h : alone b ≡ true) where
  pub alone_plain : plain b ≡ true
  alone_plain = and_left (plain b) (not (eqb b 0x2E)) h

  pub alone_no_stop : b ≡ 0x2E → ⊥
  alone_no_stop e = true_not_false (sym (and_right (plain b) (not (eqb b 0x2E)) h) ∙ ap not (eq-eqb b 0x2E e))

  alone_no_backslash : b ≡ 0x5C → ⊥
  alone_no_backslash = plain_no_backslash b alone_plain

  alone_visible : (0x21 ≤ b) × (b ≤ 0x7E)
  alone_visible = plain_visible b alone_plain

-- its text doesn't begin with a full stop
no_stop_first : (p : Bool) (b : ℕ) (r u : List ℕ) → (p ≡ true → b ≡ 0x2E → ⊥) → cond p (b ∷ []) (escape false b) ++ r ≡ 0x2E ∷ u → ⊥
no_stop_first true b r u f e = f refl (heads b 0x2E r u e)
no_stop_first false b r u f e =
    let a : escape false b ++ r ≡ 0x5C ∷ 0x78 ∷ (hex 2 b ++ r) = ap (λ (x : List ℕ). x ++ r) (escape_is false b) in
    omega (arith, heads 0x5C 0x2E (0x78 ∷ (hex 2 b ++ r)) u (sym a ∙ e))

-- ---- a label, up to a full stop or the end

abbrev Ends : List ℕ → Type 0
Ends u = (u ≡ []) ⊎ ((r : List ℕ) × (u ≡ 0x2E ∷ r))

no_byte : (b : ℕ) (r u : List ℕ) → Ends u → byte_text b ++ r ≡ u → ⊥
no_byte b r u (inl z) e = coded_some false (alone b) b r (sym (ap (λ (x : List ℕ). x ++ r) (byte_is b)) ∙ e ∙ z)
no_byte b r u (inr z) e = no_stop_first (alone b) b r z.0 (alone_no_stop b) (sym (ap (λ (x : List ℕ). x ++ r) (byte_is b)) ∙ e ∙ z.1)

label_shows : (l m u v : List ℕ) → Bytes l → Bytes m → Ends u → Ends v → label_text l ++ u ≡ label_text m ++ v → (l ≡ m) × (u ≡ v)
unfolding label_text
label_shows [] [] u v p q x y e = (refl, e)
label_shows [] (d ∷ m) u v p q x y e = absurd (no_byte d (label_text m ++ v) u x (sym (append_assoc (byte_text d) (label_text m) v) ∙ sym e))
label_shows (c ∷ l) [] u v p q x y e = absurd (no_byte c (label_text l ++ u) v y (sym (append_assoc (byte_text c) (label_text l) u) ∙ e))
label_shows (c ∷ l) (d ∷ m) u v p q x y e =
    let a : cond (alone c) (c ∷ []) (escape false c) ++ (label_text l ++ u) ≡ cond (alone d) (d ∷ []) (escape false d) ++ (label_text m ++ v) =
    sym (ap (λ (z : List ℕ). z ++ (label_text l ++ u)) (byte_is c)) ∙ sym (append_assoc (byte_text c) (label_text l) u)
    ∙ e ∙ append_assoc (byte_text d) (label_text m) v ∙ ap (λ (z : List ℕ). z ++ (label_text m ++ v)) (byte_is d) in
    let h = coded_shows false (alone c) (alone d) c d (label_text l ++ u) (label_text m ++ v) (alone_no_backslash c) (alone_no_backslash d) (p 0) (q 0) a in
    let r = label_shows l m u v (λ k. p (suc k)) (λ k. q (suc k)) x y h.1 in
    (ap (λ (z : ℕ). z ∷ l) h.0 ∙ ap (λ (z : List ℕ). d ∷ z) r.0, r.1)

-- ---- the labels

joined_ends : (ls : List (List ℕ)) → Ends (joined false ls)
unfolding joined part_text
joined_ends [] = inl refl
joined_ends (l ∷ ls) = inr (label_text l ++ joined false ls, refl)

later : (ls ms : List (List ℕ)) → Labels ls → Labels ms → joined false ls ≡ joined false ms → ls ≡ ms
unfolding joined part_text
later [] [] p q e = refl
later [] (m ∷ ms) p q e = absurd (let z : ◌≡◌ {A = ℕ} 0 1 = cc in omega arith)
later (l ∷ ls) [] p q e = absurd (let z : ◌≡◌ {A = ℕ} 0 1 = cc in omega arith)
later (l ∷ ls) (m ∷ ms) p q e =
    let h = label_shows l m (joined false ls) (joined false ms) p.1 q.1 (joined_ends ls) (joined_ends ms)
    (tails 0x2E 0x2E (label_text l ++ joined false ls) (label_text m ++ joined false ms) e) in
    ap (λ (z : List ℕ). z ∷ ls) h.0 ∙ ap (λ (z : List (List ℕ)). m ∷ z) (later ls ms p.2 q.2 h.1)

-- a first label has a byte
some_first : (m : List ℕ) (r : List ℕ) → 0 < length m → label_text m ++ r ≡ [] → ⊥
unfolding label_text
some_first [] r l e = omega arith
some_first (d ∷ m) r l e = no_byte d (label_text m ++ r) [] (inl refl) (sym (append_assoc (byte_text d) (label_text m) r) ∙ e)

pub labels_show : LabelsShow
unfolding dns_name_text joined part_text
labels_show [] [] p q e = refl
labels_show [] (m ∷ ms) p q e = absurd (some_first m (joined false ms) q.0 (sym e))
labels_show (l ∷ ls) [] p q e = absurd (some_first l (joined false ls) p.0 e)
labels_show (l ∷ ls) (m ∷ ms) p q e =
    let h = label_shows l m (joined false ls) (joined false ms) p.1 q.1 (joined_ends ls) (joined_ends ms) e in
    ap (λ (z : List ℕ). z ∷ ls) h.0 ∙ ap (λ (z : List (List ℕ)). m ∷ z) (later ls ms p.2 q.2 h.1)

-- ---- visible

label_visible : (l : List ℕ) → visible (label_text l) ≡ true
unfolding label_text
label_visible [] = refl
label_visible (b ∷ l) =
    within_both 0x21 (byte_text b) (label_text l)
    (ap visible (byte_is b) ∙ coded_visible false (alone b) b (alone_visible b)) (label_visible l)

joined_visible : (first : Bool) (ls : List (List ℕ)) → visible (joined first ls) ≡ true
unfolding joined part_text
joined_visible first [] = refl
joined_visible true (l ∷ ls) = within_both 0x21 (label_text l) (joined false ls) (label_visible l) (joined_visible false ls)
joined_visible false (l ∷ ls) = within_both 0x21 (label_text l) (joined false ls) (label_visible l) (joined_visible false ls)

pub dns_visible : (ls : List (List ℕ)) → visible (dns_name_text ls) ≡ true
unfolding dns_name_text
dns_visible ls = joined_visible true ls

pub labels_visible : LabelsVisible
labels_visible ls = within_at 0x21 (dns_name_text ls) (dns_visible ls)
