-- Laws of the labels of a text: its parts between full stops are the only ones, they fail check 50 exactly when one is empty or
-- over 63, and in the line a plain text is shown as it is.
use Prim.Native.Nat.{ℕ, zero, suc, ◌<◌}
use mathlib.Core.Path.{◌≡◌, refl, sym, ap, ◌∙◌, subst}
use mathlib.Core.Logic.{◌⊎◌, inl, inr}
use mathlib.Core.Bool.{Bool, true, false, ◌&&◌, not, cond}
use mathlib.Core.List.{List, [], ◌∷◌, ◌++◌, append-nil}
use native.Mathlib.Omega.{arith}
use lib.Dec.{leb, eqb}
use lib.ListN.{length, get_or}
use borrow.Author.Tests.{leb-true, leb-false, le-leb, eqb-true, eqb-false, ne_eqb}
use Rattle.wire.specs.declared.check.Checked.TheVariants.{Held, Failed}
use Rattle.wire.specs.Check.{checked, after}
use Rattle.wire.proofs.Bools.{and_left, and_right, and_both}
use Rattle.line_words.specs.Name.{plain, escape, unit_text}
use Rattle.line_dns_name.specs.DnsNameText.{byte_text, label_text, part_text, joined, dns_name_text}
use Rattle.write_dns_name.specs.Writing.{on_first, pieces, split_labels, labels_hold, text_holds, name_bytes, before_stop}
use Rattle.write_dns_name.proofs.Back.{with_stops, NoStops, pieces_joined, pieces_plain, piece_then}
use Rattle.read_dns_name.specs.Rfc1035.{coded_length}
use Rattle.write_dns_name.proofs.Holding.{size_all, bytes_empty, coded_pieces}
use Rattle.write_dns_name.proofs.Pieces.{last_piece}
use Rattle.demands.specs.DnsName.{NoStop, PartsOf, last, part, TextLabels, WrongLabelIn, LabelsFail, coded_size, Plain}

-- ---- the parts of a text

-- a list without a full stop, counted
no_stop_before : (l : List ℕ) → NoStop l → before_stop l ≡ length l
unfolding before_stop
no_stop_before [] h = refl
no_stop_before (b ∷ l) h = go (eqb b 0x2E) refl (no_stop_before l (λ k m e. h (suc k) (omega arith) e)) where
  go : (t : Bool) → eqb b 0x2E ≡ t → before_stop l ≡ length l → cond t 0 (suc (before_stop l)) ≡ suc (length l)
  go true p e = absurd (h 0 (omega arith) (eqb-true b 0x2E p))
  go false p e = ap suc e

before_no_stop : (l : List ℕ) → before_stop l ≡ length l → NoStop l
unfolding before_stop
before_no_stop [] h = λ k m e. absurd (omega arith)
before_no_stop (b ∷ l) h = λ k m e. go (eqb b 0x2E) refl h (before_no_stop l) k m e where
  go : (t : Bool) → eqb b 0x2E ≡ t → cond t 0 (suc (before_stop l)) ≡ suc (length l) → (before_stop l ≡ length l → NoStop l) →
      (k : ℕ) → k < suc (length l) → get_or (b ∷ l) k 0 ≡ 0x2E → ⊥
  go true p q rest k m e = absurd (omega (arith, q))
  go false p q rest zero m e = eqb-false b 0x2E p e
  go false p q rest (suc k) m e = rest (omega (arith, q)) k (omega arith) e

parts_are : (t : List ℕ) (ls : List (List ℕ)) → PartsOf t ls → pieces t ≡ ls
parts_are t ls (last {l = l} h) = last_piece l (no_stop_before l h)
parts_are t ls (part {l = l} {t = r} {ls = ms} h p) = piece_then l r (no_stop_before l h) ∙ ap (λ (x : List (List ℕ)). l ∷ x) (parts_are r ms p)

joined_parts : (l : List ℕ) (ls : List (List ℕ)) → NoStops (l ∷ ls) → PartsOf (with_stops (l ∷ ls)) (l ∷ ls)
joined_parts l [] h = last (before_no_stop l h.0)
joined_parts l (m ∷ ls) h = part (before_no_stop l h.0) (joined_parts m ls h.1)

pieces_none : (t : List ℕ) → pieces t ≡ [] → ⊥
pieces_none t e = let c = coded_pieces t in omega (arith, c, ap coded_length e)

parts_of : (t : List ℕ) → PartsOf t (pieces t)
parts_of t = go (pieces t) refl (pieces_joined t) (pieces_plain t) where
  go : (ls : List (List ℕ)) → pieces t ≡ ls → with_stops ls ≡ t → NoStops ls → PartsOf t ls
  go [] e j p = absurd (pieces_none t e)
  go (l ∷ ls) e j p = subst (λ (x : List ℕ). PartsOf x (l ∷ ls)) j (joined_parts l ls p)

-- the labels of a text, and only they
pub text_labels : (t : List ℕ) → TextLabels t (split_labels t)
unfolding split_labels
text_labels [] = record { empty = λ e. refl; parts = λ l. absurd (omega arith) }
text_labels (b ∷ t) = record { empty = λ e. absurd (omega arith); parts = λ l. parts_of (b ∷ t) }

only_labels : (t : List ℕ) (ls : List (List ℕ)) → TextLabels t ls → ls ≡ split_labels t
unfolding split_labels
only_labels [] ls w = w.empty refl
only_labels (b ∷ t) ls w = sym (parts_are (b ∷ t) ls (w.parts (omega arith)))

-- ---- check 50

labels_failed : (ls : List (List ℕ)) → labels_hold ls ≡ Failed → WrongLabelIn ls
unfolding labels_hold
labels_failed [] f = absurd (let z : ◌≡◌ {A = ℕ} 0 1 = cc in omega arith)
labels_failed (l ∷ ls) f = go (leb 1 (length l)) (leb (length l) 63) refl refl f (labels_failed ls) where
  go : (x y : Bool) → leb 1 (length l) ≡ x → leb (length l) 63 ≡ y → after (checked (x && y)) Failed (labels_hold ls) ≡ Failed →
      (labels_hold ls ≡ Failed → WrongLabelIn ls) → ((length l ≡ 0) ⊎ (63 < length l)) ⊎ WrongLabelIn ls
  go true true p q h rest = inr (rest h)
  go true false p q h rest = inl (inr (leb-false (length l) 63 q))
  go false y p q h rest = inl (inl (omega (arith, leb-false 1 (length l) p)))

labels_held : (ls : List (List ℕ)) → labels_hold ls ≡ Held → WrongLabelIn ls → ⊥
unfolding labels_hold
labels_held [] h w = w
labels_held (l ∷ ls) h w = go (leb 1 (length l)) (leb (length l) 63) refl refl h w (labels_held ls) where
  go : (x y : Bool) → leb 1 (length l) ≡ x → leb (length l) 63 ≡ y → after (checked (x && y)) Failed (labels_hold ls) ≡ Held →
      ((length l ≡ 0) ⊎ (63 < length l)) ⊎ WrongLabelIn ls → (labels_hold ls ≡ Held → WrongLabelIn ls → ⊥) → ⊥
  go true true p q f (inl (inl e)) rest = omega (arith, leb-true 1 (length l) p)
  go true true p q f (inl (inr e)) rest = omega (arith, leb-true (length l) 63 q)
  go true true p q f (inr v) rest = rest f v
  go true false p q f v rest = absurd (let z : ◌≡◌ {A = ℕ} 0 1 = cc in omega arith)
  go false y p q f v rest = absurd (let z : ◌≡◌ {A = ℕ} 0 1 = cc in omega arith)

pub text_failed : (t : List ℕ) → text_holds t ≡ Failed → LabelsFail t
unfolding text_holds
text_failed t f = (split_labels t, text_labels t, labels_failed (split_labels t) f)

pub text_held : (t : List ℕ) → text_holds t ≡ Held → LabelsFail t → ⊥
unfolding text_holds
text_held t h w = labels_held (split_labels t) h (subst WrongLabelIn (only_labels t w.0 w.1) w.2)

-- ---- the length

pub coded_is : (t : List ℕ) → length (name_bytes t) ≡ coded_size t
coded_is [] = ap length (bytes_empty [] refl)
coded_is (b ∷ t) = size_all (b ∷ t) (λ e. omega arith)

-- ---- the line

-- every byte stands for itself
abbrev plain_all : List ℕ → Bool
plain_all [] = true
plain_all (b ∷ t) = plain b && plain_all t

plain_all_lem : (t : List ℕ) → Plain t → plain_all t ≡ true
plain_all_lem [] h = refl
plain_all_lem (b ∷ t) h =
    let w = h 0 (omega arith) in
    and_both (plain b) (plain_all t)
    (and_both (leb 0x21 b && leb b 0x7E) (not (eqb b 0x5C)) (and_both (leb 0x21 b) (leb b 0x7E) (le-leb 0x21 b w.0) (le-leb b 0x7E w.1)) (simp (ne_eqb b 0x5C w.2)))
    (plain_all_lem t (λ k m. h (suc k) (omega arith)))

abbrev all_plain : List (List ℕ) → Bool
all_plain [] = true
all_plain (l ∷ ls) = plain_all l && all_plain ls

plain_on : (b : ℕ) (ls : List (List ℕ)) → plain b ≡ true → all_plain ls ≡ true → all_plain (on_first b ls) ≡ true
plain_on b [] p h = simp p
plain_on b (l ∷ ls) p h = simp p h

plain_pieces : (t : List ℕ) → plain_all t ≡ true → all_plain (pieces t) ≡ true
unfolding pieces
plain_pieces [] h = refl
plain_pieces (b ∷ t) h =
    go (eqb b 0x2E) (and_left (plain b) (plain_all t) h) (plain_pieces t (and_right (plain b) (plain_all t) h))
  where
    go : (x : Bool) → plain b ≡ true → all_plain (pieces t) ≡ true → all_plain (cond x ([] ∷ pieces t) (on_first b (pieces t))) ≡ true
    go true p e = e
    go false p e = plain_on b (pieces t) p e

same_label : (l : List ℕ) → plain_all l ≡ true → before_stop l ≡ length l → label_text l ≡ l
unfolding label_text byte_text unit_text before_stop
same_label [] p h = refl
same_label (b ∷ l) p h =
    go (eqb b 0x2E) h (and_left (plain b) (plain_all l) p) (λ e. same_label l (and_right (plain b) (plain_all l) p) e)
  where
    go : (x : Bool) → cond x 0 (suc (before_stop l)) ≡ suc (length l) → plain b ≡ true → (before_stop l ≡ length l → label_text l ≡ l) →
        cond x (escape false b) (cond (plain b) (b ∷ []) (escape false b)) ++ label_text l ≡ b ∷ l
    go true e q rest = absurd (omega (arith, e))
    go false e q rest = simp (q, rest (omega (arith, e)))

-- a full stop and a label, for each of them
abbrev stops : List (List ℕ) → List ℕ
stops [] = []
stops (l ∷ ls) = 0x2E ∷ (l ++ stops ls)

with_stops_lem : (l : List ℕ) (ls : List (List ℕ)) → with_stops (l ∷ ls) ≡ l ++ stops ls
with_stops_lem l [] = sym (append-nil l)
with_stops_lem l (m ∷ ls) = ap (λ (x : List ℕ). l ++ (0x2E ∷ x)) (with_stops_lem m ls)

later : (ls : List (List ℕ)) → all_plain ls ≡ true → NoStops ls → joined false ls ≡ stops ls
unfolding joined part_text
later [] p h = refl
later (l ∷ ls) p h =
    simp (same_label l (and_left (plain_all l) (all_plain ls) p) h.0, later ls (and_right (plain_all l) (all_plain ls) p) h.1)

all : (ls : List (List ℕ)) → all_plain ls ≡ true → NoStops ls → dns_name_text ls ≡ with_stops ls
unfolding dns_name_text joined part_text
all [] p h = refl
all (l ∷ ls) p h =
    simp (same_label l (and_left (plain_all l) (all_plain ls) p) h.0, later ls (and_right (plain_all l) (all_plain ls) p) h.1) (sym (with_stops_lem l ls))

pub text_shown : (t : List ℕ) → Plain t → dns_name_text (split_labels t) ≡ t
unfolding split_labels
text_shown [] p = all [] refl tt
text_shown (b ∷ t) p = all (pieces (b ∷ t)) (plain_pieces (b ∷ t) (plain_all_lem (b ∷ t) p)) (pieces_plain (b ∷ t)) ∙ pieces_joined (b ∷ t)
