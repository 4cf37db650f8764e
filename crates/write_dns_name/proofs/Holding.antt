-- Laws of the checks on a text, 50 and 53.
use Prim.Native.Nat.{ℕ, suc, ◌+◌, ◌≤◌, min}
use mathlib.Core.Path.{◌≡◌, refl, sym, ap, ◌∙◌}
use mathlib.Core.Bool.{Bool, true, false, cond, ◌&&◌}
use mathlib.Core.List.{List, [], ◌∷◌}
use native.Mathlib.Omega.{arith}
use Rattle.std.specs.List.{list_all}
use lib.Dec.{leb, eqb}
use lib.ListN.{length, length-append}
use borrow.Author.Tests.{leb-true, leb-false, le-leb, lt-leb}
use Rattle.wire.specs.declared.check.Checked.{Checked}
use Rattle.wire.specs.declared.check.Checked.TheVariants.{Held, Failed}
use Rattle.wire.specs.Check.{checked, after}
use Rattle.read_dns_name.specs.Rfc1035.{coded_length}
use Rattle.write_dns_name.specs.Writing.{on_first, pieces, split_labels, label_bytes, coded, name_bytes, labels_hold, text_holds, coded_holds}

-- a label that holds has 1 to 63 bytes, and labels hold where each does
abbrev pub fits : List ℕ → Bool
fits l = leb 1 (length l) && leb (length l) 63

pub each_holds : (ls : List (List ℕ)) → checked (list_all fits ls) ≡ labels_hold ls
unfolding labels_hold
each_holds [] = refl
each_holds (l ∷ ls) = go (fits l) (each_holds ls) where
  go : (x : Bool) → checked (list_all fits ls) ≡ labels_hold ls → checked (x && list_all fits ls) ≡ after (checked x) Failed (labels_hold ls)
  go true e = e
  go false e = refl

-- ---- an empty text, and any other

no_labels : (t : List ℕ) → length t ≡ 0 → split_labels t ≡ []
unfolding split_labels
no_labels [] h = refl
no_labels (b ∷ t) h = absurd (omega arith)

some_labels : (t : List ℕ) → (length t ≡ 0 → ⊥) → split_labels t ≡ pieces t
unfolding split_labels
some_labels [] h = absurd (h refl)
some_labels (b ∷ t) h = refl

module _ (t : List ℕ) where
  pub holds_empty : length t ≡ 0 → Held ≡ text_holds t
  unfolding text_holds labels_hold
  holds_empty h = simp (no_labels t h)

  pub holds_some : (r : Checked) → (length t ≡ 0 → ⊥) → r ≡ labels_hold (pieces t) → r ≡ text_holds t
  unfolding text_holds
  holds_some r h e = simp (some_labels t h) e

  pub pieces_held : (length t ≡ 0 → ⊥) → text_holds t ≡ Held → labels_hold (pieces t) ≡ Held
  unfolding text_holds
  pieces_held h e = rw (some_labels t h) at e

  pub bytes_empty : length t ≡ 0 → name_bytes t ≡ 0 ∷ []
  unfolding name_bytes coded
  bytes_empty h = simp (no_labels t h)

  pub bytes_some : (length t ≡ 0 → ⊥) → name_bytes t ≡ coded (pieces t)
  unfolding name_bytes
  bytes_some h = simp (some_labels t h)

-- ---- the coded length

longer : (b : ℕ) (ls : List (List ℕ)) → 2 ≤ coded_length ls → coded_length (on_first b ls) ≡ suc (coded_length ls)
longer b [] h = absurd (omega arith)
longer b (l ∷ ls) h = omega arith

pub coded_pieces : (t : List ℕ) → coded_length (pieces t) ≡ length t + 2
unfolding pieces
coded_pieces [] = refl
coded_pieces (b ∷ t) = go (eqb b 0x2E) (coded_pieces t) where
  go : (x : Bool) → coded_length (pieces t) ≡ length t + 2 → coded_length (cond x ([] ∷ pieces t) (on_first b (pieces t))) ≡ suc (length t) + 2
  go true e = omega (arith, e)
  go false e = omega (arith, e, longer b (pieces t) (omega (arith, e)))

pub coded_size_lem : (ls : List (List ℕ)) → length (coded ls) ≡ coded_length ls
unfolding coded label_bytes
coded_size_lem [] = refl
coded_size_lem (l ∷ ls) = omega (arith, coded_size_lem ls, length-append l (coded ls))

module _ (t : List ℕ) where
  pub size_empty : length t ≡ 0 → 1 ≡ min 65536 (length (name_bytes t))
  size_empty h = omega (arith, ap length (bytes_empty t h))

  pub size_all : (length t ≡ 0 → ⊥) → length (name_bytes t) ≡ length t + 2
  size_all h = ap length (bytes_some t h) ∙ coded_size_lem (pieces t) ∙ coded_pieces t

  pub size_some : (n : ℕ) → (length t ≡ 0 → ⊥) → n ≡ min 65536 (2 + length t) → n ≡ min 65536 (length (name_bytes t))
  size_some n h e = omega (arith, e, size_all h)

same_short : (t : List ℕ) → leb (length t) 253 ≡ leb (coded_length (split_labels t)) 255
unfolding split_labels
same_short [] = refl
same_short (b ∷ t) = go (leb (length (b ∷ t)) 253) refl where
  go : (x : Bool) → leb (length (b ∷ t)) 253 ≡ x → leb (length (b ∷ t)) 253 ≡ leb (coded_length (pieces (b ∷ t))) 255
  go true p = p ∙ sym (le-leb (coded_length (pieces (b ∷ t))) 255 (omega (arith, leb-true (length (b ∷ t)) 253 p, coded_pieces (b ∷ t))))
  go false p = p ∙ sym (lt-leb (coded_length (pieces (b ∷ t))) 255 (omega (arith, leb-false (length (b ∷ t)) 253 p, coded_pieces (b ∷ t))))

pub short_enough : (t : List ℕ) (r : Checked) → r ≡ checked (leb (length t) 253) → r ≡ coded_holds t
unfolding coded_holds
short_enough t r e = e ∙ ap checked (same_short t)
