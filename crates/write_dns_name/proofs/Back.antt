-- A name that was written reads back: the same labels and no jump, whatever stands before and after it.
use Rattle.std.specs.Prelude.{Ok}
use Prim.Native.Nat.{ℕ, suc, ◌+◌, ◌≤◌}
use mathlib.Core.Path.{◌≡◌, refl, sym, ap, ◌∙◌, subst}
use mathlib.Core.Bool.{Bool, true, false, ◌&&◌, cond}
use mathlib.Core.List.{List, [], ◌∷◌, ◌++◌, append_assoc}
use native.Mathlib.Omega.{arith}
use lib.Dec.{leb, eqb}
use lib.ListN.{length, take, drop, length-append}
use lib.Seq.{get_or-append_seam, drop-append_seam, take-append_seam}
use borrow.Author.Tests.{leb-true, eqb-true}
use Rattle.wire.specs.declared.check.Checked.TheVariants.{Held, Failed}
use Rattle.wire.specs.Check.{checked, after}
use Rattle.wire.proofs.Laws.{held_true}
use Rattle.wire.proofs.Bools.{and_left, and_right}
use Rattle.read_dns_name.specs.DnsName.{read_name, labels_at}
use Rattle.read_dns_name.specs.Rfc1035.{NameEndAt, LabelAt, NameFrom, end, label, coded_length}
use Rattle.read_dns_name.proofs.Exact.{is_taken}
use Rattle.write_dns_name.specs.Writing.{on_first, pieces, split_labels, label_bytes, coded, name_bytes, labels_hold, text_holds, coded_holds, before_stop}

-- labels that hold have 1 to 63 bytes
record First (l : List ℕ) (ls : List (List ℕ)) : Type 0 where
  some : 1 ≤ length l
  most : length l ≤ 63
  rest : labels_hold ls ≡ Held

first : (l : List ℕ) (ls : List (List ℕ)) → labels_hold (l ∷ ls) ≡ Held → First l ls
unfolding labels_hold
first l ls h = go (leb 1 (length l) && leb (length l) 63) refl h where
  go : (x : Bool) → (leb 1 (length l) && leb (length l) 63) ≡ x → after (checked x) Failed (labels_hold ls) ≡ Held → First l ls
  go true p e =
      record {
        some = leb-true 1 (length l) (and_left (leb 1 (length l)) (leb (length l) 63) p);
        most = leb-true (length l) 63 (and_right (leb 1 (length l)) (leb (length l) 63) p);
        rest = e;
      }
  go false p e = absurd (let z : ◌≡◌ {A = ℕ} 0 1 = cc in omega arith)

-- a label behind these bytes
module _ (pre l r : List ℕ) where
  label_there : 1 ≤ length l → length l ≤ 63 → LabelAt (pre ++ (length l ∷ (l ++ r))) (length pre) (length l)
  label_there some most =
      record {
        byte = get_or-append_seam pre (length l) (l ++ r) 0;
        some = some;
        most = most;
        whole = omega (arith, length-append pre (length l ∷ (l ++ r)), length-append l r);
      }

  own_bytes_lem : take (length l) (drop (length pre + 1) (pre ++ (length l ∷ (l ++ r)))) ≡ l
  own_bytes_lem =
      let e : pre ++ (length l ∷ (l ++ r)) ≡ (pre ++ (length l ∷ [])) ++ (l ++ r) = simp append_assoc in
      let n : length pre + 1 ≡ length (pre ++ (length l ∷ [])) = omega (arith, length-append pre (length l ∷ [])) in
      simp (e, n, drop-append_seam, take-append_seam)

  behind : pre ++ (length l ∷ (l ++ r)) ≡ (pre ++ (length l ∷ l)) ++ r
  behind = simp append_assoc

written : (ls : List (List ℕ)) (pre post : List ℕ) (run : ℕ) → labels_hold ls ≡ Held →
    NameFrom (pre ++ (coded ls ++ post)) run (length pre) ls 0 (length pre + length (coded ls))
unfolding coded label_bytes
written [] pre post run h =
    let w : NameEndAt (pre ++ (0 ∷ post)) (length pre) = record { there = omega (arith, length-append pre (0 ∷ post)); byte = get_or-append_seam pre 0 post 0 } in
    end w refl refl refl
written (l ∷ ls) pre post run h =
    let f = first l ls h in
    let next : List ℕ = pre ++ (length l ∷ l) in
    let s : List ℕ = pre ++ (length l ∷ (l ++ (coded ls ++ post))) in
    let e : pre ++ ((length l ∷ (l ++ coded ls)) ++ post) ≡ s = simp append_assoc in
    let n : length next ≡ length pre + 1 + length l = omega (arith, length-append pre (length l ∷ l)) in
    let m : length next + length (coded ls) ≡ length pre + suc (length (l ++ coded ls)) = omega (arith, n, length-append l (coded ls)) in
    let r : NameFrom (next ++ (coded ls ++ post)) run (length next) ls 0 (length next + length (coded ls)) = written ls next post run f.rest in
    let r1 : NameFrom s run (length next) ls 0 (length next + length (coded ls)) =
    subst (λ (x : List ℕ). NameFrom x run (length next) ls 0 (length next + length (coded ls))) (sym (behind pre l (coded ls ++ post))) r in
    let r2 : NameFrom s run (length pre + 1 + length l) ls 0 (length next + length (coded ls)) =
    subst (λ (x : ℕ). NameFrom s run x ls 0 (length next + length (coded ls))) n r1 in
    let r3 : NameFrom s run (length pre + 1 + length l) ls 0 (length pre + suc (length (l ++ coded ls))) =
    subst (λ (x : ℕ). NameFrom s run (length pre + 1 + length l) ls 0 x) m r2 in
    let w : NameFrom s run (length pre) (l ∷ ls) 0 (length pre + suc (length (l ++ coded ls))) =
    label (label_there pre l (coded ls ++ post) f.some f.most) (ap (λ (x : List ℕ). x ∷ ls) (sym (own_bytes_lem pre l (coded ls ++ post)))) r3 in
    subst (λ (x : List ℕ). NameFrom x run (length pre) (l ∷ ls) 0 (length pre + suc (length (l ++ coded ls)))) (sym e) w

pub back : (t pre post : List ℕ) → text_holds t ≡ Held → coded_holds t ≡ Held →
    (read_name (pre ++ (name_bytes t ++ post)) (length pre) ≡ Ok (record { jumps = 0; next = length pre + length (name_bytes t) })) ×
    (labels_at (pre ++ (name_bytes t ++ post)) (length pre) ≡ split_labels t)
unfolding text_holds coded_holds name_bytes
back t pre post h g =
    is_taken (pre ++ (coded (split_labels t) ++ post)) (length pre) (split_labels t) 0 (length pre + length (coded (split_labels t)))
    (record {
      coded = written (split_labels t) pre post (length pre) h;
      few = omega arith;
      short = leb-true (coded_length (split_labels t)) 255 (held_true (leb (coded_length (split_labels t)) 255) g);
    })

-- ---- the pieces of a text are the one list of parts without a full stop that, joined with full stops, is the text

abbrev pub with_stops : List (List ℕ) → List ℕ
with_stops [] = []
with_stops (l ∷ []) = l
with_stops (l ∷ m ∷ ls) = l ++ (0x2E ∷ with_stops (m ∷ ls))

abbrev pub NoStops : List (List ℕ) → Type 0
NoStops [] = Unit {0}
NoStops (l ∷ ls) = (before_stop l ≡ length l) × NoStops ls

-- the pieces are one or more
record More (ls : List (List ℕ)) : Type 0 where
  one : List ℕ
  others : List (List ℕ)
  are : ls ≡ one ∷ others

pieces_some : (t : List ℕ) → More (pieces t)
unfolding pieces
pieces_some [] = record { one = []; others = []; are = refl }
pieces_some (b ∷ t) = go (eqb b 0x2E) (pieces_some t) where
  go : (x : Bool) → More (pieces t) → More (cond x ([] ∷ pieces t) (on_first b (pieces t)))
  go true p = record { one = []; others = pieces t; are = refl }
  go false p = record { one = b ∷ p.one; others = p.others; are = simp p.are }

on_first_lem : (b : ℕ) (ls : List (List ℕ)) → with_stops (on_first b ls) ≡ b ∷ with_stops ls
on_first_lem b [] = refl
on_first_lem b (l ∷ []) = refl
on_first_lem b (l ∷ m ∷ ls) = refl

pub pieces_joined : (t : List ℕ) → with_stops (pieces t) ≡ t
unfolding pieces
pieces_joined [] = refl
pieces_joined (b ∷ t) = go (eqb b 0x2E) refl (pieces_joined t) where
  go : (x : Bool) → eqb b 0x2E ≡ x → with_stops (pieces t) ≡ t → with_stops (cond x ([] ∷ pieces t) (on_first b (pieces t))) ≡ b ∷ t
  go true p e = let z = pieces_some t in simp z.are (ap (λ (x : List ℕ). 0x2E ∷ x) (sym (ap with_stops z.are) ∙ e) ∙ simp (eqb-true b 0x2E p))
  go false p e = on_first_lem b (pieces t) ∙ simp e

module _ (b : ℕ) (p : eqb b 0x2E ≡ false) where
  no_stop_on : (ls : List (List ℕ)) → NoStops ls → NoStops (on_first b ls)
  unfolding before_stop
  no_stop_on [] h = (simp p, tt)
  no_stop_on (l ∷ ls) h = (simp (p, h.0), h.1)

pub pieces_plain : (t : List ℕ) → NoStops (pieces t)
unfolding pieces before_stop
pieces_plain [] = (refl, tt)
pieces_plain (b ∷ t) = go (eqb b 0x2E) refl (pieces_plain t) where
  go : (x : Bool) → eqb b 0x2E ≡ x → NoStops (pieces t) → NoStops (cond x ([] ∷ pieces t) (on_first b (pieces t)))
  go true p h = (refl, h)
  go false p h = no_stop_on b p (pieces t) h

pub piece_then : (l t : List ℕ) → before_stop l ≡ length l → pieces (l ++ (0x2E ∷ t)) ≡ l ∷ pieces t
unfolding pieces before_stop
piece_then [] t h = refl
piece_then (b ∷ l) t h = go (eqb b 0x2E) h (λ e. piece_then l t e) where
  go : (x : Bool) → cond x 0 (suc (before_stop l)) ≡ suc (length l) → (before_stop l ≡ length l → pieces (l ++ (0x2E ∷ t)) ≡ l ∷ pieces t) →
      cond x ([] ∷ pieces (l ++ (0x2E ∷ t))) (on_first b (pieces (l ++ (0x2E ∷ t)))) ≡ (b ∷ l) ∷ pieces t
  go true e rest = absurd (omega (arith, e))
  go false e rest = simp (rest (omega (arith, e)))
