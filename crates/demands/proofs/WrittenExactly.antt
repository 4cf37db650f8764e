-- A writing is answered exactly when no check of it fails, and refused by the first that fails in its own order: the laws for
-- every writing, and a line.
pub mod MessagesWritten
pub mod NlWritten
use Rattle.std.specs.Prelude.{Result, Ok, Err, ⊤}
use Rattle.wire.specs.declared.refusal.Refusal.{Refusal}
use Prim.Native.Nat.{ℕ, ◌+◌, ◌<◌}
use mathlib.Core.Path.{◌≡◌, refl, sym, ap, ◌∙◌, subst}
use mathlib.Core.Logic.{inl, ⊎_elim}
use mathlib.Core.Bool.{Bool, true, false}
use mathlib.Core.List.{List, [], ◌∷◌}
use native.Mathlib.Omega.{arith}
use lib.Dec.{ltb}
use lib.ListN.{length, drop}
use lib.Seq.{take-append_seam}
use borrow.Author.Tests.{leb-true, leb-false, le-leb, ltb-true, ltb-false}
use Rattle.wire.specs.declared.refusal.Refusal.TheVariants.{TooLongToWrite, NoRoom}
use Rattle.wire.specs.Check.{after}
use Rattle.wire.specs.Refusal.{number_of, field_of}
use Rattle.wire.proofs.Laws.{held_true}
use Rattle.place.specs.Written.{size_holds, room_holds, answered, bytes_hold, bytes_answer, bytes_after}
use Rattle.demands.specs.Order.{FirstIn, rank_in}
use Rattle.demands.specs.WrittenExactly.{WrittenExactly, RoomFails, LineIsWritten, LineStands}
use Rattle.demands.proofs.Bools.{failed_false, chained}
use Rattle.demands.proofs.Order.Rank.{FreeBy, JudgedBy, Outside, only_in, outside, only_first_by, first_by, next_check_by}

-- a table with no rows but those of its order
abbrev pub Rows : List ℕ → (ℕ → ℕ → Type 0) → Type 0
Rows order F = (n i : ℕ) → F n i → rank_in order n < length order

module _ (order : List ℕ) (F : ℕ → ℕ → Type 0) where
  -- nothing fails before the first check
  pub free_at_first : (n : ℕ) → rank_in order n ≡ 0 → FreeBy (rank_in order) F n 0
  free_at_first n e m j b h = ⊎_elim (λ l. omega (arith, e)) (λ q. omega (arith, q.1)) b

  pub next : (n k : ℕ) → rank_in order k ≡ rank_in order n + 1 → rank_in order n < length order → FreeBy (rank_in order) F n 0 →
      ((j : ℕ) → F n j → ⊥) → FreeBy (rank_in order) F k 0
  next n k e l free h = next_check_by (rank_in order) F n 0 k e (only_in order n l) free (λ j r. h j)

  -- past the last check, nothing fails
  pub none_fails : Rows order F → (k : ℕ) → rank_in order k ≡ length order → FreeBy (rank_in order) F k 0 → (n i : ℕ) → F n i → ⊥
  none_fails rows k e free n i h = free n i (inl (omega (arith, e, rows n i h))) h

  pub by_verdict : Rows order F → (k : ℕ) → rank_in order k ≡ length order → (v : Result ⊤ Refusal) (bytes : List ℕ) (size : ℕ) →
      length bytes ≡ size → JudgedBy (rank_in order) F k v → WrittenExactly (answered v bytes) order F size
  by_verdict rows k e (Ok tt) bytes size l j =
      let none = none_fails rows k e j in
      record {
        refused = λ n i. (λ t. absurd t, λ f. none n i f.fails);
        written = λ n. (λ h. (none, sym (same n h) ∙ l), λ h. ap Ok (l ∙ sym h.1));
      }
    where
      same : (n : ℕ) → ◌≡◌ {A = Result ℕ Refusal} (Ok (length bytes)) (Ok n) → length bytes ≡ n
      same n h = cc
  by_verdict rows k e (Err d) bytes size l j =
      record {
        refused = λ n i. (
          λ t. subst (λ (x : ℕ). FirstIn order F n x) t.1 (subst (λ (x : ℕ). FirstIn order F x (field_of d)) t.0 j),
          λ f. only_first_by (rank_in order) F (number_of d) (field_of d) n i (only_in order n (rows n i f.fails)) j f,
        );
        written = λ n. (λ h. absurd (never n h), λ h. absurd (h.0 (number_of d) (field_of d) j.fails));
      }
    where
      never : (n : ℕ) → ◌≡◌ {A = Result ℕ Refusal} (Err d) (Ok n) → ⊥
      never n h = let z : ◌≡◌ {A = ℕ} 0 1 = cc in omega arith

-- ---- checks 30 and 33

module _ (order : List ℕ) (F : ℕ → ℕ → Type 0) where
  -- a table with rows for no number outside its order
  pub rows : ((n i : ℕ) → Outside order n → F n i → ⊥) → Rows order F
  rows none n i h = go (ltb (rank_in order n) (length order)) refl where
    go : (t : Bool) → ltb (rank_in order n) (length order) ≡ t → rank_in order n < length order
    go true p = ltb-true _ (length order) p
    go false p = absurd (none n i (outside order n (ltb-false _ (length order) p)) h)

  -- 33, the last check of each writing
  pub room_judged : (room size m : ℕ) → m ≡ size → (room < size → F 33 0) → ((j : ℕ) → F 33 j → room < size) →
      rank_in order 0 ≡ rank_in order 33 + 1 → rank_in order 33 < length order → FreeBy (rank_in order) F 33 0 →
      JudgedBy (rank_in order) F 0 (after (room_holds m room) (Err NoRoom) (Ok tt))
  room_judged room size m e to from last inside free =
      chained (JudgedBy (rank_in order) F 0) (room_holds m room) (Err NoRoom) (Ok tt)
      (λ f. first_by (rank_in order) F 33 0 free (to (omega (arith, e, leb-false m room (failed_false _ f)))))
      (λ h. next order F 33 0 last inside free (λ j w. omega (arith, e, from j w, leb-true m room (held_true _ h))))

  -- 30 before it
  pub size_judged : (size m : ℕ) (v : Result ⊤ Refusal) → m ≡ size → (65535 < size → F 30 0) → ((j : ℕ) → F 30 j → 65535 < size) →
      rank_in order 33 ≡ rank_in order 30 + 1 → rank_in order 30 < length order → FreeBy (rank_in order) F 30 0 →
      (FreeBy (rank_in order) F 33 0 → JudgedBy (rank_in order) F 0 v) →
      JudgedBy (rank_in order) F 0 (after (size_holds m) (Err TooLongToWrite) v)
  size_judged size m v e to from then inside free rest =
      chained (JudgedBy (rank_in order) F 0) (size_holds m) (Err TooLongToWrite) v
      (λ f. first_by (rank_in order) F 30 0 free (to (omega (arith, e, leb-false m 65535 (failed_false _ f)))))
      (λ h. rest (next order F 30 33 then inside free (λ j w. omega (arith, e, from j w, leb-true m 65535 (held_true _ h)))))

-- a table of 33 alone
pub only_room : (room size : ℕ) → Rows (33 ∷ []) (RoomFails room size)
only_room room size = rows (33 ∷ []) (RoomFails room size) (λ n i z h. simp z.0 at h)

pub only_room_judged : (room size : ℕ) → JudgedBy (rank_in (33 ∷ [])) (RoomFails room size) 0 (after (room_holds size room) (Err NoRoom) (Ok tt))
only_room_judged room size =
    room_judged (33 ∷ []) (RoomFails room size) room size size refl (λ l. (refl, l)) (λ j w. w.1) refl (omega arith)
    (free_at_first (33 ∷ []) (RoomFails room size) 33 refl)

pub line_written : LineIsWritten
unfolding bytes_answer
line_written line out =
    by_verdict (33 ∷ []) (RoomFails (length out) (length line)) (only_room (length out) (length line)) 0 refl
    (bytes_hold line out) line (length line) refl (only_room_judged (length out) (length line))

pub line_stands : LineStands
unfolding bytes_after
line_stands line out h = simp (le-leb (length line) (length out) h) (take-append_seam line (drop (length line) out))
