-- AUTHENTICATE and NEGOTIATE are written exactly when no check of their writing fails.
use Prim.Native.Nat.{ℕ, ◌+◌, ◌%◌, ◌≤◌, ◌<◌}
use mathlib.Core.Path.{◌≡◌, refl, sym, ap, ◌∙◌}
use mathlib.Core.Logic.{◌⊎◌, inl, inr, ⊎_elim}
use mathlib.Core.Bool.{Bool, true, false, ◌||◌, ◌&&◌, not}
use mathlib.Core.List.{List, [], ◌∷◌}
use native.Mathlib.Omega.{arith}
use lib.Dec.{eqb}
use lib.ListN.{length, length-append}
use borrow.Author.Tests.{eqb-true, eqb-false, eq-eqb}
use Rattle.wire.specs.declared.check.Checked.TheVariants.{Held, Failed}
use Rattle.wire.specs.declared.refusal.Refusal.TheVariants.{OddNameToWrite}
use Rattle.wire.proofs.Laws.{held_true}
use Rattle.negotiate_flags.specs.declared.NegotiateFlags.{NegotiateFlags}
use Rattle.negotiate_flags.specs.Flags.{unicode, oem, key_exch, charset_holds}
use Rattle.write_authenticate.specs.Writing.{even_to_write, check_names_to_write, key_holds, size_to_write, check_to_write, authenticate_bytes, write_answer}
use Rattle.write_authenticate.proofs.Sent.{length-payload, length-message}
use Rattle.write_negotiate.specs.Writing.{negotiate_bytes, size_to_write as negotiate_to_write, check_to_write as check_negotiate, write_answer as negotiate_answer}
use Rattle.write_negotiate.proofs.Sent.{length-message as length-negotiate}
use Rattle.demands.specs.Order.{rank_in}
use Rattle.demands.specs.Message.{FlagSet}
use Rattle.demands.specs.WrittenExactly.{Fails5, authenticate_size, AuthenticateWritingFails, authenticate_order, AuthenticateIsWritten, negotiate_size, NegotiateWritingFails, NegotiateIsWritten}
use Rattle.demands.proofs.Bools.{true_not_false, failed_false, chained}
use Rattle.demands.proofs.Order.Rank.{FreeBy, JudgedBy, only_in, first_by, skip_by, then_by, over_judged_by}
use Rattle.demands.proofs.WrittenExactly.{Rows, rows, free_at_first, next, room_judged, size_judged, by_verdict}

-- check 5
charset_failed : (w : NegotiateFlags) → charset_holds w ≡ Failed → Fails5 w.bits 0
charset_failed w f = go (unicode w) (oem w) refl refl (failed_false _ f) where
  go : (a b : Bool) → unicode w ≡ a → oem w ≡ b → (a || b) ≡ false → Fails5 w.bits 0
  go true b p q e = absurd (true_not_false e)
  go false true p q e = absurd (true_not_false e)
  go false false p q e = (refl, eqb-false _ 1 p, eqb-false _ 1 q)

charset_held : (w : NegotiateFlags) (j : ℕ) → charset_holds w ≡ Held → Fails5 w.bits j → ⊥
charset_held w j h x = go (unicode w) (oem w) refl refl (held_true _ h) where
  go : (a b : Bool) → unicode w ≡ a → oem w ≡ b → (a || b) ≡ true → ⊥
  go true b p q e = x.1 (eqb-true _ 1 p)
  go false true p q e = x.2 (eqb-true _ 1 q)
  go false false p q e = true_not_false (sym e)

-- check 31 at one name
odd_failed : (u : Bool) (bits : ℕ) (x : List ℕ) → (u ≡ true → FlagSet bits 0x1) → even_to_write u x ≡ Failed → FlagSet bits 0x1 × (length x % 2 ≡ 1)
odd_failed u bits x to f = go u (eqb (length x % 2) 0) refl refl (failed_false _ f) where
  go : (a b : Bool) → u ≡ a → eqb (length x % 2) 0 ≡ b → (not a || b) ≡ false → FlagSet bits 0x1 × (length x % 2 ≡ 1)
  go true true p q e = absurd (true_not_false e)
  go true false p q e = (to p, odd (eqb-false (length x % 2) 0 q)) where
    odd : (length x % 2 ≡ 0 → ⊥) → length x % 2 ≡ 1
    odd d = omega (arith, d)
  go false b p q e = absurd (true_not_false e)

odd_held : (u : Bool) (bits : ℕ) (x : List ℕ) → (FlagSet bits 0x1 → u ≡ true) → even_to_write u x ≡ Held → FlagSet bits 0x1 → length x % 2 ≡ 1 → ⊥
odd_held u bits x from h set odd = go u (eqb (length x % 2) 0) refl refl (held_true _ h) where
  go : (a b : Bool) → u ≡ a → eqb (length x % 2) 0 ≡ b → (not a || b) ≡ true → ⊥
  go true true p q e = omega (arith, eqb-true (length x % 2) 0 q, odd)
  go true false p q e = true_not_false (sym e)
  go false b p q e = true_not_false (sym (from set) ∙ p)

-- check 32
key_failed : (w : NegotiateFlags) (key : List ℕ) → key_holds w key ≡ Failed → (0 < length key) × ((length key ≡ 16 → ⊥) ⊎ (FlagSet w.bits 0x40000000 → ⊥))
key_failed w key f = go (eqb (length key) 0) (eqb (length key) 16) (key_exch w) refl refl refl (failed_false _ f) where
  some : (length key ≡ 0 → ⊥) → 0 < length key
  some d = omega (arith, d)

  go : (a b c : Bool) → eqb (length key) 0 ≡ a → eqb (length key) 16 ≡ b → key_exch w ≡ c → (a || (b && c)) ≡ false →
      (0 < length key) × ((length key ≡ 16 → ⊥) ⊎ (FlagSet w.bits 0x40000000 → ⊥))
  go true b c p q r e = absurd (true_not_false e)
  go false false c p q r e = (some (eqb-false _ 0 p), inl (eqb-false _ 16 q))
  go false true false p q r e = (some (eqb-false _ 0 p), inr (eqb-false _ 1 r))
  go false true true p q r e = absurd (true_not_false e)

key_is_right : (w : NegotiateFlags) (key : List ℕ) → key_holds w key ≡ Held → (0 < length key) × ((length key ≡ 16 → ⊥) ⊎ (FlagSet w.bits 0x40000000 → ⊥)) → ⊥
key_is_right w key h x = go (eqb (length key) 0) (eqb (length key) 16) (key_exch w) refl refl refl (held_true _ h) where
  go : (a b c : Bool) → eqb (length key) 0 ≡ a → eqb (length key) 16 ≡ b → key_exch w ≡ c → (a || (b && c)) ≡ true → ⊥
  go true b c p q r e = omega (arith, eqb-true (length key) 0 p, x.0)
  go false false c p q r e = true_not_false (sym e)
  go false true false p q r e = true_not_false (sym e)
  go false true true p q r e = ⊎_elim (λ d. d (eqb-true _ 16 q)) (λ d. d (eqb-true _ 1 r)) x.1

module _ (room : ℕ) (w : NegotiateFlags) (lm nt dom usr wks key : List ℕ) where
  abbrev F : ℕ → ℕ → Type 0
  F = AuthenticateWritingFails room w.bits lm nt dom usr wks key

  abbrev rank : ℕ → ℕ
  rank = rank_in authenticate_order

  authenticate_rows : Rows authenticate_order F
  authenticate_rows = rows authenticate_order F (λ n i z h. simp (z.0, z.1.0, z.1.1.0, z.1.1.1.0, z.1.1.1.1.0) at h)

  size_is : size_to_write lm nt dom usr wks key ≡ authenticate_size lm nt dom usr wks key
  size_is = ap (λ (n : ℕ). 88 + n) (length-payload lm nt dom usr wks key)

  names_judged : FreeBy rank F 31 0 → JudgedBy rank F 32 (check_names_to_write (unicode w) dom usr wks)
  unfolding check_names_to_write
  names_judged free =
      over_judged_by rank F 31 32 (even_to_write (unicode w)) OddNameToWrite refl (only_in authenticate_order 31 (omega arith)) (λ j. (refl, refl))
      ((3, dom) ∷ (4, usr) ∷ (5, wks) ∷ []) 3 (
        refl,
        failed 3 dom (omega arith) (omega arith),
        held dom,
        (
          refl,
          failed 4 usr (omega arith) (omega arith),
          held usr,
          (refl, failed 5 wks (omega arith) (omega arith), held wks, tt),
        ),
      )
      (skip_by rank F 31 3 free (λ j l h. omega (arith, h.0)))
      (λ j l h. omega (arith, h.1))
    where
      failed : (i : ℕ) (x : List ℕ) → 3 ≤ i → i ≤ 5 → even_to_write (unicode w) x ≡ Failed → (3 ≤ i) × (i ≤ 5) × FlagSet w.bits 0x1 × (length x % 2 ≡ 1)
      failed i x a b f = let o = odd_failed (unicode w) w.bits x (eqb-true _ 1) f in (a, b, o.0, o.1)

      held : {A B : Type 0} (x : List ℕ) → even_to_write (unicode w) x ≡ Held → A × B × FlagSet w.bits 0x1 × (length x % 2 ≡ 1) → ⊥
      held x h y = odd_held (unicode w) w.bits x (eq-eqb _ 1) h y.2 y.3

  authenticate_judged : JudgedBy rank F 0 (check_to_write room w lm nt dom usr wks key)
  unfolding check_to_write
  authenticate_judged =
      let none = free_at_first authenticate_order F 5 refl in
      chained (JudgedBy rank F 0) _ _ _
      (λ f. first_by rank F 5 0 none (charset_failed w f))
      (λ h5. then_by rank F 32 0 (check_names_to_write (unicode w) dom usr wks) _
      (names_judged (next authenticate_order F 5 31 refl (omega arith) none (λ j. charset_held w j h5)))
      (λ c32. chained (JudgedBy rank F 0) _ _ _
      (λ f. let k = key_failed w key f in first_by rank F 32 6 (skip_by rank F 32 6 c32 (λ j l x. omega (arith, l, x.0))) (refl, k.0, k.1))
      (λ h32. size_judged authenticate_order F (authenticate_size lm nt dom usr wks key) (size_to_write lm nt dom usr wks key) _ size_is
      (λ l. (refl, l)) (λ j x. x.1) refl (omega arith)
      (next authenticate_order F 32 30 refl (omega arith) c32 (λ j x. key_is_right w key h32 (x.1, x.2)))
      (room_judged authenticate_order F room (authenticate_size lm nt dom usr wks key) (size_to_write lm nt dom usr wks key) size_is
      (λ l. (refl, l)) (λ j x. x.1) refl (omega arith)))))

pub authenticate_written : AuthenticateIsWritten
unfolding write_answer
authenticate_written room w v mic lm nt dom usr wks key v8 m16 =
    by_verdict authenticate_order (AuthenticateWritingFails room w.bits lm nt dom usr wks key) (authenticate_rows room w lm nt dom usr wks key) 0 refl
    (check_to_write room w lm nt dom usr wks key) (authenticate_bytes w v mic lm nt dom usr wks key) (authenticate_size lm nt dom usr wks key)
    (length-message lm nt dom usr wks key w v mic v8 m16 ∙ size_is room w lm nt dom usr wks key)
    (authenticate_judged room w lm nt dom usr wks key)

module _ (room : ℕ) (w : NegotiateFlags) (dom wks : List ℕ) where
  abbrev order : List ℕ
  order = 5 ∷ 30 ∷ 33 ∷ []

  abbrev G : ℕ → ℕ → Type 0
  G = NegotiateWritingFails room w.bits dom wks

  negotiate_size_lem : negotiate_to_write dom wks ≡ negotiate_size dom wks
  negotiate_size_lem = simp length-append

  negotiate_judged : JudgedBy (rank_in order) G 0 (check_negotiate room w dom wks)
  unfolding check_negotiate
  negotiate_judged =
      let none = free_at_first order G 5 refl in
      chained (JudgedBy (rank_in order) G 0) _ _ _
      (λ f. first_by (rank_in order) G 5 0 none (charset_failed w f))
      (λ h5. size_judged order G (negotiate_size dom wks) (negotiate_to_write dom wks) _ negotiate_size_lem
      (λ l. (refl, l)) (λ j x. x.1) refl (omega arith)
      (next order G 5 30 refl (omega arith) none (λ j. charset_held w j h5))
      (room_judged order G room (negotiate_size dom wks) (negotiate_to_write dom wks) negotiate_size_lem
      (λ l. (refl, l)) (λ j x. x.1) refl (omega arith)))

pub negotiate_written : NegotiateIsWritten
unfolding negotiate_answer
negotiate_written room w v dom wks v8 =
    by_verdict (5 ∷ 30 ∷ 33 ∷ []) (NegotiateWritingFails room w.bits dom wks)
    (rows (5 ∷ 30 ∷ 33 ∷ []) (NegotiateWritingFails room w.bits dom wks) (λ n i z h. simp (z.0, z.1.0, z.1.1.0) at h)) 0 refl
    (check_negotiate room w dom wks) (negotiate_bytes w v dom wks) (negotiate_size dom wks)
    (length-negotiate dom wks w v v8 ∙ negotiate_size_lem room w dom wks)
    (negotiate_judged room w dom wks)
