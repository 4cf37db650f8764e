-- The chain of checks 1 to 5, and a check over numbered fields, against document 01's table, for every kind of message.
use Rattle.std.specs.Prelude.{Result, Ok, Err, ⊤}
use Rattle.negotiate_flags.specs.declared.NegotiateFlags.{NegotiateFlags}
use Prim.Native.Nat.{ℕ, ◌+◌, ◌≤◌, ◌<◌}
use mathlib.Core.Path.{◌≡◌, refl, sym, ap, ◌∙◌, subst}
use mathlib.Core.Logic.{inl, ⊎_elim}
use mathlib.Core.Bool.{Bool, true, false, ◌||◌}
use mathlib.Core.List.{List}
use native.Mathlib.Nat.{zero-add}
use native.Mathlib.Omega.{arith}
use lib.Dec.{ltb}
use lib.ListN.{length, take, get_or, length-take}
use lib.Seq.{ext_get_or, get_or-take}
use borrow.Author.Tests.{leb-true, leb-false, eqb-true, eqb-false, ne_eqb, ltb-true, ltb-false}
use Rattle.wire.specs.declared.check.Checked.{Checked}
use Rattle.wire.specs.declared.check.Checked.TheVariants.{Held, Failed}
use Rattle.wire.proofs.Laws.{held_true}
use Rattle.field.specs.declared.Field.{Field}
use Rattle.head.specs.declared.Layout.{Layout}
use Rattle.wire.specs.declared.refusal.Refusal.{Refusal}
use Rattle.wire.specs.Check.{over_all, on_clear}
use Rattle.negotiate_flags.specs.Flags.{unicode, oem, charset_holds}
use Rattle.head.specs.Head.{signature, signature_holds, flags_at, read_head}
use Rattle.wire.specs.Number.{u32_at, stands_at}
use Rattle.wire.specs.Refusal.{number_of, field_of}
use Rattle.head.proofs.Stands.{stands, stand}
use Rattle.demands.specs.Order.{First}
use Rattle.demands.specs.Message.{Format, Fails}
use Rattle.demands.proofs.Order.{Free, first, next_check, at_row}
use Rattle.demands.proofs.Bools.{true_not_false, both_ways, failed_false, chained}
use Rattle.demands.proofs.Order.Rank.{JudgedBy, then_by, LinksBy, over_judged_by}

abbrev pub layout_of : Format → Layout
layout_of k = record { fixed = k.fixed; message_type = k.number; flags = k.flags }

-- what a verdict says: nothing fails up to the next check, or its refusal is the first failure
abbrev pub JudgedV : Format → List ℕ → ℕ → Result ⊤ Refusal → Type 0
JudgedV k s = JudgedBy (λ n. n) (Fails k s)

-- a check over numbered fields, against the table's row n, from field i on
abbrev pub Links : Format → List ℕ → ℕ → (Field → Checked) → ℕ → List (ℕ × Field) → Type 0
Links k s = LinksBy (Fails k s)

pub over_judged : (k : Format) (s : List ℕ) (n next : ℕ) (ok : Field → Checked) (e : ℕ → Refusal) → next ≡ n + 1 →
    ((j : ℕ) → (number_of (e j) ≡ n) × (field_of (e j) ≡ j)) →
    (fs : List (ℕ × Field)) (i : ℕ) → Links k s n ok i fs → Free (Fails k s) n i →
    ((j : ℕ) → i + length fs ≤ j → Fails k s n j → ⊥) → JudgedV k s next (over_all ok e fs)
over_judged k s n next ok e is-next = over_judged_by (λ m. m) (Fails k s) n next ok e is-next (λ m q. q)

module _ (k : Format) (s : List ℕ) where
  -- checks 1 to 5
  abbrev pub JudgedH : Result NegotiateFlags Refusal → Type 0
  JudgedH (Ok w) = (w ≡ flags_at s k.flags) × Free (Fails k s) 6 0
  JudgedH (Err e) = First (Fails k s) (number_of e) (field_of e)

  none_at_0 : Free (Fails k s) 1 0
  none_at_0 m j b h =
      ⊎_elim (λ l. subst (λ (x : ℕ). Fails k s x j) (zero_is m l) h) (λ q. omega arith) b
    where
      zero_is : (x : ℕ) → x < 1 → x ≡ 0
      zero_is x l = omega arith

  signature_failed : signature_holds s ≡ Failed → Fails k s 3 0
  unfolding signature_holds
  signature_failed h = (
    refl,
    λ e. both_ways (stands_at s 0 signature)
        (stand s 0 signature (λ q l. rw zero-add (sym (get_or-take 8 s q 0 l) ∙ ap (λ (x : List ℕ). get_or x q 0) e)))
        (failed_false _ h),
  )

  signature_held : 8 ≤ length s → signature_holds s ≡ Held → (j : ℕ) → Fails k s 3 j → ⊥
  unfolding signature_holds
  signature_held l h j fails =
      fails.1
      (ext_get_or 0 (take 8 s) signature (simp length-take (omega arith))
      (λ q b. at q (omega (arith, (simp length-take at b)))))
    where
      at : (q : ℕ) → q < 8 → get_or (take 8 s) q 0 ≡ get_or signature q 0
      at q b = get_or-take 8 s q 0 b ∙ (rw zero-add at (stands s 0 signature (held_true _ h) q b))

  pub head_judged : 8 ≤ k.fixed → JudgedH (read_head (layout_of k) s)
  unfolding read_head
  head_judged wide =
      chained JudgedH _ _ _
      (λ f. first (Fails k s) 1 0 none_at_0 (refl, leb-false (length s) 65535 (failed_false _ f)))
      (λ h1. let c1 = next_check (Fails k s) 1 0 2 refl none_at_0 (λ j l w. omega (arith, leb-true (length s) 65535 (held_true _ h1), w.1)) in
      chained JudgedH _ _ _
      (λ f. first (Fails k s) 2 0 c1 (refl, leb-false k.fixed (length s) (failed_false _ f)))
      (λ h2. let long = leb-true k.fixed (length s) (held_true _ h2) in
      let c2 = next_check (Fails k s) 2 0 3 refl c1 (λ j l w. omega (arith, long, w.1)) in
      chained JudgedH _ _ _
      (λ f. first (Fails k s) 3 0 c2 (signature_failed f))
      (λ h3. let c3 = next_check (Fails k s) 3 0 4 refl c2 (λ j l. signature_held (omega arith) h3 j) in
      chained JudgedH _ _ _
      (λ f. first (Fails k s) 4 0 c3 (refl, eqb-false (u32_at s 8) k.number (failed_false _ f)))
      (λ h4. let c4 = next_check (Fails k s) 4 0 5 refl c3 (λ j l w. w.1 (eqb-true (u32_at s 8) k.number (held_true _ h4))) in
      chained JudgedH _ _ _
      (λ f. first (Fails k s) 5 0 c4 (charset_failed f))
      (λ h5. (refl, next_check (Fails k s) 5 0 6 refl c4 (λ j l. charset_held h5 j)))))))
    where
      charset_failed : charset_holds (flags_at s k.flags) ≡ Failed → Fails k s 5 0
      charset_failed f = go (unicode (flags_at s k.flags)) (oem (flags_at s k.flags)) refl refl (failed_false _ f) where
        go : (a b : Bool) → unicode (flags_at s k.flags) ≡ a → oem (flags_at s k.flags) ≡ b → (a || b) ≡ false → Fails k s 5 0
        go true b p q e = absurd (true_not_false e)
        go false true p q e = absurd (true_not_false e)
        go false false p q e = (refl, eqb-false _ 1 p, eqb-false _ 1 q)

      charset_held : charset_holds (flags_at s k.flags) ≡ Held → (j : ℕ) → Fails k s 5 j → ⊥
      charset_held h j w = go (unicode (flags_at s k.flags)) (oem (flags_at s k.flags)) refl refl (held_true _ h) where
        go : (a b : Bool) → unicode (flags_at s k.flags) ≡ a → oem (flags_at s k.flags) ≡ b → (a || b) ≡ true → ⊥
        go true b p q e = w.1 (eqb-true _ 1 p)
        go false true p q e = w.2 (eqb-true _ 1 q)
        go false false p q e = true_not_false (sym e)

  -- a group of checks, and what follows it
  pub then : (m next : ℕ) (v x : Result ⊤ Refusal) → JudgedV k s m v → (Free (Fails k s) m 0 → JudgedV k s next x) → JudgedV k s next (on_clear Err v x)
  then = then_by (λ n. n) (Fails k s)

  -- the table ends at 9
  pub beyond : Free (Fails k s) 10 0 → (n i : ℕ) → Fails k s n i → ⊥
  beyond free n i h = go (ltb n 10) refl where
    go : (t : Bool) → ltb n 10 ≡ t → ⊥
    go true p = free n i (inl (ltb-true n 10 p)) h
    go false p =
        let l = ltb-false n 10 p in
        simp (ne_eqb n 1 (λ e. omega arith), ne_eqb n 2 (λ e. omega arith), ne_eqb n 3 (λ e. omega arith), ne_eqb n 4 (λ e. omega arith), ne_eqb n 5 (λ e. omega arith), ne_eqb n 6 (λ e. omega arith), ne_eqb n 7 (λ e. omega arith), ne_eqb n 8 (λ e. omega arith), ne_eqb n 9 (λ e. omega arith)) at h

  -- a table's row by its number
  pub of_check : (n i : ℕ) (P : ℕ → Type 0) → (Fails k s 1 i → P 1) → (Fails k s 2 i → P 2) → (Fails k s 3 i → P 3) → (Fails k s 4 i → P 4) →
      (Fails k s 5 i → P 5) → (Fails k s 6 i → P 6) → (Fails k s 7 i → P 7) → (Fails k s 8 i → P 8) → (Fails k s 9 i → P 9) → Fails k s n i → P n
  of_check n i P a b c d e f g h m =
      at_row P 1 n _ _ a (at_row P 2 n _ _ b (at_row P 3 n _ _ c (at_row P 4 n _ _ d (at_row P 5 n _ _ e (
      at_row P 6 n _ _ f (at_row P 7 n _ _ g (at_row P 8 n _ _ h (at_row P 9 n _ _ m (λ x. absurd x)))))))))

  pub by_row : (n i : ℕ) → (Fails k s 1 i → ⊥) → (Fails k s 2 i → ⊥) → (Fails k s 3 i → ⊥) → (Fails k s 4 i → ⊥) → (Fails k s 5 i → ⊥) →
      (Fails k s 6 i → ⊥) → (Fails k s 7 i → ⊥) → (Fails k s 8 i → ⊥) → (Fails k s 9 i → ⊥) → Fails k s n i → ⊥
  by_row n i = of_check n i (λ x. ⊥)

  pub up_to_9 : (n i : ℕ) → Fails k s n i → n ≤ 9
  up_to_9 n i =
      of_check n i (λ x. x ≤ 9) (λ h. omega arith) (λ h. omega arith) (λ h. omega arith) (λ h. omega arith) (λ h. omega arith)
      (λ h. omega arith) (λ h. omega arith) (λ h. omega arith) (λ h. omega arith)
