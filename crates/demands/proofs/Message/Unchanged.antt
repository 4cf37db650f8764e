-- Two messages that differ only in ignored bytes have the same head, fields and field's bytes, for every kind of message.
use Rattle.wire.specs.Check.{on_ok}
use Rattle.std.specs.Prelude.{Result, Ok, Err}
use Prim.Native.Nat.{ℕ, ◌+◌, ◌≤◌, ◌<◌}
use mathlib.Core.Path.{◌≡◌, refl, sym, ap, ◌∙◌}
use mathlib.Core.Logic.{⊎_elim}
use mathlib.Core.Bool.{Bool, true, false, cond}
use mathlib.Core.List.{List}
use native.Mathlib.Omega.{arith}
use lib.Dec.{eqb}
use lib.ListN.{length, get_or}
use borrow.Author.Tests.{eqb-false}
use Rattle.field.specs.declared.Field.{Field}
use Rattle.field.specs.Field.{head_at, is_empty, empty_field, field_at, field_bytes}
use Rattle.wire.specs.declared.refusal.Refusal.{Refusal}
use Rattle.negotiate_flags.specs.declared.NegotiateFlags.{NegotiateFlags}
use Rattle.head.specs.Head.{flags_at, signature_holds, read_head}
use Rattle.field.proofs.Fields.{own_bytes_lem}
use Rattle.demands.specs.Ignored.{SameBytes}
use Rattle.demands.specs.Message.{Format, len_of, max_len_of, offset_of, Counts, Nonempty, Covers, Fails, Ignored, DifferInIgnored, SameMaxLen}
use Rattle.demands.proofs.Alike.{same_part, same16, same32}
use Rattle.demands.proofs.Message.Chain.{layout_of, JudgedH, head_judged}
use Rattle.demands.proofs.MaxLen.{kept}
use Rattle.demands.proofs.Message.{Stands, empty_bytes}

-- what a reader looks at is not ignored
pub record Seen (k : Format) (s : List ℕ) : Type 0 where
  pub early : (p : ℕ) → p < 12 → Ignored k s p → ⊥
  pub at_flags : (p : ℕ) → k.flags ≤ p → p < k.flags + 4 → Ignored k s p → ⊥
  pub at_len : (i p : ℕ) → 1 ≤ i → i ≤ k.last → Counts k s i → k.head i ≤ p → p < k.head i + 2 → Ignored k s p → ⊥
  pub at_offset : (i p : ℕ) → Nonempty k s i → k.head i + 4 ≤ p → p < k.head i + 8 → Ignored k s p → ⊥
  pub at_field : (i p : ℕ) → Nonempty k s i → k.fixed ≤ p → Covers k s i p → Ignored k s p → ⊥

module _ (k : Format) (a b : List ℕ) (seen : Seen k a) (d : DifferInIgnored k a b) where
  -- the two are alike wherever a byte is not ignored
  pub looked : (p : ℕ) → (Ignored k a p → ⊥) → get_or a p 0 ≡ get_or b p 0
  looked p h = ⊎_elim (λ e. e) (λ i. absurd (h i)) (d.bytes_same p)

  pub flags_same : flags_at a k.flags ≡ flags_at b k.flags
  flags_same = ap (λ (x : ℕ). record { bits = x }) (same32 a b k.flags (λ p l r. looked p (seen.at_flags p l r)))

  pub len_same : (i : ℕ) → 1 ≤ i → i ≤ k.last → Counts k a i → len_of k a i ≡ len_of k b i
  len_same i f t c = same16 a b (k.head i) (λ p l r. looked p (seen.at_len i p f t c l r))

  pub offset_same : (i : ℕ) → Nonempty k a i → offset_of k a i ≡ offset_of k b i
  offset_same i ne = same32 a b (k.head i + 4) (λ p l r. looked p (seen.at_offset i p ne l (omega arith)))

  -- a field is read alike, MaxLen apart; and MaxLen too where it is the same
  module _ (m : Bool) (max : m ≡ true → SameMaxLen k a b) where
    max_same : (i : ℕ) → 1 ≤ i → i ≤ k.last → Counts k a i → cond m (max_len_of k a i) 0 ≡ cond m (max_len_of k b i) 0
    max_same i f t c = go m refl where
      go : (n : Bool) → m ≡ n → cond n (max_len_of k a i) 0 ≡ cond n (max_len_of k b i) 0
      go true e = max e i f t c
      go false e = refl

    pub field_same : (i : ℕ) (c : Bool) → 1 ≤ i → i ≤ k.last → (c ≡ true → Counts k a i) →
        kept m (field_at a (k.head i) c) ≡ kept m (field_at b (k.head i) c)
    unfolding field_at kept
    field_same i false f t counts = refl
    field_same i true f t counts = go (eqb (len_of k a i) 0) refl where
      of : List ℕ → Bool → Field
      of s e = kept m (cond e (empty_field (max_len_of k s i)) (head_at s (k.head i)))

      go : (e : Bool) → eqb (len_of k a i) 0 ≡ e → of a (eqb (len_of k a i) 0) ≡ of b (eqb (len_of k b i) 0)
      go true p = rw (← (len_same i f t (counts refl)), p) (λ j. empty_field (max_same i f t (counts refl) j))
      go false p =
          let ne : Nonempty k a i = record { first = f; last = t; counts = counts refl; some = omega (arith, eqb-false (len_of k a i) 0 p) } in
          rw (← (len_same i f t (counts refl)), p)
          (λ j. record { offset = offset_same i ne j; len = len_of k a i; max_len = max_same i f t (counts refl) j })

  pub head_same : read_head (layout_of k) a ≡ read_head (layout_of k) b
  unfolding read_head signature_holds
  head_same =
      simp (d.length_same, byte 0 (omega arith), byte 1 (omega arith), byte 2 (omega arith), byte 3 (omega arith), byte 4 (omega arith), byte 5 (omega arith), byte 6 (omega arith), byte 7 (omega arith), byte 8 (omega arith), byte 9 (omega arith), byte 10 (omega arith), byte 11 (omega arith), at k.flags (omega arith) (omega arith), at (k.flags + 1) (omega arith) (omega arith), at (k.flags + 2) (omega arith) (omega arith), at (k.flags + 2 + 1) (omega arith) (omega arith))
    where
      byte : (p : ℕ) → p < 12 → get_or a p 0 ≡ get_or b p 0
      byte p l = looked p (seen.early p l)

      at : (p : ℕ) → k.flags ≤ p → p < k.flags + 4 → get_or a p 0 ≡ get_or b p 0
      at p l r = looked p (seen.at_flags p l r)

  -- a reading that goes by its fields, as far as `said` tells, is the same of both
  pub read_same : {Fs Rd : Type 0} (refuse : Refusal → Rd) (rest : NegotiateFlags → ℕ → Fs → Rd) (at : List ℕ → NegotiateFlags → Fs) (cut : Fs → Fs) (said : Rd → Rd) →
      8 ≤ k.fixed → ((w : NegotiateFlags) (n : ℕ) (f : Fs) → said (rest w n f) ≡ rest w n (cut f)) →
      cut (at a (flags_at a k.flags)) ≡ cut (at b (flags_at a k.flags)) →
      said (on_ok refuse (read_head (layout_of k) a) (λ w. rest w (length a) (at a w))) ≡ said (on_ok refuse (read_head (layout_of k) b) (λ w. rest w (length b) (at b w)))
  read_same {Fs} {Rd} refuse rest at cut said wide by same = go (read_head (layout_of k) a) (head_judged k a wide) ∙ ap (λ (h : Result NegotiateFlags Refusal). said (of b h)) head_same where
    of : List ℕ → Result NegotiateFlags Refusal → Rd
    of s h = on_ok refuse h (λ w. rest w (length s) (at s w))

    go : (h : Result NegotiateFlags Refusal) → JudgedH k a h → said (of a h) ≡ said (of b h)
    go (Ok w) j =
        rw j.0
        (by (flags_at a k.flags) (length a) _ ∙ ap (λ (f : Fs). rest (flags_at a k.flags) (length a) f) same
        ∙ ap (λ (n : ℕ). rest (flags_at a k.flags) n (cut (at b (flags_at a k.flags)))) d.length_same
        ∙ sym (by (flags_at a k.flags) (length b) _))
    go (Err e) j = refl

  -- and so is what a field covers
  pub bytes_same : (i : ℕ) (f : Field) → Stands k a i f → (Fails k a 6 i → ⊥) → (Fails k a 7 i → ⊥) → SameBytes a b f
  bytes_same i f w ends begins = go (is_empty f) refl where
    fit : (n : ℕ) → is_empty f ≡ false → n ≡ length a → f.offset + f.len ≤ n
    fit n p e = inside (λ l. ends (w.full p, l)) where
      inside : (length a < offset_of k a i + len_of k a i → ⊥) → f.offset + f.len ≤ n
      inside h = omega (arith, h, w.offset p, w.len p)

    after_fixed : is_empty f ≡ false → k.fixed ≤ f.offset
    after_fixed p = late (λ l. begins (w.full p, l)) where
      late : (offset_of k a i < k.fixed → ⊥) → k.fixed ≤ f.offset
      late h = omega (arith, h, w.offset p)

    go : (e : Bool) → is_empty f ≡ e → field_bytes a f ≡ field_bytes b f
    go true p = empty_bytes k a i f w p a ∙ sym (empty_bytes k a i f w p b)
    go false p =
        own_bytes_lem a f (fit (length a) p refl)
        ∙ same_part a b d.length_same f.offset f.len
        (λ q l r. looked q (seen.at_field i q (w.full p) (omega (arith, after_fixed p)) (omega (arith, w.offset p, w.len p), omega (arith, w.offset p, w.len p))))
        ∙ sym (own_bytes_lem b f (fit (length b) p (sym d.length_same)))
