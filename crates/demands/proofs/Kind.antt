-- The kind as which a message is read.
use Prim.Native.Nat.{ℕ}
use mathlib.Core.Path.{◌≡◌, refl, sym, ap, ◌∙◌}
use mathlib.Core.Logic.{inl, inr, ⊎_elim}
use mathlib.Core.Bool.{Bool, true, false}
use mathlib.Core.List.{List}
use native.Mathlib.Omega.{arith}
use lib.Dec.{leb, eqb}
use lib.ListN.{length}
use borrow.Author.Tests.{leb-true, le-leb, eqb-true, eq-eqb}
use Rattle.wire.specs.Number.{u32_at}
use Rattle.wire.proofs.Bools.{and_left, and_right, and_both}
use Rattle.head.specs.declared.Kind.{Kind}
use Rattle.head.specs.declared.Kind.TheVariants.{Negotiate, Challenge, Authenticate}
use Rattle.head.specs.Head.{has_type, kind_of}
use Rattle.line.specs.Line.{ntlm_line}
use Rattle.demands.specs.Kind.{TypeIs, KindByType, KindIs, ReadAsKind, LineAsKind}
use Rattle.demands.proofs.Bools.{true_not_false}

-- kinds of different numbers differ
abbrev number : Kind → ℕ
number Negotiate = 1
number Challenge = 2
number Authenticate = 3

has : (n : ℕ) (s : List ℕ) → has_type n s ≡ true → TypeIs s n
has n s h =
    (leb-true 12 (length s) (and_left (leb 12 (length s)) (eqb (u32_at s 8) n) h), eqb-true (u32_at s 8) n (and_right (leb 12 (length s)) (eqb (u32_at s 8) n) h))

of_type : (n : ℕ) (s : List ℕ) → TypeIs s n → has_type n s ≡ true
of_type n s t = and_both (leb 12 (length s)) (eqb (u32_at s 8) n) (le-leb 12 (length s) t.0) (eq-eqb (u32_at s 8) n t.1)

pub kind_is : KindIs
unfolding kind_of
kind_is s = go (has_type 1 s) (has_type 2 s) refl refl where
  not : (n : ℕ) → has_type n s ≡ false → TypeIs s n → ⊥
  not n h t = true_not_false (sym (of_type n s t) ∙ h)

  one_type : TypeIs s 1 → TypeIs s 2 → ⊥
  one_type a b = omega (arith, a.1, b.1)

  go : (x y : Bool) → has_type 1 s ≡ x → has_type 2 s ≡ y → KindByType s
  go true y p q =
      let k : kind_of s ≡ Negotiate = simp p in
      record {
        negotiate = (λ h. has 1 s p, λ t. k);
        challenge = (λ h. absurd (omega (arith, ap number (sym k ∙ h))), λ t. absurd (one_type (has 1 s p) t));
        authenticate = (λ h. absurd (omega (arith, ap number (sym k ∙ h))), λ t. absurd (t (inl (has 1 s p))));
      }
  go false true p q =
      let k : kind_of s ≡ Challenge = simp (p, q) in
      record {
        negotiate = (λ h. absurd (omega (arith, ap number (sym k ∙ h))), λ t. absurd (not 1 p t));
        challenge = (λ h. has 2 s q, λ t. k);
        authenticate = (λ h. absurd (omega (arith, ap number (sym k ∙ h))), λ t. absurd (t (inr (has 2 s q))));
      }
  go false false p q =
      let k : kind_of s ≡ Authenticate = simp (p, q) in
      record {
        negotiate = (λ h. absurd (omega (arith, ap number (sym k ∙ h))), λ t. absurd (not 1 p t));
        challenge = (λ h. absurd (omega (arith, ap number (sym k ∙ h))), λ t. absurd (not 2 q t));
        authenticate = (λ h. ⊎_elim (not 1 p) (not 2 q), λ t. k);
      }

pub read_as_kind : ReadAsKind
read_as_kind s = record { nego = refl; chal = refl; auth = refl }

pub line_as_kind : LineAsKind
unfolding ntlm_line
line_as_kind s = record { nego = refl; chal = refl; auth = refl; ntlm = refl }
