-- Names of taken messages are made of whole units.
use Prim.Native.Nat.{ℕ, zero, suc, ◌+◌, ◌*◌, ◌%◌, ◌<◌}
use mathlib.Core.Path.{◌≡◌, refl, ap, ◌∙◌}
use mathlib.Core.Logic.{inr}
use mathlib.Core.Bool.{Bool, true, false}
use mathlib.Core.List.{List, [], ◌∷◌}
use native.Mathlib.Omega.{arith}
use lib.Dec.{eqb}
use lib.ListN.{length, get_or, length-take, length-drop}
use borrow.Author.Tests.{eqb-true, eqb-false}
use Rattle.wire.specs.Number.{u16_at}
use Rattle.field.specs.declared.Field.{Field}
use Rattle.field.specs.Field.{field_bytes}
use Rattle.line_words.specs.Name.{numbers16}
use Rattle.demands.specs.Message.{Format, authenticate, challenge, Set, Nonempty, len_of, Fails}
use Rattle.demands.specs.OwnBytes.{OwnField}
use Rattle.demands.specs.Units.{WholeUnits, EvenHasUnits, AuthenticateNamesWhole, TargetNameWhole}
use Rattle.demands.proofs.OwnBytes.{none_fails, authenticate_own}
use Rattle.demands.proofs.OwnBytes.ChallengeOwn.{taken_as, challenge_own}

-- ---- the units of an even list

count_is : (name : List ℕ) → length name % 2 ≡ 0 → 2 * length (numbers16 name) ≡ length name
count_is [] h = refl
count_is (a ∷ []) h = absurd (omega arith)
count_is (a ∷ b ∷ name) h = omega (arith, count_is name (omega arith))

unit_is : (name : List ℕ) (k : ℕ) → k < length (numbers16 name) → get_or (numbers16 name) k 0 ≡ u16_at name (2 * k)
unit_is [] k l = absurd (omega arith)
unit_is (a ∷ []) k l = absurd (omega arith)
unit_is (a ∷ b ∷ name) zero l = refl
unit_is (a ∷ b ∷ name) (suc k) l =
    let low : 2 * suc k ≡ suc (suc (2 * k)) = omega arith in
    let high : 2 * suc k + 1 ≡ suc (suc (2 * k + 1)) = omega arith in
    rw (high, low) (unit_is name k (omega arith))

pub even_has_units : EvenHasUnits
even_has_units name h = record { even = h; count = count_is name h; unit = unit_is name }

-- ---- a name's bytes are even

module _ (k : Format) (s : List ℕ) (i : ℕ) {f : Field} (o : OwnField k s i f)
    (none : Fails k s 8 i → ⊥) (name : k.Name i) (wide : Set k s 0x1) where
  long : Nonempty k s i → length (field_bytes s f) ≡ len_of k s i
  long ne = ap length (o.bytes ne) ∙ simp (length-take, length-drop) (omega (arith, o.whole ne))

  -- an odd one would be nonempty or not, and is neither
  even_bytes : length (field_bytes s f) % 2 ≡ 0
  even_bytes = go (eqb (length (field_bytes s f) % 2) 0) refl where
    full : (length (field_bytes s f) % 2 ≡ 0 → ⊥) → Nonempty k s i → ⊥
    full odd ne = none (ne, name, wide, inr (omega (arith, odd, long ne)))

    go : (t : Bool) → eqb (length (field_bytes s f) % 2) 0 ≡ t → length (field_bytes s f) % 2 ≡ 0
    go true e = eqb-true (length (field_bytes s f) % 2) 0 e
    go false e = ap (λ (b : List ℕ). length b % 2) (o.none (full (eqb-false (length (field_bytes s f) % 2) 0 e))).2

  whole_name : WholeUnits (field_bytes s f)
  whole_name = even_has_units (field_bytes s f) even_bytes

pub authenticate_names_whole : AuthenticateNamesWhole
authenticate_names_whole s a h wide =
    let o = authenticate_own s a h in
    let none = none_fails s a h in
    record {
      domain = whole_name authenticate s 3 o.domain (none 8 3) (omega arith, omega arith) wide;
      user = whole_name authenticate s 4 o.user (none 8 4) (omega arith, omega arith) wide;
      workstation = whole_name authenticate s 5 o.workstation (none 8 5) (omega arith, omega arith) wide;
    }

pub target_name_whole : TargetNameWhole
target_name_whole s c h wide = whole_name challenge s 1 (challenge_own s c h).target_name ((taken_as s c h).none 8 1) refl wide
