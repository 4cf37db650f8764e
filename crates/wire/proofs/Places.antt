-- Laws of a refusal's place: where it is moved, and where there is none.
use Rattle.std.specs.Prelude.{Result, Ok, Err, ⊤}
use Prim.Native.Nat.{ℕ, ◌+◌, ◌≤◌}
use mathlib.Core.Path.{◌≡◌, refl, ap}
use mathlib.Core.List.{List, [], ◌∷◌}
use native.Mathlib.Omega.{arith}
use Rattle.wire.specs.declared.refusal.Refusal.{Refusal}
use Rattle.wire.specs.declared.refusal.Refusal.TheVariants.{TooLong, TooShort, WrongSignature, WrongType, NoCharset, PastEnd, InFixedPart, OddName, NameOverSecret, PairPastEnd, PairMissing, WrongEndPair, WrongPairSize, NoStrings, Unterminated, BytesLeft, WrongResponse, No128Bit, NoServerNames, TooLongToWrite, OddNameToWrite, WrongKey, NoRoom, ZeroInString, WrongLabel, PlaceNotBefore, TooManyJumps, NameTooLong, PlaceOutside, WrongSessionKey, NoMic, WrongScheme, WrongBase64}
use Rattle.wire.specs.declared.check.Checked.{Checked}
use Rattle.wire.specs.declared.check.Checked.TheVariants.{Held, Failed}
use Rattle.wire.specs.Check.{after, over_all, on_clear}
use Rattle.wire.specs.Refusal.{number_of, field_of, place_of, moved_by}

-- every refusal has no place and stays as it is, or is one of 10 to 13, whose place alone moves
data Place : Refusal → Type 0 where
  none : (e : Refusal) → ((10 ≤ number_of e) × (number_of e ≤ 13) → ⊥) → ((n : ℕ) → moved_by n e ≡ e) → place_of e ≡ 0 → Place e
  some : (e : Refusal) → (10 ≤ number_of e) × (number_of e ≤ 13) →
      ((n : ℕ) → (place_of (moved_by n e) ≡ n + place_of e) × (number_of (moved_by n e) ≡ number_of e) × (field_of (moved_by n e) ≡ field_of e)) → Place e

place : (e : Refusal) → Place e
place TooLong = none TooLong (λ h. omega (arith, h.0, h.1)) (λ n. refl) refl
place TooShort = none TooShort (λ h. omega (arith, h.0, h.1)) (λ n. refl) refl
place WrongSignature = none WrongSignature (λ h. omega (arith, h.0, h.1)) (λ n. refl) refl
place WrongType = none WrongType (λ h. omega (arith, h.0, h.1)) (λ n. refl) refl
place NoCharset = none NoCharset (λ h. omega (arith, h.0, h.1)) (λ n. refl) refl
place (PastEnd f) = none (PastEnd f) (λ h. omega (arith, h.0, h.1)) (λ n. refl) refl
place (InFixedPart f) = none (InFixedPart f) (λ h. omega (arith, h.0, h.1)) (λ n. refl) refl
place (OddName f) = none (OddName f) (λ h. omega (arith, h.0, h.1)) (λ n. refl) refl
place (NameOverSecret f) = none (NameOverSecret f) (λ h. omega (arith, h.0, h.1)) (λ n. refl) refl
place (PairPastEnd at) = some (PairPastEnd at) (omega arith, omega arith) (λ n. (refl, refl, refl))
place (PairMissing at) = some (PairMissing at) (omega arith, omega arith) (λ n. (refl, refl, refl))
place (WrongEndPair at) = some (WrongEndPair at) (omega arith, omega arith) (λ n. (refl, refl, refl))
place (WrongPairSize at) = some (WrongPairSize at) (omega arith, omega arith) (λ n. (refl, refl, refl))
place NoStrings = none NoStrings (λ h. omega (arith, h.0, h.1)) (λ n. refl) refl
place (Unterminated f) = none (Unterminated f) (λ h. omega (arith, h.0, h.1)) (λ n. refl) refl
place BytesLeft = none BytesLeft (λ h. omega (arith, h.0, h.1)) (λ n. refl) refl
place WrongResponse = none WrongResponse (λ h. omega (arith, h.0, h.1)) (λ n. refl) refl
place No128Bit = none No128Bit (λ h. omega (arith, h.0, h.1)) (λ n. refl) refl
place NoServerNames = none NoServerNames (λ h. omega (arith, h.0, h.1)) (λ n. refl) refl
place TooLongToWrite = none TooLongToWrite (λ h. omega (arith, h.0, h.1)) (λ n. refl) refl
place (OddNameToWrite f) = none (OddNameToWrite f) (λ h. omega (arith, h.0, h.1)) (λ n. refl) refl
place WrongKey = none WrongKey (λ h. omega (arith, h.0, h.1)) (λ n. refl) refl
place NoRoom = none NoRoom (λ h. omega (arith, h.0, h.1)) (λ n. refl) refl
place (ZeroInString f) = none (ZeroInString f) (λ h. omega (arith, h.0, h.1)) (λ n. refl) refl
place (WrongLabel f) = none (WrongLabel f) (λ h. omega (arith, h.0, h.1)) (λ n. refl) refl
place (PlaceNotBefore f) = none (PlaceNotBefore f) (λ h. omega (arith, h.0, h.1)) (λ n. refl) refl
place (TooManyJumps f) = none (TooManyJumps f) (λ h. omega (arith, h.0, h.1)) (λ n. refl) refl
place (NameTooLong f) = none (NameTooLong f) (λ h. omega (arith, h.0, h.1)) (λ n. refl) refl
place PlaceOutside = none PlaceOutside (λ h. omega (arith, h.0, h.1)) (λ n. refl) refl
place WrongSessionKey = none WrongSessionKey (λ h. omega (arith, h.0, h.1)) (λ n. refl) refl
place NoMic = none NoMic (λ h. omega (arith, h.0, h.1)) (λ n. refl) refl
place WrongScheme = none WrongScheme (λ h. omega (arith, h.0, h.1)) (λ n. refl) refl
place WrongBase64 = none WrongBase64 (λ h. omega (arith, h.0, h.1)) (λ n. refl) refl

-- its number and field stay
pub moved_number : (n : ℕ) (e : Refusal) → (number_of (moved_by n e) ≡ number_of e) × (field_of (moved_by n e) ≡ field_of e)
moved_number n e = go (place e) where
  go : Place e → (number_of (moved_by n e) ≡ number_of e) × (field_of (moved_by n e) ≡ field_of e)
  go (none e out same z) = (ap number_of (same n), ap field_of (same n))
  go (some e there moved) = ((moved n).1, (moved n).2)

-- and where there is a place, it moves
pub moved_at : (n : ℕ) (e : Refusal) → (10 ≤ number_of e) × (number_of e ≤ 13) → place_of (moved_by n e) ≡ n + place_of e
moved_at n e h = go (place e) where
  go : Place e → place_of (moved_by n e) ≡ n + place_of e
  go (none e out same z) = absurd (out h)
  go (some e there moved) = (moved n).0

-- only 10 to 13 have one
pub placeless_number : (e : Refusal) → ((10 ≤ number_of e) × (number_of e ≤ 13) → ⊥) → place_of e ≡ 0
placeless_number e h = go (place e) where
  go : Place e → place_of e ≡ 0
  go (none e out same z) = z
  go (some e there moved) = absurd (h there)

-- ---- what holds of every refusal that may be given

abbrev pub Refuses : {T : Type 0} → (Refusal → Type 0) → Result T Refusal → Type 0
Refuses Q (Ok t) = Unit
Refuses Q (Err e) = Q e

-- what holds of a refusal and of what follows holds of both together
pub of_after : {A : Type 0} (P : A → Type 0) (c : Checked) (e x : A) → P e → P x → P (after c e x)
of_after P Held e x p q = q
of_after P Failed e x p q = p

-- so it is of a group of checks and of what follows it
pub of_group : {A : Type 0} (Q : Refusal → Type 0) (P : A → Type 0) (f : Refusal → A) (v : Result ⊤ Refusal) (x : A) → Refuses Q v →
    ((e : Refusal) → Q e → P (f e)) → P x → P (on_clear f v x)
of_group Q P f (Ok u) x h p q = q
of_group Q P f (Err e) x h p q = p e h

-- and of one check over all fields
pub of_all : {A : Type 0} (Q : Refusal → Type 0) (ok : A → Checked) (refusal : ℕ → Refusal) (fs : List (ℕ × A)) → ((i : ℕ) → Q (refusal i)) →
    Refuses Q (over_all ok refusal fs)
of_all Q ok refusal [] h = tt
of_all Q ok refusal (f ∷ fs) h = of_after (Refuses Q) (ok f.1) (Err (refusal f.0)) (over_all ok refusal fs) (h f.0) (of_all Q ok refusal fs h)
