-- Where a MIC is: the lowest offset, tested field by field.
use Rattle.std.specs.Prelude.{Result, Ok, Err}
use Rattle.wire.specs.declared.refusal.Refusal.{Refusal}
use Prim.Native.Nat.{ℕ, ◌+◌, ◌≤◌, min}
use mathlib.Core.Path.{◌≡◌, refl, sym, ap, ◌∙◌}
use mathlib.Core.Bool.{Bool, true, false, ◌||◌, ◌&&◌, not, cond}
use mathlib.Core.List.{List, [], ◌∷◌}
use native.Mathlib.Nat.{le_trans, le_refl}
use native.Mathlib.Omega.{arith}
use lib.Dec.{leb}
use lib.ListN.{length, take, drop, replicate}
use borrow.Author.Tests.{leb-true, leb-false, le-leb, lt-leb}
use Rattle.field.specs.declared.Field.{Field}
use Rattle.wire.specs.declared.refusal.Refusal.TheVariants.{PastEnd}
use Rattle.wire.specs.Check.{over_all}
use Rattle.field.specs.Field.{is_empty, ends_inside, begins}
use Rattle.wire.proofs.Bools.{and_assoc, and-true, or_assoc, or-false}
use Rattle.wire.proofs.Laws.{after_clear}
use Rattle.read_authenticate.specs.declared.Authenticate.{Authenticate}
use Rattle.read_authenticate.specs.declared.Fields.{Fields}
use Rattle.read_authenticate.specs.Authenticate.{fields_at, all_fields, check_ends, lowest_offset, mic_present, reading_of, mic_bytes, read_authenticate}
use Rattle.read_authenticate.proofs.Laws.{TakenBy, taken_by, fields_held}

leb_min : (k a b : ℕ) → leb k (min a b) ≡ (leb k a && leb k b)
leb_min k a b = go (leb k a) (leb k b) refl refl where
  go : (x y : Bool) → leb k a ≡ x → leb k b ≡ y → leb k (min a b) ≡ (leb k a && leb k b)
  go true true p q = rw (p, q) (le-leb k (min a b) (omega (arith, leb-true k a p, leb-true k b q)))
  go true false p q = rw (p, q) (lt-leb k (min a b) (omega (arith, leb-false k b q)))
  go false y p q = rw p (lt-leb k (min a b) (omega (arith, leb-false k a p)))

absorb : (a r s : Bool) → (a && (r && (s || a))) ≡ ((a && r) && true)
absorb true true true = refl
absorb true true false = refl
absorb true false s = refl
absorb false r s = refl

-- every field leaves room for what ends at k; and some field is nonempty
abbrev pub room : ℕ → List (ℕ × Field) → Bool
room k [] = true
room k (f ∷ fs) = begins k f.1 && room k fs

abbrev pub some : List (ℕ × Field) → Bool
some [] = false
some (f ∷ fs) = not (is_empty f.1) || some fs

pub lowest : (k : ℕ) (fs : List (ℕ × Field)) (n : ℕ) → leb k (lowest_offset fs n) ≡ (room k fs && (some fs || leb k n))
lowest k [] n = refl
lowest k (f ∷ fs) n = go (is_empty f.1) (lowest k fs n) (lowest k fs f.1.offset) where
  go : (e : Bool) → leb k (lowest_offset fs n) ≡ (room k fs && (some fs || leb k n)) →
      leb k (lowest_offset fs f.1.offset) ≡ (room k fs && (some fs || leb k f.1.offset)) →
      leb k (cond e (lowest_offset fs n) (min f.1.offset (lowest_offset fs f.1.offset))) ≡
      (((e || leb k f.1.offset) && room k fs) && ((not e || some fs) || leb k n))
  go true p q = p
  go false p q =
      leb_min k f.1.offset (lowest_offset fs f.1.offset)
      ∙ ap (λ (b : Bool). leb k f.1.offset && b) q
      ∙ absorb (leb k f.1.offset) (room k fs) (some fs)

-- the six fields' test is the definition's
pub mic_is : (n : ℕ) (f : Fields) {a b c d e g : Bool} →
    a ≡ begins 88 f.lm → b ≡ begins 88 f.nt → c ≡ begins 88 f.domain → d ≡ begins 88 f.user →
    e ≡ begins 88 f.workstation → g ≡ begins 88 f.key →
    (((((a && b) && c) && d) && e) && g)
    && ((((((not (is_empty f.lm) || not (is_empty f.nt)) || not (is_empty f.domain)) || not (is_empty f.user))
    || not (is_empty f.workstation)) || not (is_empty f.key)) || leb 88 n)
    ≡ mic_present n f
unfolding mic_present
mic_is n f p q r s t u =
    simp (p, q, r, s, t, u, and_assoc, or_assoc) (sym (simp (and_assoc, or_assoc, and-true, or-false) at (lowest 88 (all_fields f) n)))

-- where all fields end inside, the lowest offset is inside
lowest_inside : (n : ℕ) (fs : List (ℕ × Field)) (d : ℕ) → d ≤ n → over_all (ends_inside n) PastEnd fs ≡ Ok tt → lowest_offset fs d ≤ n
lowest_inside n [] d l h = l
lowest_inside n (f ∷ fs) d l h =
    let p : ((is_empty f.1 || leb (f.1.offset + f.1.len) n) ≡ true) × (over_all (ends_inside n) PastEnd fs ≡ Ok tt) = after_clear _ _ _ h in
    go (is_empty f.1) p.0 (lowest_inside n fs d l p.1)
  where
    go : (e : Bool) → (e || leb (f.1.offset + f.1.len) n) ≡ true → lowest_offset fs d ≤ n →
        cond e (lowest_offset fs d) (min f.1.offset (lowest_offset fs f.1.offset)) ≤ n
    go true p q = q
    go false p q = omega (arith, leb-true (f.1.offset + f.1.len) n p)

-- a MIC that reading found lies within the message
abbrev MicInside : Result Authenticate Refusal → ℕ → Type 0
MicInside (Ok a) n = a.mic_present ≡ true → 88 ≤ n
MicInside (Err e) n = Unit

mic_inside : (s : List ℕ) (r : Result Authenticate Refusal) → r ≡ reading_of s → MicInside r (length s)
unfolding mic_present check_ends
mic_inside s (Ok a) e = λ m.
    let t : TakenBy s a = taken_by s a (sym e) in
    let b : mic_present (length s) (fields_at s t.flags) ≡ true = sym (ap (λ (x : Authenticate). x.mic_present) t.answer) ∙ m in
    le_trans (leb-true 88 (lowest_offset (all_fields (fields_at s t.flags)) (length s)) b)
    (lowest_inside (length s) (all_fields (fields_at s t.flags)) (length s) (le_refl (length s)) (fields_held _ _ _ t.fields).0)
mic_inside s (Err d) e = tt

-- the bytes that a reading's MIC has, by what the reading is known to be
pub mic_there : (s m : List ℕ) (r : Result Authenticate Refusal) (a : Authenticate) → r ≡ Ok a → a.mic_present ≡ true → m ≡ take 16 (drop 72 s) → m ≡ mic_bytes r s
mic_there s m r a p h q = simp (p, h) q

pub mic_absent : (s : List ℕ) (r : Result Authenticate Refusal) (a : Authenticate) → r ≡ Ok a → a.mic_present ≡ false → replicate 16 0 ≡ mic_bytes r s
mic_absent s r a p h = simp (p, h)

pub mic_room : (s : List ℕ) (r : Result Authenticate Refusal) (a : Authenticate) → r ≡ reading_of s → r ≡ Ok a → a.mic_present ≡ true → 88 ≤ length s
mic_room s r a e p h = (rw p at (mic_inside s r e)) h

pub ruleset mic_bytes_rules = (mic_there, mic_absent, mic_room)

-- the reading with its MIC is the answer
pub answered : (s m : List ℕ) (r : Result Authenticate Refusal) → r ≡ reading_of s → m ≡ mic_bytes r s → record { reading = r; mic = m } ≡ read_authenticate s
unfolding read_authenticate
answered s m r p q = rw (← p, q)
