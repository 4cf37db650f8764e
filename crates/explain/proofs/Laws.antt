-- Laws of the figures and of the print.
use Rattle.std.specs.Prelude.{Result, Ok, Err, ⊤}
use Prim.Native.Nat.{ℕ, ◌+◌, ◌≤◌, min}
use mathlib.Core.Path.{◌≡◌, ◌∙◌}
use mathlib.Core.Bool.{Bool}
use mathlib.Core.List.{List}
use native.Mathlib.Omega.{arith}
use lib.ListN.{length}
use Rattle.wire.specs.declared.refusal.Refusal.{Refusal}
use Rattle.wire.specs.Number.{u16_at}
use Rattle.wire.specs.Refusal.{number_of, field_of, place_of}
use Rattle.field.specs.declared.Field.{Field}
use Rattle.field.specs.Field.{no_field, field_at}
use Rattle.negotiate_flags.specs.declared.NegotiateFlags.{NegotiateFlags}
use Rattle.negotiate_flags.specs.Flags.{request_target, oem_domain_supplied, oem_workstation_supplied, target_info, key_exch}
use Rattle.head.specs.declared.Kind.{Kind}
use Rattle.head.specs.declared.Kind.TheVariants.{Negotiate, Challenge, Authenticate}
use Rattle.head.specs.Head.{flags_at, kind_of}
use Rattle.wire.proofs.Laws.{branches}
use Rattle.verdict.specs.Verdict.{read_as, fixed_of, FixedPart, Placed}
use Rattle.verdict.proofs.Refusals.{fixed_there, placed_there}
use Rattle.line_words.proofs.Calls.{same_line}
use Rattle.line_checks.specs.declared.Figures.{Figures}
use Rattle.line_checks.specs.Checks.{check_lines}
use Rattle.explain.specs.Explain.{checks_of, fields_by_number, field_numbered, of_pair, figures_of, no_figures, figures_as, explained_as, explanation, NumberThere}

-- ---- the head of a field

pub in_fixed : (k fixed field n : ℕ) → FixedPart fixed field n → 1 ≤ field → k ≤ fixed → k ≤ n
in_fixed k fixed field n p l t = omega (arith, p.there (λ z. omega arith))

pub no_head : (kind : Kind) (s : List ℕ) (i : ℕ) → i ≡ 0 → no_field ≡ field_numbered i (fields_by_number kind s)
no_head Negotiate s i h = rw h
no_head Challenge s i h = rw h
no_head Authenticate s i h = rw h

-- one that counts only with a flag
module _ (s : List ℕ) (w : NegotiateFlags) (b : Bool) (r : Field) where
  pub domain_head : w ≡ flags_at s 12 → b ≡ oem_domain_supplied w → r ≡ field_at s 16 b → r ≡ field_at s 16 (oem_domain_supplied (flags_at s 12))
  domain_head p q h = rw (q, p) at h

  pub workstation_head : w ≡ flags_at s 12 → b ≡ oem_workstation_supplied w → r ≡ field_at s 24 b →
      r ≡ field_at s 24 (oem_workstation_supplied (flags_at s 12))
  workstation_head p q h = rw (q, p) at h

  pub name_head : w ≡ flags_at s 20 → b ≡ request_target w → r ≡ field_at s 12 b → r ≡ field_at s 12 (request_target (flags_at s 20))
  name_head p q h = rw (q, p) at h

  pub info_head : w ≡ flags_at s 20 → b ≡ target_info w → r ≡ field_at s 40 b → r ≡ field_at s 40 (target_info (flags_at s 20))
  info_head p q h = rw (q, p) at h

  pub key_head : w ≡ flags_at s 60 → b ≡ key_exch w → r ≡ field_at s 52 b → r ≡ field_at s 52 (key_exch (flags_at s 60))
  key_head p q h = rw (q, p) at h

pub ruleset negotiate_heads = (branches, in_fixed, domain_head, workstation_head)

pub ruleset challenge_heads = (branches, in_fixed, name_head, info_head)

pub ruleset authenticate_heads = (branches, in_fixed, key_head)

-- ---- the figures

module _ (s : List ℕ) (e : Refusal) (at : ℕ) (p : Placed e (length s)) (j : at ≡ place_of e) where
  pub id_there : NumberThere (number_of e) at (length s)
  id_there = record { there = λ h. omega (arith, p.there h) }

  pub size_there : NumberThere (number_of e) (at + 2) (length s)
  size_there = record { there = λ h. omega (arith, p.there h) }

pub figures_are : (s : List ℕ) (head : Field) (e : Refusal) (number field message at id size : ℕ) →
    number ≡ number_of e → field ≡ field_of e → message ≡ min (length s) 65536 → at ≡ place_of e →
    id ≡ of_pair (number_of e) (u16_at s at) → size ≡ of_pair (number_of e) (u16_at s (at + 2)) →
    record { number = number; field = field; head = head; message = message; at = at; id = id; size = size } ≡ figures_of s head e
unfolding figures_of
figures_are s head e number field message at id size p q m a i z = rw (i, z, m, q, p, a)

pub ruleset refused_figures = (id_there, size_there, figures_are)

-- those of a message that was taken, and of one that was refused
module _ (k : Kind) (s : List ℕ) (v : Result ⊤ Refusal) (p : v ≡ read_as k s) (f : Figures) where
  pub of_taken : v ≡ Ok tt → no_figures ≡ figures_as k s
  unfolding figures_as
  of_taken h = simp (← p, h)

  pub of_refused : (e : Refusal) (i : ℕ) (head : Field) → v ≡ Err e → i ≡ field_of e → head ≡ field_numbered i (fields_by_number k s) → f ≡ figures_of s head e → f ≡ figures_as k s
  unfolding figures_as
  of_refused e i head h j g q = q ∙ simp (← p, h, ← j, ← g)

pub ruleset figures = (placed_there, of_taken, of_refused)

-- the head by the kind that was asked for
module _ (k : Kind) (s : List ℕ) (i : ℕ) where
  pub fixed_as : (v : Kind) (fixed : ℕ) → FixedPart (fixed_of k) i (length s) → k ≡ v → fixed_of v ≡ fixed → FixedPart fixed i (length s)
  fixed_as v fixed p h q = rw (h, q) at p

  pub head_of : (v : Kind) (x : Field) → k ≡ v → x ≡ field_numbered i (fields_by_number v s) → x ≡ field_numbered i (fields_by_number k s)
  head_of v x h q = rw h q

pub ruleset heads = (fixed_as, head_of)

-- ---- the print of the kind that was chosen

pub chosen : (s : List ℕ) (k : Kind) (f : Figures) (checks : List ℕ) → k ≡ kind_of s → f ≡ figures_as k s → checks ≡ checks_of k → check_lines f checks ≡ explanation s
unfolding explanation explained_as
chosen s k f checks e p q = rw (p, q, ← e)

pub ruleset printed = (same_line, chosen)
