-- Why a message is refused (document 02, 4/12): the checks of the kind that the NTLM program reads it as, one to a line, and the
-- figures of the one that failed.
use Rattle.std.specs.Prelude.{Result, Ok, Err, ⊤, ℕ, ◌+◌, ◌≤◌, min, ◌≡◌, true, cond, List, [], ◌∷◌, eqb, length}
use Rattle.wire.specs.declared.refusal.Refusal.{Refusal}
use Rattle.wire.specs.Number.{u16_at}
use Rattle.wire.specs.Refusal.{number_of, field_of, place_of}
use Rattle.field.specs.declared.Field.{Field}
use Rattle.field.specs.Field.{no_field}
use Rattle.head.specs.declared.Kind.{Kind}
use Rattle.head.specs.declared.Kind.TheVariants.{Negotiate, Challenge, Authenticate}
use Rattle.head.specs.Head.{flags_at, kind_of}
use Rattle.read_negotiate.specs.Negotiate as N
use Rattle.read_challenge.specs.Challenge as C
use Rattle.read_authenticate.specs.Authenticate as A
use Rattle.verdict.specs.Verdict.{read_as, fails_at_pair}
use Rattle.line_checks.specs.declared.Figures.{Figures}
use Rattle.line_checks.specs.Checks.{check_lines}

-- the checks of each kind, in the order in which they are made
abbrev pub checks_of : Kind → List ℕ
checks_of Negotiate = 1 ∷ 2 ∷ 3 ∷ 4 ∷ 5 ∷ 6 ∷ 7 ∷ []
checks_of Challenge = 1 ∷ 2 ∷ 3 ∷ 4 ∷ 5 ∷ 6 ∷ 7 ∷ 8 ∷ 11 ∷ 12 ∷ 10 ∷ 13 ∷ []
checks_of Authenticate = 1 ∷ 2 ∷ 3 ∷ 4 ∷ 5 ∷ 6 ∷ 7 ∷ 8 ∷ 9 ∷ []

-- ---- the figures

-- the fields by number, as the kind's reader has them
abbrev pub fields_by_number : Kind → List ℕ → List (ℕ × Field)
fields_by_number Negotiate s = N.all_fields (N.fields_at s (flags_at s (N.layout).flags))
fields_by_number Challenge s = C.all_fields (C.fields_at s (flags_at s (C.layout).flags))
fields_by_number Authenticate s = A.all_fields (A.fields_at s (flags_at s (A.layout).flags))

-- the field with a number; a check without a field has number 0
abbrev pub field_numbered : ℕ → List (ℕ × Field) → Field
field_numbered i [] = no_field
field_numbered i (f ∷ fs) = cond (eqb i f.0) f.1 (field_numbered i fs)

-- a number of that pair
abbrev pub of_pair : ℕ → ℕ → ℕ
of_pair number n = cond (fails_at_pair number) n 0

unfoldable pub figures_of : List ℕ → Field → Refusal → Figures
figures_of s head e =
    record {
      number = number_of e;
      field = field_of e;
      head = head;
      message = min (length s) 65536;
      at = place_of e;
      id = of_pair (number_of e) (u16_at s (place_of e));
      size = of_pair (number_of e) (u16_at s (place_of e + 2));
    }

abbrev pub no_figures : Figures
no_figures = record { number = 0; field = 0; head = no_field; message = 0; at = 0; id = 0; size = 0 }

abbrev pub figures_on : List ℕ → List (ℕ × Field) → Result ⊤ Refusal → Figures
figures_on s fields (Ok tt) = no_figures
figures_on s fields (Err e) = figures_of s (field_numbered (field_of e) fields) e

unfoldable pub figures_as : Kind → List ℕ → Figures
figures_as kind s = figures_on s (fields_by_number kind s) (read_as kind s)

-- ---- the print

unfoldable pub explained_as : Kind → List ℕ → List ℕ
explained_as kind s = check_lines (figures_as kind s) (checks_of kind)

unfoldable pub explanation : List ℕ → List ℕ
explanation s = explained_as (kind_of s) s

-- ---- what inner functions ask

-- a number of the pair that failed stands at a place
pub record NumberThere (number at n : ℕ) : Type 0 where
  pub there : fails_at_pair number ≡ true → at + 2 ≤ n
