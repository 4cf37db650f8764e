-- The line of a message, by what its reading is known to be.
use Rattle.std.specs.Prelude.{Result, Ok, Err}
use mathlib.Core.Path.{◌≡◌, sym, ◌∙◌}
use Prim.Native.Nat.{ℕ}
use mathlib.Core.List.{List}
use Rattle.wire.specs.declared.refusal.Refusal.{Refusal}
use Rattle.read_authenticate.specs.declared.Answer.{Answer}
use Rattle.read_authenticate.specs.declared.Authenticate.{Authenticate}
use Rattle.read_authenticate.specs.Authenticate.{read_authenticate}
use Rattle.read_nl_auth.specs.declared.NlAuth.{NlAuth}
use Rattle.read_nl_auth.specs.NlAuth.{read_nl_auth}
use Rattle.read_negotiate.specs.declared.Negotiate.{Negotiate}
use Rattle.read_negotiate.specs.Negotiate.{read_negotiate}
use Rattle.line_refused.specs.Refused.{refused_line}
use Rattle.line_negotiate.specs.Nego.{nego_text}
use Rattle.line_authenticate.specs.Auth.{auth_text}
use Rattle.line_nl_auth.specs.Nl.{nl_text}
use Rattle.line.specs.Line.{negotiate_line, authenticate_line, nl_auth_line}

-- AUTHENTICATE's
module _ (s : List ℕ) (d : Answer) (g : d ≡ read_authenticate s) where
  pub auth_read : (a : Authenticate) → d.reading ≡ Ok a → (read_authenticate s).reading ≡ Ok a
  auth_read a h = simp (← g) h

  pub auth_taken : (a : Authenticate) → d.reading ≡ Ok a → auth_text s a ≡ authenticate_line s
  unfolding authenticate_line
  auth_taken a h = simp (← g, h)

  pub auth_refused : (e : Refusal) → d.reading ≡ Err e → refused_line e ≡ authenticate_line s
  unfolding authenticate_line
  auth_refused e h = simp (← g, h)

-- NL_AUTH's
module _ (s : List ℕ) (d : Result NlAuth Refusal) (g : d ≡ read_nl_auth s) where
  pub nl_read : (m : NlAuth) → d ≡ Ok m → read_nl_auth s ≡ Ok m
  nl_read m h = sym g ∙ h

  pub nl_taken : (m : NlAuth) → d ≡ Ok m → nl_text s m ≡ nl_auth_line s
  unfolding nl_auth_line
  nl_taken m h = simp (← g, h)

  pub nl_refused : (e : Refusal) → d ≡ Err e → refused_line e ≡ nl_auth_line s
  unfolding nl_auth_line
  nl_refused e h = simp (← g, h)

-- NEGOTIATE's
module _ (s : List ℕ) (d : Result Negotiate Refusal) (g : d ≡ read_negotiate s) where
  pub nego_read : (m : Negotiate) → d ≡ Ok m → read_negotiate s ≡ Ok m
  nego_read m h = sym g ∙ h

  pub nego_taken : (m : Negotiate) → d ≡ Ok m → nego_text s m ≡ negotiate_line s
  unfolding negotiate_line
  nego_taken m h = simp (← g, h)

  pub nego_refused : (e : Refusal) → d ≡ Err e → refused_line e ≡ negotiate_line s
  unfolding negotiate_line
  nego_refused e h = simp (← g, h)
