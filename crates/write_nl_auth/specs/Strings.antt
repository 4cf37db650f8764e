-- The five lent strings, given to a definition that takes them one by one.
use Rattle.std.specs.Prelude.{ℕ, List}
use Rattle.write_nl_auth.specs.declared.Strings.{Strings}

-- all of them, A first
abbrev pub of_strings : {A : Type 0} → Strings → (List ℕ → List ℕ → List ℕ → List ℕ → List ℕ → A) → A
of_strings s f = f s.a.now s.b.now s.c.now s.d.now s.e.now

-- those that are names, C first
abbrev pub of_names : {A : Type 0} → Strings → (List ℕ → List ℕ → List ℕ → A) → A
of_names s f = f s.c.now s.d.now s.e.now
