-- Laws of a message's meaning, by what its reading is known to be.
use Rattle.std.specs.Prelude.{Result, Ok, Err}
use Prim.Native.Nat.{ℕ}
use mathlib.Core.Path.{◌≡◌, ◌∙◌}
use mathlib.Core.List.{List}
use Rattle.wire.specs.declared.refusal.Refusal.{Refusal}
use Rattle.field.specs.Field.{field_bytes}
use Rattle.read_authenticate.specs.declared.Authenticate.{Authenticate}
use Rattle.read_authenticate.specs.declared.Answer.{Answer}
use Rattle.read_authenticate.specs.Authenticate.{read_authenticate}
use Rattle.write_authenticate.specs.Writing.{write_answer, write_out}
use Rattle.write_canonical.specs.Canonical.{zero_version, meaning_of, meaning_answer, meaning_out, canonical_answer, canonical_out}

-- the six fields' bytes, as they were handed out
module _ (s mic : List ℕ) (a : Authenticate) (lm nt domain user workstation key : List ℕ)
    (el : lm ≡ field_bytes s a.fields.lm) (en : nt ≡ field_bytes s a.fields.nt)
    (ed : domain ≡ field_bytes s a.fields.domain) (eu : user ≡ field_bytes s a.fields.user)
    (ew : workstation ≡ field_bytes s a.fields.workstation) (ek : key ≡ field_bytes s a.fields.key) where
  pub meaning_answered : (room : ℕ) (r : Result ℕ Refusal) → r ≡ write_answer room a.flags zero_version mic lm nt domain user workstation key →
      r ≡ meaning_answer room (meaning_of s mic a)
  unfolding meaning_answer meaning_of
  meaning_answered room r h = h ∙ rw (← el, ← en, ← ed, ← eu, ← ew, ← ek)

  pub meaning_left : (out o : List ℕ) → o ≡ write_out out a.flags zero_version mic lm nt domain user workstation key →
      o ≡ meaning_out out (meaning_of s mic a)
  unfolding meaning_out meaning_of
  meaning_left out o h = h ∙ rw (← el, ← en, ← ed, ← eu, ← ew, ← ek)

module _ (s : List ℕ) (d : Answer) (g : d ≡ read_authenticate s) where
  module _ (a : Authenticate) (h : d.reading ≡ Ok a) where
    pub taken_answered : (room : ℕ) (r : Result ℕ Refusal) → r ≡ meaning_answer room (meaning_of s d.mic a) → r ≡ canonical_answer room s
    unfolding canonical_answer
    taken_answered room r e = e ∙ simp (← g, h)

    pub taken_left : (out o : List ℕ) → o ≡ meaning_out out (meaning_of s d.mic a) → o ≡ canonical_out out s
    unfolding canonical_out
    taken_left out o e = e ∙ simp (← g, h)

  module _ (e : Refusal) (h : d.reading ≡ Err e) where
    pub refused_answered : (room : ℕ) → Err e ≡ canonical_answer room s
    unfolding canonical_answer
    refused_answered room = simp (← g, h)

    pub refused_left : (out : List ℕ) → out ≡ canonical_out out s
    unfolding canonical_out
    refused_left out = simp (← g, h)
