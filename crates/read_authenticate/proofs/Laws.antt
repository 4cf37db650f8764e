-- Laws of AUTHENTICATE's chain of checks.
use Rattle.wire.specs.Check.{on_ok}
use Rattle.std.specs.Prelude.{Result, Ok, Err, ⊤}
use Rattle.wire.specs.declared.refusal.Refusal.{Refusal}
use Prim.Native.Nat.{ℕ}
use mathlib.Core.Path.{◌≡◌, refl}
use mathlib.Core.Bool.{Bool, true}
use mathlib.Core.List.{List}
use native.Mathlib.Omega.{arith}
use lib.ListN.{length}
use Rattle.field.specs.declared.Field.{Field}
use Rattle.negotiate_flags.specs.declared.NegotiateFlags.{NegotiateFlags}
use Rattle.wire.specs.Check.{on_clear}
use Rattle.field.specs.Field.{field_at}
use Rattle.negotiate_flags.specs.Flags.{unicode, key_exch}
use Rattle.head.specs.Head.{read_head}
use Rattle.read_authenticate.specs.declared.Authenticate.{Authenticate}
use Rattle.read_authenticate.specs.declared.Fields.{Fields}
use Rattle.read_authenticate.specs.Authenticate.{layout, fields_at, check_ends, check_begins, check_names, check_shared, check_fields, mic_present, reading_of}

-- checks of the fields that were read are those of the definition's fields
module _ (f g : Fields) (e : f ≡ g) where
  pub of_fields : (n : ℕ) (b d : Bool) (r : Result ⊤ Refusal) → b ≡ d → r ≡ check_fields n b f → r ≡ check_fields n d g
  of_fields n b d r p h = rw (← e, ← p) h

  pub taken : (w : NegotiateFlags) (n : ℕ) (b : Bool) → b ≡ mic_present n f →
      ◌≡◌ {A = Result Authenticate Refusal} (Ok (record { flags = w; fields = f; mic_present = b }))
      (Ok (record { flags = w; fields = g; mic_present = mic_present n g }))
  taken w n b p = rw (p, e)

-- the six fields are those of their heads
pub six : (s : List ℕ) (w : NegotiateFlags) (k : Bool) (a b c d e f : Field) →
    a ≡ field_at s 12 true → b ≡ field_at s 20 true → c ≡ field_at s 28 true → d ≡ field_at s 36 true →
    e ≡ field_at s 44 true → k ≡ key_exch w → f ≡ field_at s 52 k →
    record { lm = a; nt = b; domain = c; user = d; workstation = e; key = f } ≡ fields_at s w
unfolding fields_at
six s w k a b c d e f pa pb pc pd pe pk pf = simp (pa, pb, pc, pd, pe, pf, pk)

-- what a taken message went through
pub record TakenBy (s : List ℕ) (a : Authenticate) : Type 0 where
  pub flags : NegotiateFlags
  pub head : read_head layout s ≡ Ok flags
  pub fields : check_fields (length s) (unicode flags) (fields_at s flags) ≡ Ok tt
  pub answer : a ≡ record { flags = flags; fields = fields_at s flags; mic_present = mic_present (length s) (fields_at s flags) }

on_clear_taken : (k : Result ⊤ Refusal) (x : Result Authenticate Refusal) (a : Authenticate) → on_clear Err k x ≡ Ok a → (k ≡ Ok tt) × (x ≡ Ok a)
on_clear_taken (Ok tt) x a h = (refl, h)
on_clear_taken (Err e) x a h = (cc, cc)

on_flags_taken : (k : Result NegotiateFlags Refusal) (x : NegotiateFlags → Result Authenticate Refusal) (a : Authenticate) → on_ok Err k x ≡ Ok a →
    (w : NegotiateFlags) × (k ≡ Ok w) × (x w ≡ Ok a)
on_flags_taken (Ok w) x a h = (w, refl, h)
on_flags_taken (Err e) x a h = absurd (let z : ◌≡◌ {A = ℕ} 0 1 = cc in omega arith)

same_taken : (a b : Authenticate) → ◌≡◌ {A = Result Authenticate Refusal} (Ok b) (Ok a) → a ≡ b
same_taken a b h = cc

pub taken_by : (s : List ℕ) (a : Authenticate) → reading_of s ≡ Ok a → TakenBy s a
unfolding reading_of
taken_by s a h =
    let p = on_flags_taken (read_head layout s) _ a h in
    let c = on_clear_taken (check_fields (length s) (unicode p.0) (fields_at s p.0)) _ a p.2 in
    record { flags = p.0; head = p.1; fields = c.0; answer = same_taken a _ c.1 }

on_clear_clear : (k x : Result ⊤ Refusal) → on_clear Err k x ≡ Ok tt → (k ≡ Ok tt) × (x ≡ Ok tt)
on_clear_clear (Ok tt) x h = (refl, h)
on_clear_clear (Err e) x h = (cc, cc)

-- the fields of a taken message passed checks 6, 7, 8 and 9
pub fields_held : (n : ℕ) (b : Bool) (f : Fields) → check_fields n b f ≡ Ok tt →
    (check_ends n f ≡ Ok tt) × (check_begins f ≡ Ok tt) × (check_names b f ≡ Ok tt) × (check_shared f ≡ Ok tt)
unfolding check_fields
fields_held n b f h =
    let e = on_clear_clear (check_ends n f) _ h in
    let s = on_clear_clear (check_begins f) _ e.1 in
    let o = on_clear_clear (check_names b f) _ s.1 in
    (e.0, s.0, o.0, o.1)
