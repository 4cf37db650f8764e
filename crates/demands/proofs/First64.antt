-- A NEGOTIATE or an AUTHENTICATE is taken or refused by its length and its first 64 bytes.
use Prim.Native.Nat.{ℕ, ◌+◌, ◌≤◌, ◌<◌}
use mathlib.Core.Path.{◌≡◌}
use mathlib.Core.Bool.{Bool, true}
use mathlib.Core.List.{List}
use native.Mathlib.Omega.{arith}
use lib.ListN.{length, get_or}
use Rattle.field.specs.Field.{field_at}
use Rattle.negotiate_flags.specs.declared.NegotiateFlags.{NegotiateFlags}
use Rattle.negotiate_flags.specs.Flags.{oem_domain_supplied, oem_workstation_supplied, key_exch}
use Rattle.head.specs.declared.Layout.{Layout}
use Rattle.head.specs.Head.{signature_holds, read_head}
use Rattle.read_negotiate.specs.Negotiate as N
use Rattle.read_negotiate.specs.Negotiate.{read_negotiate}
use Rattle.read_authenticate.specs.Authenticate as A
use Rattle.read_authenticate.specs.Authenticate.{read_authenticate}
use Rattle.demands.proofs.Alike.{same16, same32}

module _ (s t : List ℕ) (long : length s ≡ length t) (same : (p : ℕ) → p < 64 → get_or s p 0 ≡ get_or t p 0) where
  field_same : (at : ℕ) (c : Bool) → at + 8 ≤ 64 → field_at s at c ≡ field_at t at c
  unfolding field_at
  field_same at c l = simp (same16 s t at (λ p a b. same p (omega arith)), same16 s t (at + 2) (λ p a b. same p (omega arith)), same32 s t (at + 4) (λ p a b. same p (omega arith)))

  head_same : (l : Layout) → l.flags + 4 ≤ 64 → read_head l s ≡ read_head l t
  unfolding read_head signature_holds
  head_same l h =
      simp (
        long,
        same 0 (omega arith),
        same 1 (omega arith),
        same 2 (omega arith),
        same 3 (omega arith),
        same 4 (omega arith),
        same 5 (omega arith),
        same 6 (omega arith),
        same 7 (omega arith),
        same32 s t 8 (λ p a b. same p (omega arith)),
        same32 s t l.flags (λ p a b. same p (omega arith)),
      )

  nego_fields : (w : NegotiateFlags) → N.fields_at s w ≡ N.fields_at t w
  unfolding N.fields_at
  nego_fields w = simp (field_same 16 (oem_domain_supplied w) (omega arith), field_same 24 (oem_workstation_supplied w) (omega arith))

  pub auth_fields : (w : NegotiateFlags) → A.fields_at s w ≡ A.fields_at t w
  unfolding A.fields_at
  auth_fields w =
      simp (field_same 12 true (omega arith), field_same 20 true (omega arith), field_same 28 true (omega arith), field_same 36 true (omega arith), field_same 44 true (omega arith), field_same 52 (key_exch w) (omega arith))

  pub negotiate_same : read_negotiate s ≡ read_negotiate t
  unfolding read_negotiate
  negotiate_same = simp (head_same N.layout (omega arith), long, nego_fields)

  pub authenticate_same : (read_authenticate s).reading ≡ (read_authenticate t).reading
  unfolding read_authenticate A.reading_of
  authenticate_same = simp (head_same A.layout (omega arith), long, auth_fields)
