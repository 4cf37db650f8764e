-- Names by RFC 1035, taken and refused exactly; and so there is one reading of a name only.
use Rattle.std.specs.Prelude.{Result, Ok, Err}
use Rattle.read_dns_name.specs.declared.Name.{Name}
use Prim.Native.Nat.{ℕ, ◌≤◌, ◌<◌}
use mathlib.Core.Path.{◌≡◌, refl, sym, ap, ◌∙◌, subst}
use mathlib.Core.Logic.{◌⊎◌, inl, inr}
use mathlib.Core.List.{List}
use lib.ListN.{length}
use Rattle.read_dns_name.specs.declared.Fault.{Fault}
use Rattle.read_dns_name.specs.DnsName.{read_name, labels_at, number_of}
use Rattle.read_dns_name.specs.Rfc1035.{NameAt, FirstNameFault}
use Rattle.line_dns_name.proofs.Names.{text_bound}
use Rattle.read_dns_name.proofs.Exact.{taken, is_taken, refused, is_refused, next_inside, next_after}
use Rattle.demands.specs.DnsName.{NameRefusedWith, NameIsTaken, NameIsRefused, NameOrFault, OneName, NameNoFault, NameShort}

pub name_taken : NameIsTaken
name_taken s start ls jumps next = (
  λ h. subst (λ (l : List (List ℕ)). NameAt s start l jumps next) h.1 (taken s start (record { jumps = jumps; next = next }) h.0),
  λ w. is_taken s start ls jumps next w,
)

numbered : (r : Result Name Fault) (e : Fault) (n : ℕ) → r ≡ Err e → number_of e ≡ n → NameRefusedWith r n
numbered r e n h q = subst (λ (x : Result Name Fault). NameRefusedWith x n) (sym h) q

pub name_refused : NameIsRefused
name_refused s start n = (
  λ h. go (read_name s start) refl h,
  λ f. let x = is_refused s start n f in numbered (read_name s start) x.0 n x.1 x.2,
)
  where
    go : (r : Result Name Fault) → read_name s start ≡ r → NameRefusedWith r n → FirstNameFault s start n
    go (Ok m) e h = absurd h
    go (Err f) e h = subst (λ (x : ℕ). FirstNameFault s start x) h (refused s start f e)

abbrev next_of : Result Name Fault → ℕ
next_of (Ok m) = m.next
next_of (Err e) = 0

abbrev jumps_of : Result Name Fault → ℕ
jumps_of (Ok m) = m.jumps
jumps_of (Err e) = 0

pub name_or_first_fault : NameOrFault
name_or_first_fault s start = go (read_name s start) refl where
  go : (r : Result Name Fault) → read_name s start ≡ r →
      ((ls : List (List ℕ)) × (jumps : ℕ) × (next : ℕ) × NameAt s start ls jumps next) ⊎ ((n : ℕ) × FirstNameFault s start n)
  go (Ok m) e = inl (labels_at s start, m.jumps, m.next, taken s start m e)
  go (Err f) e = inr (number_of f, refused s start f e)

pub only_name : OneName
only_name s start ls ms i j m n a b =
    let x = is_taken s start ls i m a in
    let y = is_taken s start ms j n b in
    (sym x.1 ∙ y.1, ap jumps_of (sym x.0 ∙ y.0), ap next_of (sym x.0 ∙ y.0))

module _ (s : List ℕ) (start : ℕ) where
  pub one_name : (ls ms : List (List ℕ)) (i j m n : ℕ) → NameAt s start ls i m → NameAt s start ms j n → m ≡ n
  one_name ls ms i j m n a b = (only_name s start ls ms i j m n a b).2

  pub name_or_fault : (ls : List (List ℕ)) (j m n : ℕ) → NameAt s start ls j m → FirstNameFault s start n → ⊥
  name_or_fault ls j m n a f =
      subst (λ (x : Result Name Fault). NameRefusedWith x n) (is_taken s start ls j m a).0 ((name_refused s start n).1 f)

  pub one_name_fault : (m n : ℕ) → FirstNameFault s start m → FirstNameFault s start n → m ≡ n
  one_name_fault m n a b = go (read_name s start) ((name_refused s start m).1 a) ((name_refused s start n).1 b) where
    go : (r : Result Name Fault) → NameRefusedWith r m → NameRefusedWith r n → m ≡ n
    go (Ok x) p q = absurd p
    go (Err e) p q = sym p ∙ q

  pub name_ends : (ls : List (List ℕ)) (j m : ℕ) → NameAt s start ls j m → (start < m) × (m ≤ length s)
  name_ends ls j m a =
      let e = (is_taken s start ls j m a).0 in (
        next_after s start (read_name s start) (record { jumps = j; next = m }) refl e,
        next_inside s start (read_name s start) (record { jumps = j; next = m }) refl e,
      )

pub name_no_fault : NameNoFault
name_no_fault s start ls jumps next n a f = name_or_fault s start ls jumps next n a f

pub name_short : NameShort
name_short = text_bound
