-- Laws of strings C, D and E: a name of the buffer, and where the next string starts.
use Rattle.std.specs.Prelude.{Result, Ok, Err}
use Prim.Native.Nat.{ℕ, ◌+◌, ◌-◌, ◌≤◌, ◌<◌}
use mathlib.Core.Path.{◌≡◌, refl, sym, ap, ◌∙◌, subst}
use mathlib.Core.Bool.{Bool, true, false, cond}
use mathlib.Core.List.{List, []}
use native.Mathlib.Omega.{arith}
use lib.ListN.{length, take, drop, length-take, length-drop}
use lib.Seq.{take_all}
use lib.Dec.{leb}
use borrow.Author.Tests.{le-leb}
use Rattle.wire.specs.declared.refusal.Refusal.{Refusal}
use Rattle.read_dns_name.specs.declared.Fault.{Fault}
use Rattle.read_dns_name.specs.declared.Name.{Name}
use Rattle.read_dns_name.specs.DnsName.{read_name}
use Rattle.read_dns_name.proofs.Exact.{next_inside, next_after, few_jumps}
use Rattle.read_nl_auth.specs.declared.string.NlString.{NlString}
use Rattle.read_nl_auth.specs.NlAuth.{string_bytes, buffer_of, in_buffer, refusal_in, name_string, on_name, name_at, name_under}

-- the buffer, as it is lent
pub buffer_whole : (s : List ℕ) → take (length s - 8) (drop 8 s) ≡ buffer_of s
buffer_whole s = take_all (length s - 8) (drop 8 s) (simp length-drop (omega arith))

-- a reading whose fault was made the refusal of string n
abbrev pub Renamed : Result Name Fault → Result Name Refusal → ℕ → Type 0
Renamed r q n = q ≡ on_name r Ok (λ e. Err (refusal_in e n))

taken : (r : Result Name Fault) (q : Result Name Refusal) (n : ℕ) (m : Name) → Renamed r q n → q ≡ Ok m → r ≡ Ok m
taken (Ok x) q n m f h = let same : Ok x ≡ Ok m = sym f ∙ h in cc
taken (Err e) q n m f h = let same : Err (refusal_in e n) ≡ Ok m = sym f ∙ h in cc

faulty : (r : Result Name Fault) (q : Result Name Refusal) (n : ℕ) (d : Refusal) (x : Name → Result (NlString × ℕ) Refusal) →
    Renamed r q n → q ≡ Err d → Err d ≡ on_name r x (λ e. Err (refusal_in e n))
faulty (Ok m) q n d x f h = let same : Ok m ≡ Err d = sym f ∙ h in cc
faulty (Err e) q n d x f h = let same : Err (refusal_in e n) ≡ Err d = sym f ∙ h in cc

module _ (s : List ℕ) (at n : ℕ) (r : Result Name Fault) (e : r ≡ read_name (take (length s - 8) (drop 8 s)) (at - 8)) (q : Result Name Refusal) (f : Renamed r q n) where
  whole : r ≡ read_name (buffer_of s) (in_buffer at)
  whole = e ∙ ap (λ (x : List ℕ). read_name x (at - 8)) (buffer_whole s)

  module _ (m : Name) (h : q ≡ Ok m) where
    read : r ≡ Ok m
    read = taken r q n m f h

    pub ends : 8 ≤ at → at ≤ length s → (at < 8 + m.next) × (8 + m.next ≤ length s)
    ends a b = (
      omega (arith, next_after (drop 8 s) (at - 8) r m whole read),
      omega (arith, next_inside (drop 8 s) (at - 8) r m whole read, next_after (drop 8 s) (at - 8) r m whole read, length-drop 8 s),
    )

    pub few : m.jumps ≤ 16
    few = few_jumps (drop 8 s) (at - 8) r m whole read

    pub name_taken : Ok (name_string at m, 8 + m.next) ≡ name_at s at n
    unfolding name_at
    name_taken = simp (← whole, read)

  pub name_faulty : (d : Refusal) → q ≡ Err d → Err d ≡ name_at s at n
  unfolding name_at
  name_faulty d h = simp (← whole) (faulty r q n d _ f h)

-- after a string that was found the next one starts within the message
abbrev Inside : List ℕ → Result (NlString × ℕ) Refusal → Type 0
Inside s (Ok (w, next)) = (8 ≤ next) × (next ≤ length s)
Inside s (Err e) = Unit {0}

name_inside : (s : List ℕ) (at n : ℕ) → 8 ≤ at → at ≤ length s → Inside s (name_at s at n)
unfolding name_at
name_inside s at n a b = go (read_name (buffer_of s) (in_buffer at)) refl where
  go : (r : Result Name Fault) → r ≡ read_name (buffer_of s) (in_buffer at) →
      Inside s (on_name r (λ m. (Ok ((name_string at m), (8 + m.next)))) (λ e. Err (refusal_in e n)))
  go (Ok m) e = (
    omega arith,
    omega (arith, next_inside (drop 8 s) (at - 8) (Ok m) m e refl, next_after (drop 8 s) (at - 8) (Ok m) m e refl, length-drop 8 s),
  )
  go (Err f) e = tt

under_inside : (s : List ℕ) (at n : ℕ) (set : Bool) → 8 ≤ at → at ≤ length s → Inside s (name_under set s at n)
unfolding name_under
under_inside s at n true a b = name_inside s at n a b
under_inside s at n false a b = (a, b)

pub onward : (s : List ℕ) (at n : ℕ) (set : Bool) (r : Result (NlString × ℕ) Refusal) (w : NlString) (next : ℕ) →
    r ≡ name_under set s at n → r ≡ Ok (w, next) → 8 ≤ at → at ≤ length s → (8 ≤ next) × (next ≤ length s)
onward s at n set r w next e h a b = subst (λ x. Inside s x) (sym e ∙ h) (under_inside s at n set a b)

-- ---- a string's own bytes

module _ (s : List ℕ) (x : NlString) (h : x.offset + x.len ≤ length s) where
  pub own_bytes_lem : string_bytes s x ≡ take x.len (drop x.offset s)
  unfolding string_bytes
  own_bytes_lem = simp (le-leb _ _ h)

-- they are no more than its length
pub string_small : (s : List ℕ) (x : NlString) → length (string_bytes s x) ≤ x.len
unfolding string_bytes
string_small s x = go (leb (x.offset + x.len) (length s)) where
  go : (t : Bool) → length (cond t (take x.len (drop x.offset s)) []) ≤ x.len
  go true = simp length-take (omega arith)
  go false = omega arith
