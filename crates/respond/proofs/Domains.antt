-- Laws of the domain to send.
use Rattle.wire.specs.Check.{on_ok}
use Rattle.std.specs.Prelude.{Result, Option, Ok, Err, Some, None}
use Rattle.read_challenge.specs.declared.FullChallenge.{FullChallenge}
use Prim.Native.Nat.{ℕ, ◌+◌, ◌-◌, ◌≤◌, ◌<◌, ◌^◌}
use mathlib.Core.Path.{◌≡◌, refl, sym, ap, ◌∙◌}
use mathlib.Core.Bool.{Bool, true, false, cond}
use mathlib.Core.List.{List, []}
use native.Mathlib.Omega.{arith}
use lib.Dec.{leb}
use lib.ListN.{length, take, drop, length-take, length-drop}
use mir.Val.{Fits}
use mir.Syntax.{w64}
use borrow.Author.Tests.{leb-true}
use borrow.Rule.Slice.Shared.{by_byte}
use Rattle.field.specs.declared.Field.{Field}
use Rattle.wire.specs.declared.refusal.Refusal.{Refusal}
use Rattle.av_id.specs.AvId.{is_nb_domain_name}
use Rattle.field.specs.Field.{PartAt, field_bytes, field_start}
use Rattle.wire.proofs.Laws.{branches}
use Rattle.av_pairs.specs.declared.AvPair.{AvPair}
use Rattle.av_pairs.specs.AvPairs.{pairs_of}
use Rattle.target_info.specs.TargetInfo.{first_by, first_pair}
use Rattle.target_info.proofs.Searches.{found_in}
use Rattle.read_challenge.specs.declared.Challenge.{Challenge}
use Rattle.read_challenge.specs.Challenge.{reading_of, info_of, full_reading_of}
use Rattle.read_challenge.proofs.Laws.{refusal_alone}
use Rattle.respond.specs.Domain.{Part, own_part, value_part, on_pair_found, domain_part, domain_to_send, lent, DomainWithin}

-- ---- the search for pair 2

-- a pair that was found ends within its list
module _ (l : List ℕ) (f : Option AvPair) (p : AvPair) (k : f ≡ first_pair (record { id = 2 }) l) (h : f ≡ Some p) where
  pub value_end : p.at + p.len ≤ length l
  unfolding first_pair
  value_end = (found_in is_nb_domain_name l p (sym k ∙ h)).gave.inside

  pub end_fits : length l < 2 ^ 64 → Fits w64 (p.at + p.len)
  end_fits b = record { fits = omega (arith, value_end) }

-- ---- the challenge's pair 2

pub first_is : (s l : List ℕ) (c : Challenge) (f : Option AvPair) → l ≡ info_of s c →
    f ≡ first_pair (record { id = 2 }) l → f ≡ first_by is_nb_domain_name (pairs_of (info_of s c))
unfolding first_pair
first_is s l c f k q = q ∙ simp k

-- a challenge that was not read
pub unread : {A : Type 0} (f : Refusal → A) (s : List ℕ) (r : Result FullChallenge Refusal) (e : Refusal) (x : Challenge → A) (y : A) →
    r ≡ full_reading_of s → r ≡ Err e → y ≡ f e → y ≡ on_ok f (reading_of s) x
unread f s r e x y p h q = simp (← refusal_alone s r p e h) q

pub found_at : {A : Type 0} (k f : Option AvPair) (p : AvPair) (x : AvPair → A) (z y : A) → f ≡ k → f ≡ Some p → y ≡ x p → y ≡ on_pair_found k x z
found_at k f p x z y e h q = simp (← e, h) q

pub found_none : {A : Type 0} (k f : Option AvPair) (x : AvPair → A) (z y : A) → f ≡ k → f ≡ None → y ≡ z → y ≡ on_pair_found k x z
found_none k f x z y e h q = simp (← e, h) q

-- a challenge that is known to be taken
pub on_taken_lem : {A : Type 0} (f : Refusal → A) (k : Result Challenge Refusal) (c : Challenge) (x : Challenge → A) (y : A) → k ≡ Ok c → y ≡ x c → y ≡ on_ok f k x
on_taken_lem f k c x y h q = simp h q

pub ruleset ways = (branches, on_taken_lem, unread, found_at, found_none, first_is)

-- ---- what is handed out

-- the settings' domain
module _ (own s : List ℕ) (e : own_part own ≡ domain_part own s) where
  pub own_content : own ≡ domain_to_send own s
  own_content = ap (λ (d : Part). d.bytes) e

  pub own_place : (a b : ℕ × ℕ) → PartAt a (lent (domain_part own s) a b) (domain_part own s).start
  own_place a b = rw (← e) (refl, omega arith)

  pub own_within : DomainWithin own s
  own_within = rw (← e) (omega arith)

-- a field's bytes lie within its message
part_within : (s : List ℕ) (f : Field) → field_start s f + length (field_bytes s f) ≤ length s
unfolding field_start field_bytes
part_within s f = go (leb (f.offset + f.len) (length s)) refl where
  go : (t : Bool) → leb (f.offset + f.len) (length s) ≡ t →
      cond t f.offset 0 + length (cond t (take f.len (drop f.offset s)) []) ≤ length s
  go true e = simp (length-take, length-drop) (omega (arith, leb-true (f.offset + f.len) (length s) e))
  go false e = omega arith

-- the value of a pair that was found in a challenge that was taken
module _ (own s : List ℕ) (c : Challenge) (f : Option AvPair) (p : AvPair) (t : reading_of s ≡ Ok c) (h : f ≡ Some p)
    (e : value_part s c p ≡ domain_part own s) where
  pub value_content : (l : List ℕ) → l ≡ info_of s c → take (p.at + p.len - p.at) (drop p.at l) ≡ domain_to_send own s
  value_content l k =
      let n : p.at + p.len - p.at ≡ p.len = omega arith in
      simp (n, k) (ap (λ (d : Part). d.bytes) e)

  pub value_place : (m x n : ℕ) (a b : ℕ × ℕ) → n ≡ p.at → m ≡ b.0 → x ≡ b.1 + field_start s c.fields.target_info →
      PartAt (m, by_byte n x) (lent (domain_part own s) a b) (domain_part own s).start
  value_place m x n a b k y z = rw (← e) (y, simp k (omega arith))

  pub value_within : (l : List ℕ) → l ≡ info_of s c → f ≡ first_pair (record { id = 2 }) l →
      DomainWithin own s
  value_within l k v =
      let inside : p.at + p.len ≤ length l = value_end l f p v h in
      rw (← e) (simp (length-take, length-drop) (omega (arith, inside, ap length k, part_within s c.fields.target_info)))

pub ruleset own = (own_content, own_place, own_within, ways)

pub ruleset value = (value_content, value_place, value_within, ways)
