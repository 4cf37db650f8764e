-- What an NL_AUTH message is refused for has no place.
use Rattle.std.specs.Prelude.{Result, Option, Ok, Err, Some, None}
use Rattle.read_dns_name.specs.declared.Name.{Name}
use Rattle.read_nl_auth.specs.declared.NlAuth.{NlAuth}
use Prim.Native.Nat.{ℕ, ◌+◌}
use mathlib.Core.Path.{◌≡◌, refl}
use mathlib.Core.Bool.{Bool, true, false, cond}
use mathlib.Core.List.{List}
use Rattle.wire.specs.declared.refusal.Refusal.{Refusal}
use Rattle.wire.specs.Refusal.{place_of}
use Rattle.wire.proofs.Places.{of_after}
use Rattle.head.specs.Head.{length_holds, fixed_part_holds}
use Rattle.nl_auth_flags.specs.declared.NlAuthFlags.{NlAuthFlags}
use Rattle.nl_auth_flags.specs.Flags.{nb_domain, nb_computer, dns_domain, dns_host, utf8_computer, strings_hold}
use Rattle.read_dns_name.specs.declared.Fault.{Fault}
use Rattle.read_dns_name.specs.declared.Fault.TheVariants.{CutShort, WrongTopBits, PlaceNotBefore as NotBefore, TooManyJumps as ManyJumps, NameTooLong as LongName}
use Rattle.read_dns_name.specs.DnsName.{read_name}
use Rattle.read_nl_auth.specs.declared.string.NlString.{NlString}
use Rattle.read_nl_auth.specs.NlAuth.{buffer_of, in_buffer, name_string, refusal_in, on_name, name_at, name_under, on_named, string_under, on_found, message_type, flags_at, is_request, type_holds, end_holds, response_holds, read_utf8, read_request, read_response, read_nl_auth}

abbrev Placeless : Result NlAuth Refusal → Type 0
Placeless (Ok m) = Unit
Placeless (Err e) = place_of e ≡ 0

of_found : (k : Option (NlString × ℕ)) (e : Result NlAuth Refusal) (x : NlString → ℕ → Result NlAuth Refusal) → Placeless e → ((f : NlString) (n : ℕ) → Placeless (x f n)) → Placeless (on_found k e x)
of_found (Some (f, n)) e x p q = q f n
of_found None e x p q = p

of_either : (b : Bool) (x y : Result NlAuth Refusal) → Placeless x → Placeless y → Placeless (cond b x y)
of_either true x y p q = p
of_either false x y p q = q

-- a name's refusal
abbrev PlacelessN : Result (NlString × ℕ) Refusal → Type 0
PlacelessN (Ok (x, n)) = Unit
PlacelessN (Err e) = place_of e ≡ 0

in_string : (e : Fault) (n : ℕ) → place_of (refusal_in e n) ≡ 0
in_string CutShort n = refl
in_string WrongTopBits n = refl
in_string NotBefore n = refl
in_string ManyJumps n = refl
in_string LongName n = refl

named : (b : Bool) (s : List ℕ) (at n : ℕ) → PlacelessN (name_under b s at n)
unfolding name_under name_at
named true s at n = go (read_name (buffer_of s) (in_buffer at)) where
  go : (r : Result Name Fault) → PlacelessN (on_name r (λ m. (Ok ((name_string at m), (8 + m.next)))) (λ e. Err (refusal_in e n)))
  go (Ok m) = tt
  go (Err e) = in_string e n
named false s at n = tt

of_named : (k : Result (NlString × ℕ) Refusal) (x : NlString → ℕ → Result NlAuth Refusal) → PlacelessN k → ((f : NlString) (n : ℕ) → Placeless (x f n)) → Placeless (on_named k x)
of_named (Ok (f, n)) x p q = q f n
of_named (Err e) x p q = p

utf8 : (w : NlAuthFlags) (s : List ℕ) (a b : NlString) (n : ℕ) → Placeless (read_utf8 w s a b n)
unfolding read_utf8
utf8 w s a b n =
    of_named (name_under (dns_domain w) s n 3) _ (named (dns_domain w) s n 3) (λ c c'.
    of_named (name_under (dns_host w) s c' 4) _ (named (dns_host w) s c' 4) (λ d d'.
    of_named (name_under (utf8_computer w) s d' 5) _ (named (utf8_computer w) s d' 5) (λ e e'.
    of_after Placeless (end_holds e' s) _ _ refl tt)))

request : (w : NlAuthFlags) (s : List ℕ) → Placeless (read_request w s)
unfolding read_request
request w s =
    of_after Placeless (strings_hold w) _ _ refl (
    of_found (string_under (nb_domain w) s 8) _ _ refl (λ a a'.
    of_found (string_under (nb_computer w) s a') _ _ refl (λ b b'.
    utf8 w s a b b')))

response : (s : List ℕ) → Placeless (read_response s)
unfolding read_response
response s = of_after Placeless (response_holds s) _ _ refl tt

placeless : (s : List ℕ) → Placeless (read_nl_auth s)
unfolding read_nl_auth
placeless s =
    of_after Placeless (length_holds s) _ _ refl (
    of_after Placeless (fixed_part_holds 8 s) _ _ refl (
    of_after Placeless (type_holds (message_type s)) _ _ refl
    (of_either (is_request (message_type s)) _ _ (request (flags_at s) s) (response s))))

pub nl_auth_placeless : (s : List ℕ) (r : Result NlAuth Refusal) (e : Refusal) → r ≡ read_nl_auth s → r ≡ Err e → place_of e ≡ 0
nl_auth_placeless s r e p h = go r h (rw p (placeless s)) where
  go : (r : Result NlAuth Refusal) → r ≡ Err e → Placeless r → place_of e ≡ 0
  go (Ok m) q z = cc
  go (Err d) q z = let same : d ≡ e = cc in rw same at z
