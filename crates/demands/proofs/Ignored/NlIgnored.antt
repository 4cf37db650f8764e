-- The ignored flag bits of an NL_AUTH message change nothing.
use Rattle.std.specs.Prelude.{Result, Option, Ok, Err, Some, None}
use Rattle.read_dns_name.specs.declared.Fault.{Fault}
use Rattle.read_dns_name.specs.declared.Name.{Name}
use Rattle.wire.specs.declared.refusal.Refusal.{Refusal}
use Prim.Native.Nat.{ℕ, ◌+◌, ◌-◌, ◌/◌, ◌%◌, ◌≤◌}
use mathlib.Core.Path.{◌≡◌, refl, sym, ap, ◌∙◌}
use mathlib.Core.Logic.{inl, inr, ⊎_elim}
use mathlib.Core.Bool.{Bool, true, false, ◌||◌, cond}
use mathlib.Core.List.{List, [], ◌∷◌}
use native.Mathlib.Omega.{arith}
use lib.Dec.{eqb, leb}
use lib.ListN.{length, take, drop, length-drop}
use lib.Seq.{ext_get_or, get_or-drop}
use borrow.Author.Tests.{eqb-true, eqb-false}
use Rattle.wire.specs.declared.refusal.Refusal.TheVariants.{TooLong, TooShort, WrongType, Unterminated}
use Rattle.wire.specs.Check.{checked, after}
use Rattle.wire.specs.Number.{u32_at}
use Rattle.read_nl_auth.proofs.Names.{own_bytes_lem}
use Rattle.nl_auth_flags.specs.declared.NlAuthFlags.{NlAuthFlags}
use Rattle.read_nl_auth.specs.declared.NlAuth.{NlAuth}
use Rattle.read_nl_auth.specs.declared.string.NlString.{NlString}
use Rattle.read_dns_name.specs.DnsName.{read_name}
use Rattle.nl_auth_flags.specs.Flags.{nb_domain, nb_computer, dns_domain, dns_host, utf8_computer}
use Rattle.read_nl_auth.specs.NlAuth.{no_string, labels_of, string_length, holds_zero, string_at, string_under, on_found, refusal_in, name_string, on_name, name_at, name_under, on_named, flags_at, read_utf8, read_request, read_response, read_nl_auth}
use Rattle.demands.specs.Ignored.{SameString, NlDifferInIgnored, NlAuthIgnored}
use Rattle.demands.specs.NlAuth.{type_of, numbered, mask_of, StandsAt, plain, name, Strings}
use Rattle.demands.specs.OwnBytes.{OwnString, OwnName, OwnRequest, OwnResponse}
use Rattle.demands.proofs.DnsName.{name_ends}
use Rattle.demands.proofs.Alike.{same_part, same32}
use Rattle.demands.proofs.NlAuth.{nl_auth_own}

module _ (s t : List ℕ) (d : NlDifferInIgnored s t) where
  buffer_same : (at : ℕ) → 8 ≤ at → drop at s ≡ drop at t
  buffer_same at l =
      ext_get_or 0 (drop at s) (drop at t) (simp (length-drop, d.length_same))
      (λ k m. simp get_or-drop (d.bytes_same (at + k) (inr (omega arith))))

  type_same : type_of s ≡ type_of t
  type_same = same32 s t 0 (λ p l r. d.bytes_same p (inl (omega arith)))

  -- a string from the buffer on
  string_same : (b : Bool) (at : ℕ) (e : Result NlAuth Refusal) (x y : NlString → ℕ → Result NlAuth Refusal) → 8 ≤ at →
      ((f : NlString) (next : ℕ) → 8 ≤ next → x f next ≡ y f next) →
      on_found (string_under b s at) e x ≡ on_found (string_under b t at) e y
  unfolding string_under string_at
  string_same b at e x y l h = rw (buffer_same at l) (go b) where
    here : Option (NlString × ℕ)
    here = cond (holds_zero (drop at t)) (Some ((record { offset = at; len = string_length (drop at t); jumps = 0 }), (at + string_length (drop at t) + 1))) None

    found : (z : Bool) →
        on_found (cond z (Some ((record { offset = at; len = string_length (drop at t); jumps = 0 }), (at + string_length (drop at t) + 1))) None) e x
        ≡ on_found (cond z (Some ((record { offset = at; len = string_length (drop at t); jumps = 0 }), (at + string_length (drop at t) + 1))) None) e y
    found true = h (record { offset = at; len = string_length (drop at t); jumps = 0 }) (at + string_length (drop at t) + 1) (omega arith)
    found false = refl

    go : (c : Bool) →
        on_found (cond c (cond (holds_zero (drop at t)) (Some ((record { offset = at; len = string_length (drop at t); jumps = 0 }), (at + string_length (drop at t) + 1))) None) (Some (no_string, at))) e x
        ≡ on_found (cond c (cond (holds_zero (drop at t)) (Some ((record { offset = at; len = string_length (drop at t); jumps = 0 }), (at + string_length (drop at t) + 1))) None) (Some (no_string, at))) e y
    go true = found (holds_zero (drop at t))
    go false = h no_string at l

  name_same : (b : Bool) (at i : ℕ) (x y : NlString → ℕ → Result NlAuth Refusal) → 8 ≤ at →
      ((f : NlString) (next : ℕ) → 8 ≤ next → x f next ≡ y f next) → on_named (name_under b s at i) x ≡ on_named (name_under b t at i) y
  unfolding name_under name_at
  name_same b at i x y l h = rw (buffer_same 8 (omega arith)) (go b) where
    found : (r : Result Name Fault) →
        on_named (on_name r (λ m. (Ok ((name_string at m), (8 + m.next)))) (λ e. Err (refusal_in e i))) x
        ≡ on_named (on_name r (λ m. (Ok ((name_string at m), (8 + m.next)))) (λ e. Err (refusal_in e i))) y
    found (Ok m) = h (name_string at m) (8 + m.next) (omega arith)
    found (Err e) = refl

    go : (c : Bool) →
        on_named (cond c (on_name (read_name (drop 8 t) (at - 8)) (λ m. (Ok ((name_string at m), (8 + m.next)))) (λ e. Err (refusal_in e i))) (Ok (no_string, at))) x
        ≡ on_named (cond c (on_name (read_name (drop 8 t) (at - 8)) (λ m. (Ok ((name_string at m), (8 + m.next)))) (λ e. Err (refusal_in e i))) (Ok (no_string, at))) y
    go true = found (read_name (drop 8 t) (at - 8))
    go false = h no_string at l

  utf8_same : (w : NlAuthFlags) (a b : NlString) (at : ℕ) → 8 ≤ at → read_utf8 w s a b at ≡ read_utf8 w t a b at
  unfolding read_utf8
  utf8_same w a b at l =
      name_same (dns_domain w) at 3 _ _ l (λ c c' m.
      name_same (dns_host w) c' 4 _ _ m (λ e e' n.
      name_same (utf8_computer w) e' 5 _ _ n (λ f f' o. simp d.length_same)))

  request_same : (w : NlAuthFlags) → read_request w s ≡ read_request w t
  unfolding read_request
  request_same w =
      simp (string_same (nb_domain w) 8 (Err (Unterminated 1)) _ _ (omega arith) (λ a a' m.
      string_same (nb_computer w) a' (Err (Unterminated 2)) _ _ m (λ b b' n. utf8_same w a b b' n)))

  response_same : read_response s ≡ read_response t
  unfolding read_response
  response_same = simp (d.length_same, d.bytes_same 8 (inr (omega arith)))

  answer_same : read_nl_auth s ≡ read_nl_auth t
  unfolding read_nl_auth
  answer_same =
      ap (λ (n : ℕ). frame n (type_of s) (read_request (flags_at s) s) (read_response s)) d.length_same
      ∙ ap (λ (n : ℕ). frame (length t) n (read_request (flags_at s) s) (read_response s)) type_same
      ∙ ap (λ (r : Result NlAuth Refusal). frame (length t) (type_of t) (read_request (flags_at s) s) r) response_same
      ∙ ap (λ (r : Result NlAuth Refusal). frame (length t) (type_of t) r (read_response t)) (request_same (flags_at s))
      ∙ ⊎_elim
      (λ e. ap (λ (n : ℕ). frame (length t) (type_of t) (read_request (record { bits = n }) t) (read_response t)) e)
      (λ e. no_request (sym type_same ∙ e)) d.flags_same
    where
      frame : ℕ → ℕ → Result NlAuth Refusal → Result NlAuth Refusal → Result NlAuth Refusal
      frame n k x y = after (checked (leb n 65535)) (Err TooLong) (after (checked (leb 8 n)) (Err TooShort) (after (checked (eqb k 0 || eqb k 1)) (Err WrongType) (cond (eqb k 0) x y)))

      no_request : type_of t ≡ 1 → frame (length t) (type_of t) (read_request (flags_at s) t) (read_response t) ≡ frame (length t) (type_of t) (read_request (flags_at t) t) (read_response t)
      no_request e = go (type_of t) e where
        go : (k : ℕ) → k ≡ 1 → frame (length t) k (read_request (flags_at s) t) (read_response t) ≡ frame (length t) k (read_request (flags_at t) t) (read_response t)
        go k q = rw q

  -- a string's bytes and labels
  labels_same : (f : NlString) → labels_of s f ≡ labels_of t f
  labels_same f = simp (buffer_same 8 (omega arith))

  stand_later : (i p q : ℕ) → StandsAt s i p q → p ≤ q
  stand_later i p q (plain l z e) = omega (arith, z.from)
  stand_later i p q (name {n = x} l w e) = omega (arith, (name_ends (drop 8 s) (p - 8) _ _ x w).0)

  later : (is : List ℕ) (p r : ℕ) → Strings s is p r → p ≤ r
  later [] p r a = omega (arith, a)
  later (i ∷ is) p r (inl a) = omega (arith, stand_later i p a.1.0 a.1.1, later is a.1.0 r a.1.2)
  later (i ∷ is) p r (inr a) = later is p r a.1

  part_same : (f : NlString) → 8 ≤ f.offset → f.offset + f.len ≤ length s → SameString s t f
  part_same f l r =
      record {
        bytes = own_bytes_lem s f r
            ∙ same_part s t d.length_same f.offset f.len (λ p a b. d.bytes_same p (inr (omega arith)))
            ∙ sym (own_bytes_lem t f (omega (arith, d.length_same)));
        labels = labels_same f;
      }

  none_same : (f : NlString) → f.offset ≡ 0 → f.len ≡ 0 → SameString s t f
  none_same f o n =
      record {
        bytes = own_bytes_lem s f (omega arith) ∙ (nothing s) ∙ sym (own_bytes_lem t f (omega arith) ∙ (nothing t));
        labels = labels_same f;
      }
    where
      nothing : (x : List ℕ) → take f.len (drop f.offset x) ≡ []
      nothing x = simp (o, n)

  pub none : (f : NlString) → f ≡ no_string → SameString s t f
  none f e = none_same f (ap (λ (g : NlString). g.offset) e) (ap (λ (g : NlString). g.len) e)

  own_same : (i : ℕ) (f : NlString) → OwnString s i f → SameString s t f
  own_same i f o = go (eqb (u32_at s 4 / mask_of i % 2) 1) refl where
    go : (b : Bool) → eqb (u32_at s 4 / mask_of i % 2) 1 ≡ b → SameString s t f
    go true e =
        let w = o.there (eqb-true _ 1 e) in
        part_same f (omega (arith, later (take (i - 1) numbered) 8 w.0 w.2, w.4)) (omega (arith, w.4, w.5, w.3.from, w.3.inside))
    go false e = let w = o.none (eqb-false _ 1 e) in none_same f w.0 w.1

  name_own_same : (i : ℕ) (f : NlString) → OwnName s i f → SameString s t f
  name_own_same i f o = go (eqb (u32_at s 4 / mask_of i % 2) 1) refl where
    go : (b : Bool) → eqb (u32_at s 4 / mask_of i % 2) 1 ≡ b → SameString s t f
    go true e =
        let w = o.there (eqb-true _ 1 e) in
        let ends = name_ends (drop 8 s) (f.offset - 8) _ _ w.next w.name in
        part_same f (later (take (i - 1) numbered) 8 f.offset w.starts) (omega (arith, w.whole, ends.0, ends.1, length-drop 8 s))
    go false e = let w = o.none (eqb-false _ 1 e) in none_same f w.0 w.1

pub nl_auth_ignored : NlAuthIgnored
nl_auth_ignored s t d =
    record {
      answer = answer_same s t d;
      a = λ m h. each m.strings.nb_domain m h (λ r. own_same s t d 1 m.strings.nb_domain r.a) (λ r. none s t d m.strings.nb_domain r.a);
      b = λ m h. each m.strings.nb_computer m h (λ r. own_same s t d 2 m.strings.nb_computer r.b) (λ r. none s t d m.strings.nb_computer r.b);
      c = λ m h. each m.strings.dns_domain m h (λ r. name_own_same s t d 3 m.strings.dns_domain r.c) (λ r. none s t d m.strings.dns_domain r.c);
      d = λ m h. each m.strings.dns_host m h (λ r. name_own_same s t d 4 m.strings.dns_host r.d) (λ r. none s t d m.strings.dns_host r.d);
      e = λ m h. each m.strings.utf8_computer m h (λ r. name_own_same s t d 5 m.strings.utf8_computer r.e) (λ r. none s t d m.strings.utf8_computer r.e);
    }
  where
    each : (f : NlString) (m : NlAuth) → read_nl_auth s ≡ Ok m → (OwnRequest s m → SameString s t f) → (OwnResponse s m → SameString s t f) → SameString s t f
    each f m h x y = ⊎_elim (λ w. x w.1) (λ w. y w.1) (nl_auth_own s m h)
