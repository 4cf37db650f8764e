-- The scheme word in any letter case.
use Prim.Native.Nat.{ℕ, ◌+◌, ◌≤◌, ◌<◌}
use mathlib.Core.Path.{◌≡◌, ap, ◌∙◌}
use mathlib.Core.Bool.{Bool, ◌&&◌}
use mathlib.Core.List.{List, [], ◌∷◌, map}
use native.Mathlib.Omega.{arith}
use borrow.Author.Rules.{rules}
use lib.Dec.{eqb}
use lib.ListN.{length, take}
use Rattle.std.specs.Bool.{Decides}
use Rattle.std.specs.Char.{to_ascii_lowercase}
use Rattle.std.specs.Str.{bytes_eq}
use Rattle.std.proofs.lemmas.Bool.{le-leb, lt-leb}
use Rattle.std.proofs.lemmas.Slice.Eq.{bytes_eq-Decides}
use Rattle.wire.specs.Text.{ascii}
use Rattle.wire.specs.declared.check.Checked.{Checked}
use Rattle.wire.specs.declared.check.Checked.TheVariants.{Failed}
use Rattle.wire.specs.Check.{checked}
use Rattle.wire.proofs.Bools.{and_assoc, and-true}
use Rattle.http_header_line.specs.HttpHeader.{upper, scheme_holds}

-- a letter in any case, and the space, which has none
same_letter : (c u : ℕ) → 65 ≤ u → u ≤ 90 → eqb (to_ascii_lowercase c) (u + 32) ≡ eqb (upper c) u
same_letter c u g h = grind (arith)

same_space : (c : ℕ) → eqb (to_ascii_lowercase c) 32 ≡ eqb c 32
same_space c = grind (arith)

same_word : (a b c d e : ℕ) → bytes_eq (map to_ascii_lowercase (a ∷ b ∷ c ∷ d ∷ e ∷ [])) (map to_ascii_lowercase (ascii "NTLM "))
    ≡ eqb (upper a) 0x4E && eqb (upper b) 0x54 && eqb (upper c) 0x4C && eqb (upper d) 0x4D && eqb e 0x20
same_word a b c d e =
    simp (
      same_letter a 0x4E (omega arith) (omega arith),
      same_letter b 0x54 (omega arith) (omega arith),
      same_letter c 0x4C (omega arith) (omega arith),
      same_letter d 0x4D (omega arith) (omega arith),
      same_space e,
      and_assoc,
      and-true,
    )

-- the answer, by the test of the first five characters
pub is_scheme : (t w v : List ℕ) (r : Bool) (k : Checked) → w ≡ take 5 t → length v + 5 ≡ length t →
    Decides r (map to_ascii_lowercase w ≡ map to_ascii_lowercase (ascii "NTLM ")) → k ≡ checked r → k ≡ scheme_holds t
unfolding scheme_holds
is_scheme (a ∷ b ∷ c ∷ d ∷ e ∷ t) w v r k ew ev h ek =
    let f : r ≡ bytes_eq (map to_ascii_lowercase w) (map to_ascii_lowercase (ascii "NTLM ")) = search (rules, bytes_eq-Decides) in
    ek ∙ ap checked (f ∙ ap (λ (x : List ℕ). bytes_eq (map to_ascii_lowercase x) (map to_ascii_lowercase (ascii "NTLM "))) ew ∙ same_word a b c d e)
    ∙ simp (le-leb 5 (length (a ∷ b ∷ c ∷ d ∷ e ∷ t)) (omega arith))
is_scheme (a ∷ b ∷ c ∷ d ∷ []) w v r k ew ev h ek = absurd (omega arith)
is_scheme (a ∷ b ∷ c ∷ []) w v r k ew ev h ek = absurd (omega arith)
is_scheme (a ∷ b ∷ []) w v r k ew ev h ek = absurd (omega arith)
is_scheme (a ∷ []) w v r k ew ev h ek = absurd (omega arith)
is_scheme [] w v r k ew ev h ek = absurd (omega arith)

pub too_short : (t : List ℕ) → length t < 5 → Failed ≡ scheme_holds t
unfolding scheme_holds
too_short t h = simp (lt-leb 5 (length t) h)
