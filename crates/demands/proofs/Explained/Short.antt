-- How long the print is at most.
use Rattle.read_challenge.specs.declared.Challenge.{Challenge as ChallengeMessage}
use Rattle.std.specs.Prelude.{Result, Ok, Err, ⊤}
use Prim.Native.Nat.{ℕ, ◌+◌, ◌≤◌, ◌<◌}
use mathlib.Core.Path.{◌≡◌, refl}
use mathlib.Core.Bool.{Bool, true, false, ◌&&◌, not, cond}
use mathlib.Core.List.{List, [], ◌∷◌, ◌++◌}
use native.Mathlib.Omega.{arith}
use lib.Dec.{ltb, eqb}
use lib.ListN.{length, get_or, length-append}
use borrow.Author.Tests.{ltb-true, ltb-false}
use Rattle.wire.specs.Text.{ascii}
use Rattle.wire.specs.declared.refusal.Refusal.{Refusal}
use Rattle.wire.specs.Number.{u16_at, u32_at}
use Rattle.wire.specs.Refusal.{number_of, field_of, place_of}
use Rattle.line_words.specs.Digits.{decimal_size, decimal}
use Rattle.line_words.specs.Words.{number_word}
use Rattle.line_words.proofs.Labels.{number_word_bound}
use Rattle.head.specs.declared.Kind.{Kind}
use Rattle.head.specs.declared.Kind.TheVariants.{Negotiate, Challenge, Authenticate}
use Rattle.head.specs.Head.{kind_of}
use Rattle.read_challenge.specs.Challenge.{read_challenge}
use Rattle.line_checks.specs.declared.Figures.{Figures as Given}
use Rattle.line_checks.specs.Checks.{about_pair, plain_words, pair_figures, pair_words, message_words, figure_words, failed_words, words_of, check_line, lines_from, check_lines}
use Rattle.verdict.specs.Verdict.{chal_verdict, read_as, fails_at_pair}
use Rattle.explain.specs.Explain.{checks_of, fields_by_number, field_numbered, of_pair, figures_of, figures_on, figures_as, explained_as, explanation}
use Rattle.explain.proofs.Laws.{no_head}
use Rattle.demands.specs.Message.{Nonempty}
use Rattle.demands.specs.Explained.{format_of, ExplainedShort, ExplainedDecodes}
use Rattle.demands.proofs.TakenExactly.{authenticate_judged}
use Rattle.demands.proofs.TakenExactly.Negotiate.{negotiate_judged}
use Rattle.demands.proofs.TakenExactly.Places.{place_in_message}
use Rattle.demands.proofs.Answers.Decoded.{number_small}
use Rattle.demands.proofs.Digits.{decimal_has_value}
use Rattle.demands.proofs.Explained.{head_is}
use Rattle.demands.proofs.Answers.{short_tells}
use Rattle.demands.proofs.Judged.{refused_as}
use Rattle.demands.proofs.Explained.Reasons.{why}

-- ---- a line

record Small (g : Given) : Type 0 where
  number : g.number < 100
  field : g.field < 10
  offset : g.head.offset < 4294967296
  len : g.head.len < 65536
  message : g.message ≤ 65536
  at : g.at < 65536
  id : g.id < 65536
  size : g.size < 65536

pair_bound : (g : Given) → Small g → length (pair_words g) ≤ 29
unfolding pair_words pair_figures
pair_bound g w = go (about_pair g.number) where
  go : (t : Bool) → length (cond t (number_word (ascii " at=") g.at ++ (number_word (ascii " id=") g.id ++ number_word (ascii " size=") g.size)) []) ≤ 29
  go true =
      simp length-append
      (omega (arith, number_word_bound (ascii " at=") 4 g.at (omega (arith, w.at)), number_word_bound (ascii " id=") 4 g.id (omega (arith, w.id)), number_word_bound (ascii " size=") 4 g.size (omega (arith, w.size))))
  go false = omega arith

failed_bound : (g : Given) → Small g → length (failed_words g) ≤ 97
unfolding failed_words figure_words message_words
failed_bound g w =
    simp length-append
    (omega (
      arith,
      number_word_bound (ascii "check ") 1 g.number (omega (arith, w.number)),
      number_word_bound (ascii " failed field=") 0 g.field (omega (arith, w.field)),
      number_word_bound (ascii " offset=") 9 g.head.offset (omega (arith, w.offset)),
      number_word_bound (ascii " length=") 4 g.head.len (omega (arith, w.len)),
      number_word_bound (ascii " message=") 4 g.message (omega (arith, w.message)),
      pair_bound g w,
    ))

-- a check that is not reached has the longest line but for the one that failed
held_bound : (g : Given) (n : ℕ) → eqb n g.number ≡ false → length (check_line true g n) ≤ length (check_line false g n)
unfolding check_line words_of plain_words
held_bound g n h = simp (h, length-append) (omega arith)

failed_line : (g : Given) (n : ℕ) → Small g → eqb n g.number ≡ true → length (check_line true g n) ≤ 98
unfolding check_line words_of
failed_line g n w h = simp (h, length-append) (omega (arith, failed_bound g w))

-- that line has at least 20 bytes
unreached_size : (g : Given) (n : ℕ) → 20 ≤ length (check_line false g n)
unfolding check_line words_of plain_words number_word
unreached_size g n = simp length-append (omega (arith, (decimal_has_value n).some))

lines_bound : (g : Given) (cs : List ℕ) → Small g → length (lines_from true g cs) ≤ 78 + length (lines_from false g cs)
lines_bound g [] w = omega arith
lines_bound g (c ∷ cs) w = go (eqb c g.number) refl (lines_bound g cs w) where
  go : (t : Bool) → eqb c g.number ≡ t → length (lines_from true g cs) ≤ 78 + length (lines_from false g cs) →
      length (check_line true g c ++ lines_from (true && not (eqb c g.number)) g cs) ≤ 78 + length (check_line false g c ++ lines_from false g cs)
  go true p rest = rw p (simp length-append (omega (arith, failed_line g c w p, unreached_size g c)))
  go false p rest = rw p (simp length-append (omega (arith, held_bound g c p, rest)))

-- ---- the figures of a message

-- bytes make numbers of 16 and 32 bits
module _ (s : List ℕ) (bytes : (i : ℕ) → get_or s i 0 < 256) where
  small16 : (at : ℕ) → u16_at s at < 65536
  small16 at = omega (arith, bytes at, bytes (at + 1))

  small32 : (at : ℕ) → u32_at s at < 4294967296
  small32 at = omega (arith, small16 at, small16 (at + 2))

  of_pair_lem : (n at : ℕ) → of_pair n (u16_at s at) < 65536
  of_pair_lem n at = go (fails_at_pair n) where
    go : (t : Bool) → cond t (u16_at s at) 0 < 65536
    go true = omega (arith, small16 at)
    go false = omega arith

  head_small : (k : Kind) (i : ℕ) → (0 < i → Nonempty (format_of k) s i) →
      (i < 10) × ((field_numbered i (fields_by_number k s)).offset < 4294967296) × ((field_numbered i (fields_by_number k s)).len < 65536)
  head_small k i h = go (ltb 0 i) refl where
    last : (k : Kind) → (format_of k).last ≤ 6
    last Negotiate = omega arith
    last Challenge = omega arith
    last Authenticate = omega arith

    go : (t : Bool) → ltb 0 i ≡ t → (i < 10) × ((field_numbered i (fields_by_number k s)).offset < 4294967296) × ((field_numbered i (fields_by_number k s)).len < 65536)
    go true p =
        let w = h (ltb-true 0 i p) in
        let x = head_is k s i w in
        (omega (arith, w.last, last k), rw x.0 (small32 _), rw x.1 (omega (arith, small16 ((format_of k).head i))))
    go false p =
        let none = no_head k s i (omega (arith, ltb-false 0 i p)) in
        (omega (arith, ltb-false 0 i p), rw (← none) (omega arith), rw (← none) (omega arith))

  chal_is : (r : Result ChallengeMessage Refusal) (e : Refusal) → chal_verdict r ≡ Err e → r ≡ Err e
  chal_is (Ok c) e h = cc
  chal_is (Err d) e h = cc

  place_small : (k : Kind) (e : Refusal) → read_as k s ≡ Err e → place_of e ≤ 65535
  place_small Negotiate e h = omega (arith, (((negotiate_judged s).refused (number_of e) (field_of e) (place_of e)).0 (refused_as (read_as Negotiate s) e h)).1)
  place_small Challenge e h = place_in_message s e (chal_is (read_challenge s).reading e h)
  place_small Authenticate e h = omega (arith, (((authenticate_judged s).refused (number_of e) (field_of e) (place_of e)).0 (refused_as (read_as Authenticate s) e h)).1)

  given_small : (k : Kind) → Small (figures_as k s)
  unfolding figures_as figures_of
  given_small k = go (read_as k s) refl where
    go : (v : Result ⊤ Refusal) → read_as k s ≡ v → Small (figures_on s (fields_by_number k s) v)
    go (Ok tt) h =
        record {
          number = omega arith;
          field = omega arith;
          offset = omega arith;
          len = omega arith;
          message = omega arith;
          at = omega arith;
          id = omega arith;
          size = omega arith;
        }
    go (Err e) h =
        let x = head_small k (field_of e) (why k s _ _ _ (refused_as (read_as k s) e h)).head in
        record {
          number = omega (arith, number_small e);
          field = x.0;
          offset = x.1;
          len = x.2;
          message = omega arith;
          at = omega (arith, place_small k e h);
          id = of_pair_lem (number_of e) (place_of e);
          size = of_pair_lem (number_of e) (place_of e + 2);
        }

-- ---- the print

none_reached : (k : Kind) (g : Given) → length (lines_from false g (checks_of k)) ≤ 244
unfolding check_line words_of plain_words number_word decimal decimal_size
none_reached Negotiate g = let n : length (lines_from false g (checks_of Negotiate)) ≡ 140 = refl in omega (arith, n)
none_reached Challenge g = let n : length (lines_from false g (checks_of Challenge)) ≡ 244 = refl in omega (arith, n)
none_reached Authenticate g = let n : length (lines_from false g (checks_of Authenticate)) ≡ 180 = refl in omega (arith, n)

pub explained_short : ExplainedShort
unfolding explanation explained_as check_lines
explained_short s bytes =
    let k = kind_of s in
    omega (arith, lines_bound (figures_as k s) (checks_of k) (given_small s bytes k), none_reached k (figures_as k s))

pub explained_decodes : ExplainedDecodes
explained_decodes s out bytes = short_tells (explanation s) out (omega (arith, explained_short s bytes))
