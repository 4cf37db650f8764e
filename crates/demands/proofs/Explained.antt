-- The print of a message's checks tells the truth about them.
pub mod Lines
pub mod Pairs
pub mod Reasons
pub mod Same
pub mod Short
pub mod Example
use Rattle.std.specs.Prelude.{Err}
use Prim.Native.Nat.{ℕ, ◌+◌, ◌≤◌, ◌<◌}
use mathlib.Core.Path.{◌≡◌, refl, sym, ap, ◌∙◌, subst}
use mathlib.Core.Logic.{◌⊎◌, inl, inr, ⊎_elim}
use mathlib.Core.Bool.{Bool, true, false, cond}
use mathlib.Core.List.{List, [], ◌∷◌}
use native.Mathlib.Omega.{arith}
use lib.Dec.{ltb, eqb}
use lib.ListN.{length, take, drop, get_or, length-take}
use lib.Seq.{get_or-take, get_or-drop}
use borrow.Author.Tests.{eqb-true, eqb-false, eq-eqb, ne_eqb, ltb-true, lt-ltb, le-ltb}
use Rattle.wire.specs.declared.refusal.Refusal.{Refusal}
use Rattle.wire.specs.Number.{u16_at}
use Rattle.wire.specs.Refusal.{number_of, field_of}
use Rattle.field.specs.declared.Field.{Field}
use Rattle.field.specs.Field.{is_empty}
use Rattle.head.specs.declared.Kind.{Kind}
use Rattle.head.specs.declared.Kind.TheVariants.{Negotiate, Challenge, Authenticate}
use Rattle.head.specs.Head.{kind_of}
use Rattle.line_checks.specs.declared.Figures.{Figures as Given}
use Rattle.line_checks.specs.Checks.{check_lines}
use Rattle.verdict.specs.Verdict.{read_as}
use Rattle.explain.specs.Explain.{fields_by_number, field_numbered, figures_of, no_figures, of_pair, figures_as, explained_as, explanation}
use Rattle.explain.proofs.Laws.{no_head}
use Rattle.demands.specs.Order.{rank_in}
use Rattle.demands.specs.Message.{Format, negotiate, authenticate, challenge, Nonempty, len_of, offset_of}
use Rattle.demands.specs.PairList.{id_of, size_of}
use Rattle.demands.specs.TakenExactly.{RefusalIs, RefusedWith, InfoBytes}
use Rattle.demands.specs.Explained.{Figures, State, held, failed, not_reached, printed_checks, print_of, format_of, TakenAs, RefusedAs, FailsAt, at_field, at_pair, FiguresAre, OneOf, Before, TrueStates, ExplainedExactly}
use Rattle.demands.proofs.Message.{Stands}
use Rattle.demands.proofs.Message.Fields.{AllStand}
use Rattle.demands.proofs.TakenExactly.{six}
use Rattle.demands.proofs.TakenExactly.Negotiate.{two as nego_two}
use Rattle.demands.proofs.TakenExactly.Challenge.{two as chal_two}
use Rattle.demands.proofs.Explained.Lines.{shown, state_by, state_of, lines_are}
use Rattle.demands.proofs.Explained.Reasons.{Why, why, taken_holds, one_info, info_counts}
use Rattle.demands.proofs.Judged.{fails_is, taken_clear, refused_not, Either, either}
use Rattle.demands.proofs.Message.Chain.{up_to_9}

-- ---- the fields by number are those of their heads

numbered_stands : (k : Format) (s : List ℕ) (fs : List (ℕ × Field)) (j i : ℕ) → AllStand k s j fs → j ≤ i → i < j + length fs → Stands k s i (field_numbered i fs)
numbered_stands k s [] j i a l r = absurd (omega arith)
numbered_stands k s (f ∷ fs) j i a l r = go (eqb i f.0) refl (λ x y. numbered_stands k s fs (j + 1) i a.2 x y) where
  go : (t : Bool) → eqb i f.0 ≡ t → (j + 1 ≤ i → i < j + 1 + length fs → Stands k s i (field_numbered i fs)) → Stands k s i (cond t f.1 (field_numbered i fs))
  go true p rest = subst (λ (x : ℕ). Stands k s x f.1) (sym (eqb-true i f.0 p ∙ a.0)) a.1
  go false p rest =
      let other : i ≡ j → ⊥ = λ e. eqb-false i f.0 p (e ∙ sym a.0) in
      rest (omega (arith, other)) (omega arith)

field_stands : (k : Kind) (s : List ℕ) (i : ℕ) → Nonempty (format_of k) s i → Stands (format_of k) s i (field_numbered i (fields_by_number k s))
field_stands Negotiate s i w =
    let x = nego_two s (Stands negotiate s) (λ j f v. v) in
    numbered_stands negotiate s (fields_by_number Negotiate s) 1 i (refl, x.0, (refl, x.1, tt)) w.first (omega (arith, w.last))
field_stands Challenge s i w =
    let x = chal_two s (Stands challenge s) (λ j f v. v) in
    numbered_stands challenge s (fields_by_number Challenge s) 1 i (refl, x.0, (refl, x.1, tt)) w.first (omega (arith, w.last))
field_stands Authenticate s i w =
    let x = six s (Stands authenticate s) (λ j f v. v) in
    numbered_stands authenticate s (fields_by_number Authenticate s) 1 i (refl, x.0, (refl, x.1, (refl, x.2, (refl, x.3, (refl, x.4, (refl, x.5, tt)))))) w.first (omega (arith, w.last))

pub head_is : (k : Kind) (s : List ℕ) (i : ℕ) → Nonempty (format_of k) s i →
    ((field_numbered i (fields_by_number k s)).offset ≡ offset_of (format_of k) s i) × ((field_numbered i (fields_by_number k s)).len ≡ len_of (format_of k) s i)
head_is k s i w = go (is_empty (field_numbered i (fields_by_number k s))) refl (field_stands k s i w) where
  go : (t : Bool) → is_empty (field_numbered i (fields_by_number k s)) ≡ t → Stands (format_of k) s i (field_numbered i (fields_by_number k s)) →
      ((field_numbered i (fields_by_number k s)).offset ≡ offset_of (format_of k) s i) × ((field_numbered i (fields_by_number k s)).len ≡ len_of (format_of k) s i)
  go true p v = absurd (v.empty p w)
  go false p v = (v.offset p, v.len p)

-- ---- a pair's numbers in the message are those in the list

pub in_list16 : (s b : List ℕ) (q : ℕ) → InfoBytes s b → q + 2 ≤ length b → u16_at s (offset_of challenge s 2 + q) ≡ u16_at b q
in_list16 s b q x l =
    let is : b ≡ take (len_of challenge s 2) (drop (offset_of challenge s 2) s) = x.there (info_counts s b x (omega arith)) in
    let short : length b ≤ len_of challenge s 2 = rw is (simp length-take (omega arith)) in
    let byte : (j : ℕ) → j < len_of challenge s 2 → get_or b j 0 ≡ get_or s (offset_of challenge s 2 + j) 0 =
    λ j h. rw is (get_or-take (len_of challenge s 2) (drop (offset_of challenge s 2) s) j 0 h ∙ get_or-drop (offset_of challenge s 2) s j 0) in
    let next : offset_of challenge s 2 + q + 1 ≡ offset_of challenge s 2 + (q + 1) = omega arith in
    simp (next, byte q (omega (arith, short)), byte (q + 1) (omega (arith, short)))

-- the pair of a refusal other than 11
abbrev pub OfPair : ℕ → Type 0
OfPair n = (n ≡ 10) ⊎ ((n ≡ 12) ⊎ (n ≡ 13))

pub by_pair : (n : ℕ) (P : ℕ → Type 0) → OfPair n → P 10 → P 12 → P 13 → P n
by_pair n P c a b d = ⊎_elim (λ e. subst P (sym e) a) (λ c. ⊎_elim (λ e. subst P (sym e) b) (λ e. subst P (sym e) d) c) c

-- has its head within the list
pub pair_inside : (k : Kind) (s : List ℕ) (n i p : ℕ) → Why k s n i p → OfPair n → (b : List ℕ) (q : ℕ) → InfoBytes s b → p ≡ offset_of challenge s 2 + q → q + 4 ≤ length b
pair_inside k s n i p w c b q x z = go w.fails where
  late : 10 ≤ n
  late = by_pair n (λ m. 10 ≤ m) c (omega arith) (omega arith) (omega arith)

  after_11 : Before (printed_checks Challenge) 11 n
  after_11 = by_pair n (λ m. Before (printed_checks Challenge) 11 m) c (omega arith) (omega arith) (omega arith)

  go : FailsAt k s n i p → q + 4 ≤ length b
  go (at_field f e) = absurd (omega (arith, late, up_to_9 (format_of k) s n i f))
  go (at_pair d o e h y m t f v) =
      let same : d ≡ b = one_info s d b y x in
      let place : o ≡ q = omega arith in
      let none : length b < q + 4 → ⊥ = (w.holds 11 (rw e after_11)).pairs e b x (rw same at m) q (rw (same, place) at t) in
      omega (arith, none)

-- ---- the figures

figures_are : (k : Kind) (s : List ℕ) (e : Refusal) (n i p : ℕ) → RefusalIs e n i p → Why k s n i p →
    FiguresAre k s n i p (shown (figures_of s (field_numbered (field_of e) (fields_by_number k s)) e))
unfolding figures_of
figures_are k s e n i p r w =
    record {
      field = r.1;
      no_field = λ z. let none = no_head k s (field_of e) (r.1 ∙ z) in (ap (λ (f : Field). f.offset) (sym none), ap (λ (f : Field). f.len) (sym none));
      head = λ l. rw r.1 (head_is k s i (w.head l));
      message = refl;
      at = r.2;
      pair = λ c b q x z.
          let inside = pair_inside k s n i p w c b q x z in
          let next : offset_of challenge s 2 + q + 2 ≡ offset_of challenge s 2 + (q + 2) = omega arith in
          let both : (u16_at s (offset_of challenge s 2 + q) ≡ id_of b q) × (u16_at s (offset_of challenge s 2 + q + 2) ≡ size_of b q) =
          (in_list16 s b q x (omega (arith, inside)), rw next (in_list16 s b (q + 2) x (omega (arith, inside)))) in
          rw (r.0, r.2, z)
          (by_pair n (λ m. (of_pair m (u16_at s (offset_of challenge s 2 + q)) ≡ id_of b q) × (of_pair m (u16_at s (offset_of challenge s 2 + q + 2)) ≡ size_of b q))
          c both both both);
      no_pair = λ z. rw (r.0 ∙ z) (refl, refl);
    }

-- ---- the states

module _ (k : Kind) (s : List ℕ) where
  abbrev given : Given
  given = figures_as k s

  abbrev checks : List ℕ
  checks = printed_checks k

  abbrev state : ℕ → State
  state = state_of given checks

  state_before : (m : ℕ) → rank_in checks m < rank_in checks given.number → state m ≡ held
  state_before m h = simp (lt-ltb _ _ h)

  state_at : (m : ℕ) → m ≡ given.number → state m ≡ failed (shown given)
  state_at m e =
      let not_before : ltb (rank_in checks m) (rank_in checks given.number) ≡ false = rw e (le-ltb (rank_in checks given.number) (rank_in checks given.number) (omega arith)) in
      simp (not_before, eq-eqb m given.number e)

  state_beyond : (m : ℕ) → rank_in checks given.number < rank_in checks m → state m ≡ not_reached
  state_beyond m h =
      let other : m ≡ given.number → ⊥ = λ e. let z = ap (rank_in checks) e in omega (arith, z) in
      simp (le-ltb (rank_in checks m) (rank_in checks given.number) (omega arith), ne_eqb m given.number other)

  held_before : (m : ℕ) → state m ≡ held → rank_in checks m < rank_in checks given.number
  held_before m h = go (ltb (rank_in checks m) (rank_in checks given.number)) (eqb m given.number) refl h where
    go : (t u : Bool) → ltb (rank_in checks m) (rank_in checks given.number) ≡ t → state_by t u (shown given) ≡ held → rank_in checks m < rank_in checks given.number
    go true u p q = ltb-true _ _ p
    go false true p q = absurd (let z : ◌≡◌ {A = ℕ} 0 1 = cc in omega arith)
    go false false p q = absurd (let z : ◌≡◌ {A = ℕ} 0 1 = cc in omega arith)

  failed_at : (m : ℕ) (f : Figures) → state m ≡ failed f → (m ≡ given.number) × (f ≡ shown given)
  failed_at m f h = go (ltb (rank_in checks m) (rank_in checks given.number)) (eqb m given.number) refl h where
    go : (t u : Bool) → eqb m given.number ≡ u → state_by t u (shown given) ≡ failed f → (m ≡ given.number) × (f ≡ shown given)
    go true u p q = absurd (let z : ◌≡◌ {A = ℕ} 0 1 = cc in omega arith)
    go false true p q = (eqb-true _ _ p, cc)
    go false false p q = absurd (let z : ◌≡◌ {A = ℕ} 0 1 = cc in omega arith)

  given_taken : TakenAs k s → given ≡ no_figures
  unfolding figures_as
  given_taken t = simp (taken_clear (read_as k s) t)

  given_refused : (e : Refusal) → read_as k s ≡ Err e → given ≡ figures_of s (field_numbered (field_of e) (fields_by_number k s)) e
  unfolding figures_as
  given_refused e h = simp h

  number_is : (n i p : ℕ) → RefusedAs k s n i p → given.number ≡ n
  unfolding figures_of
  number_is n i p r = let x = refused_not (read_as k s) n i p r in ap (λ (g : Given). g.number) (given_refused x.0 x.1) ∙ x.2.0

  -- no check has number 0
  none_is_0 : rank_in checks 0 ≡ length checks
  none_is_0 = go k where
    go : (k : Kind) → rank_in (printed_checks k) 0 ≡ length (printed_checks k)
    go Negotiate = refl
    go Challenge = refl
    go Authenticate = refl

  pub told : TrueStates k s state
  unfolding figures_of
  told =
      record {
        all_held = λ t n l. state_before n (rw (given_taken t, none_is_0) l);
        only_taken = λ h. ⊎_elim (λ t. t)
            (λ x. let w = why k s _ _ _ x.1 in
            absurd (omega (arith, held_before (number_of x.0) (h (number_of x.0) w.one), ap (rank_in checks) (number_is _ _ _ x.1)))) (either (read_as k s));
        named = λ n i p r.
            let w = why k s n i p r in
            let x = refused_not (read_as k s) n i p r in
            (w.one, (shown given, state_at n (sym (number_is n i p r)), rw (given_refused x.0 x.1) (figures_are k s x.0 n i p x.2 w)));
        returned = returned;
        fails = λ n f l h. (why k s n f.field f.at (returned n f l h)).fails;
        before = λ n i p r m b. state_before m (rw (number_is n i p r) b);
        holds = λ m l h. ⊎_elim (λ t. taken_holds k s t m)
            (λ x. (why k s _ _ _ x.1).holds m (rw (number_is _ _ _ x.1) at (held_before m h))) (either (read_as k s));
        after = λ n i p r m b. state_beyond m (rw (number_is n i p r) b);
      }
    where
      returned : (n : ℕ) (f : Figures) → OneOf checks n → state n ≡ failed f → RefusedAs k s n f.field f.at
      returned n f l h = go (either (read_as k s)) where
        is : (n ≡ given.number) × (f ≡ shown given)
        is = failed_at n f h

        go : Either (read_as k s) → RefusedAs k s n f.field f.at
        go (inl t) =
            let zero : n ≡ 0 = is.0 ∙ ap (λ (g : Given). g.number) (given_taken t) in
            absurd (let z = ap (rank_in checks) zero in omega (arith, z, none_is_0))
        go (inr x) =
            let r = refused_not (read_as k s) _ _ _ x.1 in
            let g = given_refused r.0 r.1 in
            fails_is (RefusedWith (read_as k s)) (
              sym (is.0 ∙ number_is _ _ _ x.1),
              sym (ap (λ (y : Figures). y.field) is.1 ∙ ap (λ (y : Given). y.field) g ∙ r.2.1),
              sym (ap (λ (y : Figures). y.at) is.1 ∙ ap (λ (y : Given). y.at) g ∙ r.2.2),
            ) x.1

print_is : (k : Kind) (s : List ℕ) → explained_as k s ≡ print_of (state_of (figures_as k s) (printed_checks k)) (printed_checks k)
unfolding explained_as check_lines
print_is Negotiate s = lines_are (figures_as Negotiate s) (printed_checks Negotiate) refl
print_is Challenge s = lines_are (figures_as Challenge s) (printed_checks Challenge) refl
print_is Authenticate s = lines_are (figures_as Authenticate s) (printed_checks Authenticate) refl

pub explained_exactly : ExplainedExactly
unfolding explanation
explained_exactly s = (state_of (figures_as (kind_of s) s) (printed_checks (kind_of s)), print_is (kind_of s) s, told (kind_of s) s)
