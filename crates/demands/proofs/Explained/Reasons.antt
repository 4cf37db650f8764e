-- Why a message is refused: the check fails where the reader says, and those before it in its kind's list hold up to there.
use Prim.Native.Nat.{ℕ, suc, ◌+◌, ◌<◌}
use mathlib.Core.Path.{◌≡◌, refl, sym, ap, ◌∙◌}
use mathlib.Core.Logic.{inl}
use mathlib.Core.Bool.{Bool, true, false, cond}
use mathlib.Core.List.{List, [], ◌∷◌, ◌++◌}
use native.Mathlib.Omega.{arith}
use lib.Dec.{eqb}
use lib.ListN.{length}
use borrow.Author.Tests.{eqb-true}
use Rattle.field.specs.declared.Field.{Field}
use Rattle.field.specs.Field.{is_empty}
use Rattle.head.specs.declared.Kind.{Kind}
use Rattle.head.specs.declared.Kind.TheVariants.{Negotiate, Challenge, Authenticate}
use Rattle.head.specs.Head.{flags_at}
use Rattle.read_challenge.specs.Challenge as C
use Rattle.demands.specs.Order.{First, rank_in}
use Rattle.demands.specs.Message.{Format, negotiate, authenticate, challenge, Nonempty, Fails}
use Rattle.demands.specs.TakenExactly.{InfoBytes, ChallengeFails, in_fields, in_list}
use Rattle.demands.specs.Explained.{printed_checks, format_of, TakenAs, RefusedAs, FailsAt, at_field, at_pair, HoldsUpTo, OneOf, Before}
use Rattle.demands.proofs.Message.{Stands}
use Rattle.demands.proofs.Message.Chain.{of_check, up_to_9}
use Rattle.demands.proofs.TakenExactly.{authenticate_judged}
use Rattle.demands.proofs.TakenExactly.Negotiate.{negotiate_judged}
use Rattle.demands.proofs.TakenExactly.Challenge.{two, info_there, challenge_judged}
use Rattle.demands.proofs.Explained.Pairs.{of_row, list_holds, first_holds, first_fails, first_leads, first_listed}

-- a check that fails at a field fails at one that counts and isn't empty
has_field : (k : Format) (s : List ℕ) (n i : ℕ) → Fails k s n i → 0 < i → Nonempty k s i
has_field k s n i w l =
    of_check k s n i (λ x. Nonempty k s i) (λ h. absurd (omega (arith, h.0))) (λ h. absurd (omega (arith, h.0))) (λ h. absurd (omega (arith, h.0)))
    (λ h. absurd (omega (arith, h.0))) (λ h. absurd (omega (arith, h.0))) (λ h. h.0) (λ h. h.0) (λ h. h.0) (λ h. h.0) w

-- ---- checks that stand in the order of their numbers, before others

abbrev Sorted : ℕ → List ℕ → Type 0
Sorted lo [] = Unit
Sorted lo (c ∷ cs) = (lo < c) × Sorted c cs

above : (lo : ℕ) (cs : List ℕ) (n : ℕ) → Sorted lo cs → OneOf cs n → lo < n
above lo [] n h l = absurd (omega arith)
above lo (c ∷ cs) n h l = go (eqb n c) refl l (λ q. above c cs n h.1 q) where
  go : (t : Bool) → eqb n c ≡ t → cond t 0 (1 + rank_in cs n) < suc (length cs) → (OneOf cs n → c < n) → lo < n
  go true p q rest = omega (arith, eqb-true n c p, h.0)
  go false p q rest = omega (arith, rest (omega arith), h.0)

in_order : (lo : ℕ) (front back : List ℕ) (m n : ℕ) → Sorted lo front → OneOf front n → Before (front ++ back) m n → m < n
in_order lo [] back m n h l b = absurd (omega (arith, l))
in_order lo (c ∷ cs) back m n h l b = go (eqb m c) (eqb n c) refl refl l b (λ q r. in_order c cs back m n h.1 q r) where
  go : (x y : Bool) → eqb m c ≡ x → eqb n c ≡ y → cond y 0 (1 + rank_in cs n) < suc (length cs) →
      cond x 0 (1 + rank_in (cs ++ back) m) < cond y 0 (1 + rank_in (cs ++ back) n) → (OneOf cs n → Before (cs ++ back) m n → m < n) → m < n
  go x true p q l b rest = absurd (omega arith)
  go true false p q l b rest = omega (arith, eqb-true m c p, above c cs n h.1 (omega arith))
  go false false p q l b rest = rest (omega arith) (omega arith)

-- ---- the reason of a refusal

pub record Why (k : Kind) (s : List ℕ) (n i p : ℕ) : Type 0 where
  pub one : OneOf (printed_checks k) n
  pub fails : FailsAt k s n i p
  pub holds : (m : ℕ) → Before (printed_checks k) m n → HoldsUpTo k s m
  pub head : 0 < i → Nonempty (format_of k) s i

pub not-negotiate : Negotiate ≡ Challenge → ⊥
not-negotiate h = let z : ◌≡◌ {A = ℕ} 0 1 = cc in omega arith

pub not-authenticate : Authenticate ≡ Challenge → ⊥
not-authenticate h = let z : ◌≡◌ {A = ℕ} 0 1 = cc in omega arith

negotiate_why : (s : List ℕ) (n i : ℕ) → First (Fails negotiate s) n i → Why Negotiate s n i 0
negotiate_why s n i f =
    let one : OneOf (printed_checks Negotiate) n =
    of_check negotiate s n i (OneOf (printed_checks Negotiate)) (λ h. omega arith) (λ h. omega arith) (λ h. omega arith) (λ h. omega arith) (λ h. omega arith) (λ h. omega arith)
    (λ h. omega arith) (λ h. absurd h.1) (λ h. absurd h.1) f.fails in
    record {
      one = one;
      fails = at_field f.fails refl;
      holds = λ m b.
          record {
            fields = λ j. f.none_before m j (inl (in_order 0 (printed_checks Negotiate) [] m n (omega arith, (omega arith, (omega arith, (omega arith, (omega arith, (omega arith, (omega arith, tt))))))) one b));
            pairs = λ e. absurd (not-negotiate e);
          };
      head = has_field negotiate s n i f.fails;
    }

authenticate_why : (s : List ℕ) (n i : ℕ) → First (Fails authenticate s) n i → Why Authenticate s n i 0
authenticate_why s n i f =
    let one : OneOf (printed_checks Authenticate) n =
    of_check authenticate s n i (OneOf (printed_checks Authenticate)) (λ h. omega arith) (λ h. omega arith) (λ h. omega arith) (λ h. omega arith) (λ h. omega arith) (λ h. omega arith)
    (λ h. omega arith) (λ h. omega arith) (λ h. omega arith) f.fails in
    record {
      one = one;
      fails = at_field f.fails refl;
      holds = λ m b.
          record {
            fields = λ j. f.none_before m j (inl (in_order 0 (printed_checks Authenticate) [] m n (omega arith, (omega arith, (omega arith, (omega arith, (omega arith, (omega arith, (omega arith, (omega arith, (omega arith, tt))))))))) one b));
            pairs = λ e. absurd (not-authenticate e);
          };
      head = has_field authenticate s n i f.fails;
    }

-- TargetInfo's bytes are one list, and where there are some, the field is there
module _ (s : List ℕ) where
  abbrev info : Field
  info = (C.fields_at s (flags_at s 20)).target_info

  stands : Stands challenge s 2 info
  stands = (two s (Stands challenge s) (λ i f w. w)).1

  pub one_info : (b c : List ℕ) → InfoBytes s b → InfoBytes s c → b ≡ c
  one_info b c x y = go (is_empty info) refl where
    go : (t : Bool) → is_empty info ≡ t → b ≡ c
    go true p = x.absent (stands.empty p) ∙ sym (y.absent (stands.empty p))
    go false p = x.there (stands.full p) ∙ sym (y.there (stands.full p))

  pub info_counts : (b : List ℕ) → InfoBytes s b → 0 < length b → Nonempty challenge s 2
  info_counts b x l = go (is_empty info) refl where
    go : (t : Bool) → is_empty info ≡ t → Nonempty challenge s 2
    go true p = absurd (let z = ap length (x.absent (stands.empty p)) in omega (arith, z))
    go false p = stands.full p

abbrev first8 : List ℕ
first8 = 1 ∷ 2 ∷ 3 ∷ 4 ∷ 5 ∷ 6 ∷ 7 ∷ 8 ∷ []

abbrev last4 : List ℕ
last4 = 11 ∷ 12 ∷ 10 ∷ 13 ∷ []

challenge_why : (s b : List ℕ) (n i p : ℕ) → InfoBytes s b → ChallengeFails s b n i p → Why Challenge s n i p
challenge_why s b n i p x (in_fields z f) =
    let one : OneOf first8 n =
    of_check challenge s n i (OneOf first8) (λ h. omega arith) (λ h. omega arith) (λ h. omega arith) (λ h. omega arith) (λ h. omega arith) (λ h. omega arith)
    (λ h. omega arith) (λ h. omega arith) (λ h. absurd h.2.3) f.fails in
    let earlier : (m : ℕ) → Before (printed_checks Challenge) m n → m < n =
    λ m l. in_order 0 first8 last4 m n (omega arith, (omega arith, (omega arith, (omega arith, (omega arith, (omega arith, (omega arith, (omega arith, tt)))))))) one l in
    record {
      one = of_check challenge s n i (OneOf (printed_checks Challenge)) (λ h. omega arith) (λ h. omega arith) (λ h. omega arith) (λ h. omega arith) (λ h. omega arith) (λ h. omega arith)
          (λ h. omega arith) (λ h. omega arith) (λ h. absurd h.2.3) f.fails;
      fails = at_field f.fails z;
      holds = λ m l.
          record {
            fields = λ j. f.none_before m j (inl (earlier m l));
            pairs = λ e c y g q t w.
                of_row (λ v. v < 9 → ⊥) c q m (λ u a. omega arith) (λ u a. omega arith) (λ u a. omega arith) (λ u a. omega arith) w
                (omega (arith, earlier m l, up_to_9 challenge s n i f.fails));
          };
      head = has_field challenge s n i f.fails;
    }
challenge_why s b n i p x (in_list {q = q} none f z) =
    record {
      one = first_listed b f.2;
      fails = at_pair b q refl f.1 x f.0 (first_leads b f.2) (first_fails b f.2) z;
      holds = λ m l.
          record {
            fields = none m;
            pairs = λ e c y g o t w.
                let same : c ≡ b = one_info s c b y x in
                first_holds b o m f.2 (rw same at t) l (rw same at w);
          };
      head = λ l. rw f.1 (info_counts s b x f.0);
    }

pub why : (k : Kind) (s : List ℕ) (n i p : ℕ) → RefusedAs k s n i p → Why k s n i p
why Negotiate s n i p r = let f = ((negotiate_judged s).refused n i p).0 r in rw f.1 (negotiate_why s n i f.0)
why Authenticate s n i p r = let f = ((authenticate_judged s).refused n i p).0 r in rw f.1 (authenticate_why s n i f.0)
why Challenge s n i p r = let x = info_there s in challenge_why s x.0 n i p x.1 (((challenge_judged s x.0 x.1).refused n i p).0 r)

-- in an accepted message every check holds
pub taken_holds : (k : Kind) (s : List ℕ) → TakenAs k s → (m : ℕ) → HoldsUpTo k s m
taken_holds Negotiate s t m = record { fields = (negotiate_judged s).taken.0 t m; pairs = λ e. absurd (not-negotiate e) }
taken_holds Authenticate s t m = record { fields = (authenticate_judged s).taken.0 t m; pairs = λ e. absurd (not-authenticate e) }
taken_holds Challenge s t m =
    let x = info_there s in
    record {
      fields = ((challenge_judged s x.0 x.1).taken.0 t).fields m;
      pairs = λ e b y l q w f. let h = (challenge_judged s b y).taken.0 t in list_holds b h.count q m h.list l w f;
    }
