-- A night's messages: what each place is answered, and what the answers depend on.
pub mod Example
use Rattle.std.specs.Prelude.{Result, Err, ⊤}
use Rattle.wire.specs.declared.refusal.Refusal.{Refusal}
use Prim.Native.Nat.{ℕ, zero, suc, ◌+◌, ◌≤◌, ◌<◌}
use mathlib.Core.Path.{◌≡◌, refl, sym, ap, ◌∙◌}
use mathlib.Core.Logic.{◌⊎◌, inl, inr}
use mathlib.Core.Bool.{Bool, true, false}
use mathlib.Core.List.{List, [], ◌∷◌, map}
use native.Mathlib.Omega.{arith}
use lib.Dec.{leb, eqb}
use lib.ListN.{length, take, drop, get_or, length-take, length-drop}
use lib.Seq.{get_or-take, get_or-drop}
use borrow.Author.Tests.{leb-true, leb-false, le-leb, lt-leb, eqb-true, eqb-false, ne_eqb}
use Rattle.wire.specs.declared.refusal.Refusal.TheVariants.{WrongType, PlaceOutside}
use Rattle.wire.specs.Check.{checked, after}
use Rattle.head.specs.declared.Kind.{Kind}
use Rattle.head.specs.declared.Kind.TheVariants.{Negotiate, Challenge, Authenticate}
use Rattle.verdict.specs.Verdict.{nego_verdict, auth_verdict, read_as}
use Rattle.batch.specs.declared.Entry.{Entry}
use Rattle.batch.specs.Batch.{answer_of, at_place, read_marked, with_answer}
use Rattle.demands.specs.Explained.{printed_checks, TakenAs, RefusedAs, OneOf}
use Rattle.demands.specs.Batch.{mark_of, Marked, Passes, Inside, message, AnswerIs, EntryAnswered, Each, BatchAnswers, Listed, in_first_64, in_challenge, DifferInListedSecrets, SameBatch, SecretBatch, BatchIgnored}
use Rattle.demands.proofs.Alike.{same_part}
use Rattle.demands.specs.TakenExactly.{RefusedWith}
use Rattle.demands.proofs.Judged.{fails_is, taken_clear, refused_not, Either, either}
use Rattle.demands.proofs.Explained.Reasons.{why}
use Rattle.demands.proofs.Explained.Same.{ignored_read}
use Rattle.demands.proofs.First64.{negotiate_same, authenticate_same}

-- ---- a single call's numbers

-- a reading is refused by a check of its kind, which is neither 0 nor 54
not_0_or_54 : (k : Kind) (n : ℕ) → OneOf (printed_checks k) n → (n ≡ 0 → ⊥) × (n ≡ 54 → ⊥)
not_0_or_54 Negotiate n h = (λ e. let x : OneOf (printed_checks Negotiate) 0 = rw e at h in omega (arith, x), λ e. let x : OneOf (printed_checks Negotiate) 54 = rw e at h in omega (arith, x))
not_0_or_54 Challenge n h = (λ e. let x : OneOf (printed_checks Challenge) 0 = rw e at h in omega (arith, x), λ e. let x : OneOf (printed_checks Challenge) 54 = rw e at h in omega (arith, x))
not_0_or_54 Authenticate n h = (λ e. let x : OneOf (printed_checks Authenticate) 0 = rw e at h in omega (arith, x), λ e. let x : OneOf (printed_checks Authenticate) 54 = rw e at h in omega (arith, x))

refusal_number : (k : Kind) (s : List ℕ) (n i p : ℕ) → RefusedAs k s n i p → (n ≡ 0 → ⊥) × (n ≡ 54 → ⊥)
refusal_number k s n i p r = not_0_or_54 k n (why k s n i p r).one

-- ---- a mark

-- a message is read as its mark's kind, or by 4 where there is none
by_kind : (k : Kind) (m : ℕ) (s : List ℕ) → m ≡ mark_of k → read_marked m s ≡ read_as k s
by_kind Negotiate m s h = rw h
by_kind Challenge m s h = rw h
by_kind Authenticate m s h = rw h

abbrev KindOrNone : ℕ → Type 0
KindOrNone m = ((k : Kind) × (m ≡ mark_of k)) ⊎ ((k : Kind) → m ≡ mark_of k → ⊥)

by_none : (m : ℕ) (s : List ℕ) → ((k : Kind) → m ≡ mark_of k → ⊥) → read_marked m s ≡ Err WrongType
by_none m s none = simp (ne_eqb m 1 (none Negotiate), ne_eqb m 2 (none Challenge), ne_eqb m 3 (none Authenticate))

kind_or_none : (m : ℕ) → KindOrNone m
kind_or_none m = one (eqb m 1) (eqb m 2) (eqb m 3) refl refl refl where
  one : (a b c : Bool) → eqb m 1 ≡ a → eqb m 2 ≡ b → eqb m 3 ≡ c → KindOrNone m
  one true b c p q u = inl (Negotiate, eqb-true m 1 p)
  one false true c p q u = inl (Challenge, eqb-true m 2 q)
  one false false true p q u = inl (Authenticate, eqb-true m 3 u)
  one false false false p q u = inr none
    where
      none : (k : Kind) → m ≡ mark_of k → ⊥
      none Negotiate h = eqb-false m 1 p h
      none Challenge h = eqb-false m 2 q h
      none Authenticate h = eqb-false m 3 u h

-- ---- an entry

module _ (s : List ℕ) (x : Entry) where
  abbrev v : Result ⊤ Refusal
  v = at_place s x.start x.length (read_marked x.mark)

  when_outside : Passes s x → v ≡ Err PlaceOutside
  when_outside l = simp (lt-leb (x.start + x.length) (length s) l)

  when_inside : Inside s x → v ≡ read_marked x.mark (message s x)
  when_inside l = simp (le-leb (x.start + x.length) (length s) l)

  when_kind : Inside s x → (k : Kind) → Marked x k → v ≡ read_as k (message s x)
  when_kind l k m = when_inside l ∙ by_kind k x.mark (message s x) m

  refused_is_so : Inside s x → (k : Kind) → Marked x k → (n i p : ℕ) → RefusedAs k (message s x) n i p →
      AnswerIs (answer_of v) n i p
  refused_is_so l k m n i p h = let y = refused_not (read_as k (message s x)) n i p h in rw (when_kind l k m ∙ y.1) (y.2.0, y.2.1, y.2.2)

  never_54 : Inside s x → (answer_of v).number ≡ 54 → ⊥
  never_54 l h = go (kind_or_none x.mark) where
    go : KindOrNone x.mark → ⊥
    go (inr none) = let z : ◌≡◌ {A = ℕ} 4 54 = rw (when_inside l ∙ by_none x.mark (message s x) none) at h in omega (arith, z)
    go (inl km) = of (either (read_as km.0 (message s x))) where
      of : Either (read_as km.0 (message s x)) → ⊥
      of (inl t) = let z : ◌≡◌ {A = ℕ} 0 54 = rw (when_kind l km.0 km.1 ∙ taken_clear (read_as km.0 (message s x)) t) at h in omega (arith, z)
      of (inr e) = (refusal_number km.0 (message s x) _ _ _ e.1).1 (sym (refused_is_so l km.0 km.1 _ _ _ e.1).0 ∙ h)

  entry_answered : EntryAnswered s x (with_answer s x)
  unfolding with_answer
  entry_answered =
      record {
        start = refl;
        len = refl;
        mark = refl;
        outside = λ l. rw (when_outside l) (refl, refl, refl);
        only_outside = λ h. only (leb (x.start + x.length) (length s)) refl h;
        taken = λ l k m t. rw (when_kind l k m ∙ taken_clear (read_as k (message s x)) t) (refl, refl, refl);
        only_taken = λ l k m h. zero_taken l k m h (either (read_as k (message s x)));
        refused = refused_is_so;
        only_refused = λ l k m h. some_refused l k m h (either (read_as k (message s x)));
        no_kind = λ l none. rw (when_inside l ∙ by_none x.mark (message s x) none) (refl, refl, refl);
      }
    where
      only : (b : Bool) → leb (x.start + x.length) (length s) ≡ b → (answer_of v).number ≡ 54 → Passes s x
      only true e h = absurd (never_54 (leb-true (x.start + x.length) (length s) e) h)
      only false e h = leb-false (x.start + x.length) (length s) e

      zero_taken : Inside s x → (k : Kind) → Marked x k → (answer_of v).number ≡ 0 → Either (read_as k (message s x)) → TakenAs k (message s x)
      zero_taken l k m h (inl t) = t
      zero_taken l k m h (inr e) = absurd ((refusal_number k (message s x) _ _ _ e.1).0 (sym (refused_is_so l k m _ _ _ e.1).0 ∙ h))

      some_refused : Inside s x → (k : Kind) → Marked x k → 0 < (answer_of v).number → Either (read_as k (message s x)) →
          RefusedAs k (message s x) (answer_of v).number (answer_of v).field (answer_of v).place
      some_refused l k m h (inl t) = absurd (let z : 0 < 0 = rw (when_kind l k m ∙ taken_clear (read_as k (message s x)) t) at h in omega (arith, z))
      some_refused l k m h (inr e) =
          let y = refused_is_so l k m _ _ _ e.1 in fails_is (RefusedWith (read_as k (message s x))) (sym y.0, sym y.1, sym y.2) e.1

-- ---- the list

each : {A : Type 0} (R : A → A → Type 0) (g : A → A) (es : List A) → ((e : A) → R e (g e)) → Each R es (map g es)
each R g [] h = tt
each R g (e ∷ es) h = (h e, each R g es h)

pub batch_answers : BatchAnswers
batch_answers s es = (
  λ l. rw (le-leb (length s) 65535 l) (refl, refl, each (EntryAnswered s) (with_answer s) es (entry_answered s)),
  λ l. rw (lt-leb (length s) 65535 l) (refl, record { top_bit = refl; number = refl; field = refl; place = refl }, refl),
)

-- ---- equal answers

map_same : (f g : Entry → Entry) (es : List Entry) → ((e : Entry) → Listed e es → f e ≡ g e) → map f es ≡ map g es
map_same f g [] h = refl
map_same f g (e ∷ es) h = λ i. h e (inl refl) i ∷ map_same f g es (λ x l. h x (inr l)) i

at_same : (s t : List ℕ) (start len : ℕ) (read : List ℕ → Result ⊤ Refusal) → length s ≡ length t →
    (start + len ≤ length s → read (take len (drop start s)) ≡ read (take len (drop start t))) → at_place s start len read ≡ at_place t start len read
at_same s t start len read long h = rw (← long) (go (leb (start + len) (length s)) refl) where
  go : (b : Bool) → leb (start + len) (length s) ≡ b →
      after (checked b) (Err PlaceOutside) (read (take len (drop start s))) ≡ after (checked b) (Err PlaceOutside) (read (take len (drop start t)))
  go true e = h (leb-true (start + len) (length s) e)
  go false e = refl

-- an entry's message has the same verdict in both buffers, by each kind
abbrev SameRead : List ℕ → List ℕ → Entry → Type 0
SameRead s t e = Inside s e → (k : Kind) → Marked e k → read_as k (message s e) ≡ read_as k (message t e)

entry_same : (s t : List ℕ) (e : Entry) → length s ≡ length t → SameRead s t e → with_answer s e ≡ with_answer t e
unfolding with_answer
entry_same s t e long h =
    ap (λ (v : Result ⊤ Refusal). record { start = e.start; length = e.length; mark = e.mark; answer = answer_of v })
    (at_same s t e.start e.length (read_marked e.mark) long (λ l. go l (kind_or_none e.mark)))
  where
    go : Inside s e → KindOrNone e.mark → read_marked e.mark (message s e) ≡ read_marked e.mark (message t e)
    go l (inl km) = by_kind km.0 e.mark (message s e) km.1 ∙ h l km.0 km.1 ∙ sym (by_kind km.0 e.mark (message t e) km.1)
    go l (inr none) = by_none e.mark (message s e) none ∙ sym (by_none e.mark (message t e) none)

batch_same : (es : List Entry) (s t : List ℕ) → length s ≡ length t → ((e : Entry) → Listed e es → SameRead s t e) → SameBatch es s t
batch_same es s t long h =
    let m : map (with_answer s) es ≡ map (with_answer t) es = map_same (with_answer s) (with_answer t) es (λ e l. entry_same s t e long (h e l)) in
    (simp long, simp (long, m))

-- ---- demand 3

get_d_past : (l : List ℕ) (i : ℕ) → length l ≤ i → get_or l i 0 ≡ 0
get_d_past [] i h = refl
get_d_past (x ∷ xs) zero h = absurd (omega arith)
get_d_past (x ∷ xs) (suc i) h = get_d_past xs i (omega (arith, h))

module _ (es : List Entry) (s t : List ℕ) (d : DifferInListedSecrets es s t) (x : Entry) (listed : Listed x es) (inside : Inside s x) where
  long : length (message s x) ≡ length (message t x)
  long = simp (length-take, length-drop, d.length_same)

  first_64 : (p : ℕ) → p < 64 → get_or (message s x) p 0 ≡ get_or (message t x) p 0
  first_64 p l = go (leb x.length p) refl where
    short : (u : List ℕ) → length (take x.length (drop x.start u)) ≤ x.length
    short u = simp length-take (omega arith)

    go : (b : Bool) → leb x.length p ≡ b → get_or (message s x) p 0 ≡ get_or (message t x) p 0
    go true h =
        let past : x.length ≤ p = leb-true x.length p h in
        get_d_past (message s x) p (omega (arith, short s, past)) ∙ sym (get_d_past (message t x) p (omega (arith, short t, past)))
    go false h =
        let within : p < x.length = leb-false x.length p h in
        simp (get_or-take x.length (drop x.start s) p 0 within, get_or-take x.length (drop x.start t) p 0 within, get_or-drop)
        (d.open_same x listed inside (x.start + p) (omega arith, omega (arith, within)) (in_first_64 (omega (arith, l))))

  same_read : (k : Kind) → Marked x k → read_as k (message s x) ≡ read_as k (message t x)
  same_read Negotiate m = ap nego_verdict (negotiate_same (message s x) (message t x) long first_64)
  same_read Authenticate m = ap auth_verdict (authenticate_same (message s x) (message t x) long first_64)
  same_read Challenge m =
      ap (λ (l : List ℕ). read_as Challenge l)
      (same_part s t d.length_same x.start x.length (λ p a b. d.open_same x listed inside p (a, b) (in_challenge m)))

pub secret_batch : SecretBatch
secret_batch es s t d = batch_same es s t d.length_same (λ e l i. same_read es s t d e l i)

-- ---- ignored bytes

pub batch_ignored : BatchIgnored
batch_ignored es s t d = batch_same es s t d.length_same (λ e l i k m. ignored_read k _ _ (d.messages e l i k m))
