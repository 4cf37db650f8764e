-- Laws of an answer, of a place and of the buffer.
use Rattle.std.specs.Prelude.{Result, Ok, Err, ⊤, IsErrAnd}
use Prim.Native.Nat.{ℕ, ◌+◌, ◌-◌, ◌^◌, ◌≤◌, ◌<◌}
use mathlib.Core.Path.{◌≡◌, refl, sym, ap, ◌∙◌}
use mathlib.Core.Bool.{Bool, true, false, cond}
use mathlib.Core.List.{List}
use native.Mathlib.Omega.{arith}
use mir.Syntax.{w64}
use mir.Val.{Fits}
use lib.Dec.{leb, eqb}
use lib.ListN.{length, get_or, set, take, drop}
use borrow.Author.Tests.{leb-true, leb-false, le-leb, lt-leb}
use Rattle.wire.specs.declared.check.Checked.{Checked}
use Rattle.wire.specs.declared.check.Checked.TheVariants.{Held, Failed}
use Rattle.wire.specs.declared.refusal.Refusal.{Refusal}
use Rattle.wire.specs.declared.refusal.Refusal.TheVariants.{WrongType, PlaceOutside}
use Rattle.wire.specs.Check.{checked, on_ok}
use Rattle.wire.specs.Refusal.{number_of, field_of, place_of}
use Rattle.wire.proofs.Laws.{held_true, with_ok, handed_on}
use Rattle.wire.proofs.Places.{of_after}
use Rattle.head.specs.declared.Kind.{Kind}
use Rattle.head.specs.declared.Kind.TheVariants.{Negotiate, Challenge, Authenticate}
use Rattle.head.specs.Head.{kind_numbered}
use Rattle.verdict.specs.Verdict.{read_as, refused_place}
use Rattle.verdict.proofs.Refusals.{read_short}
use Rattle.batch.specs.declared.Answer.{Answer}
use Rattle.batch.specs.declared.Entry.{Entry}
use Rattle.batch.specs.Batch.{answer_of, place_inside, message_at, read_marked, verdict_of, answer_to, with_answer}
use Rattle.batch.proofs.Fill.{fill_to, fill_next}

-- ---- an answer

module _ (v : Result ⊤ Refusal) where
  pub clear_is : v ≡ Ok tt → record { number = 0; field = 0; place = 0 } ≡ answer_of v
  clear_is h = rw h

  pub refusal_is : (e : Refusal) (n i p : ℕ) → v ≡ Err e → n ≡ number_of e → i ≡ field_of e → p ≡ place_of e → record { number = n; field = i; place = p } ≡ answer_of v
  refusal_is e n i p h a b c = rw (h, a, b, c)

  pub place_fits : (e : Refusal) (p : ℕ) → v ≡ Err e → p ≡ place_of e → refused_place v < 2 ^ 32 → p < 2 ^ 32
  place_fits e p h q l = rw q (rw h at l)

pub ruleset answers = (clear_is, refusal_is, place_fits)

-- the verdict of a mark, by the kind that has it
by_kind : (s : List ℕ) (a b c : Bool) →
    on_ok Err (cond a (Ok Negotiate) (cond b (Ok Challenge) (cond c (Ok Authenticate) (Err WrongType)))) (λ k. read_as k s)
    ≡ cond a (read_as Negotiate s) (cond b (read_as Challenge s) (cond c (read_as Authenticate s) (Err WrongType)))
by_kind s true b c = refl
by_kind s false true c = refl
by_kind s false false true = refl
by_kind s false false false = refl

module _ (mark : ℕ) (s : List ℕ) (r : Result Kind Refusal) (p : r ≡ kind_numbered mark) where
  its_kind : on_ok Err (kind_numbered mark) (λ k. read_as k s) ≡ read_marked mark s
  its_kind = by_kind s (eqb mark 1) (eqb mark 2) (eqb mark 3)

  pub marked : (k : Kind) (v : Result ⊤ Refusal) → r ≡ Ok k → v ≡ read_as k s → v ≡ read_marked mark s
  marked k v h q = with_ok Err (kind_numbered mark) r k (λ k. read_as k s) v p h q ∙ its_kind

  pub unmarked : (q : Result ⊤ Refusal) (e : Refusal) → IsErrAnd q (λ d. d ≡ e) → r ≡ Err e → q ≡ read_marked mark s
  unmarked q e a h = handed_on q (kind_numbered mark) r e (λ k. read_as k s) a p h ∙ its_kind

-- its place has 32 bits
of_cond : (b : Bool) (x y : Result ⊤ Refusal) → refused_place x < 2 ^ 32 → refused_place y < 2 ^ 32 → refused_place (cond b x y) < 2 ^ 32
of_cond true x y p q = p
of_cond false x y p q = q

marked_short : (mark : ℕ) (s : List ℕ) → refused_place (read_marked mark s) < 2 ^ 32
marked_short mark s =
    of_cond (eqb mark 1) (read_as Negotiate s) _ (read_short Negotiate s) (
    of_cond (eqb mark 2) (read_as Challenge s) _ (read_short Challenge s) (
    of_cond (eqb mark 3) (read_as Authenticate s) (Err WrongType) (read_short Authenticate s) (omega arith)))

pub verdict_short : (s : List ℕ) (e : Entry) (v : Result ⊤ Refusal) → v ≡ verdict_of s e → refused_place v < 2 ^ 32
verdict_short s e v h =
    rw h (of_after (λ (w : Result ⊤ Refusal). refused_place w < 2 ^ 32) (place_inside (length s) e.start e.length) (Err PlaceOutside) (read_marked e.mark (message_at s e.start e.length)) (omega arith) (marked_short e.mark (message_at s e.start e.length)))

-- ---- a place

-- longer than the buffer
pub too_long : (n start len : ℕ) → n < len → Failed ≡ place_inside n start len
too_long n start len h = simp (lt-leb (start + len) n (omega arith))

-- else the start decides
pub start_decides : (n start len : ℕ) (r : Checked) → len ≤ n → r ≡ checked (leb start (n - len)) → r ≡ place_inside n start len
start_decides n start len r h p = p ∙ ap checked (same (leb start (n - len)) refl) where
  same : (b : Bool) → leb start (n - len) ≡ b → b ≡ leb (start + len) n
  same true e = simp (le-leb (start + len) n (omega (arith, leb-true start (n - len) e, h)))
  same false e = simp (lt-leb (start + len) n (omega (arith, leb-false start (n - len) e, h)))

pub ruleset places = (too_long, start_decides)

-- a place inside
pub ends_inside : (n start len : ℕ) (r : Checked) → r ≡ place_inside n start len → r ≡ Held → start + len ≤ n
ends_inside n start len r p h = leb-true (start + len) n (held_true (leb (start + len) n) (sym p ∙ h))

-- its end fits a word, as the buffer's length does
pub end_fits : (n start len : ℕ) (r : Checked) → n < 2 ^ 64 → r ≡ place_inside n start len → r ≡ Held → Fits w64 (start + len)
end_fits n start len r l p h = record { fits = omega (arith, ends_inside n start len r p h, l) }

-- 54, and else the message's verdict
module _ (s : List ℕ) (e : Entry) (r : Checked) (p : r ≡ place_inside (length s) e.start e.length) where
  pub outside : r ≡ Failed → Err PlaceOutside ≡ verdict_of s e
  outside h = simp (← p, h)

  pub inside : (v : Result ⊤ Refusal) → r ≡ Held → v ≡ read_marked e.mark (take (e.start + e.length - e.start) (drop e.start s)) → v ≡ verdict_of s e
  inside v h q = q ∙ (let n : e.start + e.length - e.start ≡ e.length = omega arith in simp (← p, h, n))

pub ruleset verdicts = (outside, inside, ends_inside, end_fits)

pub answer_is : (v w : Result ⊤ Refusal) (x : Answer) → v ≡ w → x ≡ answer_of v → x ≡ answer_of w
answer_is v w x h q = rw (← h) q

pub ruleset answered = (verdict_short, answer_is)

-- ---- an entry

pub entry_is : (s : List ℕ) (e : Entry) (x : Answer) → x ≡ answer_to s e → record { start = e.start; length = e.length; mark = e.mark; answer = x } ≡ with_answer s e
unfolding with_answer
entry_is s e x h = rw h

-- one turn of the loop: where the first i entries of xs have their answers, the next one gets its own
pub one_turn : (s : List ℕ) (xs ys : List Entry) (i : ℕ) (d : Entry) (x : Answer) → ys ≡ fill_to (with_answer s) i xs → i < length xs
    → x ≡ answer_to s (get_or ys i d)
    → set ys i (record { start = (get_or ys i d).start; length = (get_or ys i d).length; mark = (get_or ys i d).mark; answer = x })
    ≡ fill_to (with_answer s) (i + 1) xs
one_turn s xs ys i d x e l p =
    ap (λ (z : Entry). set ys i z) (entry_is s (get_or ys i d) x p) ∙
    ap (λ (zs : List Entry). set zs i (with_answer s (get_or ys i d))) e ∙
    fill_next (with_answer s) i xs d (with_answer s (get_or ys i d)) l (ap (λ (zs : List Entry). with_answer s (get_or zs i d)) e)
