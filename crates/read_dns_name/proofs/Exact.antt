-- A name is taken exactly when its bytes are a name, with those labels, jumps and next place, and else it has the number of the
-- first fault. So the steps of the definition never run out.
use Rattle.std.specs.Prelude.{Result, Ok, Err}
use Prim.Native.Nat.{ℕ, zero, suc, ◌+◌, ◌-◌, ◌≤◌, ◌<◌}
use mathlib.Core.Path.{◌≡◌, refl, sym, ◌∙◌, subst}
use mathlib.Core.Bool.{cond}
use mathlib.Core.List.{List, [], ◌∷◌}
use native.Mathlib.Nat.{add-zero, zero-add}
use native.Mathlib.Omega.{arith}
use lib.Dec.{eqb}
use lib.ListN.{length, get_or, take, drop, length-take, length-drop}
use borrow.Author.Tests.{le-leb, lt-leb, lt-ltb, le-ltb, ne_eqb}
use Rattle.read_dns_name.specs.declared.Cursor.{Cursor}
use Rattle.read_dns_name.specs.declared.Fault.{Fault}
use Rattle.read_dns_name.specs.declared.Fault.TheVariants.{CutShort, WrongTopBits, PlaceNotBefore, TooManyJumps, NameTooLong}
use Rattle.read_dns_name.specs.declared.Name.{Name}
use Rattle.read_dns_name.specs.declared.Step.{Step}
use Rattle.read_dns_name.specs.declared.Step.TheVariants.{Label, Jump, End}
use Rattle.read_dns_name.specs.DnsName.{left, label_of, jump_to, jump_at, step_at, begin, past_label, jumped, ended, on_step, name_from, labels_from, max_steps, read_name, labels_at, number_of}
use Rattle.read_dns_name.specs.Rfc1035.{NameEndAt, LabelAt, JumpAt, NameFrom, end, label, jump, coded_length, NameAt, NameFaultAt, no_byte, label_cut, jump_cut, top_bits, not_before, seventeenth, too_long, FaultFrom, here, past_label_step, past_jump, FirstNameFault}
use Rattle.read_dns_name.proofs.Judged.{JudgedS, step_judged}
use Rattle.read_dns_name.proofs.Walks.{room, steps_do}

-- ---- what is answered is so

-- a name that was taken from a cursor on
record Found (s : List ℕ) (c : Cursor) (m : Name) (ls : List (List ℕ)) : Type 0 where
  more : ℕ
  behind : ℕ
  coded : NameFrom s c.run c.at ls more behind
  count : m.jumps ≡ c.jumps + more
  next : m.next ≡ cond (eqb c.jumps 0) behind c.next
  few : m.jumps ≤ 16
  short : c.coded + coded_length ls ≤ 256

abbrev JudgedN : List ℕ → Cursor → Result Name Fault → List (List ℕ) → Type 0
JudgedN s c (Ok m) ls = Found s c m ls
JudgedN s c (Err e) ls = FaultFrom s (number_of e) c.at c.run c.jumps c.coded

size : (s : List ℕ) (at n : ℕ) → LabelAt s at n → length (take n (drop (at + 1) s)) ≡ n
size s at n w = simp (length-take, length-drop) (omega (arith, w.whole))

module _ (s : List ℕ) (c : Cursor) where
  one_label : (n : ℕ) (r : Result Name Fault) (ls : List (List ℕ)) → LabelAt s c.at n → c.coded + 1 + n ≤ 255 →
      JudgedN s (past_label c n) r ls → JudgedN s c r (take n (drop (c.at + 1) s) ∷ ls)
  one_label n (Ok m) ls w l f =
      record {
        more = f.more;
        behind = f.behind;
        coded = label w refl f.coded;
        count = f.count;
        next = f.next;
        few = f.few;
        short = omega (arith, f.short, size s c.at n w);
      }
  one_label n (Err e) ls w l f = past_label_step w l f

  one_jump : (to : ℕ) (r : Result Name Fault) (ls : List (List ℕ)) → JumpAt s c.at to → to < c.run → c.jumps < 16 →
      JudgedN s (jumped c to) r ls → JudgedN s c r ls
  one_jump to (Ok m) ls w b l f =
      record {
        more = f.more + 1;
        behind = c.at + 2;
        coded = jump w b refl refl f.coded;
        count = omega (arith, f.count);
        next = f.next ∙ simp (ne_eqb (c.jumps + 1) 0 (λ z. omega arith));
        few = f.few;
        short = f.short;
      }
  one_jump to (Err e) ls w b l f = past_jump w b l f

judged : (k : ℕ) (s : List ℕ) (c : Cursor) → c.coded ≤ 255 → c.jumps ≤ 16 → room c < k → JudgedN s c (name_from k s c) (labels_from k s c)
judged zero s c short few l = absurd (omega arith)
judged (suc k) s c short few l = go (step_at s c) (step_judged s c few) (λ d a b f. judged k s d a b f) where
  go : (x : Result Step Fault) → JudgedS s c x →
      ((d : Cursor) → d.coded ≤ 255 → d.jumps ≤ 16 → room d < k → JudgedN s d (name_from k s d) (labels_from k s d)) →
      JudgedN s c
      (on_step x (λ n. name_from k s (past_label c n)) (λ to. name_from k s (jumped c to)) (Ok (ended c)) (λ e. Err e))
      (on_step x (λ n. take n (drop (c.at + 1) s) ∷ labels_from k s (past_label c n)) (λ to. labels_from k s (jumped c to)) [] (λ e. []))
  go (Ok (Label n)) j rest =
      one_label s c n (name_from k s (past_label c n)) (labels_from k s (past_label c n)) j.0 j.1
      (rest (past_label c n) j.1 few (omega (arith, j.0.some, j.1)))
  go (Ok (Jump to)) j rest =
      one_jump s c to (name_from k s (jumped c to)) (labels_from k s (jumped c to)) j.0 j.1 j.2
      (rest (jumped c to) short (omega (arith, j.2)) (omega (arith, j.2)))
  go (Ok End) j rest =
      record {
        more = 0;
        behind = c.at + 1;
        coded = end j refl refl refl;
        count = omega arith;
        next = refl;
        few = few;
        short = omega arith;
      }
  go (Err e) j rest = here j

module _ (s : List ℕ) (start : ℕ) where
  whole : JudgedN s (begin start) (read_name s start) (labels_at s start)
  unfolding read_name labels_at
  whole = judged (suc max_steps) s (begin start) (omega arith) (omega arith) (omega (arith, steps_do start))

  pub taken : (m : Name) → read_name s start ≡ Ok m → NameAt s start (labels_at s start) m.jumps m.next
  taken m e = is_so m (subst (λ x. JudgedN s (begin start) x (labels_at s start)) e whole)
    where
      is_so : (m : Name) → Found s (begin start) m (labels_at s start) → NameAt s start (labels_at s start) m.jumps m.next
      is_so m f =
          let j : m.jumps ≡ f.more = omega (arith, f.count) in
          record { coded = rw (j, f.next) f.coded; few = f.few; short = omega (arith, f.short) }

  pub refused : (e : Fault) → read_name s start ≡ Err e → FirstNameFault s start (number_of e)
  refused e h = subst (λ x. JudgedN s (begin start) x (labels_at s start)) h whole

-- ---- and what is so is answered

module _ (s : List ℕ) (c : Cursor) where
  label_step : (n : ℕ) → LabelAt s c.at n → c.coded + 1 + n ≤ 255 → step_at s c ≡ (Ok (Label n))
  unfolding step_at label_of left
  label_step n w l =
      simp (
        le-leb 1 (length s - c.at) (omega (arith, w.whole)),
        w.byte,
        ne_eqb n 0 (λ z. omega (arith, w.some)),
        lt-ltb n 64 (omega (arith, w.most)),
        le-leb (1 + n) (length s - c.at) (omega (arith, w.whole)),
        le-leb (c.coded + 1 + n) 255 l,
      )

  jump_here : (b : ℕ) → get_or s c.at 0 ≡ b → 192 ≤ b → c.at < length s → step_at s c ≡ jump_at s c
  unfolding step_at left
  jump_here b e top there =
      simp (le-leb 1 (length s - c.at) (omega arith), e, ne_eqb b 0 (λ z. omega arith), le-ltb b 64 (omega arith), le-ltb b 192 top)

  jump_is : (to : ℕ) → JumpAt s c.at to → step_at s c ≡ jump_to c to
  unfolding jump_at left
  jump_is to w =
      jump_here (get_or s c.at 0) refl w.top (omega (arith, w.whole)) ∙
      simp (le-leb 2 (length s - c.at) (omega (arith, w.whole)), ← w.place)

  jump_step : (to : ℕ) → JumpAt s c.at to → to < c.run → c.jumps < 16 → step_at s c ≡ (Ok (Jump to))
  unfolding jump_to
  jump_step to w b l = jump_is to w ∙ simp (lt-ltb to c.run b, lt-ltb c.jumps 16 l)

  end_step : NameEndAt s c.at → step_at s c ≡ Ok End
  unfolding step_at left
  end_step w = simp (le-leb 1 (length s - c.at) (omega (arith, w.there)), w.byte)

  -- a fault, by what it is
  pub fault_step : (n : ℕ) → NameFaultAt s c.at c.run c.jumps c.coded n → (e : Fault) × (step_at s c ≡ Err e) × (number_of e ≡ n)
  unfolding step_at label_of jump_at jump_to left
  fault_step n (no_byte p h) = (CutShort, simp (lt-leb 1 (length s - c.at) (omega arith)), sym p)
  fault_step n (label_cut {n = b} p e some most there h) = (
    CutShort,
    simp (le-leb 1 (length s - c.at) (omega arith), e, ne_eqb b 0 (λ z. omega arith), lt-ltb b 64 (omega arith), lt-leb (1 + b) (length s - c.at) (omega arith)),
    sym p,
  )
  fault_step n (jump_cut p top h) = (
    CutShort,
    jump_here (get_or s c.at 0) refl top (omega arith) ∙ simp (lt-leb 2 (length s - c.at) (omega arith)),
    sym p,
  )
  fault_step n (top_bits p there low high) =
      let b : ℕ = get_or s c.at 0 in
      (WrongTopBits, simp (le-leb 1 (length s - c.at) (omega arith), ne_eqb b 0 (λ z. omega arith), le-ltb b 64 low, lt-ltb b 192 high), sym p)
  fault_step n (not_before {to = to} p w h) = (PlaceNotBefore, jump_is to w ∙ simp (le-ltb to c.run h), sym p)
  fault_step n (seventeenth {to = to} p w b h) =
      (TooManyJumps, jump_is to w ∙ simp (lt-ltb to c.run b, le-ltb c.jumps 16 (omega arith)), sym p)
  fault_step n (too_long {n = b} p w h) = (
    NameTooLong,
    simp (
      le-leb 1 (length s - c.at) (omega (arith, w.whole)),
      w.byte,
      ne_eqb b 0 (λ z. omega (arith, w.some)),
      lt-ltb b 64 (omega (arith, w.most)),
      le-leb (1 + b) (length s - c.at) (omega (arith, w.whole)),
      lt-leb (c.coded + 1 + b) 255 h,
    ),
    sym p,
  )

-- the name from a cursor on
abbrev Answers : ℕ → List ℕ → Cursor → List (List ℕ) → ℕ → ℕ → Type 0
Answers k s c ls more behind =
    (name_from k s c ≡ Ok (record { jumps = c.jumps + more; next = cond (eqb c.jumps 0) behind c.next })) × (labels_from k s c ≡ ls)

answers : (k : ℕ) (s : List ℕ) (c : Cursor) (ls : List (List ℕ)) (more behind : ℕ) →
    NameFrom s c.run c.at ls more behind → c.coded + coded_length ls ≤ 256 → c.jumps + more ≤ 16 → room c < k → Answers k s c ls more behind
answers zero s c ls more behind d a b l = absurd (omega arith)
answers (suc k) s c ls more behind (end w p q h) a b l =
    (simp (end_step s c w, q, h, add-zero), simp (end_step s c w, p))
answers (suc k) s c ls more behind (label {n = n} {ms = ms} w p d) a b l =
    let z : length (take n (drop (c.at + 1) s)) ≡ n = size s c.at n w in
    let a' : c.coded + (length (take n (drop (c.at + 1) s)) + 1 + coded_length ms) ≤ 256 = rw p at a in
    let one : 1 ≤ coded_length ms = some ms in
    let step : step_at s c ≡ (Ok (Label n)) = label_step s c n w (omega arith) in
    let r = answers k s (past_label c n) ms more behind d (omega arith) b (omega (arith, w.some)) in
    (simp (step, r.0), simp (step, r.1, p))
  where
    some : (xs : List (List ℕ)) → 1 ≤ coded_length xs
    some [] = omega arith
    some (x ∷ xs) = omega (arith, some xs)
answers (suc k) s c ls more behind (jump {to = to} {more = i} {later = m} w p q h d) a b l =
    let step : step_at s c ≡ (Ok (Jump to)) = jump_step s c to w p (omega arith) in
    let r = answers k s (jumped c to) ls i m d a (omega arith) (omega arith) in
    let sum : c.jumps + 1 + i ≡ c.jumps + (i + 1) = omega arith in
    (simp (step, q, h) (r.0 ∙ simp (ne_eqb (c.jumps + 1) 0 (λ z. omega arith), sum)), simp (step, r.1))

module _ (s : List ℕ) (start : ℕ) where
  pub is_taken : (ls : List (List ℕ)) (jumps next : ℕ) → NameAt s start ls jumps next →
      (read_name s start ≡ Ok (record { jumps = jumps; next = next })) × (labels_at s start ≡ ls)
  unfolding read_name labels_at
  is_taken ls jumps next w =
      let r = answers (suc max_steps) s (begin start) ls jumps next w.coded (omega (arith, w.short)) (omega (arith, w.few)) (omega (arith, steps_do start)) in
      (r.0 ∙ simp zero-add, r.1)

faults : (k : ℕ) (s : List ℕ) (c : Cursor) (n : ℕ) → FaultFrom s n c.at c.run c.jumps c.coded → c.coded ≤ 255 → c.jumps ≤ 16 → room c < k →
    (e : Fault) × (name_from k s c ≡ Err e) × (number_of e ≡ n)
faults zero s c n d a b l = absurd (omega arith)
faults (suc k) s c n (here f) a b l =
    let x = fault_step s c n f in
    (x.0, simp x.1, x.2)
faults (suc k) s c n (past_label_step {n = i} w h d) a b l =
    let x = faults k s (past_label c i) n d h b (omega (arith, w.some)) in
    (x.0, simp (label_step s c i w h) x.1, x.2)
faults (suc k) s c n (past_jump {to = to} w h f d) a b l =
    let x = faults k s (jumped c to) n d a (omega arith) (omega arith) in
    (x.0, simp (jump_step s c to w h f) x.1, x.2)

pub is_refused : (s : List ℕ) (start n : ℕ) → FirstNameFault s start n → (e : Fault) × (read_name s start ≡ Err e) × (number_of e ≡ n)
unfolding read_name
is_refused s start n f = faults (suc max_steps) s (begin start) n f (omega arith) (omega arith) (omega (arith, steps_do start))

-- ---- the next string starts within the buffer, behind this one's start

ends : (s : List ℕ) (run at : ℕ) (ls : List (List ℕ)) (jumps next : ℕ) → NameFrom s run at ls jumps next → (at < next) × (next ≤ length s)
ends s run at ls jumps next (end w p q h) = (omega arith, omega (arith, w.there))
ends s run at ls jumps next (label {n = n} w p d) = let r = ends s run (at + 1 + n) _ jumps next d in (omega (arith, r.0), r.1)
ends s run at ls jumps next (jump w p q h d) = (omega arith, omega (arith, w.whole))

module _ (s : List ℕ) (start : ℕ) (r : Result Name Fault) (m : Name) (e : r ≡ read_name s start) (h : r ≡ Ok m) where
  pub next_inside : m.next ≤ length s
  next_inside = (ends s start start (labels_at s start) m.jumps m.next (taken s start m (sym e ∙ h)).coded).1

  pub next_after : start < m.next
  next_after = (ends s start start (labels_at s start) m.jumps m.next (taken s start m (sym e ∙ h)).coded).0

  pub few_jumps : m.jumps ≤ 16
  few_jumps = (taken s start m (sym e ∙ h)).few
