-- Laws of a name's text: a label with its full stop, and the name label by label.
use Rattle.std.specs.Prelude.{Result, Ok, Err}
use Prim.Native.Nat.{ℕ, zero, suc, ◌+◌, ◌*◌, ◌-◌, ◌≤◌}
use mathlib.Core.Path.{◌≡◌, refl, ap, ◌∙◌}
use mathlib.Core.Bool.{Bool, true, false, cond}
use mathlib.Core.List.{List, [], ◌∷◌, ◌++◌}
use native.Mathlib.Omega.{arith}
use lib.ListN.{length, take, drop, length-append, length-take, length-drop}
use mir.Syntax.{w64}
use mir.Val.{Fits}
use Rattle.place.specs.Place.{Wrote}
use Rattle.place.proofs.Laws.{and_then, kept}
use Rattle.read_dns_name.specs.declared.Cursor.{Cursor}
use Rattle.read_dns_name.specs.declared.Fault.{Fault}
use Rattle.read_dns_name.specs.declared.Step.{Step}
use Rattle.read_dns_name.specs.declared.Step.TheVariants.{Label, Jump, End}
use Rattle.read_dns_name.specs.DnsName.{step_at, begin, past_label, jumped, on_step, labels_from, max_steps, labels_at}
use Rattle.read_dns_name.proofs.Judged.{JudgedS, step_judged}
use Rattle.read_dns_name.proofs.Walks.{Remaining, all_remain, split, remain_jump, none_at_end, none_at_fault, given_label}
use Rattle.line_dns_name.specs.DnsNameText.{byte_text, label_text, part_text, joined, dns_name_text}
use lib.Dec.{eqb}
use Rattle.wire.specs.Text.{ascii}
use Rattle.line_words.specs.Digits.{hex}
use Rattle.line_words.specs.Name.{escape, unit_text}
use Rattle.line_words.proofs.Names.{byte_bound as unit_bound}
use Rattle.line_words.proofs.Numbers.{length-hex}
use Rattle.place.proofs.Parts.{Partly, none_written, all_written, still_kept, room_left, goes_on}

-- ---- a label, with a full stop before it unless it is the first

module _ (first : Bool) (s : List ℕ) where
  part_first : first ≡ true → part_text first s ≡ label_text s
  unfolding part_text
  part_first h = simp h

  part_later : first ≡ false → part_text first s ≡ 0x2E ∷ label_text s
  unfolding part_text
  part_later h = simp h

  pub size_first : (n : ℕ) → first ≡ true → n ≡ length (label_text s) → n ≡ length (part_text first s)
  size_first n h e = rw (part_first h) e

  pub size_later : (n : ℕ) → first ≡ false → n ≡ length (label_text s) → 1 + n ≡ length (part_text first s)
  size_later n h e = omega (arith, ap length (part_later h))

  pub room_first : (at n : ℕ) → first ≡ true → at + length (part_text first s) ≤ n → at + length (label_text s) ≤ n
  room_first at n h r = rw (part_first h) at r

  pub wrote_first : (l k : List ℕ) (i q : ℕ) → first ≡ true → Wrote l k i q (label_text s) → Wrote l k i q (part_text first s)
  wrote_first l k i q h v = rw (part_first h) v

  pub room_stop : (at n : ℕ) → first ≡ false → at + length (part_text first s) ≤ n → at + 1 ≤ n
  room_stop at n h r = omega (arith, r, ap length (part_later h))

  module _ (l k : List ℕ) (i p : ℕ) (h : first ≡ false) (v : Wrote l k i p (0x2E ∷ [])) where
    pub room_later : i + length (part_text first s) ≤ length l → p + length (label_text s) ≤ length k
    room_later r = omega (arith, r, ap length (part_later h), v.place, kept l k (0x2E ∷ []) i p v)

    pub wrote_later : (m : List ℕ) (q : ℕ) → Wrote k m p q (label_text s) → Wrote l m i q (part_text first s)
    wrote_later m q w = rw (part_later h) (and_then l k m (0x2E ∷ []) (label_text s) i p q v w)

-- ---- the labels that are left

-- the part of the buffer that is lent for a label
abbrev pub lent : List ℕ → Cursor → ℕ → List ℕ
lent s c n = take (c.at + 1 + n - (c.at + 1)) (drop (c.at + 1) s)

module _ (s : List ℕ) (c : Cursor) (ls : List (List ℕ)) (w : Remaining s c ls) (r : Result Step Fault) (e : r ≡ step_at s c) (n : ℕ) (h : r ≡ (Ok (Label n))) where
  lent_small : length (lent s c n) ≤ n
  lent_small = simp (length-take, length-drop) (omega arith)

  joined_label : (first : Bool) → joined first ls ≡ part_text first (lent s c n) ++ joined false (split s c ls w r e n h).more
  unfolding joined
  joined_label first =
      let k : c.at + 1 + n - (c.at + 1) ≡ n = omega arith in
      simp ((split s c ls w r e n h).first, k)

  sizes : (first : Bool) → length (joined first ls) ≡ length (part_text first (lent s c n)) + length (joined false (split s c ls w r e n h).more)
  sizes first = ap length (joined_label first) ∙ length-append (part_text first (lent s c n)) (joined false (split s c ls w r e n h).more)

-- ---- how long the text is: n bytes up to the cursor

pub record Sizing (s : List ℕ) (start : ℕ) (c : Cursor) (first : Bool) (n : ℕ) : Type 0 where
  pub ls : List (List ℕ)
  pub remain : Remaining s c ls
  pub small : n ≤ 4 * c.coded
  pub same : n + length (joined first ls) ≡ length (dns_name_text (labels_at s start))

pub sizing_start : (s : List ℕ) (start : ℕ) (c : Cursor) → c ≡ begin start → Sizing s start c true 0
unfolding dns_name_text
sizing_start s start c e = record { ls = labels_at s start; remain = all_remain s start c e; small = omega arith; same = omega arith }

module _ (s : List ℕ) (start : ℕ) (c : Cursor) (first : Bool) (n : ℕ) (w : Sizing s start c first n) where
  pub sizing_short : c.coded ≤ 255
  sizing_short = w.remain.sound.short

  pub sizing_small : n ≤ 4 * 255
  sizing_small = omega (arith, w.small, sizing_short)

  module _ (r : Result Step Fault) (e : r ≡ step_at s c) where
    module _ (i : ℕ) (h : r ≡ (Ok (Label i))) where
      pub lent_short : length (lent s c i) ≤ 255
      lent_short = omega (arith, lent_small s c w.ls w.remain r e i h, (given_label s c w.remain.sound r e i h).0.most)

      pub size_fits : (m : ℕ) → m ≤ 4 * length (lent s c i) + 1 → Fits w64 (n + m)
      size_fits m f = record { fits = omega (arith, f, sizing_small, lent_short) }

      pub sizing_label : (m : ℕ) (d : Cursor) → (m ≡ length (part_text first (lent s c i))) × (m ≤ 4 * length (lent s c i) + 1) → d ≡ past_label c i →
          Sizing s start d false (n + m)
      sizing_label m d f q =
          let x = split s c w.ls w.remain r e i h in
          rw q
          (record {
            ls = x.more;
            remain = x.remain;
            small = omega (arith, w.small, f.1, lent_small s c w.ls w.remain r e i h);
            same = omega (arith, w.same, f.0, sizes s c w.ls w.remain r e i h first);
          })

    pub sizing_jump : (to : ℕ) → r ≡ (Ok (Jump to)) → (d : Cursor) → d ≡ jumped c to → Sizing s start d first n
    sizing_jump to h d q =
        record {
          ls = w.ls;
          remain = remain_jump s c w.ls w.remain r e to h d q;
          small = rw q w.small;
          same = w.same;
        }

    sizing_stop : w.ls ≡ [] → n ≡ length (dns_name_text (labels_at s start))
    unfolding joined
    sizing_stop z = omega (arith, w.same, ap (λ (x : List (List ℕ)). length (joined first x)) z)

    pub sizing_end : r ≡ Ok End → n ≡ length (dns_name_text (labels_at s start))
    sizing_end h = sizing_stop (none_at_end s c w.ls w.remain r e h)

    pub sizing_fault : (f : Fault) → r ≡ Err f → n ≡ length (dns_name_text (labels_at s start))
    sizing_fault f h = sizing_stop (none_at_fault s c w.ls w.remain r e f h)

-- ---- writing it

pub record Writing (l k s : List ℕ) (start at q : ℕ) (c : Cursor) (first : Bool) : Type 0 where
  pub ls : List (List ℕ)
  pub remain : Remaining s c ls
  pub partly : Partly l k at q (joined first ls) (dns_name_text (labels_at s start))

pub writing_start : (l s : List ℕ) (start at : ℕ) (c : Cursor) → c ≡ begin start → Writing l l s start at at c true
unfolding dns_name_text
writing_start l s start at c e =
    record { ls = labels_at s start; remain = all_remain s start c e; partly = none_written l (joined true (labels_at s start)) at }

module _ (l k s : List ℕ) (start at q : ℕ) (c : Cursor) (first : Bool) (w : Writing l k s start at q c first) where
  pub writing_short : c.coded ≤ 255
  writing_short = w.remain.sound.short

  pub writing_kept : length k ≡ length l
  writing_kept = still_kept l k _ _ at q w.partly

  module _ (r : Result Step Fault) (e : r ≡ step_at s c) where
    module _ (i : ℕ) (h : r ≡ (Ok (Label i))) where
      pub writing_room : at + length (dns_name_text (labels_at s start)) ≤ length l → q + length (part_text first (lent s c i)) ≤ length k
      writing_room f = room_left l k _ _ at q w.partly (part_text first (lent s c i)) (joined false (split s c w.ls w.remain r e i h).more) (joined_label s c w.ls w.remain r e i h first) f

      pub writing_label : (m : List ℕ) (p : ℕ) (d : Cursor) → Wrote k m q p (part_text first (lent s c i)) → d ≡ past_label c i →
          Writing l m s start at p d false
      writing_label m p d v f =
          let x = split s c w.ls w.remain r e i h in
          rw f
          (record {
            ls = x.more;
            remain = x.remain;
            partly = goes_on l k _ _ at q w.partly (part_text first (lent s c i)) (joined false (split s c w.ls w.remain r e i h).more) (joined_label s c w.ls w.remain r e i h first) m p v;
          })

    pub writing_jump : (to : ℕ) → r ≡ (Ok (Jump to)) → (d : Cursor) → d ≡ jumped c to → Writing l k s start at q d first
    writing_jump to h d f =
        record { ls = w.ls; remain = remain_jump s c w.ls w.remain r e to h d f; partly = w.partly }

    writing_stop : w.ls ≡ [] → Wrote l k at q (dns_name_text (labels_at s start))
    unfolding joined
    writing_stop z = all_written l k _ _ at q w.partly (ap (λ (x : List (List ℕ)). joined first x) z)

    pub writing_end : r ≡ Ok End → Wrote l k at q (dns_name_text (labels_at s start))
    writing_end h = writing_stop (none_at_end s c w.ls w.remain r e h)

    pub writing_fault : (f : Fault) → r ≡ Err f → Wrote l k at q (dns_name_text (labels_at s start))
    writing_fault f h = writing_stop (none_at_fault s c w.ls w.remain r e f h)

-- ---- the text of a name has at most four bytes for each of its coded length

byte_bound : (b : ℕ) → length (byte_text b) ≤ 4
unfolding byte_text escape
byte_bound b = go (eqb b 0x2E) where
  go : (t : Bool) → length (cond t (ascii "\\x" ++ hex 2 b) (unit_text false b)) ≤ 4
  go true = simp length-hex (omega arith)
  go false = unit_bound b

label_bound : (l : List ℕ) → length (label_text l) ≤ 4 * length l
unfolding label_text
label_bound [] = omega arith
label_bound (b ∷ l) = omega (arith, byte_bound b, label_bound l, length-append (byte_text b) (label_text l))

part_bound : (first : Bool) (l : List ℕ) → length (part_text first l) ≤ 4 * length l + 1
part_bound true l = omega (arith, ap length (part_first true l refl), label_bound l)
part_bound false l = omega (arith, ap length (part_later false l refl), label_bound l)

bound_from : (k : ℕ) (s : List ℕ) (c : Cursor) (first : Bool) → c.coded ≤ 255 → c.jumps ≤ 16 →
    length (joined first (labels_from k s c)) + 4 * c.coded ≤ 1020
unfolding joined
bound_from zero s c first short few = omega arith
bound_from (suc k) s c first short few = go (step_at s c) (step_judged s c few) (λ d b f g. bound_from k s d b f g) where
  go : (x : Result Step Fault) → JudgedS s c x →
      ((d : Cursor) (b : Bool) → d.coded ≤ 255 → d.jumps ≤ 16 → length (joined b (labels_from k s d)) + 4 * d.coded ≤ 1020) →
      length (joined first (on_step x (λ n. take n (drop (c.at + 1) s) ∷ labels_from k s (past_label c n)) (λ to. labels_from k s (jumped c to)) [] (λ e. [])))
      + 4 * c.coded ≤ 1020
  go (Ok (Label n)) j rest =
      let l : List ℕ = take n (drop (c.at + 1) s) in
      let more : List (List ℕ) = labels_from k s (past_label c n) in
      let short_label : length l ≤ n = simp length-take (omega arith) in
      omega (arith, rest (past_label c n) false j.1 few, part_bound first l, short_label, length-append (part_text first l) (joined false more))
  go (Ok (Jump to)) j rest = rest (jumped c to) first short (omega (arith, j.2))
  go (Ok End) j rest = omega arith
  go (Err e) j rest = omega arith

pub text_bound : (s : List ℕ) (start : ℕ) → length (dns_name_text (labels_at s start)) ≤ 1020
unfolding dns_name_text labels_at
text_bound s start = omega (arith, bound_from (suc max_steps) s (begin start) true (omega arith) (omega arith))
