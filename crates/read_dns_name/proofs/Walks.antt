-- Laws of the walk over a name, step by step.
use Rattle.std.specs.Prelude.{Result, Ok, Err}
use Prim.Native.Nat.{ℕ, suc, ◌+◌, ◌-◌, ◌^◌, ◌≤◌, ◌<◌}
use mathlib.Core.Path.{◌≡◌, refl, sym, ap, ◌∙◌}
use mathlib.Core.List.{List, [], ◌∷◌}
use native.Mathlib.Omega.{arith}
use lib.ListN.{length, take, drop}
use mir.Syntax.{w64}
use mir.Val.{Fits}
use Rattle.read_dns_name.specs.declared.Cursor.{Cursor}
use Rattle.read_dns_name.specs.declared.Fault.{Fault}
use Rattle.read_dns_name.specs.declared.Name.{Name}
use Rattle.read_dns_name.specs.declared.Step.{Step}
use Rattle.read_dns_name.specs.declared.Step.TheVariants.{Label, Jump, End}
use Rattle.read_dns_name.specs.DnsName.{step_at, begin, past_label, jumped, ended, name_from, labels_from, max_steps, read_name, labels_at}
use Rattle.read_dns_name.specs.Rfc1035.{LabelAt, JumpAt}
use Rattle.read_dns_name.proofs.Judged.{gave}

-- what is left of the two limits; it falls with each step
abbrev pub room : Cursor → ℕ
room c = 255 - c.coded + (16 - c.jumps)

pub steps_do : (start : ℕ) → room (begin start) ≤ max_steps
unfolding max_steps
steps_do start = omega arith

-- a cursor within the limits
pub record Sound (c : Cursor) : Type 0 where
  pub short : c.coded ≤ 255
  pub few : c.jumps ≤ 16

pub sound_start : (start : ℕ) (c : Cursor) → c ≡ begin start → Sound c
sound_start start c e = rw e (record { short = omega arith; few = omega arith })

-- the answer of a step, by what was found in it
pub given : (r : Result Step Fault) (o x : Step) → r ≡ Ok o → o ≡ x → r ≡ Ok x
given r o x h q = rw (← q) h

module _ (s : List ℕ) (c : Cursor) (w : Sound c) (r : Result Step Fault) (e : r ≡ step_at s c) where
  -- a label that a step gave
  module _ (n : ℕ) (h : r ≡ (Ok (Label n))) where
    pub given_label : LabelAt s c.at n × (c.coded + 1 + n ≤ 255)
    given_label = gave s c (Ok (Label n)) w.few (sym h ∙ e)

    pub at_fits : length s < 2 ^ 64 → c.at + 1 + n < 2 ^ 64
    at_fits f = omega (arith, given_label.0.whole)

    pub coded_fits : c.coded + 1 + n < 2 ^ 64
    coded_fits = omega (arith, given_label.1)

    -- the label's own bytes
    pub from_fits : length s < 2 ^ 64 → Fits w64 (c.at + 1)
    from_fits f = record { fits = omega (arith, given_label.0.whole) }

    pub to_fits : length s < 2 ^ 64 → Fits w64 (c.at + 1 + n)
    to_fits f = record { fits = omega (arith, given_label.0.whole) }

    pub to_inside : c.at + 1 + n ≤ length s
    to_inside = given_label.0.whole

    module _ (d : Cursor) (q : d ≡ past_label c n) where
      pub label_falls : room d < room c
      label_falls = rw q (omega (arith, given_label.1, given_label.0.some))

      pub sound_label : Sound d
      sound_label = rw q (record { short = given_label.1; few = w.few })

  -- a jump
  module _ (to : ℕ) (h : r ≡ (Ok (Jump to))) where
    pub given_jump : JumpAt s c.at to × (to < c.run) × (c.jumps < 16)
    given_jump = gave s c (Ok (Jump to)) w.few (sym h ∙ e)

    pub behind_fits : length s < 2 ^ 64 → c.at + 2 < 2 ^ 64
    behind_fits f = omega (arith, given_jump.0.whole)

    pub jumps_fit : c.jumps + 1 < 2 ^ 64
    jumps_fit = omega (arith, given_jump.2)

    module _ (d : Cursor) (q : d ≡ jumped c to) where
      pub jump_falls : room d < room c
      jump_falls = rw q (omega (arith, given_jump.2, w.short))

      pub sound_jump : Sound d
      sound_jump = rw q (record { short = w.short; few = omega (arith, given_jump.2) })

  -- the zero byte
  pub end_fits : r ≡ Ok End → length s < 2 ^ 64 → c.at + 1 < 2 ^ 64
  end_fits h f = omega (arith, (gave s c (Ok End) w.few (sym h ∙ e)).there)

-- ---- reading: what the name is, is found from the cursor on

pub record Reached (s : List ℕ) (start : ℕ) (c : Cursor) : Type 0 where
  pub sound : Sound c
  pub fuel : ℕ
  pub enough : room c ≤ fuel
  pub same : read_name s start ≡ name_from (suc fuel) s c

pub reach_start : (s : List ℕ) (start : ℕ) (c : Cursor) → c ≡ begin start → Reached s start c
unfolding read_name
reach_start s start c e =
    rw e (record { sound = sound_start start (begin start) refl; fuel = max_steps; enough = steps_do start; same = refl })

pub reach_short : (s : List ℕ) (start : ℕ) (c : Cursor) → Reached s start c → c.coded ≤ 255
reach_short s start c w = w.sound.short

module _ (s : List ℕ) (start : ℕ) (c : Cursor) (w : Reached s start c) (r : Result Step Fault) (e : r ≡ step_at s c) where
  pub reach_label : (n : ℕ) → r ≡ (Ok (Label n)) → (d : Cursor) → d ≡ past_label c n → Reached s start d
  reach_label n h d q =
      let f = label_falls s c w.sound r e n h d q in
      let k : w.fuel ≡ suc (w.fuel - 1) = omega (arith, w.enough, f) in
      record {
        sound = sound_label s c w.sound r e n h d q;
        fuel = w.fuel - 1;
        enough = omega (arith, w.enough, f);
        same = simp (w.same, ← e, h, ← q) (ap (λ (x : ℕ). name_from x s d) k);
      }

  pub reach_jump : (to : ℕ) → r ≡ (Ok (Jump to)) → (d : Cursor) → d ≡ jumped c to → Reached s start d
  reach_jump to h d q =
      let f = jump_falls s c w.sound r e to h d q in
      let k : w.fuel ≡ suc (w.fuel - 1) = omega (arith, w.enough, f) in
      record {
        sound = sound_jump s c w.sound r e to h d q;
        fuel = w.fuel - 1;
        enough = omega (arith, w.enough, f);
        same = simp (w.same, ← e, h, ← q) (ap (λ (x : ℕ). name_from x s d) k);
      }

  pub reach_end : r ≡ Ok End → (m : Name) → m ≡ ended c → Ok m ≡ read_name s start
  reach_end h m q = rw q (sym (simp (w.same, ← e, h)))

  pub reach_fault : (f : Fault) → r ≡ Err f → Err f ≡ read_name s start
  reach_fault f h = sym (simp (w.same, ← e, h))

-- ---- a second walk, for the labels: those that are left from the cursor on

pub record Remaining (s : List ℕ) (c : Cursor) (ls : List (List ℕ)) : Type 0 where
  pub sound : Sound c
  pub fuel : ℕ
  pub enough : room c ≤ fuel
  pub same : ls ≡ labels_from (suc fuel) s c

pub all_remain : (s : List ℕ) (start : ℕ) (c : Cursor) → c ≡ begin start → Remaining s c (labels_at s start)
unfolding labels_at
all_remain s start c e =
    rw e (record { sound = sound_start start (begin start) refl; fuel = max_steps; enough = steps_do start; same = refl })

-- a label is the first of them, and these are left after it
pub record Split (s : List ℕ) (c : Cursor) (n : ℕ) (ls : List (List ℕ)) : Type 0 where
  pub more : List (List ℕ)
  pub first : ls ≡ take n (drop (c.at + 1) s) ∷ more
  pub remain : Remaining s (past_label c n) more

module _ (s : List ℕ) (c : Cursor) (ls : List (List ℕ)) (w : Remaining s c ls) (r : Result Step Fault) (e : r ≡ step_at s c) where
  pub split : (n : ℕ) → r ≡ (Ok (Label n)) → Split s c n ls
  split n h =
      let d : Cursor = past_label c n in
      let f = label_falls s c w.sound r e n h d refl in
      let k : w.fuel ≡ suc (w.fuel - 1) = omega (arith, w.enough, f) in
      record {
        more = labels_from (suc (w.fuel - 1)) s d;
        first = simp (w.same, ← e, h) (ap (λ (x : ℕ). take n (drop (c.at + 1) s) ∷ labels_from x s d) k);
        remain = record { sound = sound_label s c w.sound r e n h d refl; fuel = w.fuel - 1; enough = omega (arith, w.enough, f); same = refl };
      }

  pub remain_jump : (to : ℕ) → r ≡ (Ok (Jump to)) → (d : Cursor) → d ≡ jumped c to → Remaining s d ls
  remain_jump to h d q =
      let f = jump_falls s c w.sound r e to h d q in
      let k : w.fuel ≡ suc (w.fuel - 1) = omega (arith, w.enough, f) in
      record {
        sound = sound_jump s c w.sound r e to h d q;
        fuel = w.fuel - 1;
        enough = omega (arith, w.enough, f);
        same = simp (w.same, ← e, h, ← q) (ap (λ (x : ℕ). labels_from x s d) k);
      }

  pub none_at_end : r ≡ Ok End → ls ≡ []
  none_at_end h = simp (w.same, ← e, h)

  pub none_at_fault : (f : Fault) → r ≡ Err f → ls ≡ []
  none_at_fault f h = simp (w.same, ← e, h)

pub ruleset label_part = (from_fits, to_fits, to_inside)
