-- What a step is: a label, a jump, the zero byte, or the fault at its place.
use Rattle.std.specs.Prelude.{Result, Ok, Err}
use Rattle.read_dns_name.specs.declared.Fault.{Fault}
use Prim.Native.Nat.{ℕ, ◌+◌, ◌-◌, ◌≤◌, ◌<◌}
use mathlib.Core.Path.{◌≡◌, refl, sym, subst}
use mathlib.Core.Bool.{Bool, true, false, cond}
use mathlib.Core.List.{List}
use native.Mathlib.Omega.{arith}
use lib.ListN.{length, get_or}
use borrow.Author.Tests.{leb-true, leb-false, ltb-true, ltb-false, eqb-true, eqb-false}
use Rattle.wire.specs.Check.{checked, after}
use Rattle.read_dns_name.specs.declared.Cursor.{Cursor}
use Rattle.read_dns_name.specs.declared.Step.{Step}
use Rattle.read_dns_name.specs.declared.Step.TheVariants.{Label, Jump, End}
use Rattle.read_dns_name.specs.DnsName.{left, label_of, jump_to, jump_place, jump_at, step_at, number_of}
use Rattle.read_dns_name.specs.Rfc1035.{NameEndAt, LabelAt, JumpAt, NameFaultAt, no_byte, label_cut, jump_cut, top_bits, not_before, seventeenth, too_long}

abbrev pub Fault-here : List ℕ → Cursor → ℕ → Type 0
Fault-here s c n = NameFaultAt s c.at c.run c.jumps c.coded n

abbrev pub JudgedS : List ℕ → Cursor → Result Step Fault → Type 0
JudgedS s c (Ok (Label n)) = LabelAt s c.at n × (c.coded + 1 + n ≤ 255)
JudgedS s c (Ok (Jump to)) = JumpAt s c.at to × (to < c.run) × (c.jumps < 16)
JudgedS s c (Ok End) = NameEndAt s c.at
JudgedS s c (Err e) = Fault-here s c (number_of e)

-- a check that is one test, and an `if`: by what the test said
checking : {A : Type 0} (P : A → Type 0) (b : Bool) (e x : A) → (b ≡ false → P e) → (b ≡ true → P x) → P (after (checked b) e x)
checking P true e x f g = g refl
checking P false e x f g = f refl

choosing : {A : Type 0} (P : A → Type 0) (b : Bool) (x y : A) → (b ≡ true → P x) → (b ≡ false → P y) → P (cond b x y)
choosing P true x y f g = f refl
choosing P false x y f g = g refl

module _ (s : List ℕ) (c : Cursor) where
  abbrev P : Result Step Fault → Type 0
  P x = JudgedS s c x

  label_judged : (n : ℕ) → get_or s c.at 0 ≡ n → 1 ≤ n → n < 64 → c.at < length s → P (label_of c n (length s - c.at))
  unfolding label_of
  label_judged n b some most there =
      checking P _ _ _
      (λ f. let l = leb-false (1 + n) (length s - c.at) f in label_cut refl b some (omega arith) there (omega arith))
      (λ h. let l = leb-true (1 + n) (length s - c.at) h in
      let w : LabelAt s c.at n = record { byte = b; some = some; most = omega arith; whole = omega arith } in
      checking P _ _ _
      (λ f. too_long refl w (leb-false (c.coded + 1 + n) 255 f))
      (λ g. (w, leb-true (c.coded + 1 + n) 255 g)))

  jump_judged : 192 ≤ get_or s c.at 0 → c.at < length s → c.jumps ≤ 16 → P (jump_at s c)
  unfolding jump_at jump_to left
  jump_judged top there few =
      let to : ℕ = jump_place (get_or s c.at 0) (get_or s (c.at + 1) 0) in
      checking P _ _ _
      (λ f. let l = leb-false 2 (length s - c.at) f in jump_cut refl top (omega arith))
      (λ h. let l = leb-true 2 (length s - c.at) h in
      let w : JumpAt s c.at to = record { whole = omega arith; top = top; place = refl } in
      checking P _ _ _
      (λ f. not_before refl w (ltb-false to c.run f))
      (λ g. let b = ltb-true to c.run g in
      checking P _ _ _
      (λ f. seventeenth refl w b (let m = ltb-false c.jumps 16 f in omega arith))
      (λ k. (w, b, ltb-true c.jumps 16 k))))

  pub step_judged : c.jumps ≤ 16 → JudgedS s c (step_at s c)
  unfolding step_at left
  step_judged few =
      let b : ℕ = get_or s c.at 0 in
      checking P _ _ _
      (λ f. let l = leb-false 1 (length s - c.at) f in no_byte refl (omega arith))
      (λ h. let there : c.at < length s = omega (arith, leb-true 1 (length s - c.at) h) in
      choosing P _ _ _
      (λ z. record { there = there; byte = eqb-true b 0 z })
      (λ z. let some = eqb-false b 0 z in
      choosing P _ _ _
      (λ m. label_judged b refl (omega (arith, some)) (ltb-true b 64 m) there)
      (λ m. let more = ltb-false b 64 m in
      choosing P _ _ _
      (λ t. top_bits refl there more (ltb-true b 192 t))
      (λ t. jump_judged (ltb-false b 192 t) there few))))

  pub gave : (r : Result Step Fault) → c.jumps ≤ 16 → r ≡ step_at s c → JudgedS s c r
  gave r few e = subst (λ x. JudgedS s c x) (sym e) (step_judged few)
