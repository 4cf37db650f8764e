-- Laws of a block's 64 steps.
use Rattle.std.proofs.Common.{◌≡◌, ℕ, nat_lt, ◌&&◌, suc, ◌+◌, ◌-◌, ◌*◌, ◌/◌, ◌%◌, ◌<◌, ◌≤◌, List, take, drop, get_or, refl, sym, ap, ◌∙◌, arith}
use Rattle.std.proofs.lemmas.List.{get_or-take, get_or-drop}
use Rattle.std.proofs.lemmas.Bool.Decides.{nat_tests}
use Rattle.std.proofs.lemmas.List.Sums.{AllPass-from_list_all}
use Rattle.std.specs.List.{AllPass}
use Rattle.std.specs.Int.{w32, rotate_left}
use Rattle.wire.specs.Number.{u32_at}
use Rattle.md5_digest.specs.Words.{rotated, sines}
use Rattle.md5_digest.specs.Block.{mixed, word_of, turn_of, turns, step, stepped_by, stepped, steps, round}
use Rattle.md5_digest.specs.declared.block.Buffer.{Buffer}

-- the library's rotation, by fewer bits than a word has
pub rotated_is : (x s : ℕ) → 0 < s → s < 32 → rotate_left w32 x s ≡ rotated x s
rotated_is x s above below =
    let here : s % 32 ≡ s = omega arith in
    let back : (32 - s) % 32 ≡ 32 - s = omega arith in
    rw (here, back) refl

-- a step of a round, from what it reads
pub step_is : (x : List ℕ) (q r : Buffer) (n m w t s : ℕ) → r ≡ step m w t s q → m ≡ mixed n q.b q.c q.d → w ≡ u32_at x (4 * word_of n) →
    t ≡ get_or sines n 0 → s ≡ turn_of n → r ≡ stepped x q n
unfolding stepped_by
step_is x q r n m w t s e mix word sine turn = rw (← turn, ← sine, ← word, ← mix) e

-- and the steps that are left after it
pub one_less : (x : List ℕ) (q r z : Buffer) (n end : ℕ) → n < end → r ≡ stepped x q n → steps x q n (end - n) ≡ z → steps x r (n + 1) (end - (n + 1)) ≡ z
one_less x q r z n end h e rest =
    let k : end - n ≡ suc (end - (n + 1)) = omega arith in
    let next : n + 1 ≡ suc n = omega arith in
    ap (λ (b : Buffer). steps x b (n + 1) (end - (n + 1))) e ∙ ap (λ (j : ℕ). steps x (stepped x q n) j (end - (n + 1))) next
    ∙ ap (steps x q n) (sym k) ∙ rest

-- a round before its first step
pub round_begun : (x : List ℕ) (p : Buffer) (first : ℕ) → steps x p first (first + 16 - first) ≡ round x p first
unfolding round
round_begun x p first = let k : first + 16 - first ≡ 16 = omega arith in ap (steps x p first) k

-- the rotations of a round, of which each is less than a word
pub turn_at : (rotations : List ℕ) (first n : ℕ) → rotations ≡ take 4 (drop (first / 4) turns) → first % 16 ≡ 0 → first ≤ n → n < first + 16 →
    get_or rotations (n % 4) 0 ≡ turn_of n
turn_at rotations first n e whole from below =
    let place : first / 4 + n % 4 ≡ n / 16 * 4 + n % 4 = omega arith in
    ap (λ (l : List ℕ). get_or l (n % 4) 0) e ∙ get_or-take 4 (drop (first / 4) turns) (n % 4) 0 (omega arith)
    ∙ get_or-drop (first / 4) turns (n % 4) 0 ∙ ap (λ (k : ℕ). get_or turns k 0) place

turns_small : AllPass (λ t. nat_lt 0 t && nat_lt t 32) turns
unfolding turns
turns_small = AllPass-from_list_all (λ t. nat_lt 0 t && nat_lt t 32) turns refl

pub turn_small : (n : ℕ) → n < 64 → (0 < turn_of n) × (turn_of n < 32)
unfolding turns
turn_small n h =
    let both = turns_small (n / 16 * 4 + n % 4) 0 (omega arith) in
    (grind (arith, nat_tests, both), grind (arith, nat_tests, both))
