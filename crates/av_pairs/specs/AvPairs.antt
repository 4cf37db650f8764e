-- TargetInfo (MS-NLMP 2.2.2.1): a list of AvPairs, each an id (2 bytes), a length (2) and a value, up to the end pair.
use Rattle.wire.specs.declared.refusal.Refusal.{Refusal}
use Rattle.std.specs.Prelude.{Result, Option, Ok, Err, Some, None, ⊤, ℕ, zero, suc, ◌+◌, ◌-◌, ◌&&◌, cond, List, [], ◌∷◌, leb, eqb, length, take, drop}
use Rattle.av_id.specs.declared.AvId.{AvId}
use Rattle.wire.specs.declared.check.Checked.{Checked}
use Rattle.wire.specs.declared.refusal.Refusal.TheVariants.{PairPastEnd, PairMissing, WrongEndPair, WrongPairSize}
use Rattle.av_id.specs.AvId.{is_end, size_allowed, implies}
use Rattle.wire.specs.Check.{checked, after, on_clear}
use Rattle.wire.specs.Number.{u16_at}
use Rattle.av_pairs.specs.declared.AvPair.{AvPair}
use Rattle.av_pairs.specs.declared.Asked.{Asked}

-- how many bytes are left from a place on
unfoldable pub left : List ℕ → ℕ → ℕ
left s at = length s - at

-- check 11: four bytes are left where a pair should start
abbrev pub pair_there : ℕ → Checked
pair_there left = checked (leb 4 left)

-- check 12: an end pair has length 0, and no bytes after it
abbrev pub end_pair_holds : AvId → ℕ → ℕ → Checked
end_pair_holds id len left = checked (implies (is_end id) (eqb len 0 && eqb left 4))

-- check 10: the value ends within the list
abbrev pub value_inside : ℕ → ℕ → Checked
value_inside len left = checked (leb (4 + len) left)

-- check 13: the id allows the size
abbrev pub value_size_holds : AvId → ℕ → Checked
value_size_holds id len = checked (size_allowed id len)

-- the pair with this id and length whose head stands at a place, with so many bytes left: checks 12, 10 and 13; each refuses with
-- that place
unfoldable pub pair_of : AvId → ℕ → ℕ → ℕ → Result (Option AvPair) Refusal
pair_of id len at left =
    after (end_pair_holds id len left) (Err (WrongEndPair at)) (
    after (value_inside len left) (Err (PairPastEnd at)) (
    after (value_size_holds id len) (Err (WrongPairSize at))
    (cond (is_end id) (Ok None) (Ok (Some (record { id = id; at = at + 4; len = len }))))))

abbrev pub id_at : List ℕ → ℕ → AvId
id_at s at = record { id = u16_at s at }

-- what stands at a place of a list: an empty list holds no pairs, and else checks 11, 12, 10 and 13 in this order
unfoldable pub step_at : List ℕ → ℕ → Result (Option AvPair) Refusal
step_at s at =
    cond (eqb (length s) 0) (Ok None) (
    after (pair_there (left s at)) (Err (PairMissing at))
    (pair_of (id_at s at) (u16_at s (at + 2)) at (left s at)))

-- the place after a pair, where the next one should start
abbrev pub end_of : AvPair → ℕ
end_of p = p.at + p.len

abbrev pub on_step : {A : Type 0} → Result (Option AvPair) Refusal → (AvPair → A) → (Result ⊤ Refusal → A) → A
on_step (Ok (Some p)) pair stop = pair p
on_step (Ok None) pair stop = stop (Ok tt)
on_step (Err e) pair stop = stop (Err e)

-- asking at a place: what stands there, and the place to ask at next, which is past a pair, and else the same
unfoldable pub ask_at : List ℕ → ℕ → Asked
ask_at s at = record { step = step_at s at; next = on_step (step_at s at) end_of (λ v. at) }

-- the pair at a place, or nothing at the end or a fault: what a loop over a list that was checked asks for
unfoldable pub pair_at : List ℕ → ℕ → Option AvPair
pair_at s at = on_step (step_at s at) Some (λ v. None)

-- a pair's value
abbrev pub value_in : List ℕ → AvPair → List ℕ
value_in s p = take p.len (drop p.at s)

-- the pairs from a place on, before the end or the first fault, in at most so many steps
abbrev pub pairs_from : ℕ → List ℕ → ℕ → List AvPair
pairs_from zero s at = []
pairs_from (suc k) s at = on_step (step_at s at) (λ p. p ∷ pairs_from k s (end_of p)) (λ v. [])

-- what comes after these pairs: the end, or that fault
abbrev pub stop_from : ℕ → List ℕ → ℕ → Result ⊤ Refusal
stop_from zero s at = Ok tt
stop_from (suc k) s at = on_step (step_at s at) (λ p. stop_from k s (end_of p)) (λ v. v)

-- the same with steps for the bytes that are left
unfoldable pub stop_at : List ℕ → ℕ → Result ⊤ Refusal
stop_at s at = stop_from (suc (length s - at)) s at

-- a list's pairs before the end or the first fault; each takes four bytes or more, so this many steps do
unfoldable pub pairs_of : List ℕ → List AvPair
pairs_of s = pairs_from (suc (length s)) s 0

-- a pair by its id and its value, and those of a list
abbrev pub Valued : Type 0
Valued = AvId × List ℕ

abbrev pub with_values : List ℕ → List AvPair → List Valued
with_values s [] = []
with_values s (p ∷ ps) = (p.id, value_in s p) ∷ with_values s ps

unfoldable pub values_of : List ℕ → List Valued
values_of s = with_values s (pairs_of s)

-- checks 10 to 13 over the whole list: the earliest faulty pair decides
unfoldable pub check_pairs : List ℕ → Result ⊤ Refusal
check_pairs s = stop_from (suc (length s)) s 0

-- how many pairs the list holds, or its refusal
unfoldable pub count_pairs : List ℕ → Result ℕ Refusal
count_pairs s = on_clear Err (check_pairs s) (Ok (length (pairs_of s)))
