-- A list of AvPairs (TargetInfo) by its bytes alone: well-formed lists, and where a list has its first fault. Nothing here
-- names the reader's definition.
use Rattle.std.specs.Prelude.{ℕ, ◌+◌, ◌%◌, ◌≤◌, ◌<◌, ◌≡◌, ◌⊎◌, List, length}
use Rattle.wire.specs.Number.{u16_at}

-- a pair at a place: id (2 bytes), length (2), value
abbrev pub id_of : List ℕ → ℕ → ℕ
id_of s at = u16_at s at

abbrev pub size_of : List ℕ → ℕ → ℕ
size_of s at = u16_at s (at + 2)

-- the place after the pair
abbrev pub next_of : List ℕ → ℕ → ℕ
next_of s at = at + 4 + size_of s at

-- "6 flags (4 bytes), 7 timestamp (8) .. 10 channel bindings (16). Values of 1 to 5 and 9 have even length."
pub record SizeAllowed (id size : ℕ) : Type 0 where
  pub names : ((1 ≤ id) × (id ≤ 5)) ⊎ (id ≡ 9) → size % 2 ≡ 0
  pub flags : id ≡ 6 → size ≡ 4
  pub timestamp : id ≡ 7 → size ≡ 8
  pub bindings : id ≡ 10 → size ≡ 16

-- a whole pair at a place, of a size that its id allows, and not the end pair
pub record PairAt (s : List ℕ) (at : ℕ) : Type 0 where
  pub whole : next_of s at ≤ length s
  pub not_end : id_of s at ≡ 0 → ⊥
  pub size : SizeAllowed (id_of s at) (size_of s at)

-- the end pair: length 0, and nothing after it
pub record EndAt (s : List ℕ) (at : ℕ) : Type 0 where
  pub id : id_of s at ≡ 0
  pub size : size_of s at ≡ 0
  pub last : at + 4 ≡ length s

-- a well-formed list from a place on: n pairs, then the end pair
pub data WellFormed (s : List ℕ) : ℕ → ℕ → Type 0 where
  end : {at n : ℕ} → EndAt s at → n ≡ 0 → WellFormed s at n
  pair : {at n m : ℕ} → PairAt s at → n ≡ m + 1 → WellFormed s (next_of s at) m → WellFormed s at n

-- a list holds n pairs; an empty list holds none
pub data Holds (s : List ℕ) (n : ℕ) : Type 0 where
  empty : length s ≡ 0 → n ≡ 0 → Holds s n
  listed : 0 < length s → WellFormed s 0 n → Holds s n

-- document 01's table, rows 10 to 13, at the pair at a place
abbrev pub Fails10 : List ℕ → ℕ → Type 0
Fails10 s at = length s < next_of s at

abbrev pub Fails11 : List ℕ → ℕ → Type 0
Fails11 s at = length s < at + 4

abbrev pub Fails12 : List ℕ → ℕ → Type 0
Fails12 s at = (id_of s at ≡ 0) × ((size_of s at ≡ 0 → ⊥) ⊎ (at + 4 < length s))

abbrev pub Fails13 : List ℕ → ℕ → Type 0
Fails13 s at = SizeAllowed (id_of s at) (size_of s at) → ⊥

-- "at one pair the order is 11, 12, 10, 13": the number of the first of these that fails at a place
pub data FaultAt (s : List ℕ) (at n : ℕ) : Type 0 where
  fault11 : n ≡ 11 → Fails11 s at → FaultAt s at n
  fault12 : n ≡ 12 → (Fails11 s at → ⊥) → Fails12 s at → FaultAt s at n
  fault10 : n ≡ 10 → (Fails11 s at → ⊥) → (Fails12 s at → ⊥) → Fails10 s at → FaultAt s at n
  fault13 : n ≡ 13 → (Fails11 s at → ⊥) → (Fails12 s at → ⊥) → (Fails10 s at → ⊥) → Fails13 s at → FaultAt s at n

-- "the earliest faulty pair decides": pairs without fault lead from a place to one with fault n, whose first byte is at p; for 11 a
-- pair should have started there
pub data FirstFault (s : List ℕ) (n p : ℕ) : ℕ → Type 0 where
  here : {at : ℕ} → p ≡ at → FaultAt s at n → FirstFault s n p at
  later : {at : ℕ} → PairAt s at → FirstFault s n p (next_of s at) → FirstFault s n p at

-- a list is refused with its earliest faulty pair's number and place, and field 2; an empty one has none
abbrev pub ListFails : List ℕ → ℕ → ℕ → ℕ → Type 0
ListFails s n i p = (0 < length s) × (i ≡ 2) × FirstFault s n p 0

-- from a place on, the first pair with an id is the one at `found`
pub data FirstWith (s : List ℕ) (id found : ℕ) : ℕ → Type 0 where
  this : {at : ℕ} → at ≡ found → PairAt s at → id_of s at ≡ id → FirstWith s id found at
  next : {at : ℕ} → PairAt s at → (id_of s at ≡ id → ⊥) → FirstWith s id found (next_of s at) → FirstWith s id found at

-- there is a pair with an id
abbrev pub PairThere : List ℕ → ℕ → Type 0
PairThere s id = (place : ℕ) × FirstWith s id place 0
