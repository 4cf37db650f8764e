-- Document 01: "Reading checks go by number. Checks 6, 7, 8, 9 each go over all fields in field order before the next
-- check starts." And "Writing AUTHENTICATE: 5, 31, 32, 30, 33." `F n i` says that check n fails at field i (0 where the
-- check has no field).
use Rattle.std.specs.Prelude.{ℕ, ◌+◌, ◌<◌, ◌≡◌, ◌⊎◌, Bool, true, false, cond, List, [], ◌∷◌, eqb}

-- a smaller rank comes first, and within one number a smaller field
abbrev pub BeforeBy : (ℕ → ℕ) → ℕ → ℕ → ℕ → ℕ → Type 0
BeforeBy rank m j n i = (rank m < rank n) ⊎ ((m ≡ n) × (j < i))

-- check n fails at field i, and nothing before it fails
pub record FirstBy (rank : ℕ → ℕ) (F : ℕ → ℕ → Type 0) (n i : ℕ) : Type 0 where
  pub fails : F n i
  pub none_before : (m j : ℕ) → BeforeBy rank m j n i → F m j → ⊥

-- where checks go by number
abbrev pub First : (ℕ → ℕ → Type 0) → ℕ → ℕ → Type 0
First = FirstBy (λ n. n)

-- where they go in the order of a list: a number's rank is its place there, and any other number comes after the list's
abbrev pub rank_in : List ℕ → ℕ → ℕ
rank_in [] n = 0
rank_in (k ∷ ks) n = cond (eqb n k) 0 (1 + rank_in ks n)

abbrev pub FirstIn : List ℕ → (ℕ → ℕ → Type 0) → ℕ → ℕ → Type 0
FirstIn order = FirstBy (rank_in order)

-- a row of a table of checks: for number k it is P, and for any other what the rest of the table says
abbrev pub row : Bool → Type 0 → Type 0 → Type 0
row true P rest = P
row false P rest = rest

abbrev pub check : ℕ → ℕ → Type 0 → Type 0 → Type 0
check k n P rest = row (eqb n k) P rest
