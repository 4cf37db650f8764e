-- An NL_AUTH message by its bytes alone: where its strings stand, and when each of the checks of documents 01 and 02 fails.
-- Nothing here names the reader's definition.
use Rattle.std.specs.Prelude.{ℕ, ◌+◌, ◌-◌, ◌≤◌, ◌<◌, ◌≡◌, cond, ◌⊎◌, List, [], ◌∷◌, leb, length, take, drop, get_or}
use Rattle.wire.specs.Number.{u32_at}
use Rattle.read_dns_name.specs.Rfc1035.{NameAt, FirstNameFault}
use Rattle.demands.specs.Order.{check}
use Rattle.demands.specs.Message.{FlagSet}

-- "Type at 0 (0 request, 1 response), flags at 4, buffer from 8."
abbrev pub type_of : List ℕ → ℕ
type_of s = u32_at s 0

-- strings A to E are numbered 1 to 5; the masks of their bits, and that of string i
abbrev pub numbered : List ℕ
numbered = 1 ∷ 2 ∷ 3 ∷ 4 ∷ 5 ∷ []

abbrev pub masks : List ℕ
masks = 0x1 ∷ 0x2 ∷ 0x4 ∷ 0x8 ∷ 0x10 ∷ []

abbrev pub mask_of : ℕ → ℕ
mask_of i = get_or masks (i - 1) 0

abbrev pub BitSet : List ℕ → ℕ → Type 0
BitSet s mask = FlagSet (u32_at s 4) mask

-- the first zero byte from p on stands at q
pub record ZeroAt (s : List ℕ) (p q : ℕ) : Type 0 where
  pub from : p ≤ q
  pub inside : q < length s
  pub zero : get_or s q 0 ≡ 0
  pub first : (k : ℕ) → p ≤ k → k < q → get_or s k 0 ≡ 0 → ⊥

-- string i stands at p, and the next one starts at `next`: A and B go up to their first zero byte; C, D and E are names by RFC
-- 1035, whose places are counted from the first byte of the buffer
pub data StandsAt (s : List ℕ) (i p next : ℕ) : Type 0 where
  plain : {q : ℕ} → i ≤ 2 → ZeroAt s p q → next ≡ q + 1 → StandsAt s i p next
  name : {ls : List (List ℕ)} {jumps n : ℕ} → 3 ≤ i → NameAt (drop 8 s) (p - 8) ls jumps n → next ≡ 8 + n → StandsAt s i p next

-- string i, which starts at p, has the fault of this number: "15 for a string without its zero byte", and a name's first fault
pub data FaultIn (s : List ℕ) (i p number : ℕ) : Type 0 where
  no_zero_lem : i ≤ 2 → number ≡ 15 → ((q : ℕ) → ZeroAt s p q → ⊥) → FaultIn s i p number
  in_name : 3 ≤ i → FirstNameFault (drop 8 s) (p - 8) number → FaultIn s i p number

-- these strings stand one after the other from p on, and the next one would start at r; a clear bit has none
abbrev pub Strings : List ℕ → List ℕ → ℕ → ℕ → Type 0
Strings s [] p r = p ≡ r
Strings s (i ∷ is) p r =
    (BitSet s (mask_of i) × ((q : ℕ) × StandsAt s i p q × Strings s is q r)) ⊎ ((BitSet s (mask_of i) → ⊥) × Strings s is p r)

-- string i starts at p
abbrev pub StartsAt : List ℕ → ℕ → ℕ → Type 0
StartsAt s i p = Strings s (take (i - 1) numbered) 8 p

-- checks 15 and 50 to 53 at string i
abbrev pub StringFails : List ℕ → ℕ → ℕ → Type 0
StringFails s n i = (1 ≤ i) × (i ≤ 5) × (type_of s ≡ 0) × BitSet s (mask_of i) × ((p : ℕ) × StartsAt s i p × FaultIn s i p n)

-- the tables of documents 01 and 02, the rows of NL_AUTH: check n fails at string i (0 where the check has none)
abbrev pub NlFails : List ℕ → ℕ → ℕ → Type 0
NlFails s n i =
    check 1 n ((i ≡ 0) × (65535 < length s)) (
    check 2 n ((i ≡ 0) × (length s < 8)) (
    check 4 n ((i ≡ 0) × (type_of s ≡ 0 → ⊥) × (type_of s ≡ 1 → ⊥)) (
    check 14 n ((i ≡ 0) × (type_of s ≡ 0) × ((k : ℕ) → 1 ≤ k → k ≤ 5 → BitSet s (mask_of k) → ⊥)) (
    check 15 n (StringFails s 15 i) (
    check 50 n (StringFails s 50 i) (
    check 51 n (StringFails s 51 i) (
    check 52 n (StringFails s 52 i) (
    check 53 n (StringFails s 53 i) (
    check 16 n ((i ≡ 0) × (type_of s ≡ 0) × ((p : ℕ) × StartsAt s 6 p × (p ≡ length s → ⊥))) (
    check 17 n ((i ≡ 0) × (type_of s ≡ 1) × ((length s ≡ 9) × (get_or s 8 0 ≡ 0) → ⊥))
    ⊥))))))))))

-- "string by string and before 16": 15 and 50 to 53 are made together at one string, and all others go by number
abbrev pub step_of : ℕ → ℕ
step_of n = cond (leb 50 n) 15 n

-- check n fails at string i, and nothing before it fails
pub record NlFirst (s : List ℕ) (n i : ℕ) : Type 0 where
  pub fails : NlFails s n i
  pub none_before : (m j : ℕ) → (step_of m < step_of n) ⊎ ((step_of m ≡ step_of n) × (j < i)) → NlFails s m j → ⊥
