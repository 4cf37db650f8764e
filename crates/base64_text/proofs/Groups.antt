-- A list by its first elements.
use Prim.Native.Nat.{ℕ, ◌+◌, ◌-◌, ◌≤◌}
use mathlib.Core.Path.{◌≡◌, refl, sym, ap, ◌∙◌}
use mathlib.Core.List.{List, [], ◌∷◌, ◌++◌}
use native.Mathlib.Omega.{arith}
use lib.ListN.{length, get_or, take, drop, length-drop, take-append-drop}
use lib.Seq.{take_all}

-- ---- all of them, where it is known how many they are

pub no_element : (xs : List ℕ) → length xs ≡ 0 → xs ≡ []
no_element [] h = refl
no_element (x ∷ xs) h = absurd (omega arith)

pub one_element : (xs : List ℕ) → length xs ≡ 1 → xs ≡ get_or xs 0 0 ∷ []
one_element [] h = absurd (omega arith)
one_element (x ∷ xs) h = ap (λ (t : List ℕ). x ∷ t) (no_element xs (omega arith))

pub two_elements : (xs : List ℕ) → length xs ≡ 2 → xs ≡ get_or xs 0 0 ∷ get_or xs 1 0 ∷ []
two_elements [] h = absurd (omega arith)
two_elements (x ∷ xs) h = ap (λ (t : List ℕ). x ∷ t) (one_element xs (omega arith))

three_elements : (xs : List ℕ) → length xs ≡ 3 → xs ≡ get_or xs 0 0 ∷ get_or xs 1 0 ∷ get_or xs 2 0 ∷ []
three_elements [] h = absurd (omega arith)
three_elements (x ∷ xs) h = ap (λ (t : List ℕ). x ∷ t) (two_elements xs (omega arith))

pub four_elements : (xs : List ℕ) → length xs ≡ 4 → xs ≡ get_or xs 0 0 ∷ get_or xs 1 0 ∷ get_or xs 2 0 ∷ get_or xs 3 0 ∷ []
four_elements [] h = absurd (omega arith)
four_elements (x ∷ xs) h = ap (λ (t : List ℕ). x ∷ t) (three_elements xs (omega arith))

-- a list as its last four and what stands before them
pub joined : (t f r : List ℕ) → f ≡ take (length t - 4) t → r ≡ drop (length t - 4) t → f ++ r ≡ t
joined t f r ef er = simp (ef, er) (take-append-drop (length t - 4) t)

pub last_four : (t f r : List ℕ) → r ≡ drop (length t - 4) t → length f + 4 ≡ length t → length r ≡ 4
last_four t f r e n = ap length e ∙ length-drop (length t - 4) t ∙ omega arith

-- ---- the first three or four, and the rest

rest_is : (xs : List ℕ) (n : ℕ) → drop n xs ≡ take (length xs - n) (drop n xs)
rest_is xs n = sym (take_all (length xs - n) (drop n xs) (simp length-drop (omega arith)))

pub first_three : (xs : List ℕ) → 3 ≤ length xs → xs ≡ get_or xs 0 0 ∷ get_or xs 1 0 ∷ get_or xs 2 0 ∷ take (length xs - 3) (drop 3 xs)
first_three [] h = absurd (omega arith)
first_three (a ∷ []) h = absurd (omega arith)
first_three (a ∷ b ∷ []) h = absurd (omega arith)
first_three (a ∷ b ∷ c ∷ xs) h = ap (λ (t : List ℕ). a ∷ b ∷ c ∷ t) (rest_is (a ∷ b ∷ c ∷ xs) 3)

pub first_four : (xs : List ℕ) → 4 ≤ length xs →
    xs ≡ get_or xs 0 0 ∷ get_or xs 1 0 ∷ get_or xs 2 0 ∷ get_or xs 3 0 ∷ take (length xs - 4) (drop 4 xs)
first_four [] h = absurd (omega arith)
first_four (a ∷ []) h = absurd (omega arith)
first_four (a ∷ b ∷ []) h = absurd (omega arith)
first_four (a ∷ b ∷ c ∷ []) h = absurd (omega arith)
first_four (a ∷ b ∷ c ∷ d ∷ xs) h = ap (λ (t : List ℕ). a ∷ b ∷ c ∷ d ∷ t) (rest_is (a ∷ b ∷ c ∷ d ∷ xs) 4)
