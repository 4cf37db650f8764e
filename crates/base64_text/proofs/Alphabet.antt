-- The alphabet: what the code works out for a value or a character is what the table has.
use Prim.Native.Nat.{ℕ, suc, ◌+◌, ◌/◌, ◌%◌, ◌<◌}
use mathlib.Core.Path.{◌≡◌, refl, sym, ap, ◌∙◌}
use mathlib.Core.Bool.{Bool, true, false, not, cond, ◌&&◌, ◌||◌}
use mathlib.Core.List.{List, [], ◌∷◌}
use native.Mathlib.Omega.{arith}
use lib.Dec.{eqb, leb, ltb}
use lib.ListN.{length, get_or}
use Rattle.std.specs.Char.{is_ascii_digit, is_ascii_uppercase, is_ascii_lowercase, is_ascii_alphanumeric}
use Rattle.std.proofs.lemmas.Bool.{ltb-true, eqb-true, ne_eqb, and_parts, agree_below, agree_below_at}
use Rattle.base64_text.specs.Base64.{alphabet, letter, place_among, is_letter, value_of}

-- ---- as the code works it out

abbrev worked_letter : ℕ → ℕ
worked_letter v = cond (ltb v 26) (v + 65) (cond (ltb v 52) (v + 71) (cond (ltb v 62) ((v + 60) % 64) (cond (eqb v 62) 43 47)))

abbrev pub worked_test : ℕ → Bool
worked_test c = (is_ascii_alphanumeric c || eqb c 43) || eqb c 47

abbrev pub worked_value : ℕ → ℕ
worked_value c =
    cond (is_ascii_uppercase c) ((c % 64 + 63) % 64) (
    cond (is_ascii_lowercase c) ((c % 64 + 57) % 64) (
    cond (is_ascii_digit c) ((c % 64 + 4) % 64) (
    cond (eqb c 43) 62 (
    cond (eqb c 47) 63 0))))

abbrev worked_few : ℕ → ℕ
worked_few c = cond (leb 48 c) ((c % 64 + cond (leb 97 c) 57 (cond (leb 65 c) 63 4)) % 64) (c / 4 + 52)

-- ---- tests that are computed, over all values and over all bytes

letters_test : agree_below (λ v. eqb (worked_letter v) (letter v)) (λ v. true) 64 ≡ true
unfolding alphabet
letters_test = refl

places_test : agree_below (λ v. eqb (value_of (letter v)) v && is_letter (letter v)) (λ v. true) 64 ≡ true
unfolding alphabet is_letter value_of
places_test = refl

pub bytes_test : agree_below worked_test is_letter 256 ≡ true
unfolding alphabet is_letter
bytes_test = refl

pub values_test : agree_below (λ c. eqb (worked_value c) (value_of c)) (λ c. true) 256 ≡ true
unfolding alphabet is_letter value_of
values_test = refl

few_test : agree_below (λ c. not (is_letter c) || eqb (worked_few c) (value_of c)) (λ c. true) 256 ≡ true
unfolding alphabet is_letter value_of
few_test = refl

-- ---- what they tell

pub worked_letter_is : (v : ℕ) → v < 64 → worked_letter v ≡ letter v
worked_letter_is v h = eqb-true (worked_letter v) (letter v) (agree_below_at (λ v. eqb (worked_letter v) (letter v)) (λ v. true) 64 v letters_test h)

module _ (v : ℕ) (h : v < 64) where
  test_at : (value_of (letter v) ≡ v) × (is_letter (letter v) ≡ true)
  test_at =
      let both = and_parts (eqb (value_of (letter v)) v) (is_letter (letter v)) (agree_below_at (λ v. eqb (value_of (letter v)) v && is_letter (letter v)) (λ v. true) 64 v places_test h) in
      (eqb-true (value_of (letter v)) v both.0, both.1)

  pub value_letter : value_of (letter v) ≡ v
  value_letter = test_at.0

  pub is_letter_lem : is_letter (letter v) ≡ true
  is_letter_lem = test_at.1

-- the same of a letter, by fewer questions
pub worked_few_is : (c : ℕ) → c < 256 → is_letter c ≡ true → worked_few c ≡ value_of c
worked_few_is c h l =
    let t = agree_below_at (λ c. not (is_letter c) || eqb (worked_few c) (value_of c)) (λ c. true) 256 c few_test h in
    eqb-true (worked_few c) (value_of c) (ap (λ (b : Bool). not b || eqb (worked_few c) (value_of c)) (sym l) ∙ t)

-- ---- of any number

place_is : (xs : List ℕ) (c : ℕ) → place_among xs c < length xs → get_or xs (place_among xs c) 0 ≡ c
place_is [] c h = absurd (omega arith)
place_is (x ∷ xs) c h = go (eqb c x) refl (place_is xs c) h where
  go : (b : Bool) → eqb c x ≡ b → (place_among xs c < length xs → get_or xs (place_among xs c) 0 ≡ c) →
      cond b 0 (suc (place_among xs c)) < length (x ∷ xs) → get_or (x ∷ xs) (cond b 0 (suc (place_among xs c))) 0 ≡ c
  go true e i l = sym (eqb-true c x e)
  go false e i l = i (omega (arith, l))

alphabet_long : length alphabet ≡ 64
unfolding alphabet
alphabet_long = refl

-- a letter is the letter of its value, which is below 64 whatever the character is
pub letter_value : (c : ℕ) → is_letter c ≡ true → letter (value_of c) ≡ c
unfolding is_letter value_of
letter_value c e =
    ap (λ (b : Bool). letter (cond b (place_among alphabet c) 0)) e ∙ place_is alphabet c (rw alphabet_long (ltb-true (place_among alphabet c) 64 e))

pub value_small : (c : ℕ) → value_of c < 64
unfolding is_letter value_of
value_small c = go (ltb (place_among alphabet c) 64) refl where
  go : (b : Bool) → ltb (place_among alphabet c) 64 ≡ b → cond b (place_among alphabet c) 0 < 64
  go true e = ltb-true (place_among alphabet c) 64 e
  go false e = omega arith

-- the padding character is no letter
pub pad_no_letter : is_letter 61 ≡ false
unfolding alphabet is_letter
pad_no_letter = refl

pub no_pad : (c : ℕ) → is_letter c ≡ true → eqb c 61 ≡ false
no_pad c h = ne_eqb c 61 (λ e. let z : true ≡ false = sym h ∙ ap is_letter e ∙ pad_no_letter in let y : ◌≡◌ {A = ℕ} 0 1 = cc in omega arith)
