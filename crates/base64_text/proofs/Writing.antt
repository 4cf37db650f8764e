-- Laws of the writing loops: a message or a text that is taken group by group.
use Prim.Native.Nat.{ℕ, ◌+◌, ◌-◌, ◌%◌, ◌≤◌, ◌<◌}
use mathlib.Core.Path.{◌≡◌, refl, sym, ap, ◌∙◌}
use mathlib.Core.Bool.{Bool, true, false, ◌&&◌, ◌||◌}
use mathlib.Core.List.{List, [], ◌∷◌, ◌++◌, append-nil}
use native.Mathlib.Omega.{arith}
use lib.Dec.{eqb}
use lib.ListN.{length, get_or, take, drop, length-append}
use Rattle.place.specs.Place.{Wrote}
use Rattle.place.proofs.Parts.{Partly, all_written, room_left, goes_on}
use Rattle.wire.proofs.Bools.{and_left, and_right}
use Rattle.base64_text.specs.Base64.{three, two, one, encode, is_letter, value_of, group_holds, is_empty_text, is_base64, first_byte, second_byte, third_byte, group_bytes, decode}
use Rattle.base64_text.proofs.Alphabet.{no_pad}
use Rattle.base64_text.proofs.Groups.{no_element, one_element, two_elements, four_elements, first_three, first_four}

length_three : (a b c : ℕ) → length (three a b c) ≡ 4
unfolding three
length_three a b c = refl

length_two : (a b : ℕ) → length (two a b) ≡ 4
unfolding two
length_two a b = refl

length-one : (a : ℕ) → length (one a) ≡ 4
unfolding one
length-one a = refl

-- ---- encoding: s is what is left of the message

as_three : (s : List ℕ) → 3 ≤ length s → encode s ≡ three (get_or s 0 0) (get_or s 1 0) (get_or s 2 0) ++ encode (take (length s - 3) (drop 3 s))
as_three s h = ap encode (first_three s h)

as_two : (s : List ℕ) → 2 ≤ length s → length s < 3 → encode s ≡ two (get_or s 0 0) (get_or s 1 0) ++ []
as_two s h g = ap encode (two_elements s (omega arith)) ∙ sym (append-nil _)

as_one : (s : List ℕ) → 1 ≤ length s → length s < 2 → encode s ≡ one (get_or s 0 0) ++ []
as_one s h g = ap encode (one_element s (omega arith)) ∙ sym (append-nil _)

module _ (l k m s : List ℕ) (at q : ℕ) (p : Partly l k at q (encode s) (encode m)) where
  module _ (h : 3 ≤ length s) where
    pub room_three : at + length (encode m) ≤ length l → q + 4 ≤ length k
    room_three g =
        omega (arith, room_left l k (encode s) (encode m) at q p _ (encode (take (length s - 3) (drop 3 s))) (as_three s h) g, length_three (get_or s 0 0) (get_or s 1 0) (get_or s 2 0))

    pub next_three : (n : List ℕ) (r : ℕ) → Wrote k n q r (three (get_or s 0 0) (get_or s 1 0) (get_or s 2 0)) →
        Partly l n at r (encode (take (length s - 3) (drop 3 s))) (encode m)
    next_three n r w = goes_on l k (encode s) (encode m) at q p _ _ (as_three s h) n r w

  module _ (h : 2 ≤ length s) (e : length s < 3) where
    pub room_two : at + length (encode m) ≤ length l → q + 4 ≤ length k
    room_two g = omega (arith, room_left l k (encode s) (encode m) at q p _ [] (as_two s h e) g, length_two (get_or s 0 0) (get_or s 1 0))

    pub ends_two : (n : List ℕ) (r : ℕ) → Wrote k n q r (two (get_or s 0 0) (get_or s 1 0)) → Wrote l n at r (encode m)
    ends_two n r w = all_written l n [] (encode m) at r (goes_on l k (encode s) (encode m) at q p _ [] (as_two s h e) n r w) refl

  module _ (h : 1 ≤ length s) (e : length s < 2) where
    pub room_one : at + length (encode m) ≤ length l → q + 4 ≤ length k
    room_one g = omega (arith, room_left l k (encode s) (encode m) at q p _ [] (as_one s h e) g, length-one (get_or s 0 0))

    pub ends_one : (n : List ℕ) (r : ℕ) → Wrote k n q r (one (get_or s 0 0)) → Wrote l n at r (encode m)
    ends_one n r w = all_written l n [] (encode m) at r (goes_on l k (encode s) (encode m) at q p _ [] (as_one s h e) n r w) refl

pub ruleset encoding = (room_three, next_three, room_two, ends_two, room_one, ends_one)

-- ---- decoding

-- a group before the last has no padding
module _ (a b c d : ℕ) (h : group_holds false a b c d ≡ true) where
  both_letters : is_letter c && is_letter d ≡ true
  unfolding group_holds
  both_letters = or-neither (is_letter c && is_letter d) (and_right (is_letter a && is_letter b) _ h) where
    or-neither : (x : Bool) → (x || false) || false ≡ true → x ≡ true
    or-neither true e = refl
    or-neither false e = e

  pub third_letter : eqb c 61 ≡ false
  third_letter = no_pad c (and_left (is_letter c) (is_letter d) both_letters)

  pub fourth_letter : eqb d 61 ≡ false
  fourth_letter = no_pad d (and_right (is_letter c) (is_letter d) both_letters)

  pub full_bytes : group_bytes a b c d
      ≡ first_byte (value_of a) (value_of b) ∷ second_byte (value_of b) (value_of c) ∷ third_byte (value_of c) (value_of d) ∷ []
  unfolding group_bytes
  full_bytes = simp (third_letter, fourth_letter)

  pub length-full : length (group_bytes a b c d) ≡ 3
  length-full = rw full_bytes refl

pub ruleset full = (full_bytes, length-full)

-- what is shorter than a group stands for nothing
pub short : (s : List ℕ) → length s < 4 → decode s ≡ []
short [] h = refl
short (a ∷ []) h = refl
short (a ∷ b ∷ []) h = refl
short (a ∷ b ∷ c ∷ []) h = refl
short (a ∷ b ∷ c ∷ d ∷ s) h = absurd (omega arith)

-- a text in base64 is whole groups
size_held : (t : List ℕ) → is_base64 t ≡ true → length t % 4 ≡ 0
size_held [] h = refl
size_held (a ∷ []) h = absurd cc
size_held (a ∷ b ∷ []) h = absurd cc
size_held (a ∷ b ∷ c ∷ []) h = absurd cc
size_held (a ∷ b ∷ c ∷ d ∷ t) h = omega (arith, size_held t (and_right (group_holds (is_empty_text t) a b c d) (is_base64 t) h))

more : (s r : List ℕ) → length r ≡ 4 → is_empty_text (s ++ r) ≡ false
more [] [] h = absurd (omega arith)
more [] (y ∷ r) h = refl
more (x ∷ s) r h = refl

-- s is what is left before the last group, and r is the last group
module _ (s r : List ℕ) (four : length r ≡ 4) (g : is_base64 (s ++ r) ≡ true) where
  module _ (h : 4 ≤ length s) where
    held : group_holds false (get_or s 0 0) (get_or s 1 0) (get_or s 2 0) (get_or s 3 0) && is_base64 (take (length s - 4) (drop 4 s) ++ r) ≡ true
    held =
        ap (λ (x : Bool). group_holds x (get_or s 0 0) (get_or s 1 0) (get_or s 2 0) (get_or s 3 0) && is_base64 (take (length s - 4) (drop 4 s) ++ r))
        (sym (more (take (length s - 4) (drop 4 s)) r four))
        ∙ sym (ap (λ (x : List ℕ). is_base64 (x ++ r)) (first_four s h)) ∙ g

    pub group_held : group_holds false (get_or s 0 0) (get_or s 1 0) (get_or s 2 0) (get_or s 3 0) ≡ true
    group_held = and_left _ (is_base64 (take (length s - 4) (drop 4 s) ++ r)) held

    pub rest_held : is_base64 (take (length s - 4) (drop 4 s) ++ r) ≡ true
    rest_held = and_right (group_holds false (get_or s 0 0) (get_or s 1 0) (get_or s 2 0) (get_or s 3 0)) _ held

  -- less than a group is nothing
  none_left : length s < 4 → s ≡ []
  none_left h = no_element s (omega (arith, size_held (s ++ r) g, length-append s r, four))

module _ (l k t s r : List ℕ) (at q : ℕ) (p : Partly l k at q (decode (s ++ r)) (decode t)) where
  module _ (h : 4 ≤ length s) where
    as_group : decode (s ++ r) ≡ group_bytes (get_or s 0 0) (get_or s 1 0) (get_or s 2 0) (get_or s 3 0) ++ decode (take (length s - 4) (drop 4 s) ++ r)
    as_group = ap (λ (x : List ℕ). decode (x ++ r)) (first_four s h)

    pub room_group : at + length (decode t) ≤ length l → q + length (group_bytes (get_or s 0 0) (get_or s 1 0) (get_or s 2 0) (get_or s 3 0)) ≤ length k
    room_group g = room_left l k _ (decode t) at q p _ (decode (take (length s - 4) (drop 4 s) ++ r)) as_group g

    pub next_group : (m : List ℕ) (n : ℕ) → Wrote k m q n (group_bytes (get_or s 0 0) (get_or s 1 0) (get_or s 2 0) (get_or s 3 0)) →
        Partly l m at n (decode (take (length s - 4) (drop 4 s) ++ r)) (decode t)
    next_group m n w = goes_on l k _ (decode t) at q p _ _ as_group m n w

  module _ (four : length r ≡ 4) (g : is_base64 (s ++ r) ≡ true) (h : length s < 4) where
    as_last : decode (s ++ r) ≡ group_bytes (get_or r 0 0) (get_or r 1 0) (get_or r 2 0) (get_or r 3 0) ++ []
    as_last = ap (λ (x : List ℕ). decode (x ++ r)) (none_left s r four g h) ∙ ap decode (four_elements r four)

    pub room_last : at + length (decode t) ≤ length l → q + length (group_bytes (get_or r 0 0) (get_or r 1 0) (get_or r 2 0) (get_or r 3 0)) ≤ length k
    room_last f = room_left l k _ (decode t) at q p _ [] as_last f

    pub ends_last : (m : List ℕ) (n : ℕ) → Wrote k m q n (group_bytes (get_or r 0 0) (get_or r 1 0) (get_or r 2 0) (get_or r 3 0)) → Wrote l m at n (decode t)
    ends_last m n w = all_written l m [] (decode t) at n (goes_on l k _ (decode t) at q p _ [] as_last m n w) refl

pub ruleset decoding = (group_held, rest_held, room_group, next_group, room_last, ends_last)
