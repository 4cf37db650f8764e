-- Request 2/12: "Write the pair list that goes back in the answer. .. From an accepted challenge, copy its pairs in order, then
-- apply source document 004." Everything is said by the bytes b of the challenge's TargetInfo, the bytes l of what is written,
-- and what the caller gives; the answer and the output alone name the writer's definition.
use Rattle.wire.specs.declared.refusal.Refusal.{Refusal}
use Rattle.std.specs.Prelude.{Result, Ok, Err, ℕ, ◌+◌, ◌/◌, ◌%◌, ◌<◌, ◌≡◌, Bool, true, ◌⊎◌, ◌↔◌, List, [], ◌∷◌, length, take, drop}
use Rattle.write_response_pairs.specs.ResponsePairs.{write_answer, write_out}
use Rattle.wire.specs.Number.{u32_at}
use Rattle.demands.specs.Order.{FirstIn, check}
use Rattle.demands.specs.Message.{challenge, FlagSet, Nonempty, DifferInIgnored}
use Rattle.demands.specs.PairList.{id_of, size_of, next_of, PairAt, EndAt, Holds, FirstWith, PairThere}
use Rattle.demands.specs.InTurn.{KthPair}
use Rattle.demands.specs.Kept.{Kept}
use Rattle.demands.specs.TakenExactly.{RefusalIs, InfoBytes, ChallengeHolds, ChallengeFails}
use Rattle.demands.specs.WrittenExactly.{Fails30, Fails33}

-- ---- the list that goes back

-- a pair's value, and the number that a flags pair's is
abbrev pub pair_value : List ℕ → ℕ → List ℕ
pair_value s at = take (size_of s at) (drop (at + 4) s)

abbrev pub bits_of : List ℕ → ℕ → ℕ
bits_of s at = u32_at (pair_value s at) 0

-- "Take out every incoming pair 9 and 10"
abbrev pub TakenOut : List ℕ → ℕ → Type 0
TakenOut b at = (id_of b at ≡ 9) ⊎ (id_of b at ≡ 10)

-- "If the caller marks that name unverified", and "An empty name is no name"
abbrev pub Unverified : List ℕ → Bool → Type 0
Unverified name mark = (mark ≡ true) × (0 < length name)

-- the bits of a flags pair: "With a timestamp, set bit 0x2", for an unverified name 0x4; what came in stays
pub record BitsBack (b name : List ℕ) (mark : Bool) (came back : ℕ) : Type 0 where
  pub timestamp_bit : FlagSet back 0x2 ↔ (FlagSet came 0x2 ⊎ PairThere b 7)
  pub unverified_bit : FlagSet back 0x4 ↔ (FlagSet came 0x4 ⊎ Unverified name mark)
  pub bit_below : back % 0x2 ≡ came % 0x2
  pub bits_above : back / 0x8 ≡ came / 0x8

-- "in the first flags pair, or add one"
abbrev pub FlagsAdded : List ℕ → List ℕ → Bool → Type 0
FlagsAdded b name mark = (PairThere b 7 ⊎ Unverified name mark) × (PairThere b 6 → ⊥)

-- a pair of l with this id and value, and a flags pair of l with the bits that go back for these
pub record ValueAt (l : List ℕ) (to id : ℕ) (value : List ℕ) : Type 0 where
  pub there : PairAt l to
  pub id_same : id_of l to ≡ id
  pub value_same : pair_value l to ≡ value

pub record FlagsAt (b l name : List ℕ) (mark : Bool) (came to : ℕ) : Type 0 where
  pub there : PairAt l to
  pub id_same : id_of l to ≡ 6
  pub bits : BitsBack b name mark came (bits_of l to)

-- "add one pair 10 with the caller's 16 bytes .., and one pair 9 with the caller's target name or an empty value"
pub record LastTwo (l name bindings : List ℕ) (to : ℕ) : Type 0 where
  pub ten : ValueAt l to 10 bindings
  pub nine : ValueAt l (next_of l to) 9 name
  pub end_pair : EndAt l (next_of l (next_of l to))

-- "Added pairs stand before the end pair in the order 6, 10, 9"
pub data Added (b l name : List ℕ) (mark : Bool) (bindings : List ℕ) (to : ℕ) : Type 0 where
  with_flags : FlagsAdded b name mark → FlagsAt b l name mark 0 to → LastTwo l name bindings (next_of l to) → Added b l name mark bindings to
  without_flags : (FlagsAdded b name mark → ⊥) → LastTwo l name bindings to → Added b l name mark bindings to

-- "copy its pairs in order": the pairs of b from one place on go back as those of l from another on
pub data GoesBack (b l name : List ℕ) (mark : Bool) (bindings : List ℕ) : ℕ → ℕ → Type 0 where
  taken_out : {at to : ℕ} → PairAt b at → TakenOut b at → GoesBack b l name mark bindings (next_of b at) to → GoesBack b l name mark bindings at to
  first_flags : {at to : ℕ} → PairAt b at → FirstWith b 6 at 0 → FlagsAt b l name mark (bits_of b at) to →
      GoesBack b l name mark bindings (next_of b at) (next_of l to) → GoesBack b l name mark bindings at to
  same : {at to : ℕ} → PairAt b at → (TakenOut b at → ⊥) → (FirstWith b 6 at 0 → ⊥) → ValueAt l to (id_of b at) (pair_value b at) →
      GoesBack b l name mark bindings (next_of b at) (next_of l to) → GoesBack b l name mark bindings at to
  at_end : {at to : ℕ} → EndAt b at → Added b l name mark bindings to → GoesBack b l name mark bindings at to

-- the whole list; for no bytes "the four-byte end pair alone comes out"
pub data ListBack (b l name : List ℕ) (mark : Bool) (bindings : List ℕ) : Type 0 where
  end_alone : length b ≡ 0 → l ≡ 0 ∷ 0 ∷ 0 ∷ 0 ∷ [] → ListBack b l name mark bindings
  from_start : 0 < length b → GoesBack b l name mark bindings 0 0 → ListBack b l name mark bindings

-- ---- what a call that is not refused has left: the first n bytes of the output, n being its answer

-- the statement Q of a challenge's bytes, TargetInfo's and those that were written; the bindings are of 16 bytes, as the call takes them
abbrev pub OfEachCall : (List ℕ → List ℕ → List ℕ → List ℕ → Bool → List ℕ → Type 0) → Type 0
OfEachCall Q =
    (out s b name bindings : List ℕ) (mark : Bool) (n : ℕ) → length bindings ≡ 16 → InfoBytes s b →
    write_answer (length out) s name mark bindings ≡ Ok n →
    Q s b (take n (write_out out s name mark bindings)) name mark bindings

abbrev pub PairsGoBack : Type 0
PairsGoBack = OfEachCall (λ s b l name mark bindings. ListBack b l name mark bindings)

-- how many pairs go back for those from a place on: one for each but 9 and 10, and the two or three that are added
pub data CountBack (b name : List ℕ) (mark : Bool) : ℕ → ℕ → Type 0 where
  three_added : {at n : ℕ} → EndAt b at → FlagsAdded b name mark → n ≡ 3 → CountBack b name mark at n
  two_added : {at n : ℕ} → EndAt b at → (FlagsAdded b name mark → ⊥) → n ≡ 2 → CountBack b name mark at n
  none_back : {at n : ℕ} → PairAt b at → TakenOut b at → CountBack b name mark (next_of b at) n → CountBack b name mark at n
  one_back : {at n m : ℕ} → PairAt b at → (TakenOut b at → ⊥) → n ≡ m + 1 → CountBack b name mark (next_of b at) m → CountBack b name mark at n

-- "The result passes checks 10 to 13", with so many pairs
abbrev pub ResultHolds : Type 0
ResultHolds =
    OfEachCall (λ s b l name mark bindings.
    (k : ℕ) × Holds l k × (((length b ≡ 0) × (k ≡ 0)) ⊎ ((0 < length b) × CountBack b name mark 0 k)))

-- one pair only has an id, and it has this value
pub record OnlyPair (l : List ℕ) (id : ℕ) (value : List ℕ) : Type 0 where
  pub place : ℕ
  pub number : ℕ
  pub stands : KthPair l place number 0
  pub pair_is : ValueAt l place id value
  pub only : (found k : ℕ) → KthPair l found k 0 → id_of l found ≡ id → found ≡ place

abbrev pub OneTenOneNine : Type 0
OneTenOneNine = OfEachCall (λ s b l name mark bindings. 0 < length b → OnlyPair l 10 bindings × OnlyPair l 9 name)

-- "Where TargetInfo doesn't count or is empty"
abbrev pub EndPairAlone : Type 0
EndPairAlone = OfEachCall (λ s b l name mark bindings. (Nonempty challenge s 2 → ⊥) → l ≡ 0 ∷ 0 ∷ 0 ∷ 0 ∷ [])

-- ---- by what it is refused

-- how many bytes the pairs from a place on take, 9 and 10 left out
pub data KeptSize (b : List ℕ) : ℕ → ℕ → Type 0 where
  no_more : {at n : ℕ} → EndAt b at → n ≡ 0 → KeptSize b at n
  passed_over : {at n : ℕ} → PairAt b at → TakenOut b at → KeptSize b (next_of b at) n → KeptSize b at n
  counted : {at n m : ℕ} → PairAt b at → (TakenOut b at → ⊥) → n ≡ 4 + size_of b at + m → KeptSize b (next_of b at) m → KeptSize b at n

-- how many the list takes: with a flags pair of 8 bytes where one is added, pair 10 of 20, pair 9 and the end pair of 4
pub data ListSize (b name : List ℕ) (mark : Bool) (size : ℕ) : Type 0 where
  of_end : length b ≡ 0 → size ≡ 4 → ListSize b name mark size
  of_flags : {k : ℕ} → 0 < length b → KeptSize b 0 k → FlagsAdded b name mark → size ≡ k + 8 + 20 + (4 + length name) + 4 → ListSize b name mark size
  of_two : {k : ℕ} → 0 < length b → KeptSize b 0 k → (FlagsAdded b name mark → ⊥) → size ≡ k + 20 + (4 + length name) + 4 → ListSize b name mark size

-- every accepted challenge has one
abbrev pub SizeIsThere : Type 0
SizeIsThere = (s b name : List ℕ) (mark : Bool) → ChallengeHolds s b → (size : ℕ) × ListSize b name mark size

-- "31 with field 2 for a target name of odd length, then 30 for a list over 65,535 bytes, then 33"
abbrev pub ResponsePairsFail : ℕ → List ℕ → ℕ → ℕ → ℕ → Type 0
ResponsePairsFail room name size n i =
    check 31 n ((i ≡ 2) × (length name % 2 ≡ 1)) (
    check 30 n (Fails30 size i) (
    check 33 n (Fails33 room size i)
    ⊥))

abbrev pub ListRefusedAt : Result ℕ Refusal → ℕ → ℕ → ℕ → Type 0
ListRefusedAt (Ok m) n i p = ⊥
ListRefusedAt (Err e) n i p = RefusalIs e n i p

-- "Refusals: after the reading ones": refused by the reading, and else by the first of these checks that fails; answered with the
-- list's length if and only if nothing fails
pub record WrittenFrom (answer : Result ℕ Refusal) (s b : List ℕ) (order : List ℕ) (F : ℕ → ℕ → Type 0) (size : ℕ) : Type 0 where
  pub refused : (n i p : ℕ) → ListRefusedAt answer n i p ↔ (ChallengeFails s b n i p ⊎ (ChallengeHolds s b × FirstIn order F n i × (p ≡ 0)))
  pub written : (n : ℕ) → (answer ≡ Ok n) ↔ (ChallengeHolds s b × ((m j : ℕ) → F m j → ⊥) × (n ≡ size))

abbrev pub ResponsePairsAreWritten : Type 0
ResponsePairsAreWritten =
    (room : ℕ) (s b name bindings : List ℕ) (mark : Bool) (size : ℕ) → length bindings ≡ 16 → InfoBytes s b →
    (ChallengeHolds s b → ListSize b name mark size) →
    WrittenFrom (write_answer room s name mark bindings) s b (31 ∷ 30 ∷ 33 ∷ []) (ResponsePairsFail room name size) size

-- ---- demands 1 and 2 for this call

-- a refusal changes no byte of the output, and a success only those of the list
abbrev pub ResponsePairsKept : Type 0
ResponsePairsKept =
    (out s name bindings : List ℕ) (mark : Bool) →
    Kept (write_answer (length out) s name mark bindings) out (write_out out s name mark bindings)

-- MaxLen and ignored bytes of the challenge change nothing
pub record SamePairsBack (s t : List ℕ) : Type 0 where
  pub answer : (room : ℕ) (name bindings : List ℕ) (mark : Bool) → write_answer room s name mark bindings ≡ write_answer room t name mark bindings
  pub output : (out name bindings : List ℕ) (mark : Bool) → write_out out s name mark bindings ≡ write_out out t name mark bindings

abbrev pub ResponsePairsIgnored : Type 0
ResponsePairsIgnored = (s t : List ℕ) → DifferInIgnored challenge s t → SamePairsBack s t
