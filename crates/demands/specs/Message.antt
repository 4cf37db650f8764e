-- NTLM messages by their bytes alone: what tells one kind from another, what the heads say, and when each of document
-- 01's checks 1 to 9 fails. Nothing here names a reader's definition.
use Rattle.std.specs.Prelude.{ℕ, ◌+◌, ◌-◌, ◌*◌, ◌/◌, ◌%◌, ◌≤◌, ◌<◌, ◌≡◌, ◌⊎◌, List, [], ◌∷◌, ◌++◌, length, take, get_or}
use Rattle.wire.specs.Text.{ascii}
use Rattle.wire.specs.Number.{u16_at, u32_at}
use Rattle.demands.specs.Order.{check}

-- a kind of message
pub record Format : Type 1 where
  -- the fixed part's length (house), the type, and the place of the flags
  pub fixed : ℕ
  pub number : ℕ
  pub flags : ℕ
  -- the fields are 1 to `last`; the place of each head
  pub last : ℕ
  pub head : ℕ → ℕ
  -- when a field counts, given what it is for a flag (by its mask) to be set
  pub Counts : (ℕ → Type 0) → ℕ → Type 0
  -- which fields are names that UNICODE makes 16-bit, and which are secrets
  pub Name : ℕ → Type 0
  pub Secret : ℕ → Type 0
  -- which bytes within the fixed part are ignored, and whether there may be a MIC
  pub Unused : ℕ → Type 0
  pub HasMic : Type 0

-- NEGOTIATE: heads at 16 and 24; both names are OEM bytes whatever the flags say
abbrev pub negotiate : Format
negotiate =
    record {
      fixed = 32;
      number = 1;
      flags = 12;
      last = 2;
      head = λ i. 8 + 8 * i;
      Counts = λ Set i. (i ≡ 1 → Set 0x1000) × (i ≡ 2 → Set 0x2000);
      Name = λ i. ⊥;
      Secret = λ i. ⊥;
      Unused = λ p. ⊥;
      HasMic = ⊥;
    }

-- AUTHENTICATE: heads at 12, 20, 28, 36, 44 and 52
abbrev pub authenticate : Format
authenticate =
    record {
      fixed = 64;
      number = 3;
      flags = 60;
      last = 6;
      head = λ i. 4 + 8 * i;
      Counts = λ Set i. i ≡ 6 → Set 0x40000000;
      Name = λ i. (3 ≤ i) × (i ≤ 5);
      Secret = λ i. (i ≡ 1) ⊎ ((i ≡ 2) ⊎ (i ≡ 6));
      Unused = λ p. ⊥;
      HasMic = Unit;
    }

-- CHALLENGE: heads at 12 and 40; Reserved from 32 to 39
abbrev pub challenge : Format
challenge =
    record {
      fixed = 48;
      number = 2;
      flags = 20;
      last = 2;
      head = λ i. 28 * i - 16;
      Counts = λ Set i. (i ≡ 1 → Set 0x4) × (i ≡ 2 → Set 0x800000);
      Name = λ i. i ≡ 1;
      Secret = λ i. ⊥;
      Unused = λ p. (32 ≤ p) × (p < 40);
      HasMic = ⊥;
    }

-- a flag is set, by its mask: of a number, and of a message
abbrev pub FlagSet : ℕ → ℕ → Type 0
FlagSet bits mask = bits / mask % 2 ≡ 1

abbrev pub Set : Format → List ℕ → ℕ → Type 0
Set k s mask = FlagSet (u32_at s k.flags) mask

abbrev pub Counts : Format → List ℕ → ℕ → Type 0
Counts k s i = k.Counts (Set k s) i

-- a head: Len at its place, MaxLen two bytes on, the offset four
abbrev pub len_of : Format → List ℕ → ℕ → ℕ
len_of k s i = u16_at s (k.head i)

abbrev pub max_len_of : Format → List ℕ → ℕ → ℕ
max_len_of k s i = u16_at s (k.head i + 2)

abbrev pub offset_of : Format → List ℕ → ℕ → ℕ
offset_of k s i = u32_at s (k.head i + 4)

-- a field that counts and isn't empty
pub record Nonempty (k : Format) (s : List ℕ) (i : ℕ) : Type 0 where
  pub first : 1 ≤ i
  pub last : i ≤ k.last
  pub counts : Counts k s i
  pub some : 0 < len_of k s i

-- the byte at p is one of the field's
abbrev pub Covers : Format → List ℕ → ℕ → ℕ → Type 0
Covers k s i p = (offset_of k s i ≤ p) × (p < offset_of k s i + len_of k s i)

-- document 01's table, rows 1 to 9: check n fails at field i
abbrev pub Fails : Format → List ℕ → ℕ → ℕ → Type 0
Fails k s n i =
    check 1 n ((i ≡ 0) × (65535 < length s)) (
    check 2 n ((i ≡ 0) × (length s < k.fixed)) (
    check 3 n ((i ≡ 0) × (take 8 s ≡ ascii "NTLMSSP" ++ (0 ∷ []) → ⊥)) (
    check 4 n ((i ≡ 0) × (u32_at s 8 ≡ k.number → ⊥)) (
    check 5 n ((i ≡ 0) × (Set k s 0x1 → ⊥) × (Set k s 0x2 → ⊥)) (
    check 6 n (Nonempty k s i × (length s < offset_of k s i + len_of k s i)) (
    check 7 n (Nonempty k s i × (offset_of k s i < k.fixed)) (
    check 8 n (Nonempty k s i × k.Name i × Set k s 0x1 × ((offset_of k s i % 2 ≡ 1) ⊎ (len_of k s i % 2 ≡ 1))) (
    check 9 n (Nonempty k s i × k.Name i × ((j p : ℕ) × Nonempty k s j × k.Secret j × Covers k s i p × Covers k s j p))
    ⊥))))))))

-- document 01: "The MIC is present exactly when the lowest offset of a nonempty field, or the message length if all
-- are empty, is at least 88"
pub record MicThere (k : Format) (s : List ℕ) : Type 0 where
  pub kind : k.HasMic
  pub fields : (i : ℕ) → Nonempty k s i → 88 ≤ offset_of k s i
  pub message : ((i : ℕ) → Nonempty k s i → ⊥) → 88 ≤ length s

-- the byte at p is ignored
pub data Ignored (k : Format) (s : List ℕ) (p : ℕ) : Type 0 where
  -- MaxLen of a field
  max_len : (i : ℕ) → 1 ≤ i → i ≤ k.last → (p ≡ k.head i + 2) ⊎ (p ≡ k.head i + 3) → Ignored k s p
  -- the head of a field that doesn't count
  uncounted_head : (i : ℕ) → 1 ≤ i → i ≤ k.last → (Counts k s i → ⊥) → k.head i ≤ p → p < k.head i + 8 → Ignored k s p
  -- the offset of an empty field
  empty_offset : (i : ℕ) → 1 ≤ i → i ≤ k.last → len_of k s i ≡ 0 → k.head i + 4 ≤ p → p < k.head i + 8 → Ignored k s p
  -- Reserved
  unused : k.Unused p → Ignored k s p
  -- Version, padding, and the place of a MIC that isn't there: what neither a counted field nor a MIC covers
  uncovered : k.fixed ≤ p → ((i : ℕ) → Nonempty k s i → Covers k s i p → ⊥) → (MicThere k s → 72 ≤ p → p < 88 → ⊥) → Ignored k s p

-- two messages of one length that differ only in ignored bytes, MaxLen among them
pub record DifferInIgnored (k : Format) (s t : List ℕ) : Type 0 where
  pub length_same : length s ≡ length t
  pub bytes_same : (p : ℕ) → (get_or s p 0 ≡ get_or t p 0) ⊎ Ignored k s p

-- and of these, two that have the same MaxLen at each field that counts
abbrev pub SameMaxLen : Format → List ℕ → List ℕ → Type 0
SameMaxLen k s t = (i : ℕ) → 1 ≤ i → i ≤ k.last → Counts k s i → max_len_of k s i ≡ max_len_of k t i
