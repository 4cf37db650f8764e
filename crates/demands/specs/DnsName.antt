-- Document 02, 5/12: "Strings C, D and E follow RFC 1035 section 4.1.4", "At most 16 jumps are followed in each string; for each, the
-- number of jumps taken is part of the answer and equals the definition's." A name is taken if and only if its bytes are one,
-- with those labels, jumps and next place, and refused if and only if it has that fault first. What its bytes are, and what a
-- fault is, `Rfc1035` says without the reader's definition: so that definition's steps never run out.
use Rattle.read_dns_name.specs.declared.Fault.{Fault}
use Rattle.read_dns_name.specs.declared.Name.{Name}
use Rattle.std.specs.Prelude.{Result, Ok, Err, ℕ, ◌+◌, ◌<◌, ◌≤◌, ◌≡◌, ◌⊎◌, ◌↔◌, List, [], ◌∷◌, ◌++◌, length, get_or}
use Rattle.read_dns_name.specs.DnsName.{read_name, labels_at, number_of}
use Rattle.read_dns_name.specs.Rfc1035.{NameAt, FirstNameFault}
use Rattle.line_dns_name.specs.DnsNameText.{dns_name_text}

abbrev pub NameRefusedWith : Result Name Fault → ℕ → Type 0
NameRefusedWith (Ok m) n = ⊥
NameRefusedWith (Err e) n = number_of e ≡ n

abbrev pub NameIsTaken : Type 0
NameIsTaken =
    (s : List ℕ) (start : ℕ) (ls : List (List ℕ)) (jumps next : ℕ) →
    ((read_name s start ≡ Ok (record { jumps = jumps; next = next })) × (labels_at s start ≡ ls)) ↔ NameAt s start ls jumps next

abbrev pub NameIsRefused : Type 0
NameIsRefused = (s : List ℕ) (start n : ℕ) → NameRefusedWith (read_name s start) n ↔ FirstNameFault s start n

-- every place has a name or a first fault, and never two: so a reading ends, and there is one reading only
abbrev pub NameOrFault : Type 0
NameOrFault =
    (s : List ℕ) (start : ℕ) →
    ((ls : List (List ℕ)) × (jumps : ℕ) × (next : ℕ) × NameAt s start ls jumps next) ⊎ ((n : ℕ) × FirstNameFault s start n)

abbrev pub OneName : Type 0
OneName =
    (s : List ℕ) (start : ℕ) (ls ms : List (List ℕ)) (i j m n : ℕ) → NameAt s start ls i m → NameAt s start ms j n →
    (ls ≡ ms) × (i ≡ j) × (m ≡ n)

abbrev pub NameNoFault : Type 0
NameNoFault =
    (s : List ℕ) (start : ℕ) (ls : List (List ℕ)) (jumps next n : ℕ) → NameAt s start ls jumps next → FirstNameFault s start n → ⊥

-- so many bytes always suffice for the text of one
abbrev pub NameShort : Type 0
NameShort = (s : List ℕ) (start : ℕ) → length (dns_name_text (labels_at s start)) ≤ 1020

-- ---- "We write without jumps, from text split at full stops; empty text is the zero byte alone."

abbrev pub NoStop : List ℕ → Type 0
NoStop l = (k : ℕ) → k < length l → get_or l k 0 ≡ 0x2E → ⊥

-- the parts of a text between its full stops
pub data PartsOf : List ℕ → List (List ℕ) → Type 0 where
  last : {l : List ℕ} → NoStop l → PartsOf l (l ∷ [])
  part : {l t : List ℕ} {ls : List (List ℕ)} → NoStop l → PartsOf t ls → PartsOf (l ++ (0x2E ∷ t)) (l ∷ ls)

-- the labels of a text: its parts, and none where it is empty
pub record TextLabels (t : List ℕ) (ls : List (List ℕ)) : Type 0 where
  pub empty : length t ≡ 0 → ls ≡ []
  pub parts : 0 < length t → PartsOf t ls

-- "50 for an empty label or one over 63"
abbrev pub WrongLabelIn : List (List ℕ) → Type 0
WrongLabelIn [] = ⊥
WrongLabelIn (l ∷ ls) = ((length l ≡ 0) ⊎ (63 < length l)) ⊎ WrongLabelIn ls

abbrev pub LabelsFail : List ℕ → Type 0
LabelsFail t = (ls : List (List ℕ)) × TextLabels t ls × WrongLabelIn ls

-- "The coded length, one more than the sum of each label's length plus one": two more than a text has bytes, and one of an empty text
abbrev pub coded_size : List ℕ → ℕ
coded_size [] = 1
coded_size (b ∷ t) = length (b ∷ t) + 2

-- each byte stands for itself in a line: 0x21 to 0x7E other than backslash
abbrev pub Plain : List ℕ → Type 0
Plain t = (k : ℕ) → k < length t → (0x21 ≤ get_or t k 0) × (get_or t k 0 ≤ 0x7E) × (get_or t k 0 ≡ 0x5C → ⊥)
