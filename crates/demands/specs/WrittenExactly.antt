-- Demand 1: "It answers, or refuses by a number from document 01 in the order given there." When a writing or a line
-- succeeds, and by what it is refused, said by its arguments and the length of its output alone. Nothing here names a
-- writer's definition but the answer itself.
use Rattle.wire.specs.declared.refusal.Refusal.{Refusal}
use Rattle.std.specs.Prelude.{Result, Ok, Err, ℕ, ◌+◌, ◌-◌, ◌/◌, ◌%◌, ◌≤◌, ◌<◌, ◌≡◌, cond, ◌⊎◌, ◌↔◌, List, [], ◌∷◌, eqb, length, take, get_or}
use Rattle.wire.specs.Refusal.{number_of, field_of}
use Rattle.negotiate_flags.specs.declared.NegotiateFlags.{NegotiateFlags}
use Rattle.place.specs.Written.{bytes_answer, bytes_after}
use Rattle.write_authenticate.specs.Writing.{write_answer}
use Rattle.write_negotiate.specs.Writing.{write_answer as negotiate_answer}
use Rattle.nl_auth_flags.specs.declared.NlAuthFlags.{NlAuthFlags}
use Rattle.nl_auth_flags.specs.Flags.{known}
use Rattle.write_nl_auth.specs.Writing.{request_answer, response_answer}
use Rattle.demands.specs.Order.{FirstIn, check}
use Rattle.demands.specs.Message.{FlagSet}
use Rattle.demands.specs.DnsName.{LabelsFail, coded_size}
use Rattle.demands.specs.NlAuth.{mask_of}

abbrev pub WritingRefusedWith : Result ℕ Refusal → ℕ → ℕ → Type 0
WritingRefusedWith (Ok m) n i = ⊥
WritingRefusedWith (Err e) n i = (number_of e ≡ n) × (field_of e ≡ i)

-- a writing of so many bytes, whose checks are made in this order; `F n i` says that check n fails at field i
pub record WrittenExactly (answer : Result ℕ Refusal) (order : List ℕ) (F : ℕ → ℕ → Type 0) (size : ℕ) : Type 0 where
  -- it is refused with number n and field i if and only if that is the first failure in this order
  pub refused : (n i : ℕ) → WritingRefusedWith answer n i ↔ FirstIn order F n i
  -- and answered with a length if and only if no check fails and that is the number of bytes
  pub written : (n : ℕ) → (answer ≡ Ok n) ↔ (((m j : ℕ) → F m j → ⊥) × (n ≡ size))

-- rows 5, 30 and 33, of a message with these flags and of so many bytes, for an output of `room` bytes
abbrev pub Fails5 : ℕ → ℕ → Type 0
Fails5 bits i = (i ≡ 0) × (FlagSet bits 0x1 → ⊥) × (FlagSet bits 0x2 → ⊥)

abbrev pub Fails30 : ℕ → ℕ → Type 0
Fails30 size i = (i ≡ 0) × (65535 < size)

abbrev pub Fails33 : ℕ → ℕ → ℕ → Type 0
Fails33 room size i = (i ≡ 0) × (room < size)

-- ---- AUTHENTICATE

-- "The fixed part is always 88 bytes; then domain, user, workstation, LM response, NT response, key, with no padding."
abbrev pub authenticate_size : List ℕ → List ℕ → List ℕ → List ℕ → List ℕ → List ℕ → ℕ
authenticate_size lm nt domain user workstation key =
    88 + (length domain + (length user + (length workstation + (length lm + (length nt + length key)))))

-- names are fields 3, 4 and 5
abbrev pub name_of : List ℕ → List ℕ → List ℕ → ℕ → List ℕ
name_of domain user workstation i = get_or (domain ∷ user ∷ workstation ∷ []) (i - 3) []

-- check n fails at field i
abbrev pub AuthenticateWritingFails : ℕ → ℕ → List ℕ → List ℕ → List ℕ → List ℕ → List ℕ → List ℕ → ℕ → ℕ → Type 0
AuthenticateWritingFails room bits lm nt domain user workstation key n i =
    check 5 n (Fails5 bits i) (
    check 31 n ((3 ≤ i) × (i ≤ 5) × FlagSet bits 0x1 × (length (name_of domain user workstation i) % 2 ≡ 1)) (
    check 32 n ((i ≡ 6) × (0 < length key) × ((length key ≡ 16 → ⊥) ⊎ (FlagSet bits 0x40000000 → ⊥))) (
    check 30 n (Fails30 (authenticate_size lm nt domain user workstation key) i) (
    check 33 n (Fails33 room (authenticate_size lm nt domain user workstation key) i)
    ⊥))))

-- "Writing AUTHENTICATE: 5, 31, 32, 30, 33."
abbrev pub authenticate_order : List ℕ
authenticate_order = 5 ∷ 31 ∷ 32 ∷ 30 ∷ 33 ∷ []

-- Version and MIC are of 8 and 16 bytes, as the call takes them
abbrev pub AuthenticateIsWritten : Type 0
AuthenticateIsWritten =
    (room : ℕ) (flags : NegotiateFlags) (version mic lm nt domain user workstation key : List ℕ) → length version ≡ 8 → length mic ≡ 16 →
    WrittenExactly (write_answer room flags version mic lm nt domain user workstation key) authenticate_order
    (AuthenticateWritingFails room flags.bits lm nt domain user workstation key) (authenticate_size lm nt domain user workstation key)

-- ---- NEGOTIATE

-- the fixed part is always 40 bytes; then domain, workstation
abbrev pub negotiate_size : List ℕ → List ℕ → ℕ
negotiate_size domain workstation = 40 + (length domain + length workstation)

abbrev pub NegotiateWritingFails : ℕ → ℕ → List ℕ → List ℕ → ℕ → ℕ → Type 0
NegotiateWritingFails room bits domain workstation n i =
    check 5 n (Fails5 bits i) (
    check 30 n (Fails30 (negotiate_size domain workstation) i) (
    check 33 n (Fails33 room (negotiate_size domain workstation) i)
    ⊥))

-- by request 1/12
abbrev pub NegotiateIsWritten : Type 0
NegotiateIsWritten =
    (room : ℕ) (flags : NegotiateFlags) (version domain workstation : List ℕ) → length version ≡ 8 →
    WrittenExactly (negotiate_answer room flags version domain workstation) (5 ∷ 30 ∷ 33 ∷ [])
    (NegotiateWritingFails room flags.bits domain workstation) (negotiate_size domain workstation)

-- ---- NL_AUTH

-- a string and its zero byte; a clear bit's string is passed over
abbrev pub size_under : ℕ → ℕ → List ℕ → ℕ
size_under bits mask x = cond (eqb (bits / mask % 2) 1) (length x + 1) 0

-- and a name, C to E
abbrev pub name_size_under : ℕ → ℕ → List ℕ → ℕ
name_size_under bits mask x = cond (eqb (bits / mask % 2) 1) (coded_size x) 0

abbrev pub request_size : ℕ → List ℕ → List ℕ → List ℕ → List ℕ → List ℕ → ℕ
request_size bits a b c d e =
    8 + (size_under bits 0x1 a + (size_under bits 0x2 b + (name_size_under bits 0x4 c + (name_size_under bits 0x8 d + name_size_under bits 0x10 e))))

-- A to E are strings 1 to 5
abbrev pub string_of : List ℕ → List ℕ → List ℕ → List ℕ → List ℕ → ℕ → List ℕ
string_of a b c d e i = get_or (a ∷ b ∷ c ∷ d ∷ e ∷ []) (i - 1) []

abbrev pub HoldsZero : List ℕ → Type 0
HoldsZero x = (p : ℕ) × (p < length x) × (get_or x p 0 ≡ 0)

abbrev pub RequestWritingFails : ℕ → ℕ → List ℕ → List ℕ → List ℕ → List ℕ → List ℕ → ℕ → ℕ → Type 0
RequestWritingFails room bits a b c d e n i =
    check 14 n ((i ≡ 0) × ((k : ℕ) → 1 ≤ k → k ≤ 5 → FlagSet bits (mask_of k) → ⊥)) (
    check 34 n ((1 ≤ i) × (i ≤ 5) × FlagSet bits (mask_of i) × HoldsZero (string_of a b c d e i)) (
    check 50 n ((3 ≤ i) × (i ≤ 5) × FlagSet bits (mask_of i) × LabelsFail (string_of a b c d e i)) (
    check 53 n ((3 ≤ i) × (i ≤ 5) × FlagSet bits (mask_of i) × (255 < coded_size (string_of a b c d e i))) (
    check 30 n (Fails30 (request_size bits a b c d e) i) (
    check 33 n (Fails33 room (request_size bits a b c d e) i)
    ⊥)))))

-- "Writing an NL_AUTH request: 14, 34, 30, 33; a response: 33", and "50 .. then 53, both between 34 and 30, each over all strings".
-- Only bits A to E of the flags have a part in it.
abbrev pub request_order : List ℕ
request_order = 14 ∷ 34 ∷ 50 ∷ 53 ∷ 30 ∷ 33 ∷ []

abbrev pub NlRequestIsWritten : Type 0
NlRequestIsWritten =
    (room : ℕ) (flags : NlAuthFlags) (a b c d e : List ℕ) →
    WrittenExactly (request_answer room (known flags) a b c d e) request_order
    (RequestWritingFails room flags.bits a b c d e) (request_size flags.bits a b c d e)

-- a writing whose one check is 33
abbrev pub RoomFails : ℕ → ℕ → ℕ → ℕ → Type 0
RoomFails room size n i = check 33 n (Fails33 room size i) ⊥

abbrev pub NlResponseIsWritten : Type 0
NlResponseIsWritten = (room : ℕ) → WrittenExactly (response_answer room) (33 ∷ []) (RoomFails room 9) 9

-- ---- lines, and the copy of a part

-- "A log line that has no room is 33."
abbrev pub LineIsWritten : Type 0
LineIsWritten = (line out : List ℕ) → WrittenExactly (bytes_answer line out) (33 ∷ []) (RoomFails (length out) (length line)) (length line)

-- where it has room, the output then begins with it
abbrev pub LineStands : Type 0
LineStands = (line out : List ℕ) → length line ≤ length out → take (length line) (bytes_after line out) ≡ line
