-- The pair list that goes back in the answer (request 2/12, source document 004), as pairs and then as bytes.
use Rattle.wire.specs.Check.{on_ok}
use Rattle.wire.specs.declared.refusal.Refusal.{Refusal}
use Rattle.std.specs.Prelude.{Result, Ok, Err, ⊤, ℕ, ◌+◌, ◌%◌, Bool, false, ◌||◌, ◌&&◌, not, cond, List, [], ◌∷◌, ◌++◌, eqb, length}
use Rattle.std.specs.Int.Bits.{bit_or}
use Rattle.av_id.specs.declared.AvId.{AvId}
use Rattle.av_id.specs.AvId.{end_id, flags_id, target_name_id, channel_bindings_id, is_flags, is_timestamp, is_target_name, is_channel_bindings}
use Rattle.av_pairs.specs.declared.AvPair.{AvPair}
use Rattle.av_pairs.specs.AvPairs.{Valued, value_in, values_of}
use Rattle.read_challenge.specs.Challenge.{reading_of, info_of}
use Rattle.place.specs.Place.{le16, le32}
use Rattle.place.specs.Written.{size_holds, room_holds, answered, out_after}
use Rattle.wire.specs.declared.check.Checked.{Checked}
use Rattle.wire.specs.declared.refusal.Refusal.TheVariants.{TooLongToWrite, OddNameToWrite, NoRoom}
use Rattle.wire.specs.Check.{checked, after}
use Rattle.wire.specs.Number.{u32_at}

abbrev pub pair_with : ℕ → List ℕ → Valued
pair_with id value = (record { id = id }, value)

-- whether a pair is there whose id answers a question with yes
abbrev pub has_pair : (AvId → Bool) → List Valued → Bool
has_pair is [] = false
has_pair is (p ∷ ps) = is p.0 || has_pair is ps

abbrev pub is_none : List ℕ → Bool
is_none s = eqb (length s) 0

-- "Take out every incoming pair 9 and 10"
abbrev pub left_out : AvId → Bool
left_out id = is_target_name id || is_channel_bindings id

abbrev pub kept : List Valued → List Valued
kept [] = []
kept (p ∷ ps) = cond (left_out p.0) (kept ps) (p ∷ kept ps)

-- the bits of a flags pair (MsvAvFlags, MS-NLMP 2.2.2.1) that an answer sets: a MIC is provided, the target name is not verified
abbrev pub mic_provided : ℕ
mic_provided = 0x2

abbrev pub unverified_target_name : ℕ
unverified_target_name = 0x4

-- the bits due: one with a timestamp, one with a name that the caller marks unverified; an empty name is no name
unfoldable pub due_bits : Bool → Bool → ℕ
due_bits timestamp unverified = cond timestamp mic_provided 0 + cond unverified unverified_target_name 0

unfoldable pub bits_due : List ℕ → List ℕ → Bool → ℕ
bits_due info name unverified = due_bits (has_pair is_timestamp (values_of info)) (unverified && not (is_none name))

-- these bits set in the first flags pair, and nothing cleared
abbrev pub flags_set : ℕ → List Valued → List Valued
flags_set bits [] = []
flags_set bits (p ∷ ps) = cond (is_flags p.0) (pair_with flags_id (le32 (bit_or (u32_at p.1 0) bits)) ∷ ps) (p ∷ flags_set bits ps)

-- where no bit is due, no pair is touched
abbrev pub with_bits : ℕ → List Valued → List Valued
with_bits bits ps = cond (eqb bits 0) ps (flags_set bits ps)

-- a flags pair is added where a bit is due and none came in
abbrev pub adds_flags : ℕ → List Valued → Bool
adds_flags bits ps = not (eqb bits 0) && not (has_pair is_flags ps)

-- the added pairs, "in the order 6, 10, 9"
unfoldable pub added_pairs : Bool → ℕ → List ℕ → List ℕ → List Valued
added_pairs adds bits name bindings = cond adds (pair_with flags_id (le32 bits) ∷ []) [] ++ (pair_with channel_bindings_id bindings ∷ pair_with target_name_id name ∷ [])

-- the pairs that go back for those that came in, with these bits due
unfoldable pub pairs_back : ℕ → List Valued → List ℕ → List ℕ → List Valued
pairs_back bits ps name bindings = with_bits bits (kept ps) ++ added_pairs (adds_flags bits ps) bits name bindings

-- "Where TargetInfo doesn't count or is empty, the four-byte end pair alone comes out"
unfoldable pub pairs_for : ℕ → List ℕ → List ℕ → List ℕ → List Valued
pairs_for bits info name bindings = cond (is_none info) [] (pairs_back bits (values_of info) name bindings)

-- a pair's bytes: id, length, value
unfoldable pub pair_bytes : Valued → List ℕ
pair_bytes p = le16 p.0.id ++ (le16 (length p.1) ++ p.1)

-- a list's bytes: one pair after the other, and the end pair
abbrev pub pairs_bytes : List Valued → List ℕ
pairs_bytes [] = []
pairs_bytes (p ∷ ps) = pair_bytes p ++ pairs_bytes ps

-- one pair of a list as it goes back, with the bits that are due
abbrev pub pair_bytes_back : ℕ → List ℕ → AvPair → List ℕ
pair_bytes_back bits info p = pairs_bytes (with_bits bits (kept ((p.id, value_in info p) ∷ [])))

unfoldable pub list_bytes : List Valued → List ℕ
list_bytes ps = pairs_bytes ps ++ pair_bytes (pair_with end_id [])

-- the list for TargetInfo's bytes, with these bits due, and with those that are
unfoldable pub list_with : ℕ → List ℕ → List ℕ → List ℕ → List ℕ
list_with bits info name bindings = list_bytes (pairs_for bits info name bindings)

unfoldable pub list_for : List ℕ → List ℕ → Bool → List ℕ → List ℕ
list_for info name unverified bindings = list_with (bits_due info name unverified) info name bindings

-- check 31: the target name has even length
abbrev pub even_target_name : List ℕ → Checked
even_target_name name = checked (eqb (length name % 2) 0)

-- checks 31, 30 and 33 for a list of so many bytes
unfoldable pub check_list : ℕ → List ℕ → ℕ → Result ⊤ Refusal
check_list room name size =
    after (even_target_name name) (Err (OddNameToWrite 2)) (
    after (size_holds size) (Err TooLongToWrite) (
    after (room_holds size room) (Err NoRoom)
    (Ok tt)))

-- the length written or the refusal, and the output afterwards
unfoldable pub list_answer : ℕ → List ℕ → List ℕ → Bool → List ℕ → Result ℕ Refusal
list_answer room info name unverified bindings =
    answered (check_list room name (length (list_for info name unverified bindings))) (list_for info name unverified bindings)

unfoldable pub list_out : List ℕ → List ℕ → List ℕ → Bool → List ℕ → List ℕ
list_out out info name unverified bindings =
    out_after (check_list (length out) name (length (list_for info name unverified bindings))) (list_for info name unverified bindings) out

-- the same after the reading's checks, and the output as it was where one of these fails
unfoldable pub write_answer : ℕ → List ℕ → List ℕ → Bool → List ℕ → Result ℕ Refusal
write_answer room s name unverified bindings =
    on_ok Err (reading_of s) (λ c. list_answer room (info_of s c) name unverified bindings)

unfoldable pub write_out : List ℕ → List ℕ → List ℕ → Bool → List ℕ → List ℕ
write_out out s name unverified bindings =
    on_ok (λ e. out) (reading_of s) (λ c. list_out out (info_of s c) name unverified bindings)
