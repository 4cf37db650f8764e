-- CHALLENGE_MESSAGE (MS-NLMP 2.2.1.2), read as document 01 sets it out.
use Rattle.wire.specs.Check.{on_ok}
use Rattle.target_info.specs.declared.Contents.{Contents}
use Rattle.target_info.specs.declared.ServerNames.{ServerNames}
use Rattle.std.specs.Prelude.{Result, Option, Ok, Err, ⊤, ℕ, Bool, List, [], ◌∷◌, length, take, drop, replicate}
use Rattle.field.specs.declared.Field.{Field}
use Rattle.negotiate_flags.specs.declared.NegotiateFlags.{NegotiateFlags}
use Rattle.head.specs.declared.Layout.{Layout}
use Rattle.wire.specs.declared.refusal.Refusal.{Refusal}
use Rattle.wire.specs.declared.refusal.Refusal.TheVariants.{PastEnd, InFixedPart, OddName}
use Rattle.wire.specs.Check.{over_all, on_clear}
use Rattle.wire.specs.Refusal.{moved_by}
use Rattle.field.specs.Field.{field_at, ends_inside, begins_after, even_name, field_bytes}
use Rattle.negotiate_flags.specs.Flags.{unicode, request_target, target_info}
use Rattle.head.specs.Head.{read_head}
use Rattle.av_pairs.specs.AvPairs.{check_pairs}
use Rattle.target_info.specs.TargetInfo.{timestamp_in, contents_of, server_names_in}
use Rattle.read_challenge.specs.declared.Fields.{Fields}
use Rattle.read_challenge.specs.declared.Challenge.{Challenge}
use Rattle.read_challenge.specs.declared.FullChallenge.{FullChallenge}
use Rattle.read_challenge.specs.declared.Answer.{Answer}

-- a fixed part of 48 bytes (house), type 2, flags at 20
abbrev pub layout : Layout
layout = record { fixed = 48; message_type = 2; flags = 20 }

-- the heads at 12 and 40; TargetName counts only with REQUEST_TARGET, TargetInfo only with TARGET_INFO
unfoldable pub fields_at : List ℕ → NegotiateFlags → Fields
fields_at s flags =
    record {
      target_name = field_at s 12 (request_target flags);
      target_info = field_at s 40 (target_info flags);
    }

-- the fields by number, in field order
abbrev pub all_fields : Fields → List (ℕ × Field)
all_fields f = (1, f.target_name) ∷ (2, f.target_info) ∷ []

-- TargetName is the only name
abbrev pub names : Fields → List (ℕ × Field)
names f = (1, f.target_name) ∷ []

-- check 6: each nonempty field ends within the message
unfoldable pub check_ends : ℕ → Fields → Result ⊤ Refusal
check_ends n f = over_all (ends_inside n) PastEnd (all_fields f)

-- check 7: each nonempty field begins after the fixed part
unfoldable pub check_begins : Fields → Result ⊤ Refusal
check_begins f = over_all (begins_after 48) InFixedPart (all_fields f)

-- check 8: with UNICODE, a nonempty TargetName has an even offset and an even length
unfoldable pub check_names : Bool → Fields → Result ⊤ Refusal
check_names unicode f = over_all (even_name unicode) OddName (names f)

-- checks 6, 7 and 8, each over all its fields in field order before the next starts
unfoldable pub check_fields : ℕ → Bool → Fields → Result ⊤ Refusal
check_fields n unicode f =
    on_clear Err (check_ends n f) (
    on_clear Err (check_begins f)
    (check_names unicode f))

-- checks 1 to 5 by number, then 6 to 8
unfoldable pub fields_of : List ℕ → Result Challenge Refusal
fields_of s =
    on_ok Err (read_head layout s) (λ flags.
    on_clear Err (check_fields (length s) (unicode flags) (fields_at s flags))
    (Ok (record { flags = flags; fields = fields_at s flags })))

-- TargetInfo's own bytes
abbrev pub info_of : List ℕ → Challenge → List ℕ
info_of s c = field_bytes s c.fields.target_info

-- a list's verdict within a message: its places are counted from the message, the list's own offset more
abbrev pub in_message : Field → Result ⊤ Refusal → Result ⊤ Refusal
in_message list (Ok tt) = Ok tt
in_message list (Err e) = Err (moved_by list.offset e)

-- checks 10 to 13 over TargetInfo's bytes
unfoldable pub check_info : List ℕ → Challenge → Result ⊤ Refusal
check_info s c = in_message c.fields.target_info (check_pairs (info_of s c))

-- checks 1 to 8, then 10 to 13
unfoldable pub reading_of : List ℕ → Result Challenge Refusal
reading_of s =
    on_ok Err (fields_of s) (λ c.
    on_clear Err (check_info s c)
    (Ok c))

-- TargetInfo's list read: its refusal, and else what it holds
unfoldable pub read_info : List ℕ → Challenge → Result Contents Refusal
read_info s c = on_clear Err (check_info s c) (Ok (contents_of (info_of s c)))

-- a reading with what TargetInfo holds
unfoldable pub full_reading_of : List ℕ → Result FullChallenge Refusal
full_reading_of s =
    on_ok Err (reading_of s) (λ c.
    Ok (record { challenge = c; contents = contents_of (info_of s c) }))

-- ServerChallenge: the eight bytes at 24 of a taken message, else zeros
abbrev pub server_challenge : Result Challenge Refusal → List ℕ → List ℕ
server_challenge (Ok c) s = take 8 (drop 24 s)
server_challenge (Err e) s = replicate 8 0

-- what reading answers
unfoldable pub read_challenge : List ℕ → Answer
read_challenge s = record { reading = reading_of s; server_challenge = server_challenge (reading_of s) s }

-- the timestamp of a taken challenge, or the reading's refusal
unfoldable pub timestamp_of : List ℕ → Result (Option ℕ) Refusal
timestamp_of s = on_ok Err (reading_of s) (λ c. Ok (timestamp_in (info_of s c)))

-- which of pairs 1 and 2 a taken challenge has, or the reading's refusal
unfoldable pub server_names_of : List ℕ → Result ServerNames Refusal
server_names_of s = on_ok Err (reading_of s) (λ c. Ok (server_names_in (info_of s c)))
