-- AUTHENTICATE_MESSAGE (MS-NLMP 2.2.1.3), read as document 01 sets it out.
use Rattle.wire.specs.Check.{on_ok}
use Rattle.read_authenticate.specs.declared.Authenticate.{Authenticate}
use Rattle.wire.specs.declared.refusal.Refusal.{Refusal}
use Rattle.std.specs.Prelude.{Result, Ok, Err, ⊤, ℕ, min, Bool, true, ◌||◌, not, cond, List, [], ◌∷◌, leb, length, take, drop, replicate}
use Rattle.wire.specs.declared.check.Checked.{Checked}
use Rattle.field.specs.declared.Field.{Field}
use Rattle.negotiate_flags.specs.declared.NegotiateFlags.{NegotiateFlags}
use Rattle.head.specs.declared.Layout.{Layout}
use Rattle.wire.specs.declared.refusal.Refusal.TheVariants.{PastEnd, InFixedPart, OddName, NameOverSecret}
use Rattle.wire.specs.Check.{checked, over_all, on_clear}
use Rattle.field.specs.Field.{is_empty, field_at, ends_inside, begins_after, even_name, share}
use Rattle.negotiate_flags.specs.Flags.{unicode, key_exch}
use Rattle.head.specs.Head.{read_head}
use Rattle.read_authenticate.specs.declared.Fields.{Fields}
use Rattle.read_authenticate.specs.declared.Answer.{Answer}

-- a fixed part of 64 bytes (house), type 3, flags at 60
abbrev pub layout : Layout
layout = record { fixed = 64; message_type = 3; flags = 60 }

-- the heads at 12, 20, 28, 36, 44 and 52; the session key counts only with KEY_EXCH
unfoldable pub fields_at : List ℕ → NegotiateFlags → Fields
fields_at s flags =
    record {
      lm = field_at s 12 true;
      nt = field_at s 20 true;
      domain = field_at s 28 true;
      user = field_at s 36 true;
      workstation = field_at s 44 true;
      key = field_at s 52 (key_exch flags);
    }

-- the fields by number, in field order
abbrev pub all_fields : Fields → List (ℕ × Field)
all_fields f =
    (1, f.lm) ∷ (2, f.nt) ∷ (3, f.domain) ∷ (4, f.user) ∷ (5, f.workstation) ∷ (6, f.key) ∷ []

-- fields 3, 4 and 5 are names; 1, 2 and 6 are secrets
abbrev pub names : Fields → List (ℕ × Field)
names f = (3, f.domain) ∷ (4, f.user) ∷ (5, f.workstation) ∷ []

-- check 6: each nonempty field ends within the message
unfoldable pub check_ends : ℕ → Fields → Result ⊤ Refusal
check_ends n f = over_all (ends_inside n) PastEnd (all_fields f)

-- check 7: each nonempty field begins after the fixed part
unfoldable pub check_begins : Fields → Result ⊤ Refusal
check_begins f = over_all (begins_after 64) InFixedPart (all_fields f)

-- check 8: with UNICODE, each nonempty name has an even offset and an even length
unfoldable pub check_names : Bool → Fields → Result ⊤ Refusal
check_names unicode f = over_all (even_name unicode) OddName (names f)

-- check 9 at one name: it shares no byte with a secret
abbrev pub apart : Fields → Field → Checked
apart f name = checked (not ((share name f.lm || share name f.nt) || share name f.key))

-- check 9: each name
unfoldable pub check_shared : Fields → Result ⊤ Refusal
check_shared f = over_all (apart f) NameOverSecret (names f)

-- the lowest offset of a nonempty field, or n if all are empty
abbrev pub lowest_offset : List (ℕ × Field) → ℕ → ℕ
lowest_offset [] n = n
lowest_offset (f ∷ fs) n =
    cond (is_empty f.1) (lowest_offset fs n) (min f.1.offset (lowest_offset fs f.1.offset))

-- the MIC is present exactly when that is at least 88, for a message of n bytes
unfoldable pub mic_present : ℕ → Fields → Bool
mic_present n f = leb 88 (lowest_offset (all_fields f) n)

-- checks 6, 7, 8 and 9, each over all its fields in field order before the next starts
unfoldable pub check_fields : ℕ → Bool → Fields → Result ⊤ Refusal
check_fields n unicode f =
    on_clear Err (check_ends n f) (
    on_clear Err (check_begins f) (
    on_clear Err (check_names unicode f)
    (check_shared f)))

-- checks 1 to 5 by number, then 6 to 9
unfoldable pub reading_of : List ℕ → Result Authenticate Refusal
reading_of s =
    on_ok Err (read_head layout s) (λ flags.
    on_clear Err (check_fields (length s) (unicode flags) (fields_at s flags))
    (Ok (record {
      flags = flags;
      fields = fields_at s flags;
      mic_present = mic_present (length s) (fields_at s flags);
    })))

-- the MIC's bytes: the sixteen at 72 where it is present, else zeros
abbrev pub mic_bytes : Result Authenticate Refusal → List ℕ → List ℕ
mic_bytes (Ok a) s = cond a.mic_present (take 16 (drop 72 s)) (replicate 16 0)
mic_bytes (Err e) s = replicate 16 0

-- what reading answers
unfoldable pub read_authenticate : List ℕ → Answer
read_authenticate s = record { reading = reading_of s; mic = mic_bytes (reading_of s) s }
