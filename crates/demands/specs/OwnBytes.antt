-- Demand 2: "each field handed out is that field's own bytes".
use Rattle.std.specs.Prelude.{Ok, Err, Some, None, ℕ, ◌+◌, ◌-◌, ◌%◌, ◌≤◌, ◌<◌, ◌≡◌, true, ◌⊎◌, ◌↔◌, List, [], length, take, drop, replicate}
use Rattle.av_id.specs.declared.AvId.{AvId}
use Rattle.field.specs.declared.Field.{Field}
use Rattle.wire.specs.declared.refusal.Refusal.{Refusal}
use Rattle.field.specs.Field.{field_bytes}
use Rattle.wire.specs.Number.{u32_at, u64_at}
use Rattle.read_authenticate.specs.declared.Authenticate.{Authenticate}
use Rattle.read_authenticate.specs.Authenticate.{read_authenticate}
use Rattle.av_pairs.specs.declared.AvPair.{AvPair}
use Rattle.target_info.specs.TargetInfo.{find_pair}
use Rattle.read_challenge.specs.declared.Challenge.{Challenge}
use Rattle.target_info.specs.declared.ServerNames.{ServerNames}
use Rattle.read_challenge.specs.Challenge.{read_challenge, timestamp_of, server_names_of}
use Rattle.read_negotiate.specs.declared.Negotiate.{Negotiate}
use Rattle.read_negotiate.specs.Negotiate.{read_negotiate}
use Rattle.read_nl_auth.specs.declared.NlAuth.{NlAuth}
use Rattle.read_nl_auth.specs.declared.string.NlString.{NlString}
use Rattle.read_nl_auth.specs.NlAuth.{no_string, string_bytes, labels_of, read_nl_auth}
use Rattle.read_dns_name.specs.Rfc1035.{NameAt}
use Rattle.demands.specs.NlAuth.{type_of, mask_of, BitSet, ZeroAt, StartsAt}
use Rattle.demands.specs.Message.{Format, negotiate, authenticate, challenge, len_of, max_len_of, offset_of, Counts, Nonempty, MicThere}
use Rattle.demands.specs.PairList.{size_of, FirstWith, PairThere}
use Rattle.demands.specs.TakenExactly.{InfoBytes}

-- field i of s is handed out as f: the Len bytes from its offset on and nothing else; a field that is empty or doesn't
-- count has none, and place 0. Its MaxLen is its head's, "which is 0 where the field doesn't count" (document 02, 9/12)
pub record OwnField (k : Format) (s : List ℕ) (i : ℕ) (f : Field) : Type 0 where
  pub place : Nonempty k s i → (f.offset ≡ offset_of k s i) × (f.len ≡ len_of k s i)
  pub whole : Nonempty k s i → offset_of k s i + len_of k s i ≤ length s
  pub bytes : Nonempty k s i → field_bytes s f ≡ take (len_of k s i) (drop (offset_of k s i) s)
  pub none : (Nonempty k s i → ⊥) → (f.offset ≡ 0) × (f.len ≡ 0) × (field_bytes s f ≡ [])
  pub max_len : Counts k s i → f.max_len ≡ max_len_of k s i
  pub no_max_len : (Counts k s i → ⊥) → f.max_len ≡ 0

-- what a taken AUTHENTICATE message is answered with
pub record OwnAnswer (s : List ℕ) (a : Authenticate) : Type 0 where
  pub flags : a.flags.bits ≡ u32_at s 60
  pub lm : OwnField authenticate s 1 a.fields.lm
  pub nt : OwnField authenticate s 2 a.fields.nt
  pub domain : OwnField authenticate s 3 a.fields.domain
  pub user : OwnField authenticate s 4 a.fields.user
  pub workstation : OwnField authenticate s 5 a.fields.workstation
  pub key : OwnField authenticate s 6 a.fields.key
  pub mic_present_is : (a.mic_present ≡ true) ↔ MicThere authenticate s
  pub mic_bytes_is : MicThere authenticate s → (read_authenticate s).mic ≡ take 16 (drop 72 s)
  pub mic_zeros : (MicThere authenticate s → ⊥) → (read_authenticate s).mic ≡ replicate 16 0

abbrev pub AuthenticateOwn : Type 0
AuthenticateOwn = (s : List ℕ) (a : Authenticate) → (read_authenticate s).reading ≡ Ok a → OwnAnswer s a

-- a refused message has no MIC bytes either
abbrev pub AuthenticateRefusedMic : Type 0
AuthenticateRefusedMic =
    (s : List ℕ) (e : Refusal) → (read_authenticate s).reading ≡ Err e → (read_authenticate s).mic ≡ replicate 16 0

-- what a taken NEGOTIATE message is answered with
pub record OwnNegotiate (s : List ℕ) (m : Negotiate) : Type 0 where
  pub flags : m.flags.bits ≡ u32_at s 12
  pub domain : OwnField negotiate s 1 m.fields.domain
  pub workstation : OwnField negotiate s 2 m.fields.workstation

abbrev pub NegotiateOwn : Type 0
NegotiateOwn = (s : List ℕ) (m : Negotiate) → read_negotiate s ≡ Ok m → OwnNegotiate s m

-- what a taken CHALLENGE message is answered with
pub record OwnChallenge (s : List ℕ) (c : Challenge) : Type 0 where
  pub flags : c.flags.bits ≡ u32_at s 20
  pub target_name : OwnField challenge s 1 c.fields.target_name
  pub target_info_is : OwnField challenge s 2 c.fields.target_info
  pub server_challenge_is : (read_challenge s).server_challenge ≡ take 8 (drop 24 s)

abbrev pub ChallengeOwn : Type 0
ChallengeOwn = (s : List ℕ) (c : Challenge) → (read_challenge s).reading ≡ Ok c → OwnChallenge s c

abbrev pub ChallengeRefusedZeros : Type 0
ChallengeRefusedZeros =
    (s : List ℕ) (e : Refusal) → (read_challenge s).reading ≡ Err e → (read_challenge s).server_challenge ≡ replicate 8 0

-- a pair that a search hands out is the first with its id, with that pair's own place and length
pub record OwnPair (s : List ℕ) (id : ℕ) (p : AvPair) : Type 0 where
  pub place : ℕ
  pub first : FirstWith s id place 0
  pub id_same : p.id.id ≡ id
  pub value : p.at ≡ place + 4
  pub size : p.len ≡ size_of s place
  pub whole : p.at + p.len ≤ length s

abbrev pub FoundOwn : Type 0
FoundOwn = (s : List ℕ) (a : AvId) (p : AvPair) → find_pair a s ≡ Ok (Some p) → OwnPair s a.id p

-- and where it hands out none, none has the id
abbrev pub NothingThere : Type 0
NothingThere = (s : List ℕ) (a : AvId) → find_pair a s ≡ Ok None → (place : ℕ) → FirstWith s a.id place 0 → ⊥

-- the timestamp is the value of TargetInfo's first pair 7, as a number; where there is none, there is no pair 7
abbrev pub TimestampOwn : Type 0
TimestampOwn =
    (s b : List ℕ) → InfoBytes s b → (time : ℕ) → timestamp_of s ≡ Ok (Some time) →
    (place : ℕ) × FirstWith b 7 place 0 × (time ≡ u64_at b (place + 4))

abbrev pub NoTimestampThere : Type 0
NoTimestampThere =
    (s b : List ℕ) → InfoBytes s b → timestamp_of s ≡ Ok None → (place : ℕ) → FirstWith b 7 place 0 → ⊥

-- pairs 1 and 2 are said to be there exactly when they are
abbrev pub ServerNamesOwn : Type 0
ServerNamesOwn =
    (s b : List ℕ) → InfoBytes s b → (names : ServerNames) → server_names_of s ≡ Ok names →
    ((names.nb_computer_name ≡ true) ↔ PairThere b 1)
    × ((names.nb_domain_name ≡ true) ↔ PairThere b 2)

-- string i, A or B, of a request is handed out as x: under a set bit the bytes from where it stands up to its first zero byte,
-- also where these are none; under a clear bit none, and place 0; and no jumps
pub record OwnString (s : List ℕ) (i : ℕ) (x : NlString) : Type 0 where
  pub there : BitSet s (mask_of i) →
      (p q : ℕ) × StartsAt s i p × ZeroAt s p q × (x.offset ≡ p) × (x.len ≡ q - p) × (string_bytes s x ≡ take (q - p) (drop p s))
  pub none : (BitSet s (mask_of i) → ⊥) → (x.offset ≡ 0) × (x.len ≡ 0) × (string_bytes s x ≡ [])
  pub no_jumps : x.jumps ≡ 0

-- string i, C, D or E, is the name that stands there: "A string's own bytes run to where the next starts", and its labels and the
-- jumps taken are the name's
pub record NameThere (s : List ℕ) (i : ℕ) (x : NlString) : Type 0 where
  pub next : ℕ
  pub starts : StartsAt s i x.offset
  pub name : NameAt (drop 8 s) (x.offset - 8) (labels_of s x) x.jumps next
  pub whole : x.offset + x.len ≡ 8 + next
  pub bytes : string_bytes s x ≡ take (8 + next - x.offset) (drop x.offset s)
  pub few : x.jumps ≤ 16

pub record OwnName (s : List ℕ) (i : ℕ) (x : NlString) : Type 0 where
  pub there : BitSet s (mask_of i) → NameThere s i x
  pub none : (BitSet s (mask_of i) → ⊥) → (x.offset ≡ 0) × (x.len ≡ 0) × (x.jumps ≡ 0) × (string_bytes s x ≡ [])

-- a taken request: flags are bits A to E
pub record OwnRequest (s : List ℕ) (m : NlAuth) : Type 0 where
  pub message_type : m.message_type ≡ 0
  pub flags : m.flags.bits ≡ u32_at s 4 % 32
  pub a : OwnString s 1 m.strings.nb_domain
  pub b : OwnString s 2 m.strings.nb_computer
  pub c : OwnName s 3 m.strings.dns_domain
  pub d : OwnName s 4 m.strings.dns_host
  pub e : OwnName s 5 m.strings.utf8_computer

-- a taken response: flags zero, every string empty at place 0
pub record OwnResponse (s : List ℕ) (m : NlAuth) : Type 0 where
  pub message_type : m.message_type ≡ 1
  pub flags : m.flags.bits ≡ 0
  pub a : m.strings.nb_domain ≡ no_string
  pub b : m.strings.nb_computer ≡ no_string
  pub c : m.strings.dns_domain ≡ no_string
  pub d : m.strings.dns_host ≡ no_string
  pub e : m.strings.utf8_computer ≡ no_string
  pub no_bytes : string_bytes s no_string ≡ []

abbrev pub NlAuthOwn : Type 0
NlAuthOwn =
    (s : List ℕ) (m : NlAuth) → read_nl_auth s ≡ Ok m →
    ((type_of s ≡ 0) × OwnRequest s m) ⊎ ((type_of s ≡ 1) × OwnResponse s m)

-- the bytes of any record of an offset and a length, whoever made it: those of the message, and none where it doesn't lie within
pub record RecordBytes (s : List ℕ) (offset len : ℕ) (bytes : List ℕ) : Type 0 where
  pub within : offset + len ≤ length s → bytes ≡ take len (drop offset s)
  pub outside : length s < offset + len → bytes ≡ []

abbrev pub FieldRecordBytes : Type 0
FieldRecordBytes = (s : List ℕ) (f : Field) → RecordBytes s f.offset f.len (field_bytes s f)

abbrev pub StringRecordBytes : Type 0
StringRecordBytes = (s : List ℕ) (x : NlString) → RecordBytes s x.offset x.len (string_bytes s x)
