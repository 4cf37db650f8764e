-- Document 02, 11/12: "Read an AUTHENTICATE and write it by document 01's layout, with zero Version, a missing MIC as sixteen
-- zeros, and a field that doesn't count as empty. Meaning is the flags, the six fields' bytes and the MIC so read. Show that two
-- messages which are both tidied come out equal exactly when their meanings are equal, and that tidying what came out gives it
-- again."
use Rattle.std.specs.Prelude.{Ok, Err, ℕ, ◌+◌, ◌/◌, ◌%◌, ◌≤◌, ◌≡◌, cond, ◌⊎◌, ◌↔◌, List, [], ◌∷◌, ◌++◌, eqb, length, take, replicate}
use Rattle.std.proofs.lemmas.List.Edits.{sets}
use Rattle.wire.specs.declared.refusal.Refusal.TheVariants.{TooShort, WrongKey, NoRoom}
use Rattle.wire.specs.Number.{u32_at}
use Rattle.field.specs.Field.{field_bytes}
use Rattle.read_authenticate.specs.declared.Authenticate.{Authenticate}
use Rattle.read_authenticate.specs.Authenticate.{read_authenticate}
use Rattle.head.specs.declared.Kind.TheVariants.{Authenticate as AsAuthenticate}
use Rattle.verdict.specs.Verdict.{read_as}
use Rattle.c_number.specs.Number.{written_number}
use Rattle.write_canonical.specs.Canonical.{Meaning, canonical_answer, canonical_out}
use Rattle.demands.specs.Answers.{DecodesWritten}
use Rattle.demands.specs.Bench.{p1}
use Rattle.demands.specs.LaidOut.{LaidOut}
use Rattle.demands.specs.Message.{authenticate, len_of, Nonempty, Fails, DifferInIgnored}
use Rattle.demands.specs.Order.{check}
use Rattle.demands.specs.Kept.{Kept}
use Rattle.demands.specs.Secret.{DifferInSecrets, AlikeOutside}
use Rattle.demands.specs.TakenExactly.{IsTaken}
use Rattle.demands.specs.WrittenExactly.{WritingRefusedWith, WrittenExactly, Fails30, Fails33}

-- ---- meaning

-- a message that is taken means this: its flags, its MIC's bytes (zeros where there is none) and each field's own bytes
pub record Means (s : List ℕ) (m : Meaning) : Type 0 where
  pub message : Authenticate
  pub read : (read_authenticate s).reading ≡ Ok message
  pub flags : message.flags.bits ≡ m.flags.bits
  pub mic : (read_authenticate s).mic ≡ m.mic
  pub lm : field_bytes s message.fields.lm ≡ m.lm
  pub nt : field_bytes s message.fields.nt ≡ m.nt
  pub domain : field_bytes s message.fields.domain ≡ m.domain
  pub user : field_bytes s message.fields.user ≡ m.user
  pub workstation : field_bytes s message.fields.workstation ≡ m.workstation
  pub key : field_bytes s message.fields.key ≡ m.key

-- every taken message means something, and one thing only
abbrev pub MeaningIsThere : Type 0
MeaningIsThere = (s : List ℕ) → IsTaken (read_as AsAuthenticate s) → (m : Meaning) × Means s m

abbrev pub OneMeaning : Type 0
OneMeaning = (s : List ℕ) (m n : Meaning) → Means s m → Means s n → m ≡ n

-- ---- what comes out

-- s is written as w: into some output, whose first bytes are then w
pub record WrittenAs (s w : List ℕ) : Type 0 where
  pub out : List ℕ
  pub size : ℕ
  pub answer : canonical_answer (length out) s ≡ Ok size
  pub bytes : take size (canonical_out out s) ≡ w

-- two messages which are both written so come out equal exactly when their meanings are equal, whatever their outputs were
abbrev pub OneWriting : Type 0
OneWriting =
    (s t w x : List ℕ) (m n : Meaning) (p : Means s m) (q : Means t n) → WrittenAs s w → WrittenAs t x →
    (w ≡ x) ↔ (m ≡ n)

-- writing what came out gives it again, with every room that suffices
abbrev pub WrittenAgain : Type 0
WrittenAgain =
    (s w out : List ℕ) → WrittenAs s w → length w ≤ length out →
    (canonical_answer (length out) w ≡ Ok (length w)) × (take (length w) (canonical_out out w) ≡ w)

-- what came out means what the message means
abbrev pub MeaningBack : Type 0
MeaningBack = (s w : List ℕ) (m : Meaning) → Means s m → WrittenAs s w → Means w m

-- and is laid out as document 01 says, with zero Version, also where VERSION is set
abbrev pub WrittenByLayout : Type 0
WrittenByLayout =
    (s w : List ℕ) (m : Meaning) → Means s m → WrittenAs s w →
    LaidOut w m.flags.bits (replicate 8 0) m.mic m.lm m.nt m.domain m.user m.workstation m.key

-- ---- by what it is refused

-- the session key's length, where it counts
abbrev pub key_len : List ℕ → ℕ
key_len s = cond (eqb (u32_at s 60 / 0x40000000 % 2) 1) (len_of authenticate s 6) 0

-- how many bytes come out, by the message's heads
abbrev pub canonical_size : List ℕ → ℕ
canonical_size s =
    88 + (len_of authenticate s 3 + (len_of authenticate s 4 + (len_of authenticate s 5 + (len_of authenticate s 1 + (len_of authenticate s 2 + key_len s)))))

-- "Refusals: the reading ones, then 32, 30, 33": check n fails at field i
abbrev pub CanonicalFails : ℕ → List ℕ → ℕ → ℕ → Type 0
CanonicalFails room s n i =
    check 32 n ((i ≡ 6) × Nonempty authenticate s 6 × (len_of authenticate s 6 ≡ 16 → ⊥)) (
    check 30 n (Fails30 (canonical_size s) i) (
    check 33 n (Fails33 room (canonical_size s) i)
    (Fails authenticate s n i)))

abbrev pub canonical_order : List ℕ
canonical_order = 1 ∷ 2 ∷ 3 ∷ 4 ∷ 5 ∷ 6 ∷ 7 ∷ 8 ∷ 9 ∷ 32 ∷ 30 ∷ 33 ∷ []

-- each refusal exactly when, and the length that is answered
abbrev pub CanonicalIsWritten : Type 0
CanonicalIsWritten =
    (room : ℕ) (s : List ℕ) → WrittenExactly (canonical_answer room s) canonical_order (CanonicalFails room s) (canonical_size s)

-- a message that is taken is refused by no other check of the writer's: 5 and 31 can't come
abbrev pub NoOtherRefusal : Type 0
NoOtherRefusal =
    (room : ℕ) (s : List ℕ) (n i : ℕ) → IsTaken (read_as AsAuthenticate s) →
    WritingRefusedWith (canonical_answer room s) n i → (n ≡ 32) ⊎ ((n ≡ 30) ⊎ (n ≡ 33))

-- ---- demands 1 to 3 for this call

-- a refusal changes no byte of the output, and a success only those of the message
abbrev pub CanonicalKept : Type 0
CanonicalKept = (out s : List ℕ) → Kept (canonical_answer (length out) s) out (canonical_out out s)

-- the same answer and the same output
pub record SameCanonical (s t : List ℕ) : Type 0 where
  pub answer : (room : ℕ) → canonical_answer room s ≡ canonical_answer room t
  pub output : (out : List ℕ) → canonical_out out s ≡ canonical_out out t

-- it goes by the meaning alone
abbrev pub CanonicalByMeaning : Type 0
CanonicalByMeaning = (s t : List ℕ) (m : Meaning) → Means s m → Means t m → SameCanonical s t

-- MaxLen and ignored bytes change nothing
abbrev pub CanonicalIgnored : Type 0
CanonicalIgnored = (s t : List ℕ) → DifferInIgnored authenticate s t → SameCanonical s t

-- demand 3: what comes out holds the secrets, for the caller alone. Of two messages that differ in secrets only, both get the same
-- length or the same refusal, and what comes out is alike outside the secrets' places
pub record SecretsWritten (s t : List ℕ) : Type 0 where
  pub answer : (room : ℕ) → canonical_answer room s ≡ canonical_answer room t
  pub message : (out out' : List ℕ) (n : ℕ) → length out ≡ length out' → canonical_answer (length out) s ≡ Ok n →
      AlikeOutside (take n (canonical_out out s)) (take n (canonical_out out' t))

abbrev pub CanonicalSecret : Type 0
CanonicalSecret = (s t : List ℕ) → DifferInSecrets s t → SecretsWritten s t

-- ---- from C

-- what is written has at most 65,535 bytes, and the header's macros take the length or the refusal out of the answer
abbrev pub CanonicalShort : Type 0
CanonicalShort = (room : ℕ) (s : List ℕ) (n : ℕ) → canonical_answer room s ≡ Ok n → n ≤ 65535

abbrev pub CanonicalDecodes : Type 0
CanonicalDecodes = (room : ℕ) (s : List ℕ) → DecodesWritten (written_number (canonical_answer room s)) (canonical_answer room s)

-- ---- the theorems speak of something: P1 is its own canonical form

-- P1 with another MaxLen of the NT response, another Version, and a head of a session key, which doesn't count
abbrev otherwise : List ℕ
otherwise = sets (sets (sets p1 22 (0xFF ∷ 0xFF ∷ [])) 64 (0x06 ∷ 0x01 ∷ 0xB1 ∷ 0x1D ∷ 0x00 ∷ 0x00 ∷ 0x00 ∷ 0x0F ∷ [])) 52 (0x08 ∷ 0x00 ∷ [])

-- the same with KEY_EXCH, where the key counts: its eight bytes are at 96
abbrev short_key : List ℕ
short_key = sets (sets otherwise 56 (0x60 ∷ [])) 63 (0x40 ∷ [])

-- P1's fields after 64 bytes, the NT response before the user, and no MIC
abbrev without_mic : List ℕ
without_mic = sets (sets (take 64 p1) 24 (0x40 ∷ [])) 40 (0x58 ∷ []) ++ (replicate 24 0xAA ++ (0x62 ∷ 0x00 ∷ 0x6F ∷ 0x00 ∷ 0x78 ∷ 0x00 ∷ 0x37 ∷ 0x00 ∷ []))

pub record CanonicalExample : Type 0 where
  pub answer : canonical_answer 122 p1 ≡ Ok 120
  -- into an output of 122 bytes FF
  pub itself : canonical_out (replicate 122 0xFF) p1 ≡ p1 ++ (0xFF ∷ 0xFF ∷ [])
  pub tidied : canonical_out (replicate 120 0xFF) otherwise ≡ p1
  pub without_mic_is : canonical_out (replicate 120 0xFF) without_mic ≡ p1
  pub short_key_is : canonical_answer 120 short_key ≡ Err WrongKey
  pub no_room : canonical_answer 119 p1 ≡ Err NoRoom
  pub kept : canonical_out (replicate 119 0xFF) p1 ≡ replicate 119 0xFF
  pub reading_first : canonical_answer 0 (take 63 p1) ≡ Err TooShort
