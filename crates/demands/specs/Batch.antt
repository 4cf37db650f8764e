-- Document 02, 8/12: "Take the buffer and a lent list of places, each a start, a length and room for its answer. Each also has a mark
-- .. and is read as that kind; its answer is the number, field and pair place that a single call on those bytes gives, all 0 if taken;
-- no other part of the entry changes. Places may overlap or repeat, and an empty list does nothing."
use Rattle.std.specs.Prelude.{Ok, Err, ℕ, ◌+◌, ◌-◌, ◌≤◌, ◌<◌, ◌≡◌, ◌⊎◌, List, [], ◌∷◌, ◌++◌, length, take, drop, get_or, set}
use Rattle.wire.specs.declared.refusal.Refusal.TheVariants.{TooLong}
use Rattle.head.specs.declared.Kind.{Kind}
use Rattle.head.specs.declared.Kind.TheVariants.{Negotiate, Challenge, Authenticate}
use Rattle.batch.specs.declared.Answer.{Answer}
use Rattle.batch.specs.declared.Entry.{Entry}
use Rattle.batch.specs.Batch.{buffer_verdict, filled}
use Rattle.c_number.specs.Number.{verdict_number}
use Rattle.demands.specs.Answers.{is_refused, number_in, field_in, place_in}
use Rattle.demands.specs.Bench.{p1}
use Rattle.demands.specs.Examples.{challenge_message}
use Rattle.demands.specs.Explained.{format_of, TakenAs, RefusedAs}
use Rattle.demands.specs.Message.{Nonempty, Covers, DifferInIgnored}
use Rattle.demands.specs.Secret.{Secret}

-- ---- an entry: its mark is a kind's number, or none's

abbrev pub mark_of : Kind → ℕ
mark_of Negotiate = 1
mark_of Challenge = 2
mark_of Authenticate = 3

abbrev pub Marked : Entry → Kind → Type 0
Marked e k = e.mark ≡ mark_of k

-- it passes the buffer's end, or its message is these bytes
abbrev pub Passes : List ℕ → Entry → Type 0
Passes s e = length s < e.start + e.length

abbrev pub Inside : List ℕ → Entry → Type 0
Inside s e = e.start + e.length ≤ length s

abbrev pub message : List ℕ → Entry → List ℕ
message s e = take e.length (drop e.start s)

-- ---- its answer

abbrev pub AnswerIs : Answer → ℕ → ℕ → ℕ → Type 0
AnswerIs a n i p = (a.number ≡ n) × (a.field ≡ i) × (a.place ≡ p)

pub record EntryAnswered (s : List ℕ) (e after : Entry) : Type 0 where
  -- "no other part of the entry changes"
  pub start : after.start ≡ e.start
  pub len : after.length ≡ e.length
  pub mark : after.mark ≡ e.mark
  -- "54 with field and place 0, before all others, if start plus length passes the buffer's end", and only then
  pub outside : Passes s e → AnswerIs after.answer 54 0 0
  pub only_outside : after.answer.number ≡ 54 → Passes s e
  -- all 0 if taken, and only then
  pub taken : Inside s e → (k : Kind) → Marked e k → TakenAs k (message s e) → AnswerIs after.answer 0 0 0
  pub only_taken : Inside s e → (k : Kind) → Marked e k → after.answer.number ≡ 0 → TakenAs k (message s e)
  -- the number, field and pair place that a single call on those bytes gives, the place counted in the message
  pub refused : Inside s e → (k : Kind) → Marked e k → (n i p : ℕ) → RefusedAs k (message s e) n i p → AnswerIs after.answer n i p
  pub only_refused : Inside s e → (k : Kind) → Marked e k → 0 < after.answer.number →
      RefusedAs k (message s e) after.answer.number after.answer.field after.answer.place
  -- a mark that is no kind's: 4
  pub no_kind : Inside s e → ((k : Kind) → Marked e k → ⊥) → AnswerIs after.answer 4 0 0

-- two lists of one length, entry by entry
abbrev pub Each : {A : Type 0} → (A → A → Type 0) → List A → List A → Type 0
Each R [] [] = Unit
Each R (x ∷ xs) (y ∷ ys) = R x y × Each R xs ys
Each R [] (y ∷ ys) = ⊥
Each R (x ∷ xs) [] = ⊥

-- ---- the call: "1 for the buffer, changing no entry"

-- from C, by the header's macros: 1 with field and place 0
pub record DecodesTooLong (answer : ℕ) : Type 0 where
  pub top_bit : is_refused answer ≡ 1
  pub number : number_in answer ≡ 1
  pub field : field_in answer ≡ 0
  pub place : place_in answer ≡ 0

abbrev pub BatchAnswers : Type 0
BatchAnswers =
    (s : List ℕ) (es : List Entry) →
    (length s ≤ 65535 → (buffer_verdict s ≡ Ok tt) × (verdict_number (buffer_verdict s) ≡ 0) × Each (EntryAnswered s) es (filled s es))
    × (65535 < length s → (buffer_verdict s ≡ Err TooLong) × DecodesTooLong (verdict_number (buffer_verdict s)) × (filled s es ≡ es))

-- ---- "Demand 3 here reads: two buffers of one length that differ only inside the secrets that count, or a MIC that is there, of
-- ---- listed AUTHENTICATE messages, and in no byte that any listed message has as a name, in its first 64 bytes or in a challenge, get
-- ---- equal answers for equal lists."

abbrev pub Listed : Entry → List Entry → Type 0
Listed e [] = ⊥
Listed e (x ∷ xs) = (e ≡ x) ⊎ Listed e xs

-- the byte at p of the buffer is one of the message's
abbrev pub InMessage : Entry → ℕ → Type 0
InMessage e p = (e.start ≤ p) × (p < e.start + e.length)

-- the names of each kind
abbrev pub NameOf : Kind → ℕ → Type 0
NameOf Negotiate i = (i ≡ 1) ⊎ (i ≡ 2)
NameOf Challenge i = i ≡ 1
NameOf Authenticate i = (3 ≤ i) × (i ≤ 5)

-- a byte of a listed message in which the two buffers may not differ
pub data Open (s : List ℕ) (e : Entry) (p : ℕ) : Type 0 where
  in_name : (k : Kind) (i : ℕ) → Marked e k → NameOf k i → (format_of k).fixed ≤ length (message s e) →
      Nonempty (format_of k) (message s e) i → Covers (format_of k) (message s e) i (p - e.start) → Open s e p
  in_first_64 : p < e.start + 64 → Open s e p
  in_challenge : Marked e Challenge → Open s e p

module _ (es : List Entry) (s : List ℕ) where
  -- the byte at p is inside a secret that counts, or a MIC that is there, of a listed AUTHENTICATE message
  pub record ListedSecret (p : ℕ) : Type 0 where
    pub entry : Entry
    pub listed : Listed entry es
    pub marked : Marked entry Authenticate
    pub within : InMessage entry p
    pub secret : Secret (message s entry) (p - entry.start)

  pub record DifferInListedSecrets (t : List ℕ) : Type 0 where
    pub length_same : length s ≡ length t
    pub only_secrets : (p : ℕ) → (get_or s p 0 ≡ get_or t p 0) ⊎ ListedSecret p
    pub open_same : (e : Entry) → Listed e es → Inside s e → (p : ℕ) → InMessage e p → Open s e p → get_or s p 0 ≡ get_or t p 0

  -- demand 2: two buffers of one length in which each listed message differs only in ignored bytes
  pub record DifferInListedIgnored (t : List ℕ) : Type 0 where
    pub length_same : length s ≡ length t
    pub messages : (e : Entry) → Listed e es → Inside s e → (k : Kind) → Marked e k → DifferInIgnored (format_of k) (message s e) (message t e)

-- equal answers, of the call (of which C's number is made) and of each entry
abbrev pub SameBatch : List Entry → List ℕ → List ℕ → Type 0
SameBatch es s t = (buffer_verdict s ≡ buffer_verdict t) × (filled s es ≡ filled t es)

abbrev pub SecretBatch : Type 0
SecretBatch = (es : List Entry) (s t : List ℕ) → DifferInListedSecrets es s t → SameBatch es s t

abbrev pub BatchIgnored : Type 0
BatchIgnored = (es : List Entry) (s t : List ℕ) → DifferInListedIgnored es s t → SameBatch es s t

-- ---- the theorems speak of something

-- a challenge, and P1 after it, each listed; the old answers are some numbers
abbrev pub two_messages : List ℕ
two_messages = challenge_message ++ p1

abbrev entry_at : ℕ → ℕ → ℕ → Entry
entry_at start len mark = record { start = start; length = len; mark = mark; answer = record { number = 7; field = 8; place = 9 } }

abbrev answered_as : Entry → ℕ → ℕ → ℕ → Entry
answered_as e n i p = record { start = e.start; length = e.length; mark = e.mark; answer = record { number = n; field = i; place = p } }

abbrev pub two_entries : List Entry
two_entries = entry_at 0 100 2 ∷ entry_at 100 120 3 ∷ []

-- another first byte of P1's NT response
abbrev pub other_secret_buffer : List ℕ
other_secret_buffer = set two_messages 196 0xBB

-- another MaxLen of the challenge's first field
abbrev pub other_ignored_buffer : List ℕ
other_ignored_buffer = set two_messages 14 0xFF

-- the challenge with length 5 in its second pair, at 76 of the message, after one byte
abbrev faulty : List ℕ
faulty = 0 ∷ set challenge_message 78 5

pub record BatchExample : Type 0 where
  pub differ : DifferInListedSecrets two_entries two_messages other_secret_buffer × (two_messages ≡ other_secret_buffer → ⊥)
  pub ignored : DifferInListedIgnored two_entries two_messages other_ignored_buffer × (two_messages ≡ other_ignored_buffer → ⊥)
  -- both taken; P1 read as a challenge, which it isn't; a place past the end by one; the end itself with no bytes; a mark of 4
  pub answers : filled two_messages (two_entries ++ (entry_at 100 120 2 ∷ entry_at 100 121 3 ∷ entry_at 220 0 3 ∷ entry_at 0 100 4 ∷ [])) ≡
      (answered_as (entry_at 0 100 2) 0 0 0 ∷ answered_as (entry_at 100 120 3) 0 0 0 ∷ answered_as (entry_at 100 120 2) 4 0 0
      ∷ answered_as (entry_at 100 121 3) 54 0 0 ∷ answered_as (entry_at 220 0 3) 2 0 0 ∷ answered_as (entry_at 0 100 4) 4 0 0 ∷ [])
  -- the pair place counts from the entry's message
  pub in_message : filled faulty (entry_at 1 100 2 ∷ []) ≡ (answered_as (entry_at 1 100 2) 13 2 76 ∷ [])
