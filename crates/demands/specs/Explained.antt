-- Document 02, 4/12: "print the checks of the type that the NTLM program reads it as, one to a line .. The named check fails by its
-- definition at that field and pair, each one printed before it held up to there, each after it is not reached, and number, field
-- and at are what the reader returns. An accepted message shows all held."
use Rattle.std.specs.Prelude.{ℕ, ◌+◌, ◌≤◌, ◌<◌, min, ◌≡◌, ◌&&◌, cond, ◌⊎◌, List, [], ◌∷◌, ◌++◌, leb, length, get_or}
use Prim.Native.String.{String}
use Rattle.std.proofs.lemmas.List.Edits.{sets}
use Rattle.wire.specs.Text.{ascii}
use Rattle.line_words.specs.Digits.{decimal}
use Rattle.place.specs.Written.{bytes_answer}
use Rattle.head.specs.declared.Kind.{Kind}
use Rattle.head.specs.declared.Kind.TheVariants.{Negotiate, Challenge, Authenticate}
use Rattle.head.specs.Head.{kind_of}
use Rattle.verdict.specs.Verdict.{read_as}
use Rattle.c_number.specs.Number.{written_number}
use Rattle.explain.specs.Explain.{explanation}
use Rattle.demands.specs.Answers.{DecodesWritten}
use Rattle.demands.specs.Bench.{p1}
use Rattle.demands.specs.Examples.{negotiate_message, challenge_message}
use Rattle.demands.specs.Ignored.{DifferAsRead}
use Rattle.demands.specs.Message.{Format, negotiate, authenticate, challenge, len_of, offset_of, Fails}
use Rattle.demands.specs.Order.{rank_in, check}
use Rattle.demands.specs.PairList.{id_of, size_of, next_of, PairAt, Fails10, Fails11, Fails12, Fails13}
use Rattle.demands.specs.Secret.{DifferInSecrets}
use Rattle.demands.specs.TakenExactly.{IsTaken, RefusedWith, InfoBytes}

-- ---- what is printed

-- the figures of the check that failed: of its field, of the message, and of its pair
pub record Figures : Type 0 where
  pub field : ℕ
  pub offset : ℕ
  pub len : ℕ
  pub message : ℕ
  pub at : ℕ
  pub id : ℕ
  pub size : ℕ

pub data State : Type 0 where
  held : State
  failed : Figures → State
  not_reached : State

-- a label and D
abbrev pub word : List ℕ → ℕ → List ℕ
word label n = label ++ decimal n

abbrev pub pair_text : ℕ → Figures → List ℕ
pair_text n f =
    cond (leb 10 n && leb n 13)
    (word (ascii " at=") f.at ++ (word (ascii " id=") f.id ++ word (ascii " size=") f.size))
    []

-- `check D held`, `check D not reached`, `check D failed field=D offset=D length=D message=D`, for 10 to 13 ` at=D id=D size=D`
abbrev pub line_text : ℕ → State → List ℕ
line_text n held = word (ascii "check ") n ++ (ascii " held" ++ (0x0A ∷ []))
line_text n not_reached = word (ascii "check ") n ++ (ascii " not reached" ++ (0x0A ∷ []))
line_text n (failed f) =
    word (ascii "check ") n ++ (
    word (ascii " failed field=") f.field ++ (
    word (ascii " offset=") f.offset ++ (
    word (ascii " length=") f.len ++ (
    word (ascii " message=") f.message ++ (
    pair_text n f ++ (0x0A ∷ []))))))

-- "1 to 7 for all, then 8, 9 for AUTHENTICATE and 8, 11, 12, 10, 13 for CHALLENGE"
abbrev pub printed_checks : Kind → List ℕ
printed_checks Negotiate = 1 ∷ 2 ∷ 3 ∷ 4 ∷ 5 ∷ 6 ∷ 7 ∷ []
printed_checks Authenticate = 1 ∷ 2 ∷ 3 ∷ 4 ∷ 5 ∷ 6 ∷ 7 ∷ 8 ∷ 9 ∷ []
printed_checks Challenge = 1 ∷ 2 ∷ 3 ∷ 4 ∷ 5 ∷ 6 ∷ 7 ∷ 8 ∷ 11 ∷ 12 ∷ 10 ∷ 13 ∷ []

-- the lines of checks, each with its state
abbrev pub print_of : (ℕ → State) → List ℕ → List ℕ
print_of state [] = []
print_of state (n ∷ ns) = line_text n (state n) ++ print_of state ns

-- ---- what the reader returns

abbrev pub format_of : Kind → Format
format_of Negotiate = negotiate
format_of Challenge = challenge
format_of Authenticate = authenticate

abbrev pub TakenAs : Kind → List ℕ → Type 0
TakenAs k s = IsTaken (read_as k s)

-- refused with number n, field i and place p
abbrev pub RefusedAs : Kind → List ℕ → ℕ → ℕ → ℕ → Type 0
RefusedAs k s n i p = RefusedWith (read_as k s) n i p

-- ---- when a check fails, and when it held

-- document 01's table, rows 10 to 13: check n fails at the pair at a place of a list, or where one should start
abbrev pub PairFails : List ℕ → ℕ → ℕ → Type 0
PairFails b at n = check 10 n (Fails10 b at) (check 11 n (Fails11 b at) (check 12 n (Fails12 b at) (check 13 n (Fails13 b at) ⊥)))

-- from a place of a list on, pairs without fault lead to another
pub data Leads (b : List ℕ) (to : ℕ) : ℕ → Type 0 where
  there : {at : ℕ} → to ≡ at → Leads b to at
  past : {at : ℕ} → PairAt b at → Leads b to (next_of b at) → Leads b to at

-- check n fails at field i of the message; or in TargetInfo, at a place to which pairs without fault lead and which is p in the message
pub data FailsAt (k : Kind) (s : List ℕ) (n i p : ℕ) : Type 0 where
  at_field : Fails (format_of k) s n i → p ≡ 0 → FailsAt k s n i p
  at_pair : (b : List ℕ) (q : ℕ) → k ≡ Challenge → i ≡ 2 → InfoBytes s b → 0 < length b → Leads b q 0 → PairFails b q n →
      p ≡ offset_of challenge s 2 + q → FailsAt k s n i p

-- check n holds at every field, and in TargetInfo at every place to which pairs without fault lead
pub record HoldsUpTo (k : Kind) (s : List ℕ) (n : ℕ) : Type 0 where
  pub fields : (i : ℕ) → Fails (format_of k) s n i → ⊥
  pub pairs : k ≡ Challenge → (b : List ℕ) → InfoBytes s b → 0 < length b → (q : ℕ) → Leads b q 0 → PairFails b q n → ⊥

-- the figures of check n at field i and place p: the field's own head, and the pair's own id and length number
pub record FiguresAre (k : Kind) (s : List ℕ) (n i p : ℕ) (f : Figures) : Type 0 where
  pub field : f.field ≡ i
  pub no_field : i ≡ 0 → (f.offset ≡ 0) × (f.len ≡ 0)
  pub head : 0 < i → (f.offset ≡ offset_of (format_of k) s i) × (f.len ≡ len_of (format_of k) s i)
  pub message : f.message ≡ min (length s) 65536
  pub at : f.at ≡ p
  pub pair : (n ≡ 10) ⊎ ((n ≡ 12) ⊎ (n ≡ 13)) → (b : List ℕ) (q : ℕ) → InfoBytes s b → p ≡ offset_of challenge s 2 + q →
      (f.id ≡ id_of b q) × (f.size ≡ size_of b q)
  pub no_pair : n ≡ 11 → (f.id ≡ 0) × (f.size ≡ 0)

-- ---- the print tells the truth

-- check n is one of these, and comes before another
abbrev pub OneOf : List ℕ → ℕ → Type 0
OneOf checks n = rank_in checks n < length checks

abbrev pub Before : List ℕ → ℕ → ℕ → Type 0
Before checks m n = rank_in checks m < rank_in checks n

pub record TrueStates (k : Kind) (s : List ℕ) (state : ℕ → State) : Type 0 where
  -- an accepted message shows all held, and only an accepted one does
  pub all_held : TakenAs k s → (n : ℕ) → OneOf (printed_checks k) n → state n ≡ held
  pub only_taken : ((n : ℕ) → OneOf (printed_checks k) n → state n ≡ held) → TakenAs k s
  -- number, field and place are what the reader returns, and the figures are those of that field and pair
  pub named : (n i p : ℕ) → RefusedAs k s n i p → OneOf (printed_checks k) n × ((f : Figures) × (state n ≡ failed f) × FiguresAre k s n i p f)
  pub returned : (n : ℕ) (f : Figures) → OneOf (printed_checks k) n → state n ≡ failed f → RefusedAs k s n f.field f.at
  -- the named check fails by its definition there
  pub fails : (n : ℕ) (f : Figures) → OneOf (printed_checks k) n → state n ≡ failed f → FailsAt k s n f.field f.at
  -- each before it held up to there
  pub before : (n i p : ℕ) → RefusedAs k s n i p → (m : ℕ) → Before (printed_checks k) m n → state m ≡ held
  pub holds : (m : ℕ) → OneOf (printed_checks k) m → state m ≡ held → HoldsUpTo k s m
  -- each after it is not reached
  pub after : (n i p : ℕ) → RefusedAs k s n i p → (m : ℕ) → Before (printed_checks k) n m → state m ≡ not_reached

-- the print is one line for each check of the kind, in its order, with a state that is true of it
abbrev pub ExplainedExactly : Type 0
ExplainedExactly = (s : List ℕ) → (state : ℕ → State) × (explanation s ≡ print_of state (printed_checks (kind_of s))) × TrueStates (kind_of s) s state

-- ---- demands 1 to 3; what a call of it answers, changes and leaves is that of every line (`LineIsWritten`, `LineStands`, `LineKept`)

-- MaxLen and ignored bytes change nothing in the print
abbrev pub ExplainedIgnored : Type 0
ExplainedIgnored = (s t : List ℕ) → DifferAsRead s t → explanation s ≡ explanation t

-- a message that is read as AUTHENTICATE tells no secret by it
pub record SameExplained (s t : List ℕ) : Type 0 where
  pub kind : kind_of t ≡ Authenticate
  pub print : explanation s ≡ explanation t

abbrev pub SecretExplained : Type 0
SecretExplained = (s t : List ℕ) → DifferInSecrets s t → kind_of s ≡ Authenticate → SameExplained s t

-- so many bytes always suffice for it
abbrev pub ExplainedShort : Type 0
ExplainedShort = (s : List ℕ) → ((i : ℕ) → get_or s i 0 < 256) → length (explanation s) ≤ 322

-- so that from C no length of a message of bytes is taken for a refusal
abbrev pub ExplainedDecodes : Type 0
ExplainedDecodes =
    (s out : List ℕ) → ((i : ℕ) → get_or s i 0 < 256) →
    DecodesWritten (written_number (bytes_answer (explanation s) out)) (bytes_answer (explanation s) out)

-- ---- examples, worked out by hand

-- these lines, each ended by 0A
abbrev pub lines_of : List String → List ℕ
lines_of [] = []
lines_of (t ∷ ts) = ascii t ++ (0x0A ∷ lines_of ts)

pub record ExplainedExample : Type 0 where
  -- P1 with its user's offset at 113, so that it ends at 121: "field 4, offset 113, length 8, message 120"
  pub of_field : explanation (sets p1 40 (113 ∷ [])) ≡
      lines_of ("check 1 held" ∷ "check 2 held" ∷ "check 3 held" ∷ "check 4 held" ∷ "check 5 held"
      ∷ "check 6 failed field=4 offset=113 length=8 message=120" ∷ "check 7 not reached" ∷ "check 8 not reached" ∷ "check 9 not reached" ∷ [])
  -- the challenge with length 5 in its second pair, a name that starts at 12 of the list and at 76 of the message
  pub of_pair_lem : explanation (sets challenge_message 78 (5 ∷ [])) ≡
      lines_of ("check 1 held" ∷ "check 2 held" ∷ "check 3 held" ∷ "check 4 held" ∷ "check 5 held" ∷ "check 6 held" ∷ "check 7 held" ∷ "check 8 held"
      ∷ "check 11 held" ∷ "check 12 held" ∷ "check 10 held" ∷ "check 13 failed field=2 offset=64 length=36 message=100 at=76 id=1 size=5" ∷ [])
  -- the challenge as it is
  pub of_taken : explanation challenge_message ≡
      lines_of ("check 1 held" ∷ "check 2 held" ∷ "check 3 held" ∷ "check 4 held" ∷ "check 5 held" ∷ "check 6 held" ∷ "check 7 held" ∷ "check 8 held"
      ∷ "check 11 held" ∷ "check 12 held" ∷ "check 10 held" ∷ "check 13 held" ∷ [])
  -- the opening message with its workstation's offset at 31, in the fixed part of 32: there is no check after 7
  pub of_negotiate : explanation (sets negotiate_message 28 (31 ∷ [])) ≡
      lines_of ("check 1 held" ∷ "check 2 held" ∷ "check 3 held" ∷ "check 4 held" ∷ "check 5 held" ∷ "check 6 held"
      ∷ "check 7 failed field=2 offset=31 length=4 message=48" ∷ [])
