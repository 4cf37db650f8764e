-- Document 01, "The log line": "`auth flags=H set=S domain=N user=N work=N lm=D nt=D key=D mic=B kind=K`", "`chal flags=H set=S
-- target=N pairs=D time=T`", "`nl type=D flags=H a=N b=N c=N d=N e=N`"; document 02, 1/12: "The line is `nego flags=H domain=N work=N`";
-- 9/12: "The `auth`, `chal` and `nego` lines get a last word `max=` with a digit for each field in order"; 11/12: "lengths 1 to 23 and 25
-- to 43 are `odd`, not `v2`". The line of every taken message, whole, by the message's bytes; `hex` and `decimal` give H, T and D
-- (`Digits.antt`).
use Rattle.std.specs.Prelude.{Option, Some, None, ℕ, ◌-◌, ◌*◌, ◌%◌, ◌≤◌, ◌<◌, ◌≡◌, ◌⊎◌, List, [], ◌∷◌, ◌++◌, length, get_or, take, drop, replicate}
use Rattle.std.proofs.lemmas.List.Edits.{sets}
use Rattle.wire.specs.Text.{ascii}
use Rattle.wire.specs.Number.{u16_at, u32_at}
use Rattle.line_words.specs.Digits.{hex, decimal}
use Rattle.read_dns_name.specs.Rfc1035.{NameAt}
use Rattle.head.specs.declared.Kind.TheVariants.{Negotiate, Challenge, Authenticate}
use Rattle.verdict.specs.Verdict.{read_as}
use Rattle.read_nl_auth.specs.NlAuth.{read_nl_auth}
use Rattle.line.specs.Line.{negotiate_line, challenge_line, authenticate_line, nl_auth_line}
use Rattle.demands.specs.Answering.{TimestampIs}
use Rattle.demands.specs.Bench.{p1}
use Rattle.demands.specs.Examples.{challenge_message}
use Rattle.demands.specs.MaxLen.{MaxDigits}
use Rattle.demands.specs.Message.{Format, negotiate, authenticate, challenge, FlagSet, Set, Counts, len_of, offset_of, Nonempty, MicThere}
use Rattle.demands.specs.NlAuth.{type_of, mask_of, ZeroAt, StartsAt}
use Rattle.demands.specs.PairList.{Holds}
use Rattle.demands.specs.TakenExactly.{IsTaken, nl_verdict, InfoBytes}

-- these parts, one after the other
abbrev pub together : List (List ℕ) → List ℕ
together [] = []
together (part ∷ parts) = part ++ together parts

-- ---- N

-- "a unit 0x21 to 0x7E other than backslash stands for itself"
abbrev pub ForItself : ℕ → Type 0
ForItself u = (0x21 ≤ u) × (u ≤ 0x7E) × (u ≡ 0x5C → ⊥)

-- "Any other 16-bit unit is `\u` and four hex digits, any other byte `\x` and two, upper case"
abbrev pub wide_escape : ℕ → List ℕ
wide_escape u = ascii "\\u" ++ hex 4 u

abbrev pub byte_escape : ℕ → List ℕ
byte_escape b = ascii "\\x" ++ hex 2 b

-- the text of units: each stands for itself or is escaped
abbrev pub UnitsShown : (ℕ → Type 0) → (ℕ → List ℕ) → List ℕ → List ℕ → Type 0
UnitsShown Itself escaped [] text = text ≡ []
UnitsShown Itself escaped (u ∷ us) text =
    (rest : List ℕ) × UnitsShown Itself escaped us rest
    × ((Itself u × (text ≡ u ∷ rest)) ⊎ ((Itself u → ⊥) × (text ≡ escaped u ++ rest)))

-- these are a name's units of 16 bits: all its bytes two by two, the low byte first
pub record UnitsOf (name us : List ℕ) : Type 0 where
  pub count : 2 * length us ≡ length name
  pub unit : (k : ℕ) → k < length us → get_or us k 0 ≡ u16_at name (2 * k)

-- field i has these bytes: the Len bytes from its offset on, and none where it is empty or doesn't count
pub record FieldHas (k : Format) (s : List ℕ) (i : ℕ) (bytes : List ℕ) : Type 0 where
  pub there : Nonempty k s i → bytes ≡ take (len_of k s i) (drop (offset_of k s i) s)
  pub absent : (Nonempty k s i → ⊥) → bytes ≡ []

-- the text of field i, a name: in units of 16 bits with UNICODE, and else in bytes; NEGOTIATE's names are bytes whatever the flags say
abbrev pub Wide : Format → List ℕ → ℕ → Type 0
Wide k s i = k.Name i × Set k s 0x1

pub record NameShown (k : Format) (s : List ℕ) (i : ℕ) (text : List ℕ) : Type 0 where
  pub name : List ℕ
  pub own : FieldHas k s i name
  pub wide : Wide k s i → (us : List ℕ) × UnitsOf name us × UnitsShown ForItself wide_escape us text
  pub bytes : (Wide k s i → ⊥) → UnitsShown ForItself byte_escape name text

-- "The line joins labels with a full stop"; one inside a label is escaped
abbrev pub InLabel : ℕ → Type 0
InLabel b = ForItself b × (b ≡ 0x2E → ⊥)

abbrev pub LabelsShown : List (List ℕ) → List ℕ → Type 0
LabelsShown [] text = text ≡ []
LabelsShown (l ∷ []) text = UnitsShown InLabel byte_escape l text
LabelsShown (l ∷ m ∷ ls) text =
    (first rest : List ℕ) × UnitsShown InLabel byte_escape l first × LabelsShown (m ∷ ls) rest × (text ≡ first ++ (0x2E ∷ rest))

-- so a name has one text
pub record OneText : Type 0 where
  pub units : (name us vs : List ℕ) → UnitsOf name us → UnitsOf name vs → us ≡ vs
  pub wide : (us a b : List ℕ) → UnitsShown ForItself wide_escape us a → UnitsShown ForItself wide_escape us b → a ≡ b
  pub bytes : (name a b : List ℕ) → UnitsShown ForItself byte_escape name a → UnitsShown ForItself byte_escape name b → a ≡ b
  pub labels : (ls : List (List ℕ)) (a b : List ℕ) → LabelsShown ls a → LabelsShown ls b → a ≡ b

-- ---- the other letters

-- "S is U or O", and "UNICODE wins over OEM"
pub record SetShown (k : Format) (s text : List ℕ) : Type 0 where
  pub unicode : Set k s 0x1 → text ≡ ascii "U"
  pub oem : (Set k s 0x1 → ⊥) → text ≡ ascii "O"

-- "lm, nt and key are lengths": that of field i, 0 where it doesn't count
pub record LengthIs (k : Format) (s : List ℕ) (i n : ℕ) : Type 0 where
  pub counted : Counts k s i → n ≡ len_of k s i
  pub uncounted : (Counts k s i → ⊥) → n ≡ 0

-- "B is 0 or 1": whether a MIC is there
pub record MicShown (s text : List ℕ) : Type 0 where
  pub there : MicThere authenticate s → text ≡ ascii "1"
  pub absent : (MicThere authenticate s → ⊥) → text ≡ ascii "0"

-- "K goes by NT response length", as 11/12 mends it
pub record KindShown (nt : ℕ) (text : List ℕ) : Type 0 where
  pub none : nt ≡ 0 → text ≡ ascii "none"
  pub v1 : nt ≡ 24 → text ≡ ascii "v1"
  pub v2 : 44 ≤ nt → text ≡ ascii "v2"
  pub odd : (nt ≡ 0 → ⊥) → (nt ≡ 24 → ⊥) → nt < 44 → text ≡ ascii "odd"

-- "T is the timestamp, read as a number, in sixteen such digits; with no timestamp, the last word and its space are left out"
abbrev pub time_shown : Option ℕ → List ℕ
time_shown (Some t) = ascii " time=" ++ hex 16 t
time_shown None = []

-- ---- the lines; "Each line ends with 0A"

pub record NegoLine (s line : List ℕ) : Type 0 where
  pub domain : List ℕ
  pub workstation : List ℕ
  pub digits : List ℕ
  pub line_is : line ≡ together (
      ascii "nego flags=" ∷ hex 8 (u32_at s 12) ∷
      ascii " domain=" ∷ domain ∷
      ascii " work=" ∷ workstation ∷
      ascii " max=" ∷ digits ∷ (0x0A ∷ []) ∷ [])
  pub domain_is : NameShown negotiate s 1 domain
  pub workstation_is : NameShown negotiate s 2 workstation
  pub digits_are : MaxDigits negotiate s digits

abbrev pub NegoLineWhole : Type 0
NegoLineWhole = (s : List ℕ) → IsTaken (read_as Negotiate s) → NegoLine s (negotiate_line s)

pub record AuthLine (s line : List ℕ) : Type 0 where
  pub set : List ℕ
  pub domain : List ℕ
  pub user : List ℕ
  pub workstation : List ℕ
  pub lm : ℕ
  pub nt : ℕ
  pub key : ℕ
  pub mic : List ℕ
  pub kind : List ℕ
  pub digits : List ℕ
  pub line_is : line ≡ together (
      ascii "auth flags=" ∷ hex 8 (u32_at s 60) ∷
      ascii " set=" ∷ set ∷
      ascii " domain=" ∷ domain ∷
      ascii " user=" ∷ user ∷
      ascii " work=" ∷ workstation ∷
      ascii " lm=" ∷ decimal lm ∷
      ascii " nt=" ∷ decimal nt ∷
      ascii " key=" ∷ decimal key ∷
      ascii " mic=" ∷ mic ∷
      ascii " kind=" ∷ kind ∷
      ascii " max=" ∷ digits ∷ (0x0A ∷ []) ∷ [])
  pub set_is : SetShown authenticate s set
  pub domain_is : NameShown authenticate s 3 domain
  pub user_is : NameShown authenticate s 4 user
  pub workstation_is : NameShown authenticate s 5 workstation
  pub lm_is : LengthIs authenticate s 1 lm
  pub nt_is : LengthIs authenticate s 2 nt
  pub key_is : LengthIs authenticate s 6 key
  pub mic_is : MicShown s mic
  pub kind_is : KindShown nt kind
  pub digits_are : MaxDigits authenticate s digits

abbrev pub AuthLineWhole : Type 0
AuthLineWhole = (s : List ℕ) → IsTaken (read_as Authenticate s) → AuthLine s (authenticate_line s)

-- b is TargetInfo's bytes; "pairs leaves out the end pair"
pub record ChalLine (s b line : List ℕ) : Type 0 where
  pub set : List ℕ
  pub target : List ℕ
  pub pairs : ℕ
  pub time : Option ℕ
  pub digits : List ℕ
  pub line_is : line ≡ together (
      ascii "chal flags=" ∷ hex 8 (u32_at s 20) ∷
      ascii " set=" ∷ set ∷
      ascii " target=" ∷ target ∷
      ascii " pairs=" ∷ decimal pairs ∷
      time_shown time ∷
      ascii " max=" ∷ digits ∷ (0x0A ∷ []) ∷ [])
  pub set_is : SetShown challenge s set
  pub target_is : NameShown challenge s 1 target
  pub pairs_are : Holds b pairs
  pub time_is : TimestampIs b time
  pub digits_are : MaxDigits challenge s digits

abbrev pub ChalLineWhole : Type 0
ChalLineWhole = (s b : List ℕ) → IsTaken (read_as Challenge s) → InfoBytes s b → ChalLine s b (challenge_line s)

-- ---- NL_AUTH, whose strings A to E are 1 to 5

-- A and B: the bytes from where the string stands up to its first zero byte
abbrev pub OemShown : List ℕ → ℕ → List ℕ → Type 0
OemShown s i text = (p q : ℕ) × StartsAt s i p × ZeroAt s p q × UnitsShown ForItself byte_escape (take (q - p) (drop p s)) text

-- C, D and E: the labels of the name that stands there
pub record DnsShown (s : List ℕ) (i : ℕ) (text : List ℕ) : Type 0 where
  pub place : ℕ
  pub labels : List (List ℕ)
  pub jumps : ℕ
  pub next : ℕ
  pub starts : StartsAt s i place
  pub name : NameAt (drop 8 s) (place - 8) labels jumps next
  pub shown : LabelsShown labels text

-- "words for clear NL_AUTH bits" are left out
pub record WordShown (flags i : ℕ) (label : List ℕ) (Shows : List ℕ → Type 0) (word : List ℕ) : Type 0 where
  pub there : FlagSet flags (mask_of i) → (text : List ℕ) × Shows text × (word ≡ label ++ text)
  pub left_out : (FlagSet flags (mask_of i) → ⊥) → word ≡ []

pub record NlLine (s line : List ℕ) : Type 0 where
  pub flags : ℕ
  pub a : List ℕ
  pub b : List ℕ
  pub c : List ℕ
  pub d : List ℕ
  pub e : List ℕ
  pub line_is : line ≡ together (
      ascii "nl type=" ∷ decimal (type_of s) ∷
      ascii " flags=" ∷ hex 8 flags ∷
      a ∷ b ∷ c ∷ d ∷ e ∷ (0x0A ∷ []) ∷ [])
  -- "bits A to E only, zero in a response"
  pub request : type_of s ≡ 0 → flags ≡ u32_at s 4 % 32
  pub response : type_of s ≡ 1 → flags ≡ 0
  pub type : (type_of s ≡ 0) ⊎ (type_of s ≡ 1)
  pub a_is : WordShown flags 1 (ascii " a=") (OemShown s 1) a
  pub b_is : WordShown flags 2 (ascii " b=") (OemShown s 2) b
  pub c_is : WordShown flags 3 (ascii " c=") (DnsShown s 3) c
  pub d_is : WordShown flags 4 (ascii " d=") (DnsShown s 4) d
  pub e_is : WordShown flags 5 (ascii " e=") (DnsShown s 5) e

abbrev pub NlLineWhole : Type 0
NlLineWhole = (s : List ℕ) → IsTaken (nl_verdict (read_nl_auth s)) → NlLine s (nl_auth_line s)

-- ---- each of these fixes the line: no other is so made of the message's bytes

pub record LineFixed : Type 0 where
  pub nego : (s x y : List ℕ) → NegoLine s x → NegoLine s y → x ≡ y
  pub auth : (s x y : List ℕ) → AuthLine s x → AuthLine s y → x ≡ y
  pub chal : (s b x y : List ℕ) → ChalLine s b x → ChalLine s b y → x ≡ y
  pub nl : (s x y : List ℕ) → NlLine s x → NlLine s y → x ≡ y

-- ---- lines worked out by hand

-- an AUTHENTICATE of 68 bytes, with these flags below 0x100 beside 0x200, and a user of these four bytes at 64, so that there is no MIC
abbrev pub sign_in : ℕ → List ℕ → List ℕ
sign_in flags user =
    take 12 p1
    ++ (replicate 24 0x00
    ++ ((0x04 ∷ 0x00 ∷ 0x04 ∷ 0x00 ∷ 0x40 ∷ 0x00 ∷ 0x00 ∷ 0x00 ∷ replicate 16 0x00)
    ++ (flags ∷ 0x02 ∷ 0x00 ∷ 0x00 ∷ user)))

pub record TakenLineExample : Type 0 where
  -- OEM alone, no MIC and no NT response
  pub oem : authenticate_line (sign_in 0x02 (ascii "box7"))
      ≡ ascii "auth flags=00000202 set=O domain= user=box7 work= lm=0 nt=0 key=0 mic=0 kind=none max=000000" ++ (0x0A ∷ [])
  -- UNICODE: units 0x20AC and '7'
  pub unicode : authenticate_line (sign_in 0x01 (0xAC ∷ 0x20 ∷ 0x37 ∷ 0x00 ∷ []))
      ≡ ascii "auth flags=00000201 set=U domain= user=\\u20AC7 work= lm=0 nt=0 key=0 mic=0 kind=none max=000000" ++ (0x0A ∷ [])
  -- both bits set: UNICODE wins; the space and the backslash are escaped
  pub both : authenticate_line (sign_in 0x03 (0x20 ∷ 0x00 ∷ 0x5C ∷ 0x00 ∷ []))
      ≡ ascii "auth flags=00000203 set=U domain= user=\\u0020\\u005C work= lm=0 nt=0 key=0 mic=0 kind=none max=000000" ++ (0x0A ∷ [])
  -- the challenge with id 8 in the place of its timestamp's 7, and MaxLen of TargetInfo unlike Len
  pub no_time : challenge_line (sets (sets challenge_message 84 (0x08 ∷ [])) 42 (0x25 ∷ []))
      ≡ ascii "chal flags=40800215 set=U target=LINE pairs=3 max=01" ++ (0x0A ∷ [])
