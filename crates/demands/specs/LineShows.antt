-- A log line can't be read two ways. Demand 3 says that a line shows no more of a message than its public part; here stands that it
-- shows all of that part, and what that is. Two messages get the same line if and only if they have the same flags, the same names byte
-- for byte, the same lengths and whatever else a line is about, or are refused alike. Whatever bytes a name has, its line is one line, in
-- which no name passes for a word.
use Rattle.std.specs.Prelude.{Ok, Err, ℕ, ◌%◌, ◌≤◌, ◌<◌, ◌≡◌, Bool, true, false, ◌⊎◌, ◌↔◌, List, [], ◌∷◌, ◌++◌, length, get_or, set}
use Rattle.wire.specs.Text.{ascii}
use Rattle.wire.specs.declared.refusal.Refusal.{Refusal}
use Rattle.wire.specs.Number.{has}
use Rattle.wire.specs.Refusal.{number_of, field_of, place_of}
use Rattle.field.specs.Field.{field_bytes}
use Rattle.line_words.specs.Name.{name_text}
use Rattle.line_dns_name.specs.DnsNameText.{dns_name_text as dns_text}
use Rattle.head.specs.declared.Kind.{Kind}
use Rattle.head.specs.declared.Kind.TheVariants.{Negotiate as AsNegotiate, Challenge as AsChallenge, Authenticate as AsAuthenticate}
use Rattle.head.specs.Head.{kind_of}
use Rattle.read_negotiate.specs.declared.Negotiate.{Negotiate}
use Rattle.read_negotiate.specs.Negotiate.{read_negotiate}
use Rattle.read_authenticate.specs.declared.Authenticate.{Authenticate}
use Rattle.read_authenticate.specs.Authenticate.{read_authenticate}
use Rattle.av_pairs.specs.AvPairs.{pairs_of}
use Rattle.read_challenge.specs.declared.Challenge.{Challenge}
use Rattle.read_challenge.specs.Challenge.{info_of, read_challenge, timestamp_of}
use Rattle.read_nl_auth.specs.declared.NlAuth.{NlAuth}
use Rattle.read_nl_auth.specs.NlAuth.{string_bytes, labels_of, read_nl_auth}
use Rattle.line_refused.specs.Refused.{refused_line}
use Rattle.line.specs.Line.{negotiate_line, challenge_line, authenticate_line, line_as, ntlm_line, nl_auth_line, shown_line}
use Rattle.demands.specs.Examples.{negotiate_message}
use Rattle.demands.specs.HeaderLine.{Bytes}
use Rattle.demands.specs.MaxLen.{Unlike}
use Rattle.demands.specs.Message.{Format, negotiate, authenticate, challenge}
use Rattle.demands.specs.NlAuth.{mask_of}

-- ---- one line: every byte but the last is a space or a visible character, 0x20 to 0x7E, and the last is 0A

pub record OneLine (line : List ℕ) : Type 0 where
  pub before : List ℕ
  pub line_is : line ≡ before ++ (0x0A ∷ [])
  pub shown : (k : ℕ) → k < length before → (0x20 ≤ get_or before k 0) × (get_or before k 0 ≤ 0x7E)

-- so is the line of every message, taken or refused, whatever numbers s has, and so is what a program prints for a line
pub record EachOneLine : Type 0 where
  pub nego : (s : List ℕ) → OneLine (negotiate_line s)
  pub chal : (s : List ℕ) → OneLine (challenge_line s)
  pub auth : (s : List ℕ) → OneLine (authenticate_line s)
  pub ntlm : (s : List ℕ) → OneLine (ntlm_line s)
  pub nl_auth : (s : List ℕ) → OneLine (nl_auth_line s)
  pub printed : (line out : List ℕ) → OneLine line → OneLine (shown_line line out)

-- so the lines of a log stand apart: two logs with the same bytes have the same lines
abbrev pub AllLines : List (List ℕ) → Type 0
AllLines [] = Unit
AllLines (l ∷ ls) = OneLine l × AllLines ls

abbrev pub log_of : List (List ℕ) → List ℕ
log_of [] = []
log_of (l ∷ ls) = l ++ log_of ls

abbrev pub LogShows : Type 0
LogShows = (ls ms : List (List ℕ)) → AllLines ls → AllLines ms → log_of ls ≡ log_of ms → ls ≡ ms

-- ---- the five forms, by the word that a line opens with

pub data Form : Type 0 where
  nego chal auth nl refused : Form

abbrev pub opening : Form → List ℕ
opening nego = ascii "nego"
opening chal = ascii "chal"
opening auth = ascii "auth"
opening nl = ascii "nl"
opening refused = ascii "refused"

pub record Opens (form : Form) (line : List ℕ) : Type 0 where
  pub rest : List ℕ
  pub line_is : line ≡ opening form ++ (0x20 ∷ rest)

-- no line opens with two of these words, so lines of two forms are never equal
abbrev pub OneForm : Type 0
OneForm = (f g : Form) (line : List ℕ) → Opens f line → Opens g line → f ≡ g

-- a taken message's line opens with its kind's word, and a refusal's with `refused` (`RefusedLine.antt` has the whole of that line)
pub record EachForm : Type 0 where
  pub as_nego : (s : List ℕ) (m : Negotiate) → read_negotiate s ≡ Ok m → Opens nego (negotiate_line s)
  pub as_chal : (s : List ℕ) (c : Challenge) → (read_challenge s).reading ≡ Ok c → Opens chal (challenge_line s)
  pub as_auth : (s : List ℕ) (a : Authenticate) → (read_authenticate s).reading ≡ Ok a → Opens auth (authenticate_line s)
  pub as_nl : (s : List ℕ) (m : NlAuth) → read_nl_auth s ≡ Ok m → Opens nl (nl_auth_line s)
  pub as_refused : (e : Refusal) → Opens refused (refused_line e)

-- ---- a name

-- with UNICODE it has whole units
abbrev pub Whole : Bool → List ℕ → Type 0
Whole unicode name = unicode ≡ true → length name % 2 ≡ 0

-- N: two names with the same text are the same
abbrev pub NameShows : Type 0
NameShows =
    (unicode : Bool) (a b : List ℕ) → Bytes a → Bytes b → Whole unicode a → Whole unicode b →
    name_text unicode a ≡ name_text unicode b → a ≡ b

-- and no byte of the text is a space, or outside 0x21 to 0x7E
abbrev pub Visible : List ℕ → Type 0
Visible text = (k : ℕ) → k < length text → (0x21 ≤ get_or text k 0) × (get_or text k 0 ≤ 0x7E)

abbrev pub NameVisible : Type 0
NameVisible = (unicode : Bool) (name : List ℕ) → Visible (name_text unicode name)

-- the labels of a name by RFC 1035, none of which is empty
abbrev pub Labels : List (List ℕ) → Type 0
Labels [] = Unit
Labels (l ∷ ls) = (0 < length l) × Bytes l × Labels ls

-- "The line joins labels with a full stop", and one inside a label is `\x2E`: so the text shows which labels
abbrev pub LabelsShow : Type 0
LabelsShow = (ls ms : List (List ℕ)) → Labels ls → Labels ms → dns_text ls ≡ dns_text ms → ls ≡ ms

abbrev pub LabelsVisible : Type 0
LabelsVisible = (ls : List (List ℕ)) → Visible (dns_text ls)

-- ---- a refusal

pub record SameRefusal (e f : Refusal) : Type 0 where
  pub number : number_of e ≡ number_of f
  pub field : field_of e ≡ field_of f
  pub place : place_of e ≡ place_of f

abbrev pub RefusedLineShows : Type 0
RefusedLineShows = (e f : Refusal) → (refused_line e ≡ refused_line f) ↔ SameRefusal e f

-- ---- the lines of taken messages

-- the same fields have MaxLen unlike Len
abbrev pub SameUnlike : Format → List ℕ → List ℕ → Type 0
SameUnlike k s t = (i : ℕ) → 1 ≤ i → i ≤ k.last → Unlike k s i ↔ Unlike k t i

pub record SameNego (s t : List ℕ) (m n : Negotiate) : Type 0 where
  pub flags : m.flags.bits ≡ n.flags.bits
  pub domain : field_bytes s m.fields.domain ≡ field_bytes t n.fields.domain
  pub workstation : field_bytes s m.fields.workstation ≡ field_bytes t n.fields.workstation
  pub max : SameUnlike negotiate s t

abbrev pub NegotiateLineShows : Type 0
NegotiateLineShows =
    (s t : List ℕ) (m n : Negotiate) → Bytes s → Bytes t → read_negotiate s ≡ Ok m → read_negotiate t ≡ Ok n →
    (negotiate_line s ≡ negotiate_line t) ↔ SameNego s t m n

-- `set=` goes by the flags and `kind=` by the length of the NT response, so they have no part of their own
pub record SameAuth (s t : List ℕ) (a b : Authenticate) : Type 0 where
  pub flags : a.flags.bits ≡ b.flags.bits
  pub domain : field_bytes s a.fields.domain ≡ field_bytes t b.fields.domain
  pub user : field_bytes s a.fields.user ≡ field_bytes t b.fields.user
  pub workstation : field_bytes s a.fields.workstation ≡ field_bytes t b.fields.workstation
  pub lm : a.fields.lm.len ≡ b.fields.lm.len
  pub nt : a.fields.nt.len ≡ b.fields.nt.len
  pub key : a.fields.key.len ≡ b.fields.key.len
  pub mic : a.mic_present ≡ b.mic_present
  pub max : SameUnlike authenticate s t

abbrev pub AuthenticateLineShows : Type 0
AuthenticateLineShows =
    (s t : List ℕ) (a b : Authenticate) → Bytes s → Bytes t → (read_authenticate s).reading ≡ Ok a → (read_authenticate t).reading ≡ Ok b →
    (authenticate_line s ≡ authenticate_line t) ↔ SameAuth s t a b

pub record SameChal (s t : List ℕ) (c d : Challenge) : Type 0 where
  pub flags : c.flags.bits ≡ d.flags.bits
  pub target_name : field_bytes s c.fields.target_name ≡ field_bytes t d.fields.target_name
  pub pairs : length (pairs_of (info_of s c)) ≡ length (pairs_of (info_of t d))
  -- that there is one, or none, and which
  pub time : timestamp_of s ≡ timestamp_of t
  pub max : SameUnlike challenge s t

abbrev pub ChallengeLineShows : Type 0
ChallengeLineShows =
    (s t : List ℕ) (c d : Challenge) → Bytes s → Bytes t → (read_challenge s).reading ≡ Ok c → (read_challenge t).reading ≡ Ok d →
    (challenge_line s ≡ challenge_line t) ↔ SameChal s t c d

-- strings A to E are 1 to 5, each where its bit is set
pub record SameNl (s t : List ℕ) (m n : NlAuth) : Type 0 where
  pub message_type : m.message_type ≡ n.message_type
  pub flags : m.flags.bits ≡ n.flags.bits
  pub a : has m.flags.bits (mask_of 1) ≡ true → string_bytes s m.strings.nb_domain ≡ string_bytes t n.strings.nb_domain
  pub b : has m.flags.bits (mask_of 2) ≡ true → string_bytes s m.strings.nb_computer ≡ string_bytes t n.strings.nb_computer
  pub c : has m.flags.bits (mask_of 3) ≡ true → labels_of s m.strings.dns_domain ≡ labels_of t n.strings.dns_domain
  pub d : has m.flags.bits (mask_of 4) ≡ true → labels_of s m.strings.dns_host ≡ labels_of t n.strings.dns_host
  pub e : has m.flags.bits (mask_of 5) ≡ true → labels_of s m.strings.utf8_computer ≡ labels_of t n.strings.utf8_computer

abbrev pub NlAuthLineShows : Type 0
NlAuthLineShows =
    (s t : List ℕ) (m n : NlAuth) → Bytes s → Bytes t → read_nl_auth s ≡ Ok m → read_nl_auth t ≡ Ok n →
    (nl_auth_line s ≡ nl_auth_line t) ↔ SameNl s t m n

-- ---- whatever two messages get the same line, taken or refused: they are taken as one kind and alike, or refused alike

-- read as this kind, a message is refused by e
abbrev pub RefusedBy : Kind → List ℕ → Refusal → Type 0
RefusedBy AsNegotiate s e = read_negotiate s ≡ Err e
RefusedBy AsChallenge s e = (read_challenge s).reading ≡ Err e
RefusedBy AsAuthenticate s e = (read_authenticate s).reading ≡ Err e

-- read as this kind, a message gets a line of this form: it is taken, or refused
pub data ReadFor (k : Kind) (s : List ℕ) : Form → Type 0 where
  negotiates : (m : Negotiate) → k ≡ AsNegotiate → read_negotiate s ≡ Ok m → ReadFor k s nego
  challenges : (c : Challenge) → k ≡ AsChallenge → (read_challenge s).reading ≡ Ok c → ReadFor k s chal
  authenticates : (a : Authenticate) → k ≡ AsAuthenticate → (read_authenticate s).reading ≡ Ok a → ReadFor k s auth
  refuses : (e : Refusal) → RefusedBy k s e → ReadFor k s refused

-- two readings of one form show the same
abbrev pub Alike : (k l : Kind) (s t : List ℕ) (form : Form) → ReadFor k s form → ReadFor l t form → Type 0
Alike k l s t nego (negotiates m h p) (negotiates n j q) = SameNego s t m n
Alike k l s t chal (challenges c h p) (challenges d j q) = SameChal s t c d
Alike k l s t auth (authenticates a h p) (authenticates b j q) = SameAuth s t a b
Alike k l s t refused (refuses e p) (refuses f q) = SameRefusal e f
Alike k l s t nl x y = elim x [ ]

pub record ReadAlike (k l : Kind) (s t : List ℕ) : Type 0 where
  pub form : Form
  pub first : ReadFor k s form
  pub second : ReadFor l t form
  pub alike : Alike k l s t form first second

-- each read as any kind, as the three calls of a line do, and so as the NTLM program chooses (`ntlm_line s` is `line_as (kind_of s) s`)
abbrev pub LinesShow : Type 0
LinesShow = (k l : Kind) (s t : List ℕ) → Bytes s → Bytes t → (line_as k s ≡ line_as l t) ↔ ReadAlike k l s t

-- the same of NL_AUTH
pub data NlReadFor (s : List ℕ) : Form → Type 0 where
  takes : (m : NlAuth) → read_nl_auth s ≡ Ok m → NlReadFor s nl
  refuses_nl : (e : Refusal) → read_nl_auth s ≡ Err e → NlReadFor s refused

abbrev pub NlAlike : (s t : List ℕ) (form : Form) → NlReadFor s form → NlReadFor t form → Type 0
NlAlike s t nl (takes m p) (takes n q) = SameNl s t m n
NlAlike s t refused (refuses_nl e p) (refuses_nl f q) = SameRefusal e f
NlAlike s t nego x y = elim x [ ]
NlAlike s t chal x y = elim x [ ]
NlAlike s t auth x y = elim x [ ]

pub record NlReadAlike (s t : List ℕ) : Type 0 where
  pub form : Form
  pub first : NlReadFor s form
  pub second : NlReadFor t form
  pub alike : NlAlike s t form first second

abbrev pub NlLinesShow : Type 0
NlLinesShow = (s t : List ℕ) → Bytes s → Bytes t → (nl_auth_line s ≡ nl_auth_line t) ↔ NlReadAlike s t

-- ---- what a program prints: the line of 33 for a line that has no room. Reading refuses nothing by 33, so two messages for which the
-- same is printed are read alike, or neither's line has room

abbrev pub NoRoomFor : List ℕ → List ℕ → List ℕ → Type 0
NoRoomFor out line line' = (length out < length line) × (length out < length line')

abbrev pub NtlmPrintShows : Type 0
NtlmPrintShows =
    (s t out : List ℕ) → Bytes s → Bytes t → shown_line (ntlm_line s) out ≡ shown_line (ntlm_line t) out →
    ReadAlike (kind_of s) (kind_of t) s t ⊎ NoRoomFor out (ntlm_line s) (ntlm_line t)

abbrev pub NlPrintShows : Type 0
NlPrintShows =
    (s t out : List ℕ) → Bytes s → Bytes t → shown_line (nl_auth_line s) out ≡ shown_line (nl_auth_line t) out →
    NlReadAlike s t ⊎ NoRoomFor out (nl_auth_line s) (nl_auth_line t)

-- ---- names that would pass for something else

pub record NamesEscaped : Type 0 where
  -- one that would end its line and begin a refusal's
  pub line_end : name_text false (ascii "x" ++ (0x0A ∷ ascii "refused 5")) ≡ ascii "x\\x0Arefused\\x205"
  -- one that holds the next word
  pub word : name_text false (ascii "x user=root") ≡ ascii "x\\x20user=root"
  -- one that looks like another's escape
  pub escape : name_text false (ascii "\\x41") ≡ ascii "\\x5Cx41"
  -- one label, and two
  pub label : dns_text (ascii "a.b" ∷ []) ≡ ascii "a\\x2Eb"
  pub labels : dns_text (ascii "a" ∷ ascii "b" ∷ []) ≡ ascii "a.b"

-- the theorems speak of something: two different messages of bytes, both taken, that get the same line
abbrev pub other_version : List ℕ
other_version = set negotiate_message 32 0x06

abbrev pub ShowsExample : Type 0
ShowsExample =
    Bytes negotiate_message × Bytes other_version × (negotiate_message ≡ other_version → ⊥) × (ntlm_line negotiate_message ≡ ntlm_line other_version)
    × ReadAlike AsNegotiate AsNegotiate negotiate_message other_version
