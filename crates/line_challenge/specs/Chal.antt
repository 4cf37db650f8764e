-- The line of CHALLENGE: chal flags=H set=S target=N pairs=D time=T max=BB
use Rattle.std.specs.Prelude.{Option, Some, None, ℕ, Bool, List, [], ◌++◌, length}
use Rattle.wire.specs.Text.{ascii}
use Rattle.field.specs.Field.{field_bytes}
use Rattle.negotiate_flags.specs.Flags.{unicode}
use Rattle.av_pairs.specs.AvPairs.{pairs_of}
use Rattle.read_challenge.specs.declared.Challenge.{Challenge}
use Rattle.read_challenge.specs.declared.Fields.{Fields}
use Rattle.read_challenge.specs.Challenge.{all_fields, info_of}
use Rattle.target_info.specs.TargetInfo.{timestamp_in}
use Rattle.line_max.specs.Max.{max_end}
use Rattle.line_words.specs.Digits.{hex}
use Rattle.line_words.specs.Words.{number_word, name_word, start_text}

-- T
unfoldable pub time_text : ℕ → List ℕ
time_text t = ascii " time=" ++ hex 16 t

-- with no timestamp the word is left out
unfoldable pub time_word : Option ℕ → List ℕ
time_word (Some t) = time_text t
time_word None = []

unfoldable pub chal_end : ℕ → Option ℕ → Fields → List ℕ
chal_end pairs time f = number_word (ascii " pairs=") pairs ++ (time_word time ++ max_end (all_fields f))

-- the words
unfoldable pub chal_words : Bool → List ℕ → Challenge → ℕ → Option ℕ → List ℕ
chal_words unicode s c pairs time =
    start_text (ascii "chal") c.flags unicode ++ (
    name_word (ascii " target=") unicode (field_bytes s c.fields.target_name) ++
    chal_end pairs time c.fields)

-- the line of c, read from s: the words with the count and the timestamp of its list
unfoldable pub chal_text : List ℕ → Challenge → List ℕ
chal_text s c = chal_words (unicode c.flags) s c (length (pairs_of (info_of s c))) (timestamp_in (info_of s c))
