-- The line of AUTHENTICATE: auth flags=H set=S domain=N user=N work=N lm=D nt=D key=D mic=B kind=K max=BBBBBB
use Rattle.std.specs.Prelude.{ℕ, Bool, List, ◌++◌}
use Rattle.wire.specs.Text.{ascii}
use Rattle.field.specs.declared.Field.{Field}
use Rattle.field.specs.Field.{field_bytes}
use Rattle.negotiate_flags.specs.Flags.{unicode}
use Rattle.read_authenticate.specs.declared.Authenticate.{Authenticate}
use Rattle.read_authenticate.specs.declared.Fields.{Fields}
use Rattle.read_authenticate.specs.Authenticate.{all_fields}
use Rattle.line_max.specs.Max.{max_end}
use Rattle.line_words.specs.Words.{number_word, name_word, start_text, mic_word, kind_word}

-- the names, in units of 16 bits with UNICODE
unfoldable pub auth_names : Bool → List ℕ → Field → Field → Field → List ℕ
auth_names unicode s domain user workstation =
    name_word (ascii " domain=") unicode (field_bytes s domain) ++ (
    name_word (ascii " user=") unicode (field_bytes s user) ++
    name_word (ascii " work=") unicode (field_bytes s workstation))

-- the lengths of the LM response, the NT response and the session key
unfoldable pub auth_lengths : ℕ → ℕ → ℕ → List ℕ
auth_lengths lm nt key =
    number_word (ascii " lm=") lm ++ (
    number_word (ascii " nt=") nt ++
    number_word (ascii " key=") key)

unfoldable pub auth_end : Bool → Fields → List ℕ
auth_end mic f = mic_word mic ++ (kind_word f.nt.len ++ max_end (all_fields f))

unfoldable pub auth_text : List ℕ → Authenticate → List ℕ
auth_text s a =
    start_text (ascii "auth") a.flags (unicode a.flags) ++ (
    auth_names (unicode a.flags) s a.fields.domain a.fields.user a.fields.workstation ++ (
    auth_lengths a.fields.lm.len a.fields.nt.len a.fields.key.len ++
    auth_end a.mic_present a.fields))
