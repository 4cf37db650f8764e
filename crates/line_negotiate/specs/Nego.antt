-- The line of NEGOTIATE: nego flags=H domain=N work=N max=BB
use Rattle.std.specs.Prelude.{ℕ, false, List, ◌++◌}
use Rattle.wire.specs.Text.{ascii}
use Rattle.field.specs.Field.{field_bytes}
use Rattle.read_negotiate.specs.declared.Negotiate.{Negotiate}
use Rattle.read_negotiate.specs.Negotiate.{all_fields}
use Rattle.line_max.specs.Max.{max_end}
use Rattle.line_words.specs.Words.{name_word, flags_word}

-- both names: their units are bytes, also where UNICODE is set
unfoldable pub nego_names : List ℕ → Negotiate → List ℕ
nego_names s m =
    name_word (ascii " domain=") false (field_bytes s m.fields.domain) ++
    name_word (ascii " work=") false (field_bytes s m.fields.workstation)

unfoldable pub nego_text : List ℕ → Negotiate → List ℕ
nego_text s m = ascii "nego" ++ (flags_word m.flags.bits ++ (nego_names s m ++ max_end (all_fields m.fields)))
