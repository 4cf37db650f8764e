-- The example of a canonical form holds, by computation.
use mathlib.Core.Path.{refl}
use Rattle.field.specs.Field.{field_at, field_bytes}
use Rattle.write_field.specs.Writing.{head_bytes, version_bytes}
use Rattle.place.specs.Place.{le16, le32}
use Rattle.head.specs.Head.{signature_holds, read_head}
use Rattle.read_authenticate.specs.Authenticate.{fields_at, check_ends, check_begins, check_names, check_shared, check_fields, mic_present, reading_of, read_authenticate}
use Rattle.write_authenticate.specs.Writing.{fields_to, heads_bytes, after_heads, fixed_bytes, payload_bytes, authenticate_bytes, check_names_to_write, check_to_write, write_answer, write_out}
use Rattle.write_canonical.specs.Canonical.{meaning_of, meaning_answer, meaning_out, canonical_answer, canonical_out}
use Rattle.demands.specs.Canonical.{CanonicalExample}

pub canonical_example : CanonicalExample
unfolding read_authenticate reading_of fields_at check_ends check_begins check_names check_shared check_fields mic_present read_head signature_holds field_at field_bytes fields_to heads_bytes after_heads fixed_bytes payload_bytes authenticate_bytes check_names_to_write check_to_write write_answer write_out head_bytes version_bytes le16 le32 meaning_of meaning_answer meaning_out canonical_answer canonical_out
canonical_example =
    record {
      answer = refl;
      itself = refl;
      tidied = refl;
      without_mic_is = refl;
      short_key_is = refl;
      no_room = refl;
      kept = refl;
      reading_first = refl;
    }
