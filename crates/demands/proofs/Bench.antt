-- All bench cases hold, by computation.
use mathlib.Core.Path.{refl}
use Rattle.field.specs.Field.{field_at, field_bytes}
use Rattle.read_challenge.specs.Challenge.{read_challenge, reading_of as challenge_reading_of, fields_of}
use Rattle.line_words.specs.Digits.{hex_digit, hex, decimal_size, decimal}
use Rattle.line_words.specs.Name.{escape, unit_text, text_of, name_text}
use Rattle.line_words.specs.Words.{number_word, name_word, string_word, flags_word, set_word, start_text, mic_word, kind_word}
use Rattle.line_challenge.specs.Chal.{time_text, time_word}
use Rattle.line_refused.specs.Refused.{refused_text, refused_line}
use Rattle.line_authenticate.specs.Auth.{auth_names, auth_lengths, auth_end, auth_text}
use Rattle.line.specs.Line.{authenticate_line, nl_auth_line, challenge_line, ntlm_line, shown_line}
use Rattle.line_nl_auth.specs.Nl.{nl_start, nl_oem, nl_utf8, nl_text}
use Rattle.line_max.specs.Max.{max_digit, max_word, max_end}
use Rattle.line_challenge.specs.Chal.{chal_end, chal_words, chal_text}
use Rattle.place.specs.Written.{bytes_answer, bytes_after}
use Rattle.read_nl_auth.specs.NlAuth.{read_nl_auth, read_request, read_utf8, read_response, string_under, string_at, string_bytes, name_under, name_at}
use Rattle.line_nl_string.specs.StringText.{oem_text, utf8_text}
use Rattle.head.specs.Head.{signature_holds, read_head, kind_of}
use Rattle.av_pairs.specs.AvPairs.{count_pairs, check_pairs, pairs_of, step_at, pair_of, left}
use Rattle.read_authenticate.specs.Authenticate.{fields_at, check_ends, check_begins, check_names, check_shared, check_fields, mic_present, reading_of, read_authenticate}
use Rattle.demands.specs.Bench.{BenchHolds}

pub bench_holds : BenchHolds
unfolding read_authenticate reading_of read_head signature_holds fields_at field_at check_fields check_ends check_begins check_names check_shared mic_present count_pairs check_pairs pairs_of step_at pair_of left read_nl_auth read_request read_utf8 read_response string_under string_at string_bytes name_under name_at oem_text utf8_text field_bytes read_challenge challenge_reading_of fields_of hex_digit hex decimal_size decimal escape unit_text text_of name_text number_word name_word string_word flags_word set_word start_text mic_word kind_word time_text time_word refused_text refused_line auth_names auth_lengths max_digit max_word max_end auth_end auth_text authenticate_line nl_start nl_oem nl_utf8 nl_text nl_auth_line chal_end chal_words chal_text challenge_line kind_of ntlm_line bytes_answer bytes_after shown_line
bench_holds = refl
