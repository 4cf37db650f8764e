-- All examples hold, by computation.
use mathlib.Core.Path.{refl}
use Rattle.field.specs.Field.{field_at, field_bytes, field_start}
use Rattle.write_field.specs.Writing.{head_bytes, version_bytes}
use Rattle.place.specs.Place.{le16, le32}
use Rattle.head.specs.Head.{signature_holds, read_head, kind_of}
use Rattle.line_words.specs.Digits.{hex_digit, hex, decimal_size, decimal}
use Rattle.line_words.specs.Name.{escape, unit_text, text_of, name_text}
use Rattle.line_words.specs.Words.{number_word, name_word, string_word, flags_word, set_word, start_text, mic_word, kind_word}
use Rattle.av_pairs.specs.AvPairs.{count_pairs, check_pairs, pairs_of, values_of, step_at, pair_of, left}
use Rattle.read_challenge.specs.Challenge.{fields_at as challenge_fields_at, check_ends as challenge_ends, check_begins as challenge_begins, check_names as challenge_names, check_fields as challenge_checks, fields_of, check_info, reading_of as challenge_reading_of, read_challenge, timestamp_of, server_names_of}
use Rattle.read_negotiate.specs.Negotiate.{fields_at as negotiate_fields_at, check_ends as negotiate_ends, check_begins as negotiate_begins, check_fields as negotiate_checks, read_negotiate}
use Rattle.write_negotiate.specs.Writing.{flags_to_write, fields_to as negotiate_fields_to, after_type, fixed_bytes as negotiate_fixed, negotiate_bytes, check_to_write as negotiate_check, write_answer as negotiate_answer, write_out as negotiate_out}
use Rattle.read_authenticate.specs.Authenticate.{fields_at, check_ends, check_begins, check_names, check_shared, check_fields, mic_present, reading_of, read_authenticate}
use Rattle.write_authenticate.specs.Writing.{fields_to, heads_bytes, after_heads, fixed_bytes, payload_bytes, authenticate_bytes, check_names_to_write, check_to_write, write_answer, write_out}
use Rattle.write_nl_auth.specs.Writing.{type_and_flags as nl_head_bytes, zero_terminated, bytes_under, oem_bytes, name_bytes_under, utf8_bytes, request_bytes, response_bytes, check_zeros, check_labels, check_coded, check_strings, under, check_under, check_request, request_answer, request_out, response_answer, response_out}
use Rattle.read_nl_auth.specs.NlAuth.{read_nl_auth, read_request, read_utf8, string_under, name_under as nl_name_under, name_at as nl_name_at}
use Rattle.line_nl_string.specs.StringText.{utf8_text}
use Rattle.read_dns_name.specs.DnsName.{read_name, labels_at, max_steps, step_at as name_step, label_of, jump_at, jump_to, left as name_left}
use Rattle.line_dns_name.specs.DnsNameText.{byte_text, label_text, part_text, joined, dns_name_text as dns_text}
use Rattle.write_dns_name.specs.Writing.{pieces, split_labels, label_bytes, coded, name_bytes, labels_hold, text_holds, coded_holds}
use Rattle.line_nl_auth.specs.Nl.{nl_start, nl_oem, nl_utf8, nl_text}
use Rattle.respond.specs.Domain.{domain_part}
use Rattle.respond.specs.Decision.{decision_on}
use Rattle.respond.specs.Answer.{lm_to_send, mic_to_send, key_to_send, sending, respond_to}
use Rattle.write_response_pairs.specs.ResponsePairs.{due_bits, bits_due, added_pairs, pairs_back, pairs_for, pair_bytes, list_bytes, list_with, list_for, check_list, list_answer, list_out, write_answer as pairs_answer, write_out as pairs_out}
use Rattle.line_challenge.specs.Chal.{time_text, time_word, chal_end, chal_words, chal_text}
use Rattle.line_max.specs.Max.{max_digit, max_word, max_end}
use Rattle.line_negotiate.specs.Nego.{nego_names, nego_text}
use Rattle.line_authenticate.specs.Auth.{auth_names, auth_lengths, auth_end, auth_text}
use Rattle.line.specs.Line.{authenticate_line, challenge_line, negotiate_line, ntlm_line, nl_auth_line}
use Rattle.target_info.specs.TargetInfo.{timestamp_in, server_names_in}
use Rattle.demands.specs.Examples.{ChallengeExample, NegotiateExample, AuthenticateExample, AnswerExample, PairListExample, NlAuthExample, NlNamesExample, ExamplesHold}

challenge_example : ChallengeExample
unfolding read_challenge challenge_reading_of check_info fields_of challenge_fields_at challenge_ends challenge_begins challenge_names challenge_checks read_head signature_holds field_at field_bytes count_pairs check_pairs pairs_of step_at pair_of left timestamp_in timestamp_of server_names_in server_names_of hex_digit hex decimal_size decimal escape unit_text text_of name_text number_word name_word flags_word set_word start_text time_text time_word max_digit max_word max_end chal_end chal_words chal_text challenge_line kind_of ntlm_line
challenge_example = record { reading = refl; server_challenge_is = refl; pairs = refl; timestamp = refl; server_names = refl; line = refl }

negotiate_example : NegotiateExample
unfolding read_negotiate negotiate_fields_at negotiate_ends negotiate_begins negotiate_checks read_head signature_holds field_at field_bytes hex_digit hex escape unit_text text_of name_text name_word flags_word max_digit max_word max_end nego_names nego_text negotiate_line kind_of ntlm_line flags_to_write negotiate_fields_to after_type negotiate_fixed negotiate_bytes negotiate_check negotiate_answer negotiate_out head_bytes version_bytes le16 le32
negotiate_example = record { reading = refl; line = refl; length_written = refl; bytes_written = refl; no_room = refl; kept = refl }

authenticate_example : AuthenticateExample
unfolding read_authenticate reading_of fields_at check_ends check_begins check_names check_shared check_fields mic_present read_head signature_holds field_at field_bytes hex_digit hex decimal_size decimal escape unit_text text_of name_text number_word name_word flags_word set_word start_text mic_word kind_word auth_names auth_lengths max_digit max_word max_end auth_end auth_text authenticate_line kind_of ntlm_line fields_to heads_bytes after_heads fixed_bytes payload_bytes authenticate_bytes check_names_to_write check_to_write write_answer write_out head_bytes version_bytes le16 le32
authenticate_example = record { length_written = refl; bytes_written = refl; line = refl; no_room = refl; kept = refl }

answer_example : AnswerExample
unfolding challenge_reading_of check_info fields_of challenge_fields_at challenge_ends challenge_begins challenge_names challenge_checks check_pairs pairs_of step_at pair_of left timestamp_in server_names_in domain_part field_start decision_on lm_to_send mic_to_send key_to_send sending respond_to read_authenticate reading_of fields_at check_ends check_begins check_names check_shared check_fields mic_present read_head signature_holds field_at field_bytes hex_digit hex decimal_size decimal escape unit_text text_of name_text number_word name_word flags_word set_word start_text mic_word kind_word auth_names auth_lengths max_digit max_word max_end auth_end auth_text authenticate_line kind_of ntlm_line fields_to heads_bytes after_heads fixed_bytes payload_bytes authenticate_bytes check_names_to_write check_to_write write_answer write_out head_bytes version_bytes le16 le32
answer_example =
    record {
      answer = refl;
      bytes_written = refl;
      line = refl;
      no_room = refl;
      kept = refl;
      bench_no = refl;
      bench_yes = refl;
      by_default = refl;
    }

pair_list_example : PairListExample
unfolding challenge_reading_of check_info fields_of challenge_fields_at challenge_ends challenge_begins challenge_names challenge_checks read_head signature_holds field_at field_bytes count_pairs check_pairs pairs_of values_of step_at pair_of left due_bits bits_due added_pairs pairs_back pairs_for pair_bytes list_bytes list_with list_for check_list list_answer list_out pairs_answer pairs_out le16 le32
pair_list_example =
    record { length_written = refl; bytes_written = refl; pairs = refl; no_room = refl; kept = refl; odd_name = refl; with_all = refl }

nl_auth_example : NlAuthExample
unfolding nl_head_bytes zero_terminated bytes_under oem_bytes name_bytes_under utf8_bytes split_labels labels_hold text_holds coded_holds request_bytes response_bytes check_zeros check_labels check_coded check_strings under check_under check_request request_answer request_out response_answer response_out le16 le32
nl_auth_example =
    record {
      request_length = refl;
      request_bytes_is = refl;
      request_no_room = refl;
      response_length = refl;
      response_bytes_is = refl;
      response_no_room = refl;
    }

nl_names_example : NlNamesExample
unfolding read_nl_auth read_request read_utf8 string_under nl_name_under nl_name_at read_name labels_at max_steps name_step label_of jump_at jump_to name_left utf8_text dns_text joined part_text label_text byte_text unit_text escape hex_digit hex decimal_size decimal number_word flags_word string_word nl_start nl_oem nl_utf8 nl_text nl_auth_line nl_head_bytes name_bytes_under utf8_bytes request_bytes check_zeros check_labels check_coded check_strings under check_under check_request request_answer request_out bytes_under oem_bytes pieces split_labels label_bytes coded name_bytes labels_hold text_holds coded_holds le16 le32
nl_names_example = record { names_line = refl; names_jumps = refl; name_written = refl; stop_in_label = refl; empty_label = refl }

pub examples_hold : ExamplesHold
examples_hold = (challenge_example, negotiate_example, authenticate_example, answer_example, pair_list_example, nl_auth_example, nl_names_example)
