-- The examples of the print, by computation.
use mathlib.Core.Path.{refl}
use Rattle.field.specs.Field.{field_at, field_bytes}
use Rattle.head.specs.Head.{signature_holds, read_head, kind_of}
use Rattle.line_words.specs.Digits.{hex_digit, decimal_size, decimal}
use Rattle.line_words.specs.Words.{number_word}
use Rattle.av_pairs.specs.AvPairs.{check_pairs, step_at, pair_of, left}
use Rattle.read_negotiate.specs.Negotiate as N
use Rattle.read_negotiate.specs.Negotiate.{read_negotiate}
use Rattle.read_challenge.specs.Challenge.{fields_at as challenge_fields_at, check_ends as challenge_ends, check_begins as challenge_begins, check_names as challenge_names, check_fields as challenge_checks, fields_of, check_info, reading_of as challenge_reading_of, read_challenge}
use Rattle.read_authenticate.specs.Authenticate.{fields_at, check_ends, check_begins, check_names, check_shared, check_fields, mic_present, reading_of, read_authenticate}
use Rattle.line_checks.specs.Checks.{plain_words, pair_figures, pair_words, message_words, figure_words, failed_words, words_of, check_line, check_lines}
use Rattle.explain.specs.Explain.{figures_of, figures_as, explained_as, explanation}
use Rattle.demands.specs.Explained.{ExplainedExample}

pub explained_example : ExplainedExample
unfolding explanation explained_as figures_as figures_of check_lines check_line words_of plain_words pair_figures pair_words message_words figure_words failed_words number_word decimal decimal_size hex_digit kind_of read_head signature_holds field_at field_bytes read_authenticate reading_of fields_at check_ends check_begins check_names check_shared check_fields mic_present read_negotiate N.fields_at N.check_ends N.check_begins N.check_fields read_challenge challenge_reading_of check_info fields_of challenge_fields_at challenge_ends challenge_begins challenge_names challenge_checks check_pairs step_at pair_of left
explained_example = record { of_field = refl; of_pair_lem = refl; of_taken = refl; of_negotiate = refl }
