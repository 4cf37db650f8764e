-- The lines of a message's checks (document 02, 4/12), one to a line, each of them held, failed or not reached.
use Rattle.std.specs.Prelude.{ℕ, Bool, true, ◌&&◌, not, cond, List, [], ◌∷◌, ◌++◌, leb, eqb}
use Rattle.wire.specs.Text.{ascii}
use Rattle.line_words.specs.Words.{number_word, line_end}
use Rattle.line_checks.specs.declared.Figures.{Figures}

-- check D held, check D not reached: the number and a word
unfoldable pub plain_words : ℕ → List ℕ → List ℕ
plain_words n word = number_word (ascii "check ") n ++ word

-- checks 10 to 13 are about a pair
abbrev pub about_pair : ℕ → Bool
about_pair n = leb 10 n && leb n 13

unfoldable pub pair_figures : Figures → List ℕ
pair_figures f =
    number_word (ascii " at=") f.at ++ (
    number_word (ascii " id=") f.id ++
    number_word (ascii " size=") f.size)

unfoldable pub pair_words : Figures → List ℕ
pair_words f = cond (about_pair f.number) (pair_figures f) []

unfoldable pub message_words : Figures → List ℕ
message_words f = number_word (ascii " message=") f.message ++ pair_words f

unfoldable pub figure_words : Figures → List ℕ
figure_words f =
    number_word (ascii " offset=") f.head.offset ++ (
    number_word (ascii " length=") f.head.len ++
    message_words f)

-- check D failed field=D offset=D length=D message=D, and for 10 to 13 at=D id=D size=D
unfoldable pub failed_words : Figures → List ℕ
failed_words f =
    number_word (ascii "check ") f.number ++ (
    number_word (ascii " failed field=") f.field ++
    figure_words f)

-- a check's line, given whether the check is reached
unfoldable pub words_of : Bool → Figures → ℕ → List ℕ
words_of reached f n =
    cond reached
    (cond (eqb n f.number) (failed_words f) (plain_words n (ascii " held")))
    (plain_words n (ascii " not reached"))

unfoldable pub check_line : Bool → Figures → ℕ → List ℕ
check_line reached f n = words_of reached f n ++ line_end

-- the lines of checks in their order: after the one that failed, none is reached
abbrev pub lines_from : Bool → Figures → List ℕ → List ℕ
lines_from reached f [] = []
lines_from reached f (n ∷ ns) = check_line reached f n ++ lines_from (reached && not (eqb n f.number)) f ns

-- those of a whole reading, whose first check is reached
unfoldable pub check_lines : Figures → List ℕ → List ℕ
check_lines f checks = lines_from true f checks
