-- Request 5/12, the call that writes one string's text alone: "The line joins labels with a full stop", and demands 1 and 2 for it.
use Rattle.std.specs.Prelude.{Ok, Err, ℕ, ◌-◌, ◌≤◌, ◌<◌, ◌≡◌, false, cond, List, [], ◌∷◌, ◌++◌, length, get_or}
use Rattle.wire.specs.Text.{ascii}
use Rattle.wire.specs.declared.refusal.Refusal.TheVariants.{NoRoom}
use Rattle.wire.specs.Number.{has}
use Rattle.place.specs.Written.{at_front}
use Rattle.read_nl_auth.specs.declared.NlAuth.{NlAuth}
use Rattle.read_nl_auth.specs.NlAuth.{read_nl_auth}
use Rattle.line_nl_string.specs.StringText.{string_text, text_answer, text_after}
use Rattle.line_words.specs.Words.{line_end}
use Rattle.line_nl_auth.specs.Nl.{nl_start, nl_text}
use Rattle.c_number.specs.Number.{written_number}
use Rattle.demands.specs.Answers.{DecodesWritten}
use Rattle.demands.specs.Ignored.{NlDifferInIgnored}
use Rattle.demands.specs.Kept.{Kept}
use Rattle.demands.specs.NlAuth.{mask_of, NlFirst}
use Rattle.demands.specs.WrittenExactly.{WritingRefusedWith}

-- "the text as the line shows it": the line is made of these texts, each after its label and left out where its bit is clear
abbrev pub shown_word : List ℕ → NlAuth → ℕ → List ℕ
shown_word s m i =
    cond (has m.flags.bits (mask_of i))
    (get_or (ascii " a=" ∷ ascii " b=" ∷ ascii " c=" ∷ ascii " d=" ∷ ascii " e=" ∷ []) (i - 1) [] ++ string_text s m i)
    []

abbrev pub TextsAsInLine : Type 0
TextsAsInLine =
    (s : List ℕ) (m : NlAuth) →
    nl_text s m ≡ nl_start m.message_type m.flags.bits
    ++ (shown_word s m 1 ++ (shown_word s m 2 ++ (shown_word s m 3 ++ (shown_word s m 4 ++ (shown_word s m 5 ++ line_end)))))

-- one of the three holds of every message, number and output: the reading's refusal, 33, or the text
pub record Shown (s : List ℕ) (which : ℕ) (out : List ℕ) : Type 0 where
  pub refused : (n i : ℕ) → NlFirst s n i → WritingRefusedWith (text_answer s which out) n i
  pub no_room : (m : NlAuth) → read_nl_auth s ≡ Ok m → length out < length (string_text s m which) → text_answer s which out ≡ Err NoRoom
  pub text : (m : NlAuth) → read_nl_auth s ≡ Ok m → length (string_text s m which) ≤ length out →
      (text_answer s which out ≡ Ok (length (string_text s m which)))
      × (text_after s which out ≡ at_front (string_text s m which) out)

abbrev pub StringShown : Type 0
StringShown = (s : List ℕ) (which : ℕ) (out : List ℕ) → Shown s which out

-- any other number has no text, and neither has a string that isn't there
abbrev pub NoOtherText : Type 0
NoOtherText = (s : List ℕ) (m : NlAuth) (which : ℕ) → (1 ≤ which → which ≤ 5 → ⊥) → string_text s m which ≡ []

abbrev pub NoTextWithoutBit : Type 0
NoTextWithoutBit = (s : List ℕ) (m : NlAuth) (i : ℕ) → 1 ≤ i → i ≤ 5 → has m.flags.bits (mask_of i) ≡ false → string_text s m i ≡ []

abbrev pub TextKept : Type 0
TextKept = (s : List ℕ) (which : ℕ) (out : List ℕ) → Kept (text_answer s which out) out (text_after s which out)

abbrev pub TextIgnored : Type 0
TextIgnored =
    (s t : List ℕ) (which : ℕ) (out : List ℕ) → NlDifferInIgnored s t →
    (text_answer s which out ≡ text_answer t which out) × (text_after s which out ≡ text_after t which out)

-- a text is no longer than the message's line, so it has under 2^20 bytes
abbrev pub TextShort : Type 0
TextShort = (s : List ℕ) (m : NlAuth) (which : ℕ) → read_nl_auth s ≡ Ok m → length (string_text s m which) < 0x100000

-- so that from C no length of a text is taken for a refusal
abbrev pub TextDecodes : Type 0
TextDecodes = (s : List ℕ) (which : ℕ) (out : List ℕ) → DecodesWritten (written_number (text_answer s which out)) (text_answer s which out)
