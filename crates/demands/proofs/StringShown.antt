-- The text of one string alone: as in the line, refused exactly, kept and ignored.
use Rattle.std.specs.Prelude.{Result, Ok, Err}
use Rattle.wire.specs.declared.refusal.Refusal.{Refusal}
use Prim.Native.Nat.{ℕ, ◌+◌, ◌-◌, ◌≤◌, ◌<◌}
use mathlib.Core.Path.{◌≡◌, refl, sym, ap, ◌∙◌}
use mathlib.Core.Bool.{Bool, true, false, cond}
use mathlib.Core.List.{List, [], ◌∷◌, ◌++◌, append_assoc}
use native.Mathlib.Omega.{arith}
use lib.Dec.{leb}
use lib.ListN.{length, get_or, length-append}
use borrow.Author.Tests.{leb-true, leb-false, le-leb, lt-leb, ne_eqb}
use Rattle.wire.specs.Text.{ascii}
use Rattle.wire.specs.Number.{has}
use Rattle.place.specs.Written.{bytes_answer, bytes_after}
use Rattle.line_words.specs.Words.{string_word}
use Rattle.read_nl_auth.specs.declared.NlAuth.{NlAuth}
use Rattle.read_nl_auth.specs.NlAuth.{read_nl_auth}
use Rattle.line_nl_string.specs.StringText.{oem_text, utf8_text, utf8_numbered, string_text, on_reading, text_answer, text_after}
use Rattle.line_nl_auth.specs.Nl.{nl_start, nl_oem, nl_utf8, nl_text}
use Rattle.line.specs.Line.{nl_auth_line}
use Rattle.demands.specs.Ignored.{SameNlAuth}
use Rattle.demands.specs.Kept.{Kept}
use Rattle.demands.specs.NlAuth.{mask_of}
use Rattle.demands.specs.TakenExactly.{RefusedWith, nl_verdict}
use Rattle.demands.specs.WrittenExactly.{WritingRefusedWith}
use Rattle.demands.specs.StringShown.{shown_word, TextsAsInLine, StringShown, NoOtherText, NoTextWithoutBit, TextKept, TextIgnored, TextShort, TextDecodes}
use Rattle.c_number.specs.Number.{written_number}
use Rattle.demands.specs.Answers.{DecodesWritten, nl_auth_line_call}
use Rattle.demands.proofs.Answers.{short_tells}
use Rattle.demands.proofs.Answers.LineShort.{line_short}
use Rattle.demands.proofs.Answers.SmallFields.{nl_auth_small}
use Rattle.demands.proofs.Answers.Decoded.{decodes_refusal}
use Rattle.demands.proofs.Kept.{by_verdict, line_kept}
use Rattle.demands.proofs.NlAuth.{five, nl_auth_judged}
use Rattle.demands.proofs.Ignored.NlIgnored.{nl_auth_ignored}

-- ---- the line is made of these texts

word_is : (label x : List ℕ) (b : Bool) → cond b (label ++ cond b x []) [] ≡ cond b (label ++ x) []
word_is label x true = refl
word_is label x false = refl

pub texts_as_in_line : TextsAsInLine
unfolding nl_text nl_oem nl_utf8 string_word string_text utf8_numbered
texts_as_in_line s m = simp (append_assoc, word_is)

pub no_other_text : NoOtherText
unfolding string_text utf8_numbered
no_other_text s m which h =
    simp (
      ne_eqb which 1 (λ e. h (omega arith) (omega arith)),
      ne_eqb which 2 (λ e. h (omega arith) (omega arith)),
      ne_eqb which 3 (λ e. h (omega arith) (omega arith)),
      ne_eqb which 4 (λ e. h (omega arith) (omega arith)),
      ne_eqb which 5 (λ e. h (omega arith) (omega arith)),
    )

pub no_text_without_bit : NoTextWithoutBit
unfolding string_text utf8_numbered
no_text_without_bit s m =
    five (λ i. has m.flags.bits (mask_of i) ≡ false → string_text s m i ≡ [])
    (λ e. simp e) (λ e. simp e) (λ e. simp e) (λ e. simp e) (λ e. simp e)

-- ---- the call

pub string_shown : StringShown
unfolding text_answer text_after bytes_answer bytes_after
string_shown s which out =
    record {
      refused = λ n i f. go (read_nl_auth s) n i (((nl_auth_judged s).refused n i 0).1 (f, refl));
      no_room = λ m e h. simp (e, lt-leb (length (string_text s m which)) (length out) h);
      text =
          λ m e h. (
            simp (e, le-leb (length (string_text s m which)) (length out) h),
            simp (e, le-leb (length (string_text s m which)) (length out) h),
          );
    }
  where
    go : (r : Result NlAuth Refusal) (n i : ℕ) → RefusedWith (nl_verdict r) n i 0 →
        WritingRefusedWith (on_reading r (λ m. bytes_answer (string_text s m which) out) (λ e. Err e)) n i
    go (Ok m) n i w = absurd w
    go (Err e) n i w = (w.0, w.1)

pub text_kept : TextKept
unfolding text_answer text_after
text_kept s which out = go (read_nl_auth s) where
  go : (r : Result NlAuth Refusal) →
      Kept (on_reading r (λ m. bytes_answer (string_text s m which) out) (λ e. Err e)) out
      (on_reading r (λ m. bytes_after (string_text s m which) out) (λ e. out))
  go (Ok m) = line_kept (string_text s m which) out
  go (Err e) = by_verdict (Err e) [] out (λ h. absurd (let z : ◌≡◌ {A = ℕ} 0 1 = cc in omega arith))

-- ---- ignored flag bits

text_same : (s t : List ℕ) (which : ℕ) (m : NlAuth) → SameNlAuth s t → read_nl_auth s ≡ Ok m → string_text s m which ≡ string_text t m which
unfolding string_text utf8_numbered oem_text utf8_text
text_same s t which m w e = simp ((w.a m e).bytes, (w.b m e).bytes, (w.c m e).labels, (w.d m e).labels, (w.e m e).labels)

pub text_ignored : TextIgnored
unfolding text_answer text_after
text_ignored s t which out d = go (nl_auth_ignored s t d) (read_nl_auth s) refl where
  go : (w : SameNlAuth s t) (r : Result NlAuth Refusal) → read_nl_auth s ≡ r →
      (on_reading (read_nl_auth s) (λ m. bytes_answer (string_text s m which) out) (λ e. Err e) ≡ on_reading (read_nl_auth t) (λ m. bytes_answer (string_text t m which) out) (λ e. Err e))
      × (on_reading (read_nl_auth s) (λ m. bytes_after (string_text s m which) out) (λ e. out) ≡ on_reading (read_nl_auth t) (λ m. bytes_after (string_text t m which) out) (λ e. out))
  go w (Ok m) p = let q : read_nl_auth t ≡ Ok m = sym w.answer ∙ p in (simp (p, q, text_same s t which m w p), simp (p, q, text_same s t which m w p))
  go w (Err e) p = let q : read_nl_auth t ≡ Err e = sym w.answer ∙ p in (simp (p, q), simp (p, q))

-- ---- from C

-- a text stands in the line, with its label or alone
in_word : (s : List ℕ) (m : NlAuth) (i : ℕ) → 1 ≤ i → i ≤ 5 → length (string_text s m i) ≤ length (shown_word s m i)
in_word s m i a b = go (has m.flags.bits (mask_of i)) refl where
  label : List ℕ
  label = get_or (ascii " a=" ∷ ascii " b=" ∷ ascii " c=" ∷ ascii " d=" ∷ ascii " e=" ∷ []) (i - 1) []

  go : (t : Bool) → has m.flags.bits (mask_of i) ≡ t → length (string_text s m i) ≤ length (cond t (label ++ string_text s m i) [])
  go true e = omega (arith, length-append label (string_text s m i))
  go false e = omega (arith, ap length (no_text_without_bit s m i a b e))

in_line : (s : List ℕ) (m : NlAuth) (which : ℕ) → length (string_text s m which) ≤ length (nl_text s m)
in_line s m which = go (leb 1 which) (leb which 5) refl refl where
  words : length (nl_text s m)
      ≡ length (nl_start m.message_type m.flags.bits)
      + (length (shown_word s m 1) + (length (shown_word s m 2) + (length (shown_word s m 3) + (length (shown_word s m 4) + (length (shown_word s m 5) + 1)))))
  words = ap length (texts_as_in_line s m) ∙ simp length-append

  none : (1 ≤ which → which ≤ 5 → ⊥) → length (string_text s m which) ≤ length (nl_text s m)
  none h = omega (arith, ap length (no_other_text s m which h))

  go : (x y : Bool) → leb 1 which ≡ x → leb which 5 ≡ y → length (string_text s m which) ≤ length (nl_text s m)
  go true true p q =
      five (λ i. length (string_text s m i) ≤ length (nl_text s m))
      (omega (arith, words, in_word s m 1 (omega arith) (omega arith))) (omega (arith, words, in_word s m 2 (omega arith) (omega arith)))
      (omega (arith, words, in_word s m 3 (omega arith) (omega arith))) (omega (arith, words, in_word s m 4 (omega arith) (omega arith)))
      (omega (arith, words, in_word s m 5 (omega arith) (omega arith))) which (leb-true 1 which p) (leb-true which 5 q)
  go false y p q = none (λ a b. omega (arith, leb-false 1 which p))
  go true false p q = none (λ a b. omega (arith, leb-false which 5 q))

pub text_short : TextShort
unfolding nl_auth_line
text_short s m which h = let line : length (nl_text s m) < 0x100000 = rw h at (line_short (nl_auth_line_call s)) in omega (arith, line, in_line s m which)

pub text_decodes : TextDecodes
unfolding text_answer
text_decodes s which out = go (read_nl_auth s) refl where
  go : (r : Result NlAuth Refusal) → read_nl_auth s ≡ r →
      DecodesWritten (written_number (on_reading r (λ m. bytes_answer (string_text s m which) out) (λ e. Err e)))
      (on_reading r (λ m. bytes_answer (string_text s m which) out) (λ e. Err e))
  go (Ok m) p = short_tells (string_text s m which) out (omega (arith, text_short s m which p))
  go (Err e) p = decodes_refusal e (nl_auth_small s e p)
