-- Header lines: refused exactly when, given back, told apart.
pub mod Text
pub mod Lines
use Rattle.std.specs.Prelude.{Result, Ok, Err, ⊤}
use Rattle.wire.specs.declared.refusal.Refusal.{Refusal}
use Prim.Native.Nat.{ℕ, suc, ◌+◌, ◌*◌, ◌/◌, ◌≤◌, ◌<◌}
use mathlib.Core.Path.{◌≡◌, refl, sym, ap, ap₂, ◌∙◌, subst}
use mathlib.Core.Logic.{inl}
use mathlib.Core.Bool.{true, false}
use mathlib.Core.List.{List, [], ◌∷◌, ◌++◌}
use native.Mathlib.Omega.{arith}
use lib.ListN.{length, take, drop, replicate, length-replicate}
use lib.Pow.{are_bytes}
use lib.Seq.{take-append_seam}
use borrow.Author.Tests.{leb-true, leb-false, le-leb, ltb-true, lt-ltb}
use Rattle.wire.specs.Text.{ascii}
use Rattle.wire.specs.declared.check.Checked.TheVariants.{Held, Failed}
use Rattle.wire.specs.declared.refusal.Refusal.TheVariants.{TooLong, NoRoom, WrongScheme, WrongBase64}
use Rattle.wire.proofs.Laws.{held_true}
use Rattle.wire.proofs.Bools.{and_left}
use Rattle.place.specs.Written.{answered, out_after, room_holds}
use Rattle.base64_text.specs.Base64.{alphabet, letter, three, two, one, encode, is_letter, value_of, group_holds, group_bytes, is_base64, decode}
use Rattle.base64_text.proofs.Alphabet.{is_letter_lem}
use Rattle.base64_text.proofs.Back.{back, encoded_base64, there, one_text}
use Rattle.http_header_line.specs.HttpHeader.{message_holds, header_line, check_export, export_answer, export_out, scheme_holds, after_spaces, text_after_scheme, base64_holds, check_text, check_import, import_answer, import_out}
use Rattle.http_header_line.proofs.Laws.{line_length, line_fits}
use Rattle.c_number.specs.Number.{written_number}
use Rattle.demands.specs.Answers.{DecodesWritten}
use Rattle.demands.specs.Order.{rank_in}
use Rattle.demands.specs.WrittenExactly.{WrittenExactly}
use Rattle.demands.specs.HeaderLine.{ExportIs, ImportIs, decoded_size, ImportFails, import_order, HeaderIsImported, line_size, ExportFails, HeaderIsExported, ExportKept, ImportKept, ExportDecodes, ImportDecodes, ExportShort, ImportShort, Gives, Bytes, ImportOfExport, LineOf, OneMessage, CaseAndSpacesIgnored, BytesUnread, EveryByteCounts, WorkedLines}
use Rattle.demands.proofs.Bools.{failed_false, chained, after_held, both_ways}
use Rattle.demands.proofs.Answers.Decoded.{decodes_refusal, decodes_length}
use Rattle.demands.proofs.Kept.{by_verdict as kept_by_verdict}
use Rattle.demands.proofs.Order.Rank.{FreeBy, JudgedBy, first_by}
use Rattle.demands.proofs.WrittenExactly.{Rows, rows, free_at_first, next, room_judged, by_verdict}
use Rattle.demands.proofs.HeaderLine.Text.{has_fault, no_fault, size_is}
use Rattle.demands.proofs.HeaderLine.Lines.{scheme_held, held_scheme, starts_so, text_is, line_of, line_scheme, line_text}

-- ---- refused exactly when

-- a writing whose length is known where its verdict is clear
by_clear : (order : List ℕ) (F : ℕ → ℕ → Type 0) → Rows order F → (k : ℕ) → rank_in order k ≡ length order → (v : Result ⊤ Refusal) (bytes : List ℕ) (size : ℕ) →
    (v ≡ Ok tt → length bytes ≡ size) → JudgedBy (rank_in order) F k v → WrittenExactly (answered v bytes) order F size
by_clear order F r k e (Ok tt) bytes size l j = by_verdict order F r k e (Ok tt) bytes size (l refl) j
by_clear order F r k e (Err d) bytes size l j = by_verdict order F r k e (Err d) (replicate size 0) size (length-replicate size 0) j

module _ (room : ℕ) (t : List ℕ) where
  abbrev text : List ℕ
  text = text_after_scheme t

  abbrev F : ℕ → ℕ → Type 0
  F = ImportFails room t text

  abbrev rank : ℕ → ℕ
  rank = rank_in import_order

  text_judged : FreeBy rank F 58 0 → JudgedBy rank F 0 (check_text room text)
  unfolding check_text
  text_judged free =
      chained (JudgedBy rank F 0) (base64_holds text) (Err WrongBase64) _
      (λ f. first_by rank F 58 0 free (refl, has_fault text (failed_false (is_base64 text) f)))
      (λ h58.
      let g = held_true (is_base64 text) h58 in
      let size = size_is text g in
      let free1 = next import_order F 58 1 refl (omega arith) free (λ j x. no_fault text g x.1) in
      chained (JudgedBy rank F 0) (message_holds (length (decode text))) (Err TooLong) _
      (λ f. first_by rank F 1 0 free1 (refl, omega (arith, size, leb-false (length (decode text)) 65535 (failed_false _ f))))
      (λ h1.
      room_judged import_order F room (decoded_size text) (length (decode text)) size (λ l. (refl, l)) (λ j x. x.1) refl (omega arith)
      (next import_order F 1 33 refl (omega arith) free1
      (λ j x. omega (arith, size, x.1, leb-true (length (decode text)) 65535 (held_true _ h1))))))

  import_judged : JudgedBy rank F 0 (check_import room t)
  unfolding check_import
  import_judged =
      let none = free_at_first import_order F 57 refl in
      chained (JudgedBy rank F 0) (scheme_holds t) (Err WrongScheme) (check_text room text)
      (λ f. first_by rank F 57 0 none (refl, λ s. never (sym (scheme_held t s) ∙ f)))
      (λ h. text_judged (next import_order F 57 58 refl (omega arith) none (λ j x. x.1 (held_scheme t h))))
    where
      never : Held ≡ Failed → ⊥
      never e = let z : ◌≡◌ {A = ℕ} 0 1 = cc in omega arith

  import_base64 : check_import room t ≡ Ok tt → is_base64 text ≡ true
  unfolding check_import check_text
  import_base64 h = held_true (is_base64 text) (after_held (base64_holds text) WrongBase64 _ (after_held (scheme_holds t) WrongScheme _ h).1).0

  import_exactly : WrittenExactly (import_answer room t) import_order F (decoded_size text)
  unfolding import_answer
  import_exactly =
      by_clear import_order F (rows import_order F (λ n i z h. simp (z.0, z.1.0, z.1.1.0, z.1.1.1.0) at h)) 0 refl
      (check_import room t) (decode text) (decoded_size text) (λ c. size_is text (import_base64 c)) import_judged

pub header_is_imported : HeaderIsImported
header_is_imported room t b a =
    subst (λ (x : List ℕ). WrittenExactly (import_answer room t) import_order (ImportFails room t x) (decoded_size x)) (sym (text_is t b a))
    (import_exactly room t)

module _ (room : ℕ) (m : List ℕ) where
  abbrev G : ℕ → ℕ → Type 0
  G = ExportFails room m

  export_judged : JudgedBy (rank_in (1 ∷ 33 ∷ [])) G 0 (check_export room m)
  unfolding check_export
  export_judged =
      let none = free_at_first (1 ∷ 33 ∷ []) G 1 refl in
      chained (JudgedBy (rank_in (1 ∷ 33 ∷ [])) G 0) (message_holds (length m)) (Err TooLong) _
      (λ f. first_by (rank_in (1 ∷ 33 ∷ [])) G 1 0 none (refl, leb-false (length m) 65535 (failed_false _ f)))
      (λ h.
      room_judged (1 ∷ 33 ∷ []) G room (line_size m) (length (header_line m)) (line_length m) (λ l. (refl, l)) (λ j x. x.1) refl (omega arith)
      (next (1 ∷ 33 ∷ []) G 1 33 refl (omega arith) none (λ j x. omega (arith, x.1, leb-true (length m) 65535 (held_true _ h)))))

pub header_is_exported : HeaderIsExported
unfolding export_answer
header_is_exported room m =
    by_verdict (1 ∷ 33 ∷ []) (ExportFails room m) (rows (1 ∷ 33 ∷ []) (ExportFails room m) (λ n i z h. simp (z.0, z.1.0) at h)) 0 refl
    (check_export room m) (header_line m) (line_size m) (line_length m) (export_judged room m)

-- ---- kept

-- what a line's message needs where its import is not refused
pub record ImportHolds (room : ℕ) (t : List ℕ) : Type 0 where
  pub scheme : scheme_holds t ≡ Held
  pub in_base64 : is_base64 (text_after_scheme t) ≡ true
  pub size : length (decode (text_after_scheme t)) ≤ 65535
  pub room_there : length (decode (text_after_scheme t)) ≤ room

pub import_holds : (room : ℕ) (t : List ℕ) → check_import room t ≡ Ok tt → ImportHolds room t
unfolding check_import check_text
import_holds room t h =
    let s = after_held (scheme_holds t) WrongScheme _ h in
    let g = after_held (base64_holds (text_after_scheme t)) WrongBase64 _ s.1 in
    let n = after_held (message_holds (length (decode (text_after_scheme t)))) TooLong _ g.1 in
    let r = after_held (room_holds (length (decode (text_after_scheme t))) room) NoRoom _ n.1 in
    record {
      scheme = s.0;
      in_base64 = held_true (is_base64 (text_after_scheme t)) g.0;
      size = leb-true (length (decode (text_after_scheme t))) 65535 (held_true _ n.0);
      room_there = leb-true (length (decode (text_after_scheme t))) room (held_true _ r.0);
    }

pub export_kept : ExportKept
unfolding export_answer export_out
export_kept out m = kept_by_verdict (check_export (length out) m) (header_line m) out (λ h. line_fits m (check_export (length out) m) (length out) refl h)

pub import_kept : ImportKept
unfolding import_answer import_out
import_kept out t =
    kept_by_verdict (check_import (length out) t) (decode (text_after_scheme t)) out (λ h. (import_holds (length out) t h).room_there)

-- ---- from C

module _ (room : ℕ) (m : List ℕ) where
  abbrev ExportTold : Result ⊤ Refusal → Type 0
  ExportTold v = DecodesWritten (written_number (answered v (header_line m))) (answered v (header_line m))

  export_told : ExportTold (check_export room m)
  unfolding check_export
  export_told =
      chained ExportTold (message_holds (length m)) (Err TooLong) _ (λ f. decodes_refusal TooLong (omega arith))
      (λ h. chained ExportTold (room_holds (length (header_line m)) room) (Err NoRoom) (Ok tt) (λ f. decodes_refusal NoRoom (omega arith))
      (λ k. decodes_length (length (header_line m)) (omega (arith, line_length m, leb-true (length m) 65535 (held_true _ h)))))

module _ (room : ℕ) (t : List ℕ) where
  abbrev ImportTold : Result ⊤ Refusal → Type 0
  ImportTold v = DecodesWritten (written_number (answered v (decode (text_after_scheme t)))) (answered v (decode (text_after_scheme t)))

  import_told : ImportTold (check_import room t)
  unfolding check_import check_text
  import_told =
      chained ImportTold (scheme_holds t) (Err WrongScheme) _ (λ f. decodes_refusal WrongScheme (omega arith))
      (λ s. chained ImportTold (base64_holds (text_after_scheme t)) (Err WrongBase64) _ (λ f. decodes_refusal WrongBase64 (omega arith))
      (λ g. chained ImportTold (message_holds (length (decode (text_after_scheme t)))) (Err TooLong) _ (λ f. decodes_refusal TooLong (omega arith))
      (λ h. chained ImportTold (room_holds (length (decode (text_after_scheme t))) room) (Err NoRoom) (Ok tt) (λ f. decodes_refusal NoRoom (omega arith))
      (λ k. decodes_length (length (decode (text_after_scheme t))) (omega (arith, leb-true (length (decode (text_after_scheme t))) 65535 (held_true _ h)))))))

pub export_decodes : ExportDecodes
unfolding export_answer
export_decodes room m = export_told room m

pub import_decodes : ImportDecodes
unfolding import_answer
import_decodes room t = import_told room t

-- ---- import of an export

-- a call that is answered with a length wrote these bytes
module _ (bytes out : List ℕ) (n : ℕ) where
  clear_answer : (v : Result ⊤ Refusal) → answered v bytes ≡ Ok n → v ≡ Ok tt
  clear_answer (Ok tt) h = refl
  clear_answer (Err e) h = absurd (let z : ◌≡◌ {A = ℕ} 0 1 = cc in omega arith)

  length-answer : (v : Result ⊤ Refusal) → answered v bytes ≡ Ok n → length bytes ≡ n
  length-answer (Ok tt) h = cc
  length-answer (Err e) h = absurd (let z : ◌≡◌ {A = ℕ} 0 1 = cc in omega arith)

  front : (v : Result ⊤ Refusal) → answered v bytes ≡ Ok n → take n (out_after v bytes out) ≡ bytes
  front v h =
      ap₂ (λ (k : ℕ) (w : Result ⊤ Refusal). take k (out_after w bytes out)) (sym (length-answer v h)) (clear_answer v h)
      ∙ take-append_seam bytes (drop (length bytes) out)

exported : (out m : List ℕ) (n : ℕ) → export_answer (length out) m ≡ Ok n → take n (export_out out m) ≡ header_line m
unfolding export_answer export_out
exported out m n h = front (header_line m) out n (check_export (length out) m) h

pub export_is : ExportIs
unfolding header_line
export_is out m n h = exported out m n h

pub import_is : ImportIs
unfolding import_answer import_out
import_is out t b n a h =
    let k = import_holds (length out) t (clear_answer (decode (text_after_scheme t)) out n (check_import (length out) t) h) in
    ap encode (front (decode (text_after_scheme t)) out n (check_import (length out) t) h) ∙ there (text_after_scheme t) k.in_base64 ∙ sym (text_is t b a)

short_message : (room : ℕ) (m : List ℕ) (n : ℕ) → export_answer room m ≡ Ok n → length m ≤ 65535
unfolding export_answer check_export
short_message room m n h =
    leb-true (length m) 65535 (held_true _ (after_held (message_holds (length m)) TooLong _ (clear_answer (header_line m) [] n (check_export room m) h)).0)

pub export_short : ExportShort
unfolding export_answer
export_short room m n h =
    omega (arith, short_message room m n h, line_length m, length-answer (header_line m) [] n (check_export room m) h)

pub import_short : ImportShort
unfolding import_answer
import_short room t n h =
    omega (
      arith,
      (import_holds room t (clear_answer (decode (text_after_scheme t)) [] n (check_import room t) h)).size,
      length-answer (decode (text_after_scheme t)) [] n (check_import room t) h,
    )

are_bytes_lem : (m : List ℕ) → Bytes m → are_bytes m ≡ true
are_bytes_lem [] h = refl
are_bytes_lem (x ∷ m) h = simp (lt-ltb x 256 (h 0)) (are_bytes_lem m (λ i. h (suc i)))

space_none : is_letter 0x20 ≡ false
unfolding alphabet is_letter
space_none = refl

no_space : (v : ℕ) → v < 64 → letter v ≡ 0x20 → ⊥
no_space v h e = both_ways (is_letter 0x20) (ap is_letter (sym e) ∙ is_letter_lem v h) space_none

starts : (m : List ℕ) → are_bytes m ≡ true → after_spaces (encode m) ≡ encode m
unfolding one two three
starts [] h = refl
starts (a ∷ []) h = starts_so _ (no_space (a / 4) (omega (arith, ltb-true a 256 (and_left _ true h))))
starts (a ∷ b ∷ []) h = starts_so _ (no_space (a / 4) (omega (arith, ltb-true a 256 (and_left _ (are_bytes (b ∷ [])) h))))
starts (a ∷ b ∷ c ∷ m) h = starts_so _ (no_space (a / 4) (omega (arith, ltb-true a 256 (and_left _ (are_bytes (b ∷ c ∷ m)) h))))

module _ (m : List ℕ) (h : are_bytes m ≡ true) where
  text_back : text_after_scheme (header_line m) ≡ encode m
  unfolding text_after_scheme header_line
  text_back = starts m h

  scheme_back : scheme_holds (header_line m) ≡ Held
  unfolding header_line
  scheme_back =
      scheme_held (ascii "NTLM " ++ encode m)
      (record { letter_n = inl refl; letter_t = inl refl; letter_l = inl refl; letter_m = inl refl; space = refl })

  check_back : (room : ℕ) → length m ≤ 65535 → length m ≤ room → check_import room (header_line m) ≡ Ok tt
  unfolding check_import check_text
  check_back room size g =
      simp (scheme_back, text_back, encoded_base64 m h, back m h, le-leb (length m) 65535 size, le-leb (length m) room g)

  message_back : decode (text_after_scheme (header_line m)) ≡ m
  message_back = ap decode text_back ∙ back m h

  gives_back : (out : List ℕ) → length m ≤ 65535 → length m ≤ length out → Gives (header_line m) out m
  unfolding import_answer import_out
  gives_back out size g =
      record {
        answer = ap₂ answered (check_back (length out) size g) message_back;
        message =
            ap₂ (λ (v : Result ⊤ Refusal) (l : List ℕ). take (length m) (out_after v l out)) (check_back (length out) size g) message_back
            ∙ take-append_seam m (drop (length m) out);
      }

pub import_of_export : ImportOfExport
import_of_export m out other n b e room =
    subst (λ (t : List ℕ). Gives t other m) (sym (exported out m n e))
    (gives_back m (are_bytes_lem m b) other (short_message (length out) m n e) room)

-- ---- two lines of one message

-- a line that gives a message has its checks held, and its text stands for the message
record Given (t m : List ℕ) : Type 0 where
  scheme : scheme_holds t ≡ Held
  in_base64 : is_base64 (text_after_scheme t) ≡ true
  stands_for : decode (text_after_scheme t) ≡ m

given : (t out m : List ℕ) → Gives t out m → Given t m
unfolding import_answer import_out
given t out m g =
    let h = import_holds (length out) t (clear_answer (decode (text_after_scheme t)) out (length m) (check_import (length out) t) g.answer) in
    record {
      scheme = h.scheme;
      in_base64 = h.in_base64;
      stands_for = sym (front (decode (text_after_scheme t)) out (length m) (check_import (length out) t) g.answer) ∙ g.message;
    }

pub one_message : OneMessage
one_message s t out other m g h =
    let a = given s out m g in
    let b = given t other m h in
    let same = one_text (text_after_scheme s) (text_after_scheme t) a.in_base64 b.in_base64 (a.stands_for ∙ sym b.stands_for) in
    record {
      text = text_after_scheme s;
      one = line_of s (held_scheme s a.scheme);
      other = subst (λ (x : List ℕ). LineOf x t) (sym same) (line_of t (held_scheme t b.scheme));
    }

pub case_and_spaces_ignored : CaseAndSpacesIgnored
unfolding import_answer import_out check_import
case_and_spaces_ignored s t d =
    let scheme = line_scheme d.text s d.one ∙ sym (line_scheme d.text t d.other) in
    let text = line_text d.text s d.one ∙ sym (line_text d.text t d.other) in
    record { answer = λ room. simp (scheme, text); output = λ out. simp (scheme, text) }

-- ---- demand 2 leaves both calls out

alike : (v : Result ⊤ Refusal) (xs ys : List ℕ) → length xs ≡ length ys → answered v xs ≡ answered v ys
alike (Ok tt) xs ys e = ap Ok e
alike (Err d) xs ys e = refl

pub bytes_unread : BytesUnread
unfolding export_answer check_export
bytes_unread room m k e =
    let lines : length (header_line m) ≡ length (header_line k) = line_length m ∙ ap (λ (n : ℕ). 5 + 4 * ((n + 2) / 3)) e ∙ sym (line_length k) in
    let checks : check_export room m ≡ check_export room k = simp (e, lines) in
    alike (check_export room m) (header_line m) (header_line k) lines ∙ ap (λ (v : Result ⊤ Refusal). answered v (header_line k)) checks

pub every_byte_counts : EveryByteCounts
every_byte_counts m k out other n p hm hk em ek e =
    let a = are_bytes_lem m hm in
    let b = are_bytes_lem k hk in
    sym (message_back m a) ∙ ap (λ (t : List ℕ). decode (text_after_scheme t)) (sym (exported out m n em) ∙ e ∙ exported other k p ek) ∙ message_back k b

-- ---- worked lines

pub worked_lines : WorkedLines
unfolding alphabet is_letter value_of group_holds group_bytes three two one header_line check_export export_answer export_out scheme_holds text_after_scheme check_text check_import import_answer import_out
worked_lines =
    record {
      written = refl;
      one_space = refl;
      three_spaces = refl;
      empty_written = refl;
      empty_read = refl;
      no_space = (refl, refl);
      space_first = (refl, refl);
      other_word = (refl, refl);
      tab = (refl, refl);
      last_bits = (refl, refl);
      no_padding = (refl, refl);
      space_after = (refl, refl);
      section_5 = (refl, refl);
      no_room = (refl, refl);
      just_room = refl;
    }
