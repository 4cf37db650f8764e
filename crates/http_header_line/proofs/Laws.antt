-- Laws of export and import.
use Rattle.std.specs.Prelude.{Result, Ok, Err, ⊤}
use Prim.Native.Nat.{ℕ, ◌+◌, ◌*◌, ◌/◌, ◌≤◌, ◌<◌}
use mathlib.Core.Path.{◌≡◌, refl, sym, ap, ◌∙◌}
use mathlib.Core.Bool.{Bool, true, false, cond}
use mathlib.Core.List.{List, ◌∷◌}
use native.Mathlib.Numerals.{add-one}
use native.Mathlib.Omega.{arith}
use lib.Dec.{eqb, leb}
use lib.ListN.{length, get_or, drop, length-append, drop_of_length-le}
use lib.Seq.{drop-cons}
use borrow.Author.Tests.{leb-true, eq-eqb, ne_eqb}
use Rattle.wire.specs.Text.{ascii}
use Rattle.wire.specs.declared.check.Checked.{Checked}
use Rattle.wire.specs.declared.check.Checked.TheVariants.{Held}
use Rattle.wire.specs.declared.refusal.Refusal.{Refusal}
use Rattle.wire.specs.declared.refusal.Refusal.TheVariants.{TooLong, NoRoom, WrongBase64}
use Rattle.wire.specs.Check.{checked, after}
use Rattle.wire.proofs.Laws.{held_true, after_clear}
use Rattle.wire.proofs.Bools.{and_left}
use Rattle.place.specs.Place.{Wrote}
use Rattle.place.specs.Written.{room_holds}
use Rattle.place.proofs.Laws.{kept}
use Rattle.base64_text.specs.Base64.{encode, is_base64, decode}
use Rattle.base64_text.proofs.Size.{length-encode}
use Rattle.http_header_line.specs.HttpHeader.{message_holds, header_line, check_export, upper, scheme_holds, after_spaces, text_after_scheme, check_text}

-- ---- export

pub line_length : (m : List ℕ) → length (header_line m) ≡ 5 + 4 * ((length m + 2) / 3)
unfolding header_line
line_length m = length-append (ascii "NTLM ") (encode m) ∙ ap (λ (n : ℕ). 5 + n) (length-encode m)

pub word_room : (m : List ℕ) (n : ℕ) → length (header_line m) ≤ n → 0 + 5 ≤ n
word_room m n h = omega (arith, line_length m)

pub text_room : (m l k : List ℕ) (q : ℕ) → length (header_line m) ≤ length l → Wrote l k 0 q (ascii "NTLM ") → q + length (encode m) ≤ length k
text_room m l k q h w = omega (arith, line_length m, length-encode m, kept l k (ascii "NTLM ") 0 q w, w.place)

-- a line whose checks held has its room
pub line_fits : (m : List ℕ) (r : Result ⊤ Refusal) (room : ℕ) → r ≡ check_export room m → r ≡ Ok tt → length (header_line m) ≤ room
unfolding check_export
line_fits m r room e h =
    leb-true (length (header_line m)) room
    (after_clear (leb (length (header_line m)) room) NoRoom (Ok tt) (after_clear (leb (length m) 65535) TooLong _ (sym e ∙ h)).1).0

-- ---- the scheme word

pub scheme_long : (t : List ℕ) (r : Checked) → r ≡ scheme_holds t → r ≡ Held → 4 ≤ length t
unfolding scheme_holds
scheme_long t r e h =
    omega (
      arith,
      leb-true 5 (length t)
          (and_left _ (eqb (upper (get_or t 0 0)) 0x4E)
          (and_left _ (eqb (upper (get_or t 1 0)) 0x54)
          (and_left _ (eqb (upper (get_or t 2 0)) 0x4C)
          (and_left _ (eqb (upper (get_or t 3 0)) 0x4D) (and_left _ (eqb (get_or t 4 0) 0x20) (held_true _ (sym e ∙ h))))))),
    )

-- ---- the spaces: those before i are passed over

pub record Skipped (t : List ℕ) (i : ℕ) : Type 0 where
  pub rest : after_spaces (drop i t) ≡ text_after_scheme t

pub none_skipped : (t : List ℕ) → Skipped t 4
unfolding text_after_scheme
none_skipped t = record { rest = refl }

at_one : (s : List ℕ) (i : ℕ) → i < length s → drop i s ≡ get_or s i 0 ∷ drop (i + 1) s
at_one s i h = rw (add-one, drop-cons s i 0)

module _ (t : List ℕ) (i : ℕ) (s : Skipped t i) where
  step : i < length t → (b : Bool) → eqb (get_or t i 0) 32 ≡ b → cond b (after_spaces (drop (i + 1) t)) (get_or t i 0 ∷ drop (i + 1) t) ≡ text_after_scheme t
  step h b e =
      sym (ap after_spaces (at_one t i h) ∙ ap (λ (x : Bool). cond x (after_spaces (drop (i + 1) t)) (get_or t i 0 ∷ drop (i + 1) t)) e) ∙ s.rest

  pub one_skipped : i < length t → get_or t i 0 ≡ 32 → Skipped t (i + 1)
  one_skipped h e = record { rest = step h true (eq-eqb (get_or t i 0) 32 e) }

  pub at_text : i < length t → (get_or t i 0 ≡ 32 → ⊥) → drop i t ≡ text_after_scheme t
  at_text h e = at_one t i h ∙ step h false (ne_eqb (get_or t i 0) 32 e)

  pub at_end : length t ≤ i → drop i t ≡ text_after_scheme t
  at_end h = drop_of_length-le t h ∙ sym (ap after_spaces (drop_of_length-le t h)) ∙ s.rest

pub ruleset skipped = (at_text, at_end)

-- ---- the text

-- a text whose checks held is in base64, and has room for its message
module _ (t : List ℕ) (r : Result ⊤ Refusal) (room : ℕ) (e : r ≡ check_text room t) (h : r ≡ Ok tt) where
  unfolded : ◌≡◌ {A = Result ⊤ Refusal} (after (checked (is_base64 t)) (Err WrongBase64) (
      after (message_holds (length (decode t))) (Err TooLong) (after (room_holds (length (decode t)) room) (Err NoRoom) (Ok tt)))) (Ok tt)
  unfolding check_text
  unfolded = sym e ∙ h

  pub text_base64 : is_base64 t ≡ true
  text_base64 = (after_clear (is_base64 t) WrongBase64 _ unfolded).0

  pub text_fits : length (decode t) ≤ room
  text_fits =
      leb-true (length (decode t)) room
      (after_clear (leb (length (decode t)) room) NoRoom (Ok tt)
      (after_clear (leb (length (decode t)) 65535) TooLong _ (after_clear (is_base64 t) WrongBase64 _ unfolded).1).1).0
