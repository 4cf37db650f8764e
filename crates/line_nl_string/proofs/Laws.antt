-- Laws of a string's text: its length, and which one is written.
use Rattle.std.specs.Prelude.{Ok}
use Prim.Native.Nat.{ℕ, ◌+◌, ◌-◌, ◌*◌, ◌≤◌}
use mathlib.Core.Path.{◌≡◌, ap}
use mathlib.Core.Bool.{Bool, true, false}
use mathlib.Core.List.{List, []}
use native.Mathlib.Omega.{arith}
use lib.ListN.{length}
use borrow.Author.Tests.{le-leb}
use Rattle.wire.specs.declared.check.Checked.{Checked}
use Rattle.place.specs.Place.{Wrote}
use Rattle.place.specs.Written.{room_holds, bytes_answer, bytes_after}
use Rattle.line_words.specs.Name.{name_text}
use Rattle.line_words.specs.Words.{Room}
use Rattle.line_words.proofs.Names.{name_bound}
use Rattle.read_dns_name.specs.DnsName.{labels_at}
use Rattle.line_dns_name.specs.DnsNameText.{dns_name_text as dns_text}
use Rattle.read_nl_auth.specs.declared.string.NlString.{NlString}
use Rattle.read_nl_auth.specs.NlAuth.{string_bytes, buffer_of, in_buffer}
use Rattle.read_nl_auth.proofs.Names.{string_small}
use Rattle.line_nl_string.specs.StringText.{oem_text, utf8_text, either_text}

-- ---- strings A and B, by their bytes as they are lent

module _ (s : List ℕ) (x : NlString) (b : Bool) (h : b ≡ false) (bytes : List ℕ) (e : bytes ≡ string_bytes s x) where
  oem_is : name_text false bytes ≡ either_text b s x
  unfolding either_text oem_text
  oem_is = simp (h, e)

  pub oem_length : (n : ℕ) → n ≡ 4 * x.len - length (name_text false bytes) → 4 * x.len - n ≡ length (either_text b s x)
  oem_length n f = rw (← oem_is) (omega (arith, name_bound false bytes, ap length e, string_small s x))

  pub oem_room : (n : ℕ) → Room 0 (either_text b s x) n → length (name_text false bytes) ≤ n
  oem_room n r = omega (arith, r.fits, ap length oem_is)

  pub oem_wrote : (l k : List ℕ) (q : ℕ) → Wrote l k 0 q (name_text false bytes) → Wrote l k 0 q (either_text b s x)
  oem_wrote l k q w = rw (← oem_is) w

-- ---- strings C, D and E, by the buffer as it is lent

module _ (s : List ℕ) (x : NlString) (b : Bool) (h : b ≡ true) (buf : List ℕ) (at : ℕ) (e : buf ≡ buffer_of s) (f : at ≡ in_buffer x.offset) where
  utf8_is : dns_text (labels_at buf at) ≡ either_text b s x
  unfolding either_text utf8_text
  utf8_is = simp (h, e, f)

  pub utf8_length : (n : ℕ) → n ≡ length (dns_text (labels_at buf at)) → n ≡ length (either_text b s x)
  utf8_length n h = rw (← utf8_is) h

  pub utf8_room : (n : ℕ) → Room 0 (either_text b s x) n → 0 + length (dns_text (labels_at buf at)) ≤ n
  utf8_room n r = omega (arith, r.fits, ap length utf8_is)

  pub utf8_wrote : (l k : List ℕ) (i q : ℕ) → Wrote l k i q (dns_text (labels_at buf at)) → Wrote l k i q (either_text b s x)
  utf8_wrote l k i q w = rw (← utf8_is) w

-- ---- one text alone

-- check 33 by the length that was worked out
pub by_length : (text : List ℕ) (n room : ℕ) (r : Checked) → n ≡ length text → r ≡ room_holds n room → r ≡ room_holds (length text) room
by_length text n room r e h = rw (← e) h

-- no text
module _ (text out : List ℕ) (e : [] ≡ text) where
  pub none_answer : Ok 0 ≡ bytes_answer text out
  unfolding bytes_answer
  none_answer = simp (← e, le-leb 0 (length out) (omega arith))

  pub none_after : out ≡ bytes_after text out
  unfolding bytes_after
  none_after = simp (← e, le-leb 0 (length out) (omega arith))
