-- Laws of the choice of a kind, and of what a program prints.
use Rattle.std.specs.Prelude.{Result, Ok, Err}
use Prim.Native.Nat.{ℕ, ◌+◌, ◌≤◌}
use mathlib.Core.Path.{◌≡◌, refl, sym, ap, ◌∙◌}
use mathlib.Core.Bool.{Bool, true, false}
use mathlib.Core.List.{List, ◌++◌}
use native.Mathlib.Omega.{arith}
use lib.Dec.{leb}
use lib.ListN.{length, take, drop, length-append}
use lib.Seq.{take_at}
use Rattle.wire.specs.declared.refusal.Refusal.{Refusal}
use Rattle.wire.specs.declared.refusal.Refusal.TheVariants.{NoRoom}
use Rattle.wire.specs.Check.{checked, after}
use Rattle.head.specs.declared.Kind.{Kind}
use Rattle.head.specs.declared.Kind.TheVariants.{Negotiate, Challenge, Authenticate}
use Rattle.head.specs.Head.{kind_of}
use Rattle.place.specs.Written.{answered, bytes_answer, bytes_after}
use Rattle.line_refused.specs.Refused.{refused_line}
use Rattle.line.specs.Line.{negotiate_line, challenge_line, authenticate_line, ntlm_line, shown_line}

-- ---- the kind that was chosen

module _ (s : List ℕ) (k : Kind) (e : k ≡ kind_of s) where
  pub as_negotiate : k ≡ Negotiate → negotiate_line s ≡ ntlm_line s
  unfolding ntlm_line
  as_negotiate h = simp (← e, h)

  pub as_challenge : k ≡ Challenge → challenge_line s ≡ ntlm_line s
  unfolding ntlm_line
  as_challenge h = simp (← e, h)

  pub as_authenticate : k ≡ Authenticate → authenticate_line s ≡ ntlm_line s
  unfolding ntlm_line
  as_authenticate h = simp (← e, h)

pub ruleset chosen = (as_negotiate, as_challenge, as_authenticate)

-- ---- what a program prints

module _ (line out : List ℕ) (r : Result ℕ Refusal) (p : r ≡ bytes_answer line out) where
  -- a line that was written had room
  had_room : (n : ℕ) → r ≡ Ok n → (leb (length line) (length out) ≡ true) × (n ≡ length line)
  unfolding bytes_answer
  had_room n h = go (leb (length line) (length out)) (sym p ∙ h) where
    go : (t : Bool) → answered (after (checked t) (Err NoRoom) (Ok tt)) line ≡ Ok n → (t ≡ true) × (n ≡ length line)
    go true e = (refl, cc)
    go false e = (cc, cc)

  had_none : (e : Refusal) → r ≡ Err e → leb (length line) (length out) ≡ false
  unfolding bytes_answer
  had_none e h = go (leb (length line) (length out)) (sym p ∙ h) where
    go : (t : Bool) → answered (after (checked t) (Err NoRoom) (Ok tt)) line ≡ Err e → t ≡ false
    go true e = cc
    go false e = refl

  module _ (n : ℕ) (h : r ≡ Ok n) where
    shown : line ≡ shown_line line out
    unfolding shown_line
    shown = simp (had_room n h).0

    pub shown_answer : r ≡ bytes_answer (shown_line line out) out
    shown_answer = rw (← shown) p

    pub shown_after : (k : List ℕ) → k ≡ bytes_after line out → k ≡ bytes_after (shown_line line out) out
    shown_after k q = rw (← shown) q

  module _ (e : Refusal) (h : r ≡ Err e) (k : List ℕ) (q : k ≡ bytes_after line out) where
    untouched : k ≡ out
    unfolding bytes_after
    untouched = q ∙ simp (had_none e h)

    instead : refused_line NoRoom ≡ shown_line line out
    unfolding shown_line
    instead = simp (had_none e h)

    pub instead_answer : (v : Result ℕ Refusal) → v ≡ bytes_answer (refused_line NoRoom) k → v ≡ bytes_answer (shown_line line out) out
    instead_answer v g = rw (← instead, ← untouched) g

    pub instead_after : (m : List ℕ) → m ≡ bytes_after (refused_line NoRoom) k → m ≡ bytes_after (shown_line line out) out
    instead_after m g = rw (← instead, ← untouched) g

-- ---- the line's bytes are there, from the output's start on

module _ (line out : List ℕ) (n : ℕ) (h : bytes_answer line out ≡ Ok n) where
  after_line : bytes_after line out ≡ line ++ drop (length line) out
  unfolding bytes_after
  after_line = simp (had_room line out (bytes_answer line out) refl n h).0

  pub line_in_output : n ≤ length (bytes_after line out)
  line_in_output =
      let whole : length (bytes_after line out) ≡ length line + length (drop (length line) out) = ap length after_line ∙ simp length-append in
      omega (arith, whole, (had_room line out (bytes_answer line out) refl n h).1)

  pub take-bytes_after : take n (bytes_after line out) ≡ line
  take-bytes_after =
      ap (take n) after_line ∙ take_at line (drop (length line) out) n (sym (had_room line out (bytes_answer line out) refl n h).1)

pub ruleset written = (line_in_output, take-bytes_after)
