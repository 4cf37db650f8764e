-- The lines of checks, by the state of each.
use Prim.Native.Nat.{ℕ, ◌+◌}
use mathlib.Core.Path.{◌≡◌, refl, sym, ap, ◌∙◌}
use mathlib.Core.Bool.{Bool, true, false, ◌||◌, ◌&&◌, not}
use mathlib.Core.List.{List, [], ◌∷◌, ◌++◌, append_assoc}
use native.Mathlib.Omega.{arith}
use lib.Dec.{ltb, eqb}
use borrow.Author.Tests.{eqb-true, eqb-false, eq-eqb, ne_eqb, ltb-true, ltb-false, lt-ltb, le-ltb}
use Rattle.wire.specs.Text.{ascii}
use Rattle.line_words.specs.Words.{number_word, line_end}
use Rattle.line_checks.specs.declared.Figures.{Figures as Given}
use Rattle.line_checks.specs.Checks.{plain_words, pair_figures, pair_words, message_words, figure_words, failed_words, words_of, check_line, lines_from}
use Rattle.demands.specs.Order.{rank_in}
use Rattle.demands.specs.Explained.{Figures, State, held, failed, not_reached, line_text, print_of}
use Rattle.demands.proofs.Bools.{true_not_false}

abbrev pub shown : Given → Figures
shown g =
    record { field = g.field; offset = g.head.offset; len = g.head.len; message = g.message; at = g.at; id = g.id; size = g.size }

-- by whether a check comes before the one that failed, and whether it is that one
abbrev pub state_by : Bool → Bool → Figures → State
state_by true same f = held
state_by false true f = failed f
state_by false false f = not_reached

abbrev pub state_of : Given → List ℕ → ℕ → State
state_of g checks n = state_by (ltb (rank_in checks n) (rank_in checks g.number)) (eqb n g.number) (shown g)

-- ---- a line

line_held : (g : Given) (n : ℕ) → eqb n g.number ≡ false → check_line true g n ≡ line_text n held
unfolding check_line words_of plain_words number_word
line_held g n h = simp (h, append_assoc)

line_not_reached : (g : Given) (n : ℕ) → check_line false g n ≡ line_text n not_reached
unfolding check_line words_of plain_words number_word
line_not_reached g n = simp append_assoc

in_turn : (a b c d e p z : List ℕ) → (a ++ (b ++ (c ++ (d ++ (e ++ p))))) ++ z ≡ a ++ (b ++ (c ++ (d ++ (e ++ (p ++ z)))))
in_turn a b c d e p z = simp append_assoc

failed_words_lem : (g : Given) → failed_words g ++ line_end ≡ line_text g.number (failed (shown g))
unfolding failed_words figure_words message_words pair_words pair_figures number_word
failed_words_lem g =
    in_turn (number_word (ascii "check ") g.number) (number_word (ascii " failed field=") g.field) (number_word (ascii " offset=") g.head.offset)
    (number_word (ascii " length=") g.head.len) (number_word (ascii " message=") g.message) (pair_words g) line_end

line_failed : (g : Given) (n : ℕ) → n ≡ g.number → check_line true g n ≡ line_text n (failed (shown g))
unfolding check_line words_of
line_failed g n h = rw h (simp (eq-eqb g.number g.number refl) (failed_words_lem g))

-- ---- the lines: no check is listed twice

abbrev member : ℕ → List ℕ → Bool
member c [] = false
member c (x ∷ xs) = eqb x c || member c xs

abbrev pub distinct : List ℕ → Bool
distinct [] = true
distinct (c ∷ cs) = not (member c cs) && distinct cs

abbrev All : (ℕ → Type 0) → List ℕ → Type 0
All P [] = Unit
All P (c ∷ cs) = P c × All P cs

others : (c : ℕ) (cs : List ℕ) → member c cs ≡ false → All (λ x. x ≡ c → ⊥) cs
others c [] h = tt
others c (x ∷ xs) h = go (eqb x c) refl h (λ q. others c xs q) where
  go : (t : Bool) → eqb x c ≡ t → (t || member c xs) ≡ false → (member c xs ≡ false → All (λ y. y ≡ c → ⊥) xs) → (x ≡ c → ⊥) × All (λ y. y ≡ c → ⊥) xs
  go true p q rest = absurd (true_not_false q)
  go false p q rest = (eqb-false x c p, rest q)

print_same : (f g : ℕ → State) (cs : List ℕ) → All (λ x. f x ≡ g x) cs → print_of f cs ≡ print_of g cs
print_same f g [] h = refl
print_same f g (c ∷ cs) h = rw (h.0, print_same f g cs h.1)

every : (P Q : ℕ → Type 0) (cs : List ℕ) → ((x : ℕ) → P x → Q x) → All P cs → All Q cs
every P Q [] f h = tt
every P Q (c ∷ cs) f h = (f c h.0, every P Q cs f h.1)

none_reached : (g : Given) (cs : List ℕ) → lines_from false g cs ≡ print_of (λ n. not_reached) cs
none_reached g [] = refl
none_reached g (c ∷ cs) = rw (line_not_reached g c, none_reached g cs)

place_here : (c : ℕ) (cs : List ℕ) → rank_in (c ∷ cs) c ≡ 0
place_here c cs = simp (eq-eqb c c refl)

place_there : (c : ℕ) (cs : List ℕ) (x : ℕ) → (x ≡ c → ⊥) → rank_in (c ∷ cs) x ≡ 1 + rank_in cs x
place_there c cs x h = simp (ne_eqb x c h)

-- after the check that failed
state_after : (g : Given) (c : ℕ) (cs : List ℕ) (x : ℕ) → c ≡ g.number → (x ≡ c → ⊥) → not_reached ≡ state_of g (c ∷ cs) x
state_after g c cs x e h =
    let not_before : ltb (rank_in (c ∷ cs) x) (rank_in (c ∷ cs) g.number) ≡ false =
    rw (← e) (le-ltb (rank_in (c ∷ cs) x) (rank_in (c ∷ cs) c) (omega (arith, place_here c cs))) in
    simp (not_before, ne_eqb x g.number (λ q. h (q ∙ sym e)))

-- before it, and at it
state_held : (g : Given) (c : ℕ) (cs : List ℕ) → (g.number ≡ c → ⊥) → held ≡ state_of g (c ∷ cs) c
state_held g c cs h = simp (lt-ltb (rank_in (c ∷ cs) c) (rank_in (c ∷ cs) g.number) (omega (arith, place_here c cs, place_there c cs g.number h)))

state_failed : (g : Given) (c : ℕ) (cs : List ℕ) → c ≡ g.number → failed (shown g) ≡ state_of g (c ∷ cs) c
state_failed g c cs e =
    let not_before : ltb (rank_in (c ∷ cs) c) (rank_in (c ∷ cs) g.number) ≡ false =
    rw (← e) (le-ltb (rank_in (c ∷ cs) c) (rank_in (c ∷ cs) c) (omega arith)) in
    simp (not_before, eq-eqb c g.number e)

-- a check before both changes nothing
state_on : (g : Given) (c : ℕ) (cs : List ℕ) (x : ℕ) → (g.number ≡ c → ⊥) → (x ≡ c → ⊥) → state_of g cs x ≡ state_of g (c ∷ cs) x
state_on g c cs x h e = rw (place_there c cs x e, place_there c cs g.number h) (ap (λ (t : Bool). state_by t (eqb x g.number) (shown g)) (go (ltb (rank_in cs x) (rank_in cs g.number)) refl)) where
  go : (t : Bool) → ltb (rank_in cs x) (rank_in cs g.number) ≡ t → ltb (rank_in cs x) (rank_in cs g.number) ≡ ltb (1 + rank_in cs x) (1 + rank_in cs g.number)
  go true p = p ∙ sym (lt-ltb (1 + rank_in cs x) (1 + rank_in cs g.number) (omega (arith, ltb-true (rank_in cs x) (rank_in cs g.number) p)))
  go false p = p ∙ sym (le-ltb (1 + rank_in cs x) (1 + rank_in cs g.number) (omega (arith, ltb-false (rank_in cs x) (rank_in cs g.number) p)))

pub lines_are : (g : Given) (checks : List ℕ) → distinct checks ≡ true → lines_from true g checks ≡ print_of (state_of g checks) checks
lines_are g [] h = refl
lines_are g (c ∷ cs) h = go (member c cs) (eqb c g.number) refl refl h (λ r. lines_are g cs r) where
  go : (m t : Bool) → member c cs ≡ m → eqb c g.number ≡ t → (not m && distinct cs) ≡ true →
      (distinct cs ≡ true → lines_from true g cs ≡ print_of (state_of g cs) cs) →
      check_line true g c ++ lines_from (true && not t) g cs ≡ print_of (state_of g (c ∷ cs)) (c ∷ cs)
  go true t p q r later = absurd (true_not_false (sym r))
  go false true p q r later =
      let e = eqb-true c g.number q in
      let rest = every (λ x. x ≡ c → ⊥) (λ x. not_reached ≡ state_of g (c ∷ cs) x) cs (λ x n. state_after g c cs x e n) (others c cs p) in
      simp (line_failed g c e, none_reached g cs, print_same (λ n. not_reached) (state_of g (c ∷ cs)) cs rest)
      (ap (λ (x : State). line_text c x ++ print_of (state_of g (c ∷ cs)) cs) (state_failed g c cs e))
  go false false p q r later =
      let e : g.number ≡ c → ⊥ = λ x. eqb-false c g.number q (sym x) in
      let rest = every (λ x. x ≡ c → ⊥) (λ x. state_of g cs x ≡ state_of g (c ∷ cs) x) cs (λ x n. state_on g c cs x e n) (others c cs p) in
      simp (line_held g c q, later r, print_same (state_of g cs) (state_of g (c ∷ cs)) cs rest)
      (ap (λ (x : State). line_text c x ++ print_of (state_of g (c ∷ cs)) cs) (state_held g c cs e))
