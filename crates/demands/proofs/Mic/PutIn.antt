-- Sixteen bytes put at 72 of the AUTHENTICATE: the check says yes to what is worked out, and to nothing else.
use Rattle.std.specs.Prelude.{Result, Ok, Err}
use Rattle.wire.specs.declared.refusal.Refusal.{Refusal}
use Prim.Native.Nat.{ℕ, suc, ◌+◌, ◌≤◌, ◌<◌}
use mathlib.Core.Path.{◌≡◌, refl, sym, ap, ◌∙◌}
use mathlib.Core.Logic.{◌⊎◌, inl, inr}
use mathlib.Core.Bool.{Bool, true, false}
use mathlib.Core.List.{List, [], ◌∷◌, ◌++◌, append_assoc}
use native.Mathlib.Omega.{arith}
use borrow.Author.Tests.{leb-true, leb-false, ltb-true, ltb-false}
use lib.Dec.{leb, ltb}
use lib.ListN.{length, get_or, set, take, drop, length-take}
use lib.Seq.{sets, sets-eq, length-sets, get_or-set_other, take_at, drop_at}
use Rattle.mic.specs.declared.Computed.{Computed}
use Rattle.mic.specs.Mic.{computed_mic, check_mic}
use Rattle.mic.proofs.Laws.{passed}
use Rattle.demands.specs.Mic.{Agree, DifferInMic, PutIn, MicPutIn}
use Rattle.demands.proofs.Mic.{mic_agree, mic_blind}

-- a byte outside what is put in stays
outside : (vs l : List ℕ) (i p : ℕ) → (p < i) ⊎ (i + length vs ≤ p) → get_or (sets l i vs) p 0 ≡ get_or l p 0
outside [] l i p h = refl
outside (v ∷ vs) l i p (inl h) = outside vs (set l i v) (suc i) p (inl (omega arith)) ∙ get_or-set_other l i p v 0 (λ e. omega arith)
outside (v ∷ vs) l i p (inr h) = outside vs (set l i v) (suc i) p (inr (omega arith)) ∙ get_or-set_other l i p v 0 (λ e. omega arith)

-- and what is put in stands there
put : (vs l : List ℕ) (i n : ℕ) → length vs ≡ n → i + n ≤ length l → take n (drop i (sets l i vs)) ≡ vs
put vs l i n e h =
    let there : sets l i vs ≡ take i l ++ (vs ++ drop (i + length vs) l) =
    sets-eq vs l i (omega arith) ∙ append_assoc (take i l) vs (drop (i + length vs) l) in
    let at : length (take i l) ≡ i = simp length-take (omega arith) in
    ap (λ (x : List ℕ). take n (drop i x)) there ∙ ap (take n) (drop_at (take i l) (vs ++ drop (i + length vs) l) i at) ∙ take_at vs (drop (i + length vs) l) n e

module _ (key nego chal auth bytes : List ℕ) (clear : (computed_mic key nego chal auth).verdict ≡ Ok tt) (l : length bytes ≡ 16) where
  t : List ℕ
  t = sets auth 72 bytes

  differ : DifferInMic t auth
  unfolding t
  differ = record { length_same = length-sets auth 72 bytes; elsewhere = λ p. go p (ltb p 72) (leb 88 p) refl refl } where
    go : (p : ℕ) (a b : Bool) → ltb p 72 ≡ a → leb 88 p ≡ b → (get_or (sets auth 72 bytes) p 0 ≡ get_or auth p 0) ⊎ ((72 ≤ p) × (p < 88))
    go p true b x y = inl (outside bytes auth 72 p (inl (ltb-true p 72 x)))
    go p false true x y = inl (outside bytes auth 72 p (inr (omega (arith, l, leb-true 88 p y))))
    go p false false x y = inr (ltb-false p 72 x, leb-false 88 p y)

  same : computed_mic key nego chal t ≡ computed_mic key nego chal auth
  same = mic_blind key nego chal t auth differ

  there : take 16 (drop 72 t) ≡ bytes
  unfolding t computed_mic
  there = put bytes auth 72 16 l (passed (length key) nego chal auth clear).mic_inside

  agree : Agree key nego chal t
  agree = mic_agree key nego chal t

  clear_too : (computed_mic key nego chal t).verdict ≡ Ok tt
  clear_too = ap (λ (w : Computed). w.verdict) same ∙ clear

  mic_same : (computed_mic key nego chal t).mic ≡ (computed_mic key nego chal auth).mic
  mic_same = ap (λ (w : Computed). w.mic) same

  -- of the check's three answers one is left for other bytes
  otherwise : (bytes ≡ (computed_mic key nego chal auth).mic → ⊥) → (c : Result Bool Refusal) → check_mic key nego chal t ≡ c → c ≡ Ok false
  otherwise other (Ok true) e = absurd (other (sym there ∙ (agree.yes.0 e).1 ∙ mic_same))
  otherwise other (Ok false) e = refl
  otherwise other (Err d) e =
      absurd (let q : (Ok tt) ≡ Err d = sym clear_too ∙ (agree.refused d).0 e in let z : ◌≡◌ {A = ℕ} 0 1 = cc in omega arith)

  put_in : PutIn key nego chal auth bytes
  unfolding t
  put_in =
      record {
        yes = λ e. agree.yes.1 (clear_too, there ∙ e ∙ sym mic_same);
        no = λ n. otherwise n (check_mic key nego chal t) refl;
      }

pub mic_put_in : MicPutIn
mic_put_in key nego chal auth bytes clear l = put_in key nego chal auth bytes clear l
