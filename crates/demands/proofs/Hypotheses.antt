-- Cases that meet the hypotheses of the theorems.
use Prim.Native.Nat.{ℕ, ◌+◌, ◌-◌, ◌*◌, ◌≤◌}
use mathlib.Core.Path.{◌≡◌, refl, sym, ap}
use mathlib.Core.Logic.{◌⊎◌, inl, inr, ⊎_elim}
use mathlib.Core.Bool.{Bool, true, false}
use mathlib.Core.List.{List}
use native.Mathlib.Omega.{arith}
use lib.Dec.{eqb}
use lib.ListN.{get_or, set, take, length-set}
use lib.Seq.{get_or-set_other}
use borrow.Author.Tests.{eqb-true, eqb-false}
use Rattle.av_pairs.specs.AvPairs.{count_pairs, check_pairs, pairs_of, step_at, pair_of, left}
use Rattle.head.specs.declared.Kind.TheVariants.{Negotiate, Challenge, Authenticate}
use Rattle.head.specs.Head.{kind_of}
use Rattle.demands.specs.Bench.{p1, p12}
use Rattle.demands.specs.Examples.{info, challenge_message, negotiate_message}
use Rattle.demands.specs.Hypotheses.{other_challenge, other_reserved, other_negotiate, other_p1, HypothesesMet}
use Rattle.demands.specs.Ignored.{NlDifferInIgnored, DifferAsRead}
use Rattle.demands.specs.Message.{Format, negotiate, authenticate, challenge, Ignored, max_len, unused, DifferInIgnored, SameMaxLen}
use Rattle.demands.specs.PairList.{PairAt, Holds, FirstFault, FirstWith, this, next}
use Rattle.demands.specs.TakenExactly.{InfoBytes}
use Rattle.demands.proofs.Alike.{same16}
use Rattle.demands.proofs.PairList.{step_judged, pairs_taken, pairs_refused}

-- a message and the same with another low byte of a field's MaxLen
max_len_differs : (k : Format) (s : List ℕ) (i v : ℕ) → 1 ≤ i → i ≤ k.last → DifferInIgnored k s (set s (k.head i + 2) v)
max_len_differs k s i v l r =
    record { length_same = sym (length-set s (k.head i + 2) v); bytes_same = λ p. go p (eqb p (k.head i + 2)) refl }
  where
    go : (p : ℕ) (b : Bool) → eqb p (k.head i + 2) ≡ b → (get_or s p 0 ≡ get_or (set s (k.head i + 2) v) p 0) ⊎ Ignored k s p
    go p true e = inr (max_len i l r (inl (eqb-true p (k.head i + 2) e)))
    go p false e = inl (sym (get_or-set_other s (k.head i + 2) p v 0 (eqb-false p (k.head i + 2) e)))

-- two lists with another byte at a place
differ : (s t : List ℕ) (p : ℕ) → (get_or s p 0 ≡ get_or t p 0 → ⊥) → s ≡ t → ⊥
differ s t p h e = h (ap (λ (l : List ℕ). get_or l p 0) e)

challenge_differs : DifferInIgnored challenge challenge_message other_challenge
challenge_differs = max_len_differs challenge challenge_message 1 0xFF (omega arith) (omega arith)

reserved_differs : DifferInIgnored challenge challenge_message other_reserved
reserved_differs =
    record { length_same = sym (length-set challenge_message 32 0xFF); bytes_same = λ p. go p (eqb p 32) refl }
  where
    go : (p : ℕ) (b : Bool) → eqb p 32 ≡ b → (get_or challenge_message p 0 ≡ get_or other_reserved p 0) ⊎ Ignored challenge challenge_message p
    go p true e = inr (unused (omega (arith, eqb-true p 32 e), omega (arith, eqb-true p 32 e)))
    go p false e = inl (sym (get_or-set_other challenge_message 32 p 0xFF 0 (eqb-false p 32 e)))

reserved_max_len : SameMaxLen challenge challenge_message other_reserved
reserved_max_len i a b c =
    same16 challenge_message other_reserved (28 * i - 16 + 2) (λ p l r. sym (get_or-set_other challenge_message 32 p 0xFF 0 (λ e. omega arith)))

as_read : DifferAsRead challenge_message other_challenge
unfolding kind_of
as_read =
    record {
      as_negotiate = λ (e : Challenge ≡ Negotiate). absurd (let z : ◌≡◌ {A = ℕ} 0 1 = cc in omega arith);
      as_challenge = λ e. challenge_differs;
      as_authenticate = λ (e : Challenge ≡ Authenticate). absurd (let z : ◌≡◌ {A = ℕ} 0 1 = cc in omega arith);
    }

nl_differs : NlDifferInIgnored (p12 0x01) (p12 0x21)
nl_differs =
    record {
      length_same = refl;
      bytes_same = λ p h. sym (get_or-set_other (p12 0x01) 4 p 0x21 0 (λ e. ⊎_elim (λ l. omega arith) (λ l. omega arith) h));
      flags_same = inl refl;
    }

-- the pairs of the list
pair_0 : PairAt info 0
unfolding step_at pair_of left
pair_0 = (step_judged info 0 (omega arith)).0

pair_12 : PairAt info 12
unfolding step_at pair_of left
pair_12 = (step_judged info 12 (omega arith)).0

pair_20 : PairAt info 20
unfolding step_at pair_of left
pair_20 = (step_judged info 20 (omega arith)).0

three_pairs : Holds info 3
unfolding count_pairs check_pairs pairs_of step_at pair_of left
three_pairs = (pairs_taken info 3).0 refl

no_end_pair : FirstFault (take 32 info) 11 32 0
unfolding count_pairs check_pairs pairs_of step_at pair_of left
no_end_pair = ((pairs_refused (take 32 info) 11 2 32).0 (refl, refl, refl)).2

first_timestamp_at : FirstWith info 7 20 0
first_timestamp_at = next pair_0 (λ e. omega arith) (next pair_12 (λ e. omega arith) (this refl pair_20 refl))

bytes_of_info : InfoBytes challenge_message info
bytes_of_info =
    record {
      there = λ ne. refl;
      absent = λ no. absurd (no (record { first = omega arith; last = omega arith; counts = (λ e. refl, λ e. refl); some = omega arith }));
    }

pub hypotheses_met : HypothesesMet
hypotheses_met =
    record {
      challenge_ignored = (challenge_differs, differ challenge_message other_challenge 14 (λ e. omega arith));
      negotiate_ignored = (
        max_len_differs negotiate negotiate_message 1 0xFF (omega arith) (omega arith),
        differ negotiate_message other_negotiate 18 (λ e. omega arith),
      );
      authenticate_ignored = (
        max_len_differs authenticate p1 1 0xFF (omega arith) (omega arith),
        differ p1 other_p1 14 (λ e. omega arith),
      );
      same_max_len = ((reserved_differs, reserved_max_len), differ challenge_message other_reserved 32 (λ e. omega arith));
      read_as_challenge = as_read;
      nl_auth_ignored = (nl_differs, differ (p12 0x01) (p12 0x21) 4 (λ e. omega arith));
      info_bytes = bytes_of_info;
      well_formed = three_pairs;
      first_timestamp = first_timestamp_at;
      third_pair = (pair_0, (pair_12, (refl, pair_20)));
      runs_out = no_end_pair;
      wide = refl;
      as_long = record { mic_16 = refl; mic_same = refl; lm_same = refl; nt_same = refl; key_same = refl };
    }
