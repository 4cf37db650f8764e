-- Demand 2: "A message is taken exactly when every check there holds", and demand 1: "It answers, or refuses by a
-- number from document 01 in the order given there." One record says both of each reader, as `WrittenExactly` does of each
-- writer. It goes by the reader's verdict: what was read is taken, or refused with a refusal.
use Rattle.read_nl_auth.specs.declared.NlAuth.{NlAuth}
use Rattle.std.specs.Prelude.{Result, Ok, Err, ⊤, ℕ, ◌+◌, ◌≤◌, ◌≡◌, ◌↔◌, List, [], take, drop}
use Rattle.wire.specs.declared.refusal.Refusal.{Refusal}
use Rattle.wire.specs.Refusal.{number_of, field_of, place_of}
use Rattle.av_pairs.specs.AvPairs.{count_pairs}
use Rattle.read_negotiate.specs.Negotiate.{read_negotiate}
use Rattle.read_authenticate.specs.Authenticate.{read_authenticate}
use Rattle.read_challenge.specs.Challenge.{read_challenge}
use Rattle.read_nl_auth.specs.NlAuth.{read_nl_auth}
use Rattle.verdict.specs.Verdict.{nego_verdict, chal_verdict, auth_verdict}
use Rattle.demands.specs.NlAuth.{NlFails, NlFirst}
use Rattle.demands.specs.Order.{First}
use Rattle.demands.specs.Message.{Fails, negotiate, authenticate, challenge, Nonempty, len_of, offset_of}
use Rattle.demands.specs.PairList.{Holds, ListFails}

-- ---- taken exactly, refused exactly

abbrev pub IsTaken : Result ⊤ Refusal → Type 0
IsTaken (Ok tt) = Unit
IsTaken (Err e) = ⊥

-- a refusal by all that it returns: number, field and place
abbrev pub RefusalIs : Refusal → ℕ → ℕ → ℕ → Type 0
RefusalIs e n i p = (number_of e ≡ n) × (field_of e ≡ i) × (place_of e ≡ p)

abbrev pub RefusedWith : Result ⊤ Refusal → ℕ → ℕ → ℕ → Type 0
RefusedWith (Ok tt) n i p = ⊥
RefusedWith (Err e) n i p = RefusalIs e n i p

pub record Judged (verdict : Result ⊤ Refusal) (AllHold : Type 0) (FailsFirst : ℕ → ℕ → ℕ → Type 0) : Type 0 where
  -- it is taken if and only if this holds
  pub taken : IsTaken verdict ↔ AllHold
  -- and refused with number n, field i and place p if and only if that is what fails first
  pub refused : (n i p : ℕ) → RefusedWith verdict n i p ↔ FailsFirst n i p

-- checks without a place, of which `F n i` says that check n fails at field i: none fails, and the first that does
abbrev pub NoneFails : (ℕ → ℕ → Type 0) → Type 0
NoneFails F = (n i : ℕ) → F n i → ⊥

abbrev pub FirstFails : (ℕ → ℕ → Type 0) → ℕ → ℕ → ℕ → Type 0
FirstFails F n i p = First F n i × (p ≡ 0)

-- ---- AUTHENTICATE and NEGOTIATE: no check fails at any field, or the first failure in document 01's order

abbrev pub AuthenticateJudged : Type 0
AuthenticateJudged =
    (s : List ℕ) →
    Judged (auth_verdict (read_authenticate s).reading) (NoneFails (Fails authenticate s)) (FirstFails (Fails authenticate s))

abbrev pub NegotiateJudged : Type 0
NegotiateJudged = (s : List ℕ) → Judged (nego_verdict (read_negotiate s)) (NoneFails (Fails negotiate s)) (FirstFails (Fails negotiate s))

-- document 02, 3/12: "with 0 for every other number" than 10 to 13
abbrev pub PlaceOfPairsOnly : Type 0
PlaceOfPairsOnly = (e : Refusal) → ((10 ≤ number_of e) × (number_of e ≤ 13) → ⊥) → place_of e ≡ 0

-- ---- a pair list

abbrev pub count_verdict : Result ℕ Refusal → Result ⊤ Refusal
count_verdict (Ok n) = Ok tt
count_verdict (Err e) = Err e

-- it is taken, with its count, if and only if it is empty or well-formed
abbrev pub PairsTaken : Type 0
PairsTaken = (s : List ℕ) (n : ℕ) → (count_pairs s ≡ Ok n) ↔ Holds s n

-- and refused with a number, field 2 and a place if and only if the earliest faulty pair has that fault and starts there
abbrev pub PairsRefused : Type 0
PairsRefused = (s : List ℕ) (n i p : ℕ) → RefusedWith (count_verdict (count_pairs s)) n i p ↔ ListFails s n i p

-- ---- CHALLENGE

-- b are the bytes of TargetInfo, field 2
pub record InfoBytes (s b : List ℕ) : Type 0 where
  pub there : Nonempty challenge s 2 → b ≡ take (len_of challenge s 2) (drop (offset_of challenge s 2) s)
  pub absent : (Nonempty challenge s 2 → ⊥) → b ≡ []

-- every message has them
abbrev pub InfoIsThere : Type 0
InfoIsThere = (s : List ℕ) → (b : List ℕ) × InfoBytes s b

-- no check of 1 to 8 fails at any field, and TargetInfo is a well-formed list
pub record ChallengeHolds (s b : List ℕ) : Type 0 where
  pub fields : (n i : ℕ) → Fails challenge s n i → ⊥
  pub count : ℕ
  pub list : Holds b count

-- the first of these fails with number n at field i, or none does and TargetInfo's earliest faulty pair has the number; its place
-- in the message is TargetInfo's offset more than in the list
pub data ChallengeFails (s b : List ℕ) (n i p : ℕ) : Type 0 where
  in_fields : p ≡ 0 → First (Fails challenge s) n i → ChallengeFails s b n i p
  in_list : {q : ℕ} → ((m j : ℕ) → Fails challenge s m j → ⊥) → ListFails b n i q → p ≡ offset_of challenge s 2 + q → ChallengeFails s b n i p

-- a place in a message has 16 bits
abbrev pub PlaceInMessage : Type 0
PlaceInMessage = (s : List ℕ) (e : Refusal) → (read_challenge s).reading ≡ Err e → place_of e ≤ 65535

-- CHALLENGE is taken, or refused with a number, a field and a place, if and only if so
abbrev pub ChallengeJudged : Type 0
ChallengeJudged = (s b : List ℕ) → InfoBytes s b → Judged (chal_verdict (read_challenge s).reading) (ChallengeHolds s b) (ChallengeFails s b)

-- ---- NL_AUTH: no check fails, or the first that does; it has no pairs, so the place is 0

abbrev pub nl_verdict : Result NlAuth Refusal → Result ⊤ Refusal
nl_verdict (Ok m) = Ok tt
nl_verdict (Err e) = Err e

abbrev pub NlAuthJudged : Type 0
NlAuthJudged = (s : List ℕ) → Judged (nl_verdict (read_nl_auth s)) (NoneFails (NlFails s)) (λ n i p. NlFirst s n i × (p ≡ 0))
