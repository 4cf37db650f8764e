-- Demand 1: "It answers, or refuses by a number from document 01 in the order given there", of answering a challenge.
-- Document 01: "Answering a challenge: reading, 20, 21, then writing." Everything is said by the challenge's bytes s, the bytes b
-- of its TargetInfo, the settings and what the caller gives.
use Rattle.wire.specs.declared.refusal.Refusal.{Refusal}
use Rattle.std.specs.Prelude.{Result, Option, Ok, Err, Some, None, ⊤, ℕ, ◌+◌, ◌<◌, ◌≡◌, true, false, ◌⊎◌, ◌↔◌, List, [], length, take, drop, replicate}
use Rattle.wire.specs.Number.{u32_at, u64_at}
use Rattle.respond.specs.declared.answer.Answer.{Answer}
use Rattle.respond.specs.declared.decision.Decision.{Decision}
use Rattle.respond.specs.declared.decision.Settings.{Settings}
use Rattle.respond.specs.Answer.{Supplied, respond_to}
use Rattle.respond.specs.Decision.{decision_on}
use Rattle.respond.specs.Domain.{Part, domain_part, domain_to_send}
use Rattle.demands.specs.Order.{FirstIn}
use Rattle.demands.specs.Message.{challenge, Set, offset_of}
use Rattle.demands.specs.PairList.{size_of, FirstWith, PairThere}
use Rattle.demands.specs.ReadBack.{AuthenticateBack}
use Rattle.demands.specs.TakenExactly.{RefusalIs, InfoBytes, ChallengeHolds, ChallengeFails}
use Rattle.demands.specs.WrittenExactly.{authenticate_size, AuthenticateWritingFails, authenticate_order}

-- ---- the decision

-- check 20 fails: "128-bit demanded, not in the flags"
abbrev pub Fails20 : Settings → List ℕ → Type 0
Fails20 settings s = (settings.demand_128 ≡ true) × (Set challenge s 0x20000000 → ⊥)

-- check 21 fails: "NTLMv2 and either integrity or confidentiality wanted, pairs 1 and 2 not both there"
abbrev pub Fails21 : Settings → List ℕ → Type 0
Fails21 settings b =
    (settings.ntlmv2 ≡ true) × ((settings.integrity ≡ true) ⊎ (settings.confidentiality ≡ true)) × (PairThere b 1 × PairThere b 2 → ⊥)

-- no check of the reading fails, nor 20, nor 21
pub record Agreed (settings : Settings) (s b : List ℕ) : Type 0 where
  pub reading : ChallengeHolds s b
  pub holds20 : Fails20 settings s → ⊥
  pub holds21 : Fails21 settings b → ⊥

-- the first of these that fails has number n, field i and place p
pub data Declined (settings : Settings) (s b : List ℕ) (n i p : ℕ) : Type 0 where
  by_reading : ChallengeFails s b n i p → Declined settings s b n i p
  by_20 : n ≡ 20 → i ≡ 0 → p ≡ 0 → ChallengeHolds s b → Fails20 settings s → Declined settings s b n i p
  by_21 : n ≡ 21 → i ≡ 0 → p ≡ 0 → ChallengeHolds s b → (Fails20 settings s → ⊥) → Fails21 settings b → Declined settings s b n i p

-- the value of the first pair 7, as a number
abbrev pub TimestampIs : List ℕ → Option ℕ → Type 0
TimestampIs b (Some t) = (place : ℕ) × FirstWith b 7 place 0 × (t ≡ u64_at b (place + 4))
TimestampIs b None = PairThere b 7 → ⊥

abbrev pub DecisionRefusedWith : Result Decision Refusal → ℕ → ℕ → ℕ → Type 0
DecisionRefusedWith (Ok d) n i p = ⊥
DecisionRefusedWith (Err e) n i p = RefusalIs e n i p

-- a decision is made, or refused
abbrev pub decided_verdict : Result Decision Refusal → Result ⊤ Refusal
decided_verdict (Ok d) = Ok tt
decided_verdict (Err e) = Err e

abbrev pub DecisionIsRefused : Type 0
DecisionIsRefused =
    (settings : Settings) (s b : List ℕ) → InfoBytes s b → (n i p : ℕ) →
    DecisionRefusedWith (decision_on settings s) n i p ↔ Declined settings s b n i p

abbrev pub DecisionIsTaken : Type 0
DecisionIsTaken =
    (settings : Settings) (s b : List ℕ) → InfoBytes s b → (d : Decision) →
    (decision_on settings s ≡ Ok d) ↔ (Agreed settings s b × (d.flags.bits ≡ u32_at s 20) × TimestampIs b d.timestamp)

-- ---- the domain to send

-- "The domain is the setting's; if that is empty and UNICODE is set, it's the challenge's first pair 2; if there is none, the
-- empty part of the settings .. a refused challenge having no pair 2."
pub record DomainIs (own s b : List ℕ) (part : Part) : Type 0 where
  pub setting : 0 < length own → part ≡ record { of_challenge = false; start = 0; bytes = own }
  pub pair : length own ≡ 0 → ChallengeHolds s b → Set challenge s 0x1 → (place : ℕ) → FirstWith b 2 place 0 →
      part ≡ record { of_challenge = true; start = offset_of challenge s 2 + (place + 4); bytes = take (size_of b place) (drop (place + 4) b) }
  pub none : length own ≡ 0 → (ChallengeHolds s b → Set challenge s 0x1 → PairThere b 2 → ⊥) →
      part ≡ record { of_challenge = false; start = 0; bytes = [] }
  -- a part of the challenge is what stands there in it
  pub stands : part.of_challenge ≡ true → part.bytes ≡ take (length part.bytes) (drop part.start s)

abbrev pub DomainOwn : Type 0
DomainOwn = (own s b : List ℕ) → InfoBytes s b → DomainIs own s b (domain_part own s)

-- its bytes, which the call from C copies and an answer has
abbrev pub DomainBytes : Type 0
DomainBytes = (own s : List ℕ) → domain_to_send own s ≡ (domain_part own s).bytes

-- ---- what is sent

-- "With NTLMv2 and a timestamp pair"
abbrev pub Stamped : Settings → List ℕ → Type 0
Stamped settings b = (settings.ntlmv2 ≡ true) × PairThere b 7

-- "exactly when KEY_EXCH and at least one of SIGN and SEAL are set"
abbrev pub KeyCounts : List ℕ → Type 0
KeyCounts s = Set challenge s 0x40000000 × (Set challenge s 0x10 ⊎ Set challenge s 0x20)

-- What of the answer goes by the challenge and the settings: Time, MIC, LM response, key and domain, with the clock and what the
-- caller supplies for each. "With NTLMv2 and a timestamp pair, Time is that value and the LM response written is 24 zero bytes;
-- otherwise Time is the box's clock and the LM response is the caller's. A MIC is due exactly when a timestamp pair is there; if
-- not due, sixteen zeros are written for it." A key that doesn't count is passed over, and field 6 is empty.
pub record ToSend (settings : Settings) (s b : List ℕ) (x : Supplied) : Type 0 where
  pub time : ℕ
  pub mic_sent : List ℕ
  pub lm_sent : List ℕ
  pub domain_sent : List ℕ
  pub key_sent : List ℕ
  pub their_time : settings.ntlmv2 ≡ true → (place : ℕ) → FirstWith b 7 place 0 → time ≡ u64_at b (place + 4)
  pub our_time : (Stamped settings b → ⊥) → time ≡ x.clock
  pub zero_lm : Stamped settings b → lm_sent ≡ replicate 24 0
  pub our_lm : (Stamped settings b → ⊥) → lm_sent ≡ x.lm
  pub mic_due_is : PairThere b 7 → mic_sent ≡ x.mic
  pub zero_mic : (PairThere b 7 → ⊥) → mic_sent ≡ replicate 16 0
  pub our_key : KeyCounts s → key_sent ≡ x.key
  pub no_key : (KeyCounts s → ⊥) → key_sent ≡ []
  pub our_domain : 0 < length x.domain → domain_sent ≡ x.domain
  pub their_domain : length x.domain ≡ 0 → Set challenge s 0x1 → (place : ℕ) → FirstWith b 2 place 0 →
      domain_sent ≡ take (size_of b place) (drop (place + 4) b)
  pub no_domain : length x.domain ≡ 0 → (Set challenge s 0x1 × PairThere b 2 → ⊥) → domain_sent ≡ []

-- there always is such a thing, so that what follows speaks of something
abbrev pub SomethingToSend : Type 0
SomethingToSend = (settings : Settings) (s b : List ℕ) (x : Supplied) → ToSend settings s b x

-- ---- the answer

abbrev pub AnswerRefusedWith : Result Answer Refusal → ℕ → ℕ → ℕ → Type 0
AnswerRefusedWith (Ok x) n i p = ⊥
AnswerRefusedWith (Err e) n i p = RefusalIs e n i p

-- an answer is refused by the decision, and else by the first check of the writing that fails, with what is sent; it is sent if and
-- only if nothing fails, with its length, Time, and whether a MIC is due
pub record AnsweredExactly (answer : Result Answer Refusal) (settings : Settings) (s b : List ℕ) (F : ℕ → ℕ → Type 0) (size time : ℕ) : Type 0 where
  pub refused : (n i p : ℕ) → AnswerRefusedWith answer n i p ↔
      (Declined settings s b n i p ⊎ (Agreed settings s b × FirstIn authenticate_order F n i × (p ≡ 0)))
  pub sent : (x : Answer) → (answer ≡ Ok x) ↔
      (Agreed settings s b × ((m j : ℕ) → F m j → ⊥) × (x.len ≡ size) × (x.time ≡ time) × ((x.mic_due ≡ true) ↔ PairThere b 7))

-- for every settings, so also for the three thin calls; Version and MIC are of 8 and 16 bytes, as the call takes them
abbrev pub RespondIsAnswered : Type 0
RespondIsAnswered =
    (settings : Settings) (s b : List ℕ) (x : Supplied) → length x.version ≡ 8 → length x.mic ≡ 16 → InfoBytes s b →
    (t : ToSend settings s b x) →
    AnsweredExactly (respond_to settings s x).answer settings s b
    (AuthenticateWritingFails (length x.out) (u32_at s 20) t.lm_sent x.nt t.domain_sent x.user x.workstation t.key_sent)
    (authenticate_size t.lm_sent x.nt t.domain_sent x.user x.workstation t.key_sent) t.time

-- demand 2: "An AUTHENTICATE we write reads back with the same flags, six fields and MIC": an answer, with the challenge's flags and
-- what is sent
abbrev pub RespondReadsBack : Type 0
RespondReadsBack =
    (settings : Settings) (s b : List ℕ) (x : Supplied) → length x.version ≡ 8 → length x.mic ≡ 16 → InfoBytes s b →
    (t : ToSend settings s b x) (y : Answer) → (respond_to settings s x).answer ≡ Ok y →
    AuthenticateBack (take y.len (respond_to settings s x).output) (record { bits = u32_at s 20 })
    t.mic_sent t.lm_sent x.nt t.domain_sent x.user x.workstation t.key_sent
