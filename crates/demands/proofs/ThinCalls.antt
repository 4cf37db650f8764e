-- What the three thin calls go by, and which of them refuse by 20.
use Prim.Native.Nat.{ℕ, ◌/◌, ◌%◌, ◌<◌}
use mathlib.Core.Path.{◌≡◌, refl, sym, ◌∙◌}
use mathlib.Core.Bool.{true}
use mathlib.Core.Logic.{inl, ⊎_elim, ◌↔◌}
use mathlib.Core.List.{List}
use native.Mathlib.Omega.{arith}
use borrow.Author.Tests.{eqb-true, eq-eqb}
use Rattle.wire.specs.Number.{has}
use Rattle.demands.specs.Message.{challenge, FlagSet, Set}
use Rattle.demands.specs.PairList.{FirstFault}
use Rattle.demands.specs.TakenExactly.{ChallengeHolds, ChallengeFails, in_fields, in_list}
use Rattle.demands.specs.Answering.{Declined, by_reading, by_20, by_21}
use Rattle.demands.specs.ThinCalls.{ThinCall, for_bench, to_old_server, for_relay, settings_for, demands128, ThinSettings, SettingsByBits, HeaderDefaults, ThinCallsRefuse}
use Rattle.demands.proofs.Bools.{both_ways}
use Rattle.demands.proofs.Answering.{respond_answered}
use Rattle.demands.proofs.PairList.{first_number}
use Rattle.demands.proofs.Answering.Sending.{something_to_send}

pub thin_settings : ThinSettings
thin_settings (for_bench demanded) = record { demand_128 = refl; ntlmv2 = refl; integrity = refl; confidentiality = refl }
thin_settings to_old_server = record { demand_128 = refl; ntlmv2 = refl; integrity = refl; confidentiality = refl }
thin_settings for_relay = record { demand_128 = refl; ntlmv2 = refl; integrity = refl; confidentiality = refl }

-- a bit's question says that it is set
asked : (n mask : ℕ) → (has n mask ≡ true) ↔ FlagSet n mask
asked n mask = (λ h. eqb-true (n / mask % 2) 1 h, λ h. eq-eqb (n / mask % 2) 1 h)

pub settings_by_bits : SettingsByBits
settings_by_bits n = record { demand_128 = asked n 0x1; ntlmv2 = asked n 0x2; integrity = asked n 0x4; confidentiality = asked n 0x8 }

pub header_defaults : HeaderDefaults
header_defaults = refl

-- the reading of a challenge has no check above 13
not_of_pairs : (s : List ℕ) (n p at : ℕ) → 13 < n → FirstFault s n p at → ⊥
not_of_pairs s n p at h f = omega (arith, (first_number s f).1)

not-20 : (s b : List ℕ) (i p : ℕ) → ChallengeFails s b 20 i p → ⊥
not-20 s b i p (in_fields z f) = f.fails
not-20 s b i p (in_list {q = q} h f z) = not_of_pairs b 20 q 0 (omega arith) f.2

not-21 : (s b : List ℕ) (i p : ℕ) → ChallengeFails s b 21 i p → ⊥
not-21 s b i p (in_fields z f) = f.fails
not-21 s b i p (in_list {q = q} h f z) = not_of_pairs b 21 q 0 (omega arith) f.2

module _ (call : ThinCall) (s b : List ℕ) where
  abbrev Weak : Type 0
  Weak = ChallengeHolds s b × (demands128 call ≡ true) × (Set challenge s 0x20000000 → ⊥)

  weak_20 : Declined (settings_for call) s b 20 0 0 ↔ Weak
  weak_20 = (told, λ w. by_20 refl refl refl w.0 ((thin_settings call).demand_128 ∙ w.1, w.2)) where
    told : Declined (settings_for call) s b 20 0 0 → Weak
    told (by_reading f) = absurd (not-20 s b 0 0 f)
    told (by_20 p q z h f) = (h, sym (thin_settings call).demand_128 ∙ f.0, f.1)
    told (by_21 p q z h k f) = absurd (omega (arith, p))

  never_21 : (i place : ℕ) → Declined (settings_for call) s b 21 i place → ⊥
  never_21 i place (by_reading f) = not-21 s b i place f
  never_21 i place (by_20 p q z h f) = omega (arith, p)
  never_21 i place (by_21 p q z h k f) =
      ⊎_elim (λ y. both_ways (settings_for call).integrity y (thin_settings call).integrity)
      (λ y. both_ways (settings_for call).confidentiality y (thin_settings call).confidentiality) f.1

pub thin_calls_refuse : ThinCallsRefuse
thin_calls_refuse call s b x v8 m16 info =
    let a = respond_answered (settings_for call) s b x v8 m16 info (something_to_send (settings_for call) s b x) in (
      (
        λ r. ⊎_elim (λ d. (weak_20 call s b).0 d) (λ f. absurd f.1.fails) ((a.refused 20 0 0).0 r),
        λ w. (a.refused 20 0 0).1 (inl ((weak_20 call s b).1 w)),
      ),
      λ i p r. ⊎_elim (λ d. never_21 call s b i p d) (λ f. f.1.fails) ((a.refused 21 i p).0 r),
    )
