-- Request 7/12: "The default becomes yes. .. the old-server call now says no itself, the bench call takes yes or no from its caller,
-- the relay call takes the new default. Rule 20 stands." The contracts of the three thin calls, in Rattle and from C, name the
-- settings that `settings_for` has.
use Rattle.std.specs.Prelude.{ℕ, ◌≡◌, Bool, true, false, ◌↔◌, List, length}
use Rattle.respond.specs.declared.decision.Settings.{Settings}
use Rattle.respond.specs.Answer.{Supplied, respond_to}
use Rattle.respond.specs.Decision.{defaults, bench_settings, old_server_settings}
use Rattle.c_respond.specs.Settings.{settings_of}
use Rattle.demands.specs.Message.{challenge, FlagSet, Set}
use Rattle.demands.specs.TakenExactly.{InfoBytes, ChallengeHolds}
use Rattle.demands.specs.Answering.{AnswerRefusedWith}

-- the three calls; the bench's with what its caller says of 128-bit
pub data ThinCall : Type 0 where
  for_bench : Bool → ThinCall
  to_old_server : ThinCall
  for_relay : ThinCall

-- the settings that each goes by
abbrev pub settings_for : ThinCall → Settings
settings_for (for_bench demanded) = bench_settings demanded
settings_for to_old_server = old_server_settings
settings_for for_relay = defaults

-- whether each demands 128-bit
abbrev pub demands128 : ThinCall → Bool
demands128 (for_bench demanded) = demanded
demands128 to_old_server = false
demands128 for_relay = true

-- that is all that was changed: "NTLMv2 yes, integrity no, confidentiality no" for each of them
pub record SettingsAre (settings : Settings) (demanded : Bool) : Type 0 where
  pub demand_128 : settings.demand_128 ≡ demanded
  pub ntlmv2 : settings.ntlmv2 ≡ true
  pub integrity : settings.integrity ≡ false
  pub confidentiality : settings.confidentiality ≡ false

abbrev pub ThinSettings : Type 0
ThinSettings = (call : ThinCall) → SettingsAre (settings_for call) (demands128 call)

-- the settings of a number from C, by the header's bits: DIALTABLE_DEMAND_128, DIALTABLE_NTLMV2, DIALTABLE_INTEGRITY and
-- DIALTABLE_CONFIDENTIALITY
pub record ByBits (settings : Settings) (n : ℕ) : Type 0 where
  pub demand_128 : (settings.demand_128 ≡ true) ↔ FlagSet n 0x1
  pub ntlmv2 : (settings.ntlmv2 ≡ true) ↔ FlagSet n 0x2
  pub integrity : (settings.integrity ≡ true) ↔ FlagSet n 0x4
  pub confidentiality : (settings.confidentiality ≡ true) ↔ FlagSet n 0x8

abbrev pub SettingsByBits : Type 0
SettingsByBits = (n : ℕ) → ByBits (settings_of n) n

-- the header's DIALTABLE_DEFAULTS, which is DIALTABLE_DEMAND_128 and DIALTABLE_NTLMV2
abbrev pub HeaderDefaults : Type 0
HeaderDefaults = settings_of 0x3 ≡ defaults

-- A thin call refuses by 20 exactly those challenges that are read, whose flags don't have 128-bit, where it demands it: the relay's
-- all of them, the bench's where its caller says yes, the old-server call none. By 21 none of the three refuses
abbrev pub ThinCallsRefuse : Type 0
ThinCallsRefuse =
    (call : ThinCall) (s b : List ℕ) (x : Supplied) → length x.version ≡ 8 → length x.mic ≡ 16 → InfoBytes s b →
    (AnswerRefusedWith (respond_to (settings_for call) s x).answer 20 0 0
    ↔ (ChallengeHolds s b × (demands128 call ≡ true) × (Set challenge s 0x20000000 → ⊥)))
    × ((i p : ℕ) → AnswerRefusedWith (respond_to (settings_for call) s x).answer 21 i p → ⊥)
