-- The settings as one number of the C interface: the bits, each named here once.
use Rattle.std.specs.Prelude.{ℕ, ◌+◌, Bool, cond, eqb}
use Rattle.wire.specs.Number.{has}
use Rattle.respond.specs.declared.decision.Settings.{Settings}
use Rattle.c_respond.specs.declared.settings.SettingsBits.{SettingsBits}

-- document 01's "128-bit demanded"
abbrev pub demand128_bit : ℕ
demand128_bit = 0x1

abbrev pub demand128 : SettingsBits → Bool
demand128 asked = has asked.bits demand128_bit

abbrev pub ntlmv2_bit : ℕ
ntlmv2_bit = 0x2

abbrev pub ntlmv2 : SettingsBits → Bool
ntlmv2 asked = has asked.bits ntlmv2_bit

abbrev pub integrity : SettingsBits → Bool
integrity asked = has asked.bits 0x4

abbrev pub confidentiality : SettingsBits → Bool
confidentiality asked = has asked.bits 0x8

-- the settings that a number stands for
abbrev pub settings_of : ℕ → Settings
settings_of bits =
    let asked : SettingsBits = record { bits = bits } in
    record {
      demand_128 = demand128 asked;
      ntlmv2 = ntlmv2 asked;
      integrity = integrity asked;
      confidentiality = confidentiality asked;
    }

-- the bench's bits: NTLMv2, and 128-bit demanded where its caller's number is not 0
unfoldable pub bench_bits : ℕ → ℕ
bench_bits number = cond (eqb number 0) ntlmv2_bit (demand128_bit + ntlmv2_bit)
