-- The client's decision on a challenge (MS-NLMP 3.1.5.1.2): reading it, then checks 20 and 21.
use Rattle.wire.specs.Check.{on_ok}
use Rattle.std.specs.Prelude.{Result, Ok, Err, Bool, true, false, ◌||◌, ◌&&◌, List, ℕ}
use Rattle.wire.specs.declared.check.Checked.{Checked}
use Rattle.negotiate_flags.specs.declared.NegotiateFlags.{NegotiateFlags}
use Rattle.wire.specs.declared.refusal.Refusal.{Refusal}
use Rattle.wire.specs.declared.refusal.Refusal.TheVariants.{No128Bit, NoServerNames}
use Rattle.av_id.specs.AvId.{implies}
use Rattle.wire.specs.Check.{checked, after}
use Rattle.negotiate_flags.specs.Flags.{negotiate128}
use Rattle.target_info.specs.declared.ServerNames.{ServerNames}
use Rattle.read_challenge.specs.Challenge.{reading_of, info_of}
use Rattle.target_info.specs.TargetInfo.{timestamp_in, server_names_in}
use Rattle.respond.specs.declared.decision.Settings.{Settings}
use Rattle.respond.specs.declared.decision.Decision.{Decision}

-- the defaults; 128-bit is demanded unless told otherwise (request 7/12). The relay's call goes by these
abbrev pub defaults : Settings
defaults = record { demand_128 = true; ntlmv2 = true; integrity = false; confidentiality = false }

-- the bench's call: the defaults, but 128-bit is demanded as its caller says
abbrev pub bench_settings : Bool → Settings
bench_settings demanded =
    record { demand_128 = demanded; ntlmv2 = defaults.ntlmv2; integrity = defaults.integrity; confidentiality = defaults.confidentiality }

-- the call for old servers: the defaults, but 128-bit is not demanded
abbrev pub old_server_settings : Settings
old_server_settings =
    record { demand_128 = false; ntlmv2 = defaults.ntlmv2; integrity = defaults.integrity; confidentiality = defaults.confidentiality }

-- check 20: if 128-bit is demanded, it is in the flags
abbrev pub strength_holds : Settings → NegotiateFlags → Checked
strength_holds settings flags = checked (implies settings.demand_128 (negotiate128 flags))

-- check 21: with NTLMv2, and integrity or confidentiality wanted, pairs 1 and 2 are both there
abbrev pub server_names_hold : Settings → ServerNames → Checked
server_names_hold settings names =
    checked (implies (settings.ntlmv2 && (settings.integrity || settings.confidentiality))
    (names.nb_computer_name && names.nb_domain_name))

-- reading, 20, 21
unfoldable pub decision_on : Settings → List ℕ → Result Decision Refusal
decision_on settings s =
    on_ok Err (reading_of s) (λ c.
    after (strength_holds settings c.flags) (Err No128Bit) (
    after (server_names_hold settings (server_names_in (info_of s c))) (Err NoServerNames)
    (Ok (record { flags = c.flags; timestamp = timestamp_in (info_of s c) }))))
