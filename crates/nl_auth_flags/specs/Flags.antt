-- The flags of NL_AUTH_MESSAGE (MS-NRPC 2.2.1.3.1): bits A to E, each named here once, by the string that it stands for.
use Rattle.std.specs.Prelude.{◌%◌, Bool, ◌||◌}
use Rattle.wire.specs.declared.check.Checked.{Checked}
use Rattle.wire.specs.Check.{checked}
use Rattle.wire.specs.Number.{has}
use Rattle.nl_auth_flags.specs.declared.NlAuthFlags.{NlAuthFlags}

-- A: the NetBIOS domain name
abbrev pub nb_domain : NlAuthFlags → Bool
nb_domain flags = has flags.bits 0x1

-- B: the NetBIOS computer name
abbrev pub nb_computer : NlAuthFlags → Bool
nb_computer flags = has flags.bits 0x2

-- C: the DNS domain name
abbrev pub dns_domain : NlAuthFlags → Bool
dns_domain flags = has flags.bits 0x4

-- D: the DNS host name
abbrev pub dns_host : NlAuthFlags → Bool
dns_host flags = has flags.bits 0x8

-- E: the NetBIOS computer name in UTF-8
abbrev pub utf8_computer : NlAuthFlags → Bool
utf8_computer flags = has flags.bits 0x10

-- bits A to E; the others are ignored in reading and zero in writing
abbrev pub known : NlAuthFlags → NlAuthFlags
known flags = record { bits = flags.bits % 0x20 }

abbrev pub no_flags : NlAuthFlags
no_flags = record { bits = 0 }

-- check 14: a bit A to E is set
abbrev pub strings_hold : NlAuthFlags → Checked
strings_hold flags =
    checked ((((nb_domain flags || nb_computer flags) || dns_domain flags) || dns_host flags) || utf8_computer flags)
