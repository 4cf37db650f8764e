-- One message of each kind that the bench cases leave out, worked out by hand, so that the theorems are seen to speak of
-- something: a CHALLENGE and a NEGOTIATE that are read, a NEGOTIATE, an AUTHENTICATE and an NL_AUTH message that are written,
-- an answer, and a pair list that goes back.
use Rattle.std.specs.Prelude.{Ok, Err, Some, ℕ, ◌≡◌, true, false, List, [], ◌∷◌, ◌++◌, take, replicate}
use Prim.Native.String.{String}
use Rattle.wire.specs.Text.{ascii}
use Rattle.wire.specs.declared.refusal.Refusal.TheVariants.{OddNameToWrite, NoRoom, No128Bit, WrongLabel}
use Rattle.negotiate_flags.specs.declared.NegotiateFlags.{NegotiateFlags}
use Rattle.av_pairs.specs.AvPairs.{count_pairs}
use Rattle.read_challenge.specs.Challenge.{read_challenge, timestamp_of, server_names_of}
use Rattle.read_negotiate.specs.Negotiate.{read_negotiate}
use Rattle.write_negotiate.specs.Writing.{write_answer as negotiate_answer, write_out as negotiate_out}
use Rattle.write_authenticate.specs.Writing.{write_answer, write_out}
use Rattle.respond.specs.Answer.{Supplied, respond_to}
use Rattle.respond.specs.Decision.{defaults, bench_settings, old_server_settings}
use Rattle.write_response_pairs.specs.ResponsePairs.{list_for, write_answer as pairs_answer, write_out as pairs_out}
use Rattle.line.specs.Line.{ntlm_line, nl_auth_line}
use Rattle.nl_auth_flags.specs.declared.NlAuthFlags.{NlAuthFlags}
use Rattle.nl_auth_flags.specs.Flags.{known}
use Rattle.read_nl_auth.specs.declared.NlAuth.{NlAuth}
use Rattle.read_nl_auth.specs.NlAuth.{no_string, read_nl_auth}
use Rattle.write_nl_auth.specs.Writing.{request_answer, request_out, response_answer, response_out}
use Rattle.demands.specs.Bench.{p12}

-- this text and 0A
abbrev line_of : String → List ℕ
line_of text = ascii text ++ (0x0A ∷ [])

-- ---- a CHALLENGE

-- "LINE" and "box7" in 16-bit units
abbrev line16 : List ℕ
line16 = 0x4C ∷ 0x00 ∷ 0x49 ∷ 0x00 ∷ 0x4E ∷ 0x00 ∷ 0x45 ∷ 0x00 ∷ []

abbrev box16 : List ℕ
box16 = 0x62 ∷ 0x00 ∷ 0x6F ∷ 0x00 ∷ 0x78 ∷ 0x00 ∷ 0x37 ∷ 0x00 ∷ []

-- its TargetInfo, 36 bytes: NetBIOS domain "LINE", NetBIOS computer "PC", a timestamp, the end pair
abbrev pub info : List ℕ
info =
    0x02 ∷ 0x00 ∷ 0x08 ∷ 0x00 ∷ 0x4C ∷ 0x00 ∷ 0x49 ∷ 0x00 ∷ 0x4E ∷ 0x00 ∷ 0x45 ∷ 0x00 ∷
    0x01 ∷ 0x00 ∷ 0x04 ∷ 0x00 ∷ 0x50 ∷ 0x00 ∷ 0x43 ∷ 0x00 ∷
    0x07 ∷ 0x00 ∷ 0x08 ∷ 0x00 ∷ 0x01 ∷ 0x02 ∷ 0x03 ∷ 0x04 ∷ 0x05 ∷ 0x06 ∷ 0x07 ∷ 0x08 ∷
    0x00 ∷ 0x00 ∷ 0x00 ∷ 0x00 ∷ []

-- 100 bytes: Signature, type, TargetName of 8 bytes at 56, flags, ServerChallenge, Reserved, TargetInfo of 36 bytes at 64,
-- Version, and the payload. The flags are P1's, with REQUEST_TARGET, SIGN, TARGET_INFO and KEY_EXCH
abbrev pub challenge_message : List ℕ
challenge_message =
    0x4E ∷ 0x54 ∷ 0x4C ∷ 0x4D ∷ 0x53 ∷ 0x53 ∷ 0x50 ∷ 0x00 ∷ 0x02 ∷ 0x00 ∷ 0x00 ∷ 0x00 ∷
    0x08 ∷ 0x00 ∷ 0x08 ∷ 0x00 ∷ 0x38 ∷ 0x00 ∷ 0x00 ∷ 0x00 ∷
    0x15 ∷ 0x02 ∷ 0x80 ∷ 0x40 ∷
    0x01 ∷ 0x23 ∷ 0x45 ∷ 0x67 ∷ 0x89 ∷ 0xAB ∷ 0xCD ∷ 0xEF ∷
    0x00 ∷ 0x00 ∷ 0x00 ∷ 0x00 ∷ 0x00 ∷ 0x00 ∷ 0x00 ∷ 0x00 ∷
    0x24 ∷ 0x00 ∷ 0x24 ∷ 0x00 ∷ 0x40 ∷ 0x00 ∷ 0x00 ∷ 0x00 ∷
    0x00 ∷ 0x00 ∷ 0x00 ∷ 0x00 ∷ 0x00 ∷ 0x00 ∷ 0x00 ∷ 0x00 ∷
    line16 ++ info

pub record ChallengeExample : Type 0 where
  pub reading : (read_challenge challenge_message).reading ≡
      Ok
      (record {
        flags = record { bits = 0x40800215 };
        fields = record { target_name = record { offset = 56; len = 8; max_len = 8 }; target_info = record { offset = 64; len = 36; max_len = 36 } };
      })
  pub server_challenge_is : (read_challenge challenge_message).server_challenge ≡
      0x01 ∷ 0x23 ∷ 0x45 ∷ 0x67 ∷ 0x89 ∷ 0xAB ∷ 0xCD ∷ 0xEF ∷ []
  pub pairs : count_pairs info ≡ Ok 3
  pub timestamp : timestamp_of challenge_message ≡ Ok (Some 0x0807060504030201)
  pub server_names : server_names_of challenge_message ≡ Ok (record { nb_computer_name = true; nb_domain_name = true })
  pub line : ntlm_line challenge_message ≡ line_of "chal flags=40800215 set=U target=LINE pairs=3 time=0807060504030201 max=00"

-- ---- a NEGOTIATE

-- 48 bytes: Signature, type, flags, domain of 4 bytes at 40, workstation of 4 at 44, Version, and the names
abbrev pub negotiate_message : List ℕ
negotiate_message =
    0x4E ∷ 0x54 ∷ 0x4C ∷ 0x4D ∷ 0x53 ∷ 0x53 ∷ 0x50 ∷ 0x00 ∷ 0x01 ∷ 0x00 ∷ 0x00 ∷ 0x00 ∷
    0x07 ∷ 0x32 ∷ 0x00 ∷ 0x00 ∷
    0x04 ∷ 0x00 ∷ 0x04 ∷ 0x00 ∷ 0x28 ∷ 0x00 ∷ 0x00 ∷ 0x00 ∷
    0x04 ∷ 0x00 ∷ 0x04 ∷ 0x00 ∷ 0x2C ∷ 0x00 ∷ 0x00 ∷ 0x00 ∷
    0x00 ∷ 0x00 ∷ 0x00 ∷ 0x00 ∷ 0x00 ∷ 0x00 ∷ 0x00 ∷ 0x00 ∷
    0x4C ∷ 0x49 ∷ 0x4E ∷ 0x45 ∷ 0x42 ∷ 0x4F ∷ 0x58 ∷ 0x37 ∷ []

-- the caller's flags without the bits of the names, and a Version that these flags leave out
abbrev callers_flags : NegotiateFlags
callers_flags = record { bits = 0x207 }

abbrev version : List ℕ
version = 0x06 ∷ 0x01 ∷ 0xB1 ∷ 0x1D ∷ 0x00 ∷ 0x00 ∷ 0x00 ∷ 0x0F ∷ []

pub record NegotiateExample : Type 0 where
  pub reading : read_negotiate negotiate_message ≡
      Ok
      (record {
        flags = record { bits = 0x3207 };
        fields = record { domain = record { offset = 40; len = 4; max_len = 4 }; workstation = record { offset = 44; len = 4; max_len = 4 } };
      })
  pub line : ntlm_line negotiate_message ≡ line_of "nego flags=00003207 domain=LINE work=BOX7 max=00"
  pub length_written : negotiate_answer 50 callers_flags version (ascii "LINE") (ascii "BOX7") ≡ Ok 48
  -- into an output of 50 bytes FF
  pub bytes_written : negotiate_out (replicate 50 0xFF) callers_flags version (ascii "LINE") (ascii "BOX7") ≡
      negotiate_message ++ (0xFF ∷ 0xFF ∷ [])
  -- and into one that is a byte short
  pub no_room : negotiate_answer 47 callers_flags version (ascii "LINE") (ascii "BOX7") ≡ Err NoRoom
  pub kept : negotiate_out (replicate 47 0xFF) callers_flags version (ascii "LINE") (ascii "BOX7") ≡ replicate 47 0xFF

-- ---- an AUTHENTICATE that is written

abbrev pub lm : List ℕ
lm = replicate 24 0xAA

abbrev pub nt : List ℕ
nt = replicate 28 0xBB

abbrev pub key : List ℕ
key = replicate 16 0xCC

abbrev pub mic : List ℕ
mic = replicate 16 0xDD

-- P1's flags, with VERSION and KEY_EXCH
abbrev flags_sent : NegotiateFlags
flags_sent = record { bits = 0x42000201 }

-- Signature, type, and the heads of LM response, NT response, domain, user, workstation and key: 24 bytes at 104, 28 at 128,
-- 8 at 88, 8 at 96, none at 104, 16 at 156
abbrev heads : List ℕ
heads =
    0x4E ∷ 0x54 ∷ 0x4C ∷ 0x4D ∷ 0x53 ∷ 0x53 ∷ 0x50 ∷ 0x00 ∷ 0x03 ∷ 0x00 ∷ 0x00 ∷ 0x00 ∷
    0x18 ∷ 0x00 ∷ 0x18 ∷ 0x00 ∷ 0x68 ∷ 0x00 ∷ 0x00 ∷ 0x00 ∷ 0x1C ∷ 0x00 ∷ 0x1C ∷ 0x00 ∷ 0x80 ∷ 0x00 ∷ 0x00 ∷ 0x00 ∷
    0x08 ∷ 0x00 ∷ 0x08 ∷ 0x00 ∷ 0x58 ∷ 0x00 ∷ 0x00 ∷ 0x00 ∷ 0x08 ∷ 0x00 ∷ 0x08 ∷ 0x00 ∷ 0x60 ∷ 0x00 ∷ 0x00 ∷ 0x00 ∷
    0x00 ∷ 0x00 ∷ 0x00 ∷ 0x00 ∷ 0x68 ∷ 0x00 ∷ 0x00 ∷ 0x00 ∷ 0x10 ∷ 0x00 ∷ 0x10 ∷ 0x00 ∷ 0x9C ∷ 0x00 ∷ 0x00 ∷ 0x00 ∷ []

-- 172 bytes: the heads, flags, Version, MIC, and the payload
abbrev authenticate_message : List ℕ
authenticate_message =
    heads ++ (0x01 ∷ 0x02 ∷ 0x00 ∷ 0x42 ∷ version ++ (mic ++ (line16 ++ (box16 ++ (lm ++ (nt ++ key))))))

pub record AuthenticateExample : Type 0 where
  pub length_written : write_answer 174 flags_sent version mic lm nt line16 box16 [] key ≡ Ok 172
  pub bytes_written : write_out (replicate 174 0xFF) flags_sent version mic lm nt line16 box16 [] key ≡
      authenticate_message ++ (0xFF ∷ 0xFF ∷ [])
  pub line : ntlm_line authenticate_message ≡ line_of "auth flags=42000201 set=U domain=LINE user=box7 work= lm=24 nt=28 key=16 mic=1 kind=odd max=000000"
  pub no_room : write_answer 171 flags_sent version mic lm nt line16 box16 [] key ≡ Err NoRoom
  pub kept : write_out (replicate 171 0xFF) flags_sent version mic lm nt line16 box16 [] key ≡ replicate 171 0xFF

-- ---- an answer to the CHALLENGE above, whose flags have no 128-bit, as to an old server, and no domain of the settings

-- the domain is the challenge's pair 2 and the flags are the challenge's, without VERSION; the LM response is 24 zeros
abbrev answer_message : List ℕ
answer_message =
    heads
    ++ (0x15 ∷ 0x02 ∷ 0x80 ∷ 0x40 ∷ replicate 8 0x00 ++ (mic ++ (line16 ++ (box16 ++ (replicate 24 0x00 ++ (nt ++ key))))))

-- n bytes of output, with a clock reading of 5, which a timestamp puts aside
abbrev in_room : ℕ → Supplied
in_room n =
    record {
      out = replicate n 0xFF;
      clock = 5;
      version = version;
      mic = mic;
      lm = lm;
      nt = nt;
      domain = [];
      user = box16;
      workstation = [];
      key = key;
    }

pub record AnswerExample : Type 0 where
  pub answer : (respond_to old_server_settings challenge_message (in_room 172)).answer ≡
      Ok (record { len = 172; time = 0x0807060504030201; mic_due = true })
  pub bytes_written : (respond_to old_server_settings challenge_message (in_room 172)).output ≡ answer_message
  pub line : ntlm_line answer_message ≡ line_of "auth flags=40800215 set=U domain=LINE user=box7 work= lm=24 nt=28 key=16 mic=1 kind=odd max=000000"
  pub no_room : (respond_to old_server_settings challenge_message (in_room 171)).answer ≡ Err NoRoom
  pub kept : (respond_to old_server_settings challenge_message (in_room 171)).output ≡ replicate 171 0xFF
  pub bench_no : (respond_to (bench_settings false) challenge_message (in_room 171)).answer ≡ Err NoRoom
  pub bench_yes : (respond_to (bench_settings true) challenge_message (in_room 171)).answer ≡ Err No128Bit
  pub by_default : (respond_to defaults challenge_message (in_room 171)).answer ≡ Err No128Bit

-- ---- the pair list that goes back for the CHALLENGE above, with the name "box7", which is marked unverified

abbrev bindings : List ℕ
bindings = replicate 16 0xEE

-- 76 bytes: the three pairs that came in, a flags pair with both bits, pair 10, pair 9, the end pair
abbrev list_back : List ℕ
list_back =
    take 32 info
    ++ (0x06 ∷ 0x00 ∷ 0x04 ∷ 0x00 ∷ 0x06 ∷ 0x00 ∷ 0x00 ∷ 0x00 ∷
    0x0A ∷ 0x00 ∷ 0x10 ∷ 0x00 ∷ bindings ++ (0x09 ∷ 0x00 ∷ 0x08 ∷ 0x00 ∷ box16 ++ (0x00 ∷ 0x00 ∷ 0x00 ∷ 0x00 ∷ [])))

abbrev timestamp : List ℕ
timestamp = 0x07 ∷ 0x00 ∷ 0x08 ∷ 0x00 ∷ replicate 8 0x07

-- pairs 9, 6, 10, 6 and 7; what goes back for them with a mark and no name: bit 0x2 in the first flags pair alone
abbrev info_with_all : List ℕ
info_with_all =
    0x09 ∷ 0x00 ∷ 0x02 ∷ 0x00 ∷ 0x41 ∷ 0x00 ∷ 0x06 ∷ 0x00 ∷ 0x04 ∷ 0x00 ∷ 0x01 ∷ 0x00 ∷ 0x00 ∷ 0x80 ∷
    0x0A ∷ 0x00 ∷ 0x10 ∷ 0x00 ∷ replicate 16 0x11
    ++ (0x06 ∷ 0x00 ∷ 0x04 ∷ 0x00 ∷ 0x00 ∷ 0x00 ∷ 0x00 ∷ 0x00 ∷ timestamp ++ (0x00 ∷ 0x00 ∷ 0x00 ∷ 0x00 ∷ []))

abbrev back_with_all : List ℕ
back_with_all =
    0x06 ∷ 0x00 ∷ 0x04 ∷ 0x00 ∷ 0x03 ∷ 0x00 ∷ 0x00 ∷ 0x80 ∷
    0x06 ∷ 0x00 ∷ 0x04 ∷ 0x00 ∷ 0x00 ∷ 0x00 ∷ 0x00 ∷ 0x00 ∷ timestamp
    ++ (0x0A ∷ 0x00 ∷ 0x10 ∷ 0x00 ∷ bindings ++ (0x09 ∷ 0x00 ∷ 0x00 ∷ 0x00 ∷ 0x00 ∷ 0x00 ∷ 0x00 ∷ 0x00 ∷ []))

pub record PairListExample : Type 0 where
  pub length_written : pairs_answer 78 challenge_message box16 true bindings ≡ Ok 76
  pub bytes_written : pairs_out (replicate 78 0xFF) challenge_message box16 true bindings ≡ list_back ++ (0xFF ∷ 0xFF ∷ [])
  pub pairs : count_pairs list_back ≡ Ok 6
  pub no_room : pairs_answer 75 challenge_message box16 true bindings ≡ Err NoRoom
  pub kept : pairs_out (replicate 75 0xFF) challenge_message box16 true bindings ≡ replicate 75 0xFF
  pub odd_name : pairs_answer 75 challenge_message (take 7 box16) true bindings ≡ Err (OddNameToWrite 2)
  pub with_all : list_for info_with_all [] true bindings ≡ back_with_all

-- ---- NL_AUTH: P12 as it is written from flags 0x21, the strings B to E passed over, and a response

abbrev flags21 : NlAuthFlags
flags21 = known (record { bits = 0x21 })

abbrev passed : List ℕ
passed = ascii "passed over"

pub record NlAuthExample : Type 0 where
  pub request_length : request_answer 13 flags21 (ascii "LINE") passed passed passed passed ≡ Ok 13
  pub request_bytes_is : request_out (replicate 13 0xFF) flags21 (ascii "LINE") passed passed passed passed ≡ p12 0x01
  pub request_no_room : request_answer 12 flags21 (ascii "LINE") passed passed passed passed ≡ Err NoRoom
  pub response_length : response_answer 9 ≡ Ok 9
  pub response_bytes_is : response_out (replicate 9 0xFF) ≡ 0x01 ∷ replicate 8 0x00
  pub response_no_room : response_answer 8 ≡ Err NoRoom

-- ---- NL_AUTH names: a domain controller's host name that ends in a jump back into its domain name. C is corp.test, at place 0 of
-- the buffer, and D is dc and a jump to that place

abbrev controller_names : List ℕ
controller_names =
    0x00 ∷ 0x00 ∷ 0x00 ∷ 0x00 ∷ 0x0C ∷ 0x00 ∷ 0x00 ∷ 0x00 ∷ []
    ++ ((0x04 ∷ ascii "corp") ++ ((0x04 ∷ ascii "test") ++ (0x00 ∷ 0x02 ∷ 0x64 ∷ 0x63 ∷ 0xC0 ∷ 0x00 ∷ [])))

abbrev controller_answer : NlAuth
controller_answer =
    record {
      message_type = 0;
      flags = record { bits = 0x0C };
      strings = record {
        nb_domain = no_string;
        nb_computer = no_string;
        dns_domain = record { offset = 8; len = 11; jumps = 0 };
        dns_host = record { offset = 19; len = 5; jumps = 1 };
        utf8_computer = no_string;
      };
    }

abbrev flags04 : NlAuthFlags
flags04 = record { bits = 0x04 }

pub record NlNamesExample : Type 0 where
  pub names_line : nl_auth_line controller_names ≡ line_of "nl type=0 flags=0000000C c=corp.test d=dc.corp.test"
  pub names_jumps : read_nl_auth controller_names ≡ Ok controller_answer
  pub name_written : request_out (replicate 19 0xFF) flags04 passed passed (ascii "corp.test") passed passed
      ≡ (0x00 ∷ 0x00 ∷ 0x00 ∷ 0x00 ∷ 0x04 ∷ 0x00 ∷ 0x00 ∷ 0x00 ∷ []) ++ ((0x04 ∷ ascii "corp") ++ ((0x04 ∷ ascii "test") ++ (0x00 ∷ [])))
  -- a label `a.b`: its full stop is shown as `\x2E`
  pub stop_in_label : nl_auth_line ((0x00 ∷ 0x00 ∷ 0x00 ∷ 0x00 ∷ 0x04 ∷ 0x00 ∷ 0x00 ∷ 0x00 ∷ []) ++ ((0x03 ∷ ascii "a.b") ++ (0x00 ∷ [])))
      ≡ ascii "nl type=0 flags=00000004 c=a" ++ (0x5C ∷ (ascii "x2Eb" ++ (0x0A ∷ [])))
  pub empty_label : request_answer 19 flags04 passed passed (ascii "corp..test") passed passed ≡ Err (WrongLabel 3)

-- all of them
abbrev pub ExamplesHold : Type 0
ExamplesHold = ChallengeExample × NegotiateExample × AuthenticateExample × AnswerExample × PairListExample × NlAuthExample × NlNamesExample
