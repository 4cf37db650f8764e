-- The MIC (MS-NLMP 2.2.1.3, source document 004), worked out and checked as document 02's request 10/12 says.
use Rattle.read_authenticate.specs.declared.Authenticate.{Authenticate}
use Rattle.wire.specs.declared.refusal.Refusal.{Refusal}
use Rattle.std.specs.Prelude.{Result, Ok, Err, ⊤, Bool, ℕ, List, ◌++◌, eqb, length, take, drop, replicate}
use Rattle.wire.specs.declared.check.Checked.{Checked}
use Rattle.wire.specs.declared.refusal.Refusal.TheVariants.{WrongSessionKey, NoMic}
use Rattle.wire.specs.Check.{checked, after, on_clear}
use Rattle.wire.specs.Number.{stands_at}
use Rattle.head.specs.declared.Kind.TheVariants.{Negotiate, Challenge}
use Rattle.verdict.specs.Verdict.{read_as}
use Rattle.hmac_md5.specs.Hmac.{hmac}
use Rattle.read_authenticate.specs.Authenticate.{read_authenticate}
use Rattle.mic.specs.declared.Computed.{Computed}

-- an AUTHENTICATE with the sixteen bytes of its MIC, 72 to 87, taken as zero
unfoldable pub zeroed : List ℕ → List ℕ
zeroed auth = take 72 auth ++ (replicate 16 0 ++ drop 88 auth)

-- HMAC-MD5 with the session key over NEGOTIATE, CHALLENGE and AUTHENTICATE in that order
unfoldable pub mic_of : List ℕ → List ℕ → List ℕ → List ℕ → List ℕ
mic_of key nego chal auth = hmac key (nego ++ (chal ++ zeroed auth))

-- check 55: the key has 16 bytes, of the n that it has
abbrev pub key_size_holds : ℕ → Checked
key_size_holds n = checked (eqb n 16)

-- the AUTHENTICATE's reading refusals, and after them check 56: it has a MIC
abbrev pub authenticate_verdict : Result Authenticate Refusal → Result ⊤ Refusal
authenticate_verdict (Ok a) = after (checked a.mic_present) (Err NoMic) (Ok tt)
authenticate_verdict (Err e) = Err e

-- 55, then the reading refusals in the order of the messages, then 56
unfoldable pub check_inputs : ℕ → List ℕ → List ℕ → List ℕ → Result ⊤ Refusal
check_inputs n nego chal auth =
    after (key_size_holds n) (Err WrongSessionKey) (
    on_clear Err (read_as Negotiate nego) (
    on_clear Err (read_as Challenge chal)
    (authenticate_verdict (read_authenticate auth).reading)))

-- sixteen bytes, which are zeros where there is a refusal
abbrev pub when_clear : Result ⊤ Refusal → List ℕ → List ℕ
when_clear (Ok tt) bytes = bytes
when_clear (Err e) bytes = replicate 16 0

-- what working it out answers
unfoldable pub computed_mic : List ℕ → List ℕ → List ℕ → List ℕ → Computed
computed_mic key nego chal auth =
    record {
      verdict = check_inputs (length key) nego chal auth;
      mic = when_clear (check_inputs (length key) nego chal auth) (mic_of key nego chal auth);
    }

-- what checking it answers: whether those sixteen bytes stand at 72
unfoldable pub check_mic : List ℕ → List ℕ → List ℕ → List ℕ → Result Bool Refusal
check_mic key nego chal auth =
    on_clear Err (check_inputs (length key) nego chal auth) (Ok (stands_at auth 72 (mic_of key nego chal auth)))
