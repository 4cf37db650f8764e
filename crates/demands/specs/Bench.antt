-- Document 01, "Bench cases": one list of the marked ones, over the definitions, with one claim that all hold.
use Rattle.read_authenticate.specs.declared.Authenticate.{Authenticate}
use Rattle.wire.specs.declared.refusal.Refusal.{Refusal}
use Rattle.std.specs.Prelude.{Result, Ok, Err, ℕ, ◌+◌, ◌≡◌, Bool, true, false, ◌&&◌, not, List, [], ◌∷◌, ◌++◌, eqb, length, take, replicate}
use Prim.Native.String.{String}
use Rattle.std.proofs.lemmas.List.Edits.{sets}
use Rattle.wire.specs.Text.{ascii}
use Rattle.wire.specs.Number.{stands_at}
use Rattle.wire.specs.Refusal.{number_of, field_of, place_of}
use Rattle.line.specs.Line.{nl_auth_line, ntlm_line}
use Rattle.av_pairs.specs.AvPairs.{count_pairs}
use Rattle.read_authenticate.specs.Authenticate.{read_authenticate}

-- what reading gives: taken, with a MIC or without, or refused with a number and a field
pub data Expected : Type 0 where
  taken : Bool → Expected
  refused : ℕ → ℕ → Expected

pub data Case : Type 0 where
  -- these bytes, read as AUTHENTICATE
  authenticate : List ℕ → Expected → Case
  -- these bytes as a TargetInfo list: so many pairs, or refused with a number and a place
  pairs : List ℕ → ℕ → Case
  pairs_refused : List ℕ → ℕ → ℕ → Case
  -- these bytes to the NTLM program, and to the NL_AUTH program: the whole line
  ntlm : List ℕ → String → Case
  nl : List ℕ → String → Case

abbrev same : Bool → Bool → Bool
same true b = b
same false b = not b

abbrev pub gives : Result Authenticate Refusal → Expected → Bool
gives (Ok a) (taken mic) = same a.mic_present mic
gives (Ok a) (refused n f) = false
gives (Err e) (taken mic) = false
gives (Err e) (refused n f) = eqb (number_of e) n && eqb (field_of e) f

-- a list's count, or its refusal with field 2
abbrev counts : Result ℕ Refusal → ℕ → Bool
counts (Ok m) n = eqb m n
counts (Err e) n = false

abbrev refuses : Result ℕ Refusal → ℕ → ℕ → Bool
refuses (Ok m) n p = false
refuses (Err e) n p = (eqb (number_of e) n && eqb (field_of e) 2) && eqb (place_of e) p

-- the line is this text and 0A
abbrev prints : List ℕ → String → Bool
prints line text = eqb (length line) (length (ascii text) + 1) && stands_at line 0 (ascii text ++ (0x0A ∷ []))

abbrev pub holds : Case → Bool
holds (authenticate s expected) = gives (read_authenticate s).reading expected
holds (pairs s n) = counts (count_pairs s) n
holds (pairs_refused s n p) = refuses (count_pairs s) n p
holds (ntlm s text) = prints (ntlm_line s) text
holds (nl s text) = prints (nl_auth_line s) text

abbrev pub all_hold : List Case → Bool
all_hold [] = true
all_hold (c ∷ cs) = holds c && all_hold cs

-- P1's 120 bytes
abbrev pub p1 : List ℕ
p1 =
    0x4E ∷ 0x54 ∷ 0x4C ∷ 0x4D ∷ 0x53 ∷ 0x53 ∷ 0x50 ∷ 0x00 ∷ 0x03 ∷ 0x00 ∷ 0x00 ∷ 0x00 ∷
    0x00 ∷ 0x00 ∷ 0x00 ∷ 0x00 ∷ 0x60 ∷ 0x00 ∷ 0x00 ∷ 0x00 ∷ 0x18 ∷ 0x00 ∷ 0x18 ∷ 0x00 ∷ 0x60 ∷ 0x00 ∷ 0x00 ∷ 0x00 ∷
    0x00 ∷ 0x00 ∷ 0x00 ∷ 0x00 ∷ 0x58 ∷ 0x00 ∷ 0x00 ∷ 0x00 ∷ 0x08 ∷ 0x00 ∷ 0x08 ∷ 0x00 ∷ 0x58 ∷ 0x00 ∷ 0x00 ∷ 0x00 ∷
    0x00 ∷ 0x00 ∷ 0x00 ∷ 0x00 ∷ 0x60 ∷ 0x00 ∷ 0x00 ∷ 0x00 ∷ 0x00 ∷ 0x00 ∷ 0x00 ∷ 0x00 ∷ 0x78 ∷ 0x00 ∷ 0x00 ∷ 0x00 ∷
    0x01 ∷ 0x02 ∷ 0x00 ∷ 0x00 ∷
    0x00 ∷ 0x00 ∷ 0x00 ∷ 0x00 ∷ 0x00 ∷ 0x00 ∷ 0x00 ∷ 0x00 ∷ 0x00 ∷ 0x00 ∷ 0x00 ∷ 0x00 ∷
    0x00 ∷ 0x00 ∷ 0x00 ∷ 0x00 ∷ 0x00 ∷ 0x00 ∷ 0x00 ∷ 0x00 ∷ 0x00 ∷ 0x00 ∷ 0x00 ∷ 0x00 ∷
    0x62 ∷ 0x00 ∷ 0x6F ∷ 0x00 ∷ 0x78 ∷ 0x00 ∷ 0x37 ∷ 0x00 ∷
    0xAA ∷ 0xAA ∷ 0xAA ∷ 0xAA ∷ 0xAA ∷ 0xAA ∷ 0xAA ∷ 0xAA ∷ 0xAA ∷ 0xAA ∷ 0xAA ∷ 0xAA ∷
    0xAA ∷ 0xAA ∷ 0xAA ∷ 0xAA ∷ 0xAA ∷ 0xAA ∷ 0xAA ∷ 0xAA ∷ 0xAA ∷ 0xAA ∷ 0xAA ∷ 0xAA ∷ []

-- P1 with another user length or user offset, each below 256
abbrev user_len : ℕ → List ℕ
user_len n = sets p1 36 (n ∷ 0 ∷ [])

abbrev pub user_offset : ℕ → List ℕ
user_offset n = sets p1 40 (n ∷ 0 ∷ 0 ∷ 0 ∷ [])

-- P1 with an NT response of another length, at most 44, and bytes enough for it
abbrev nt_len : ℕ → List ℕ
nt_len n = sets p1 20 (n ∷ 0 ∷ n ∷ 0 ∷ []) ++ replicate 20 0xAA

-- P12's 13 bytes, with these flags, below 256
abbrev pub p12 : ℕ → List ℕ
p12 flags =
    0x00 ∷ 0x00 ∷ 0x00 ∷ 0x00 ∷ flags ∷ 0x00 ∷ 0x00 ∷ 0x00 ∷ 0x4C ∷ 0x49 ∷ 0x4E ∷ 0x45 ∷ 0x00 ∷ []

-- P11's 10 bytes: a flags pair of two bytes, and the end pair
abbrev p11 : List ℕ
p11 = 0x06 ∷ 0x00 ∷ 0x02 ∷ 0x00 ∷ 0x00 ∷ 0x00 ∷ 0x00 ∷ 0x00 ∷ 0x00 ∷ 0x00 ∷ []

abbrev pub cases : List Case
cases =
    -- P1: the whole line
    ntlm p1 "auth flags=00000201 set=U domain= user=box7 work= lm=0 nt=24 key=0 mic=1 kind=v1 max=000000" ∷
    -- and with MaxLen 10 of the user, 5 of the LM response, which is empty, and 5 of the session key, which doesn't count
    ntlm (sets p1 38 (10 ∷ 0 ∷ [])) "auth flags=00000201 set=U domain= user=box7 work= lm=0 nt=24 key=0 mic=1 kind=v1 max=000100" ∷
    ntlm (sets p1 14 (5 ∷ 0 ∷ [])) "auth flags=00000201 set=U domain= user=box7 work= lm=0 nt=24 key=0 mic=1 kind=v1 max=100000" ∷
    ntlm (sets p1 54 (5 ∷ 0 ∷ [])) "auth flags=00000201 set=U domain= user=box7 work= lm=0 nt=24 key=0 mic=1 kind=v1 max=000000" ∷
    -- P2: user offset 113, and 112
    authenticate (user_offset 113) (refused 6 4) ∷
    authenticate (user_offset 112) (refused 9 4) ∷
    -- P3: user offset 62, and 64
    authenticate (user_offset 62) (refused 7 4) ∷
    authenticate (user_offset 64) (taken false) ∷
    -- P4: user length 7, and 10
    authenticate (user_len 7) (refused 8 4) ∷
    authenticate (user_len 10) (refused 9 4) ∷
    -- P5: user length 0, offset 0xFFFFFFFF
    authenticate (sets (user_len 0) 40 (0xFF ∷ 0xFF ∷ 0xFF ∷ 0xFF ∷ [])) (taken true) ∷
    -- P6: user offset 113, and LM length 1 at offset 10
    authenticate (sets (sets (user_offset 113) 12 (1 ∷ 0 ∷ [])) 16 (10 ∷ 0 ∷ 0 ∷ 0 ∷ [])) (refused 6 4) ∷
    -- the unmarked three: the first 63 bytes only, type 2, flags 0x200
    authenticate (take 63 p1) (refused 2 0) ∷
    authenticate (sets p1 8 (2 ∷ [])) (refused 4 0) ∷
    authenticate (sets p1 60 (0x00 ∷ [])) (refused 5 0) ∷
    -- P7 to P11: TargetInfo lists, and P11's after a well-formed pair
    pairs (0x00 ∷ 0x00 ∷ 0x00 ∷ 0x00 ∷ []) 0 ∷
    pairs_refused (0x00 ∷ 0x00 ∷ 0x00 ∷ []) 11 0 ∷
    pairs_refused (0x01 ∷ 0x00 ∷ 0x06 ∷ 0x00 ∷ 0x41 ∷ 0x00 ∷ []) 10 0 ∷
    pairs_refused (0x00 ∷ 0x00 ∷ 0x00 ∷ 0x00 ∷ 0x00 ∷ []) 12 0 ∷
    pairs_refused p11 13 0 ∷
    pairs_refused (0x01 ∷ 0x00 ∷ 0x02 ∷ 0x00 ∷ 0x41 ∷ 0x00 ∷ p11) 13 6 ∷
    -- P12: the whole line, and the same with flags 0x21
    nl (p12 0x01) "nl type=0 flags=00000001 a=LINE" ∷
    nl (p12 0x21) "nl type=0 flags=00000001 a=LINE" ∷
    -- request 11/12: the kind by the NT response's length, at 1, 23, 25, 43 and 44
    ntlm (nt_len 1) "auth flags=00000201 set=U domain= user=box7 work= lm=0 nt=1 key=0 mic=1 kind=odd max=000000" ∷
    ntlm (nt_len 23) "auth flags=00000201 set=U domain= user=box7 work= lm=0 nt=23 key=0 mic=1 kind=odd max=000000" ∷
    ntlm (nt_len 25) "auth flags=00000201 set=U domain= user=box7 work= lm=0 nt=25 key=0 mic=1 kind=odd max=000000" ∷
    ntlm (nt_len 43) "auth flags=00000201 set=U domain= user=box7 work= lm=0 nt=43 key=0 mic=1 kind=odd max=000000" ∷
    ntlm (nt_len 44) "auth flags=00000201 set=U domain= user=box7 work= lm=0 nt=44 key=0 mic=1 kind=v2 max=000000" ∷
    []

abbrev pub BenchHolds : Type 0
BenchHolds = all_hold cases ≡ true
