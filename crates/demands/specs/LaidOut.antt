-- Document 01, "Laying out what we send": "The fixed part is always 88 bytes; then domain, user, workstation, LM response, NT response,
-- key, with no padding. An empty field's offset is where it would stand. .. The caller's 16 MIC bytes go to 72; the caller's Version
-- goes to 64 with VERSION, else zeros." And of every head: MaxLen "equals Len when written". Request 1/12: "Written messages have a
-- 40-byte fixed part, then domain, then workstation; .. Version is the caller's with VERSION, else zero." NL_AUTH: "Written: other bits
-- are zero, a clear bit's string is passed over, a response's flags are zero." Each place of a written message, by its bytes.
use Rattle.std.specs.Prelude.{Ok, ℕ, ◌+◌, ◌/◌, ◌%◌, ◌≡◌, cond, List, [], ◌∷◌, ◌++◌, eqb, length, take, drop, replicate}
use Rattle.wire.specs.Text.{ascii}
use Rattle.wire.specs.Number.{u32_at}
use Rattle.negotiate_flags.specs.declared.NegotiateFlags.{NegotiateFlags}
use Rattle.place.specs.Place.{le16, le32}
use Rattle.write_authenticate.specs.Writing.{write_answer, write_out}
use Rattle.write_negotiate.specs.Writing.{write_answer as negotiate_answer, write_out as negotiate_out}
use Rattle.nl_auth_flags.specs.declared.NlAuthFlags.{NlAuthFlags}
use Rattle.nl_auth_flags.specs.Flags.{known}
use Rattle.write_nl_auth.specs.Writing.{request_answer, request_out, response_answer, response_out}
use Rattle.respond.specs.declared.answer.Answer.{Answer}
use Rattle.respond.specs.declared.decision.Settings.{Settings}
use Rattle.respond.specs.Answer.{Supplied, respond_to}
use Rattle.demands.specs.Answering.{ToSend}
use Rattle.demands.specs.DnsName.{TextLabels}
use Rattle.demands.specs.Message.{Format, negotiate, authenticate, FlagSet, MicThere}
use Rattle.demands.specs.ReadBack.{BitsByNames}
use Rattle.demands.specs.TakenExactly.{InfoBytes}
use Rattle.demands.specs.WrittenExactly.{negotiate_size, authenticate_size}

-- ---- what every written message has

-- signature, type and flags
pub record Opening (k : Format) (w : List ℕ) (bits : ℕ) : Type 0 where
  pub signature : take 8 w ≡ ascii "NTLMSSP" ++ (0 ∷ [])
  pub message_type : take 4 (drop 8 w) ≡ le32 k.number
  pub flags : take 4 (drop k.flags w) ≡ le32 bits

-- the head of field i: Len, MaxLen, which equals Len, and the offset
abbrev pub HeadIs : Format → List ℕ → ℕ → List ℕ → ℕ → Type 0
HeadIs k w i bytes offset = take 8 (drop (k.head i) w) ≡ le16 (length bytes) ++ (le16 (length bytes) ++ le32 offset)

-- Version: the caller's with VERSION, else zeros
pub record VersionIs (w : List ℕ) (at bits : ℕ) (version : List ℕ) : Type 0 where
  pub given : FlagSet bits 0x2000000 → take 8 (drop at w) ≡ version
  pub zeros : (FlagSet bits 0x2000000 → ⊥) → take 8 (drop at w) ≡ replicate 8 0

-- ---- AUTHENTICATE, with these flags, Version, MIC and fields

pub record LaidOut (w : List ℕ) (bits : ℕ) (version mic lm nt domain user workstation key : List ℕ) : Type 0 where
  pub size : length w ≡ authenticate_size lm nt domain user workstation key
  pub opening : Opening authenticate w bits
  pub lm_head : HeadIs authenticate w 1 lm (88 + length domain + length user + length workstation)
  pub nt_head : HeadIs authenticate w 2 nt (88 + length domain + length user + length workstation + length lm)
  pub domain_head : HeadIs authenticate w 3 domain 88
  pub user_head : HeadIs authenticate w 4 user (88 + length domain)
  pub workstation_head : HeadIs authenticate w 5 workstation (88 + length domain + length user)
  pub key_head : HeadIs authenticate w 6 key (88 + length domain + length user + length workstation + length lm + length nt)
  pub version_at : VersionIs w 64 bits version
  pub mic_at : take 16 (drop 72 w) ≡ mic
  pub payload : drop 88 w ≡ domain ++ (user ++ (workstation ++ (lm ++ (nt ++ key))))
  -- so that by the reading's rule a MIC is there, sixteen zeros too
  pub mic_there : MicThere authenticate w

-- every call of the writer that is not refused; Version and MIC are of 8 and 16 bytes, as the call takes them
abbrev pub AuthenticateByLayout : Type 0
AuthenticateByLayout =
    (out : List ℕ) (flags : NegotiateFlags) (version mic lm nt domain user workstation key : List ℕ) (n : ℕ) →
    length version ≡ 8 → length mic ≡ 16 →
    write_answer (length out) flags version mic lm nt domain user workstation key ≡ Ok n →
    LaidOut (take n (write_out out flags version mic lm nt domain user workstation key)) flags.bits version mic lm nt domain user workstation key

-- every answer to a challenge: the challenge's flags, and of MIC, LM response, domain and key what is sent (`ToSend`)
abbrev pub RespondByLayout : Type 0
RespondByLayout =
    (settings : Settings) (s b : List ℕ) (x : Supplied) → length x.version ≡ 8 → length x.mic ≡ 16 → InfoBytes s b →
    (t : ToSend settings s b x) (y : Answer) → (respond_to settings s x).answer ≡ Ok y →
    LaidOut (take y.len (respond_to settings s x).output) (u32_at s 20) x.version
    t.mic_sent t.lm_sent x.nt t.domain_sent x.user x.workstation t.key_sent

-- ---- NEGOTIATE, with the caller's flags but for the two bits, which are as the names make them

pub record NegotiateLaidOut (w : List ℕ) (flags : ℕ) (version domain workstation : List ℕ) : Type 0 where
  pub bits : ℕ
  pub by_names : BitsByNames bits flags domain workstation
  pub size : length w ≡ negotiate_size domain workstation
  pub opening : Opening negotiate w bits
  pub domain_head : HeadIs negotiate w 1 domain 40
  pub workstation_head : HeadIs negotiate w 2 workstation (40 + length domain)
  pub version_at : VersionIs w 32 bits version
  pub payload : drop 40 w ≡ domain ++ workstation

abbrev pub NegotiateByLayout : Type 0
NegotiateByLayout =
    (out : List ℕ) (flags : NegotiateFlags) (version domain workstation : List ℕ) (n : ℕ) → length version ≡ 8 →
    negotiate_answer (length out) flags version domain workstation ≡ Ok n →
    NegotiateLaidOut (take n (negotiate_out out flags version domain workstation)) flags.bits version domain workstation

-- ---- NL_AUTH: type, flags, and one string for each set bit, A first

abbrev pub under_bit : ℕ → ℕ → List ℕ → List ℕ
under_bit bits mask string = cond (eqb (bits / mask % 2) 1) string []

-- a name: each label after its length byte, and the zero byte
abbrev pub labelled : List (List ℕ) → List ℕ
labelled [] = 0 ∷ []
labelled (l ∷ ls) = (length l ∷ l) ++ labelled ls

-- strings A and B each with its zero byte, and names C to E by the labels of their texts
pub record RequestLaidOut (w : List ℕ) (bits : ℕ) (a b c d e : List ℕ) : Type 0 where
  pub c_labels : List (List ℕ)
  pub d_labels : List (List ℕ)
  pub e_labels : List (List ℕ)
  pub c_text : TextLabels c c_labels
  pub d_text : TextLabels d d_labels
  pub e_text : TextLabels e e_labels
  pub message_type : take 4 w ≡ le32 0
  pub flags : take 4 (drop 4 w) ≡ le32 (bits % 0x20)
  pub strings : drop 8 w ≡
      under_bit bits 0x1 (a ++ (0 ∷ [])) ++ (under_bit bits 0x2 (b ++ (0 ∷ [])) ++
      (under_bit bits 0x4 (labelled c_labels) ++ (under_bit bits 0x8 (labelled d_labels) ++ under_bit bits 0x10 (labelled e_labels))))

abbrev pub NlRequestByLayout : Type 0
NlRequestByLayout =
    (out : List ℕ) (flags : NlAuthFlags) (a b c d e : List ℕ) (n : ℕ) → request_answer (length out) (known flags) a b c d e ≡ Ok n →
    RequestLaidOut (take n (request_out out (known flags) a b c d e)) flags.bits a b c d e

abbrev pub NlResponseByLayout : Type 0
NlResponseByLayout =
    (out : List ℕ) (n : ℕ) → response_answer (length out) ≡ Ok n → take n (response_out out) ≡ le32 1 ++ (le32 0 ++ (0 ∷ []))
