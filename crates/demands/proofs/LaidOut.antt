-- What is written stands where document 01 puts it.
use Prim.Native.Nat.{ℕ, ◌+◌, ◌/◌, ◌%◌}
use mathlib.Core.Path.{◌≡◌, refl, sym, ap, ◌∙◌, subst}
use mathlib.Core.List.{List, [], ◌∷◌, ◌++◌, append_assoc}
use borrow.Author.Tests.{eq-eqb, ne_eqb}
use lib.ListN.{length, take, drop, length-append}
use lib.Seq.{take_at, drop_at, drop-drop}
use Rattle.negotiate_flags.specs.declared.NegotiateFlags.{NegotiateFlags}
use Rattle.head.specs.Head.{flags_at}
use Rattle.place.specs.Place.{le16, le32}
use Rattle.write_field.specs.Writing.{head_bytes, version_bytes}
use Rattle.write_field.proofs.Laws.{length-version}
use Rattle.write_authenticate.specs.Writing as A
use Rattle.write_authenticate.specs.Writing.{authenticate_bytes, payload_bytes}
use Rattle.write_authenticate.proofs.Sent as AuthenticateSent
use Rattle.write_negotiate.specs.Writing as N
use Rattle.write_negotiate.specs.Writing.{negotiate_bytes, flags_to_write}
use Rattle.write_negotiate.proofs.Sent as NegotiateSent
use Rattle.write_dns_name.specs.Writing.{split_labels, label_bytes, coded, name_bytes}
use Rattle.nl_auth_flags.specs.declared.NlAuthFlags.{NlAuthFlags}
use Rattle.nl_auth_flags.specs.Flags.{known}
use Rattle.write_nl_auth.specs.Writing as R
use Rattle.write_nl_auth.specs.Writing.{request_bytes}
use Rattle.demands.specs.LaidOut.{VersionIs, LaidOut, NegotiateLaidOut, AuthenticateByLayout, RespondByLayout, NegotiateByLayout, labelled, RequestLaidOut, NlRequestByLayout, NlResponseByLayout}
use Rattle.demands.specs.Message.{authenticate, MicThere}
use Rattle.demands.proofs.Answering.{mic_sent_long, respond_writes}
use Rattle.demands.proofs.Bools.{bit1, bit2, bit4, bit8, bit16}
use Rattle.demands.proofs.DnsText.{text_labels}
use Rattle.demands.proofs.OwnBytes.{authenticate_own}
use Rattle.demands.proofs.ReadBack.{written_is, response_is}
use Rattle.demands.proofs.ReadBack.NegotiateBack.{bits_by_names}
use Rattle.demands.proofs.ReadBack.WriteBack.{authenticate_reads_back}

-- ---- Version, from n on

module _ (w : NegotiateFlags) (v M r : List ℕ) (n : ℕ) (v8 : length v ≡ 8) (e : drop n M ≡ version_bytes w v ++ r) where
  version_here : take 8 (drop n M) ≡ version_bytes w v
  version_here = ap (λ (l : List ℕ). take 8 l) e ∙ take_at (version_bytes w v) r 8 (length-version w v v8)

  version_is : VersionIs M n w.bits v
  unfolding version_bytes
  version_is =
      record {
        given = λ set. version_here ∙ rw (eq-eqb (w.bits / 0x2000000 % 2) 1 set) refl;
        zeros = λ clear. version_here ∙ rw (ne_eqb (w.bits / 0x2000000 % 2) 1 clear) refl;
      }

  -- and what follows it
  after_version : drop (n + 8) M ≡ r
  after_version = sym (drop-drop 8 n M) ∙ ap (λ (l : List ℕ). drop 8 l) e ∙ drop_at (version_bytes w v) r 8 (length-version w v v8)

-- ---- AUTHENTICATE

module _ (w : NegotiateFlags) (v mic lm nt dom usr wks key : List ℕ) (v8 : length v ≡ 8) (m16 : length mic ≡ 16) where
  M : List ℕ
  M = authenticate_bytes w v mic lm nt dom usr wks key

  payload : List ℕ
  payload = payload_bytes lm nt dom usr wks key

  after_flags : drop 64 M ≡ version_bytes w v ++ (mic ++ payload)
  unfolding M payload A.fields_to A.heads_bytes A.after_heads A.fixed_bytes authenticate_bytes head_bytes le16 le32
  after_flags = append_assoc (version_bytes w v) mic (payload_bytes lm nt dom usr wks key)

  at_72 : drop 72 M ≡ mic ++ payload
  at_72 = after_version w v M (mic ++ payload) 64 v8 after_flags

  laid_out : MicThere authenticate M → LaidOut M w.bits v mic lm nt dom usr wks key
  unfolding M payload A.fields_to A.heads_bytes A.after_heads A.fixed_bytes authenticate_bytes payload_bytes head_bytes le16 le32
  laid_out there =
      record {
        size = AuthenticateSent.length-message lm nt dom usr wks key w v mic v8 m16 ∙ ap (λ (n : ℕ). 88 + n) (AuthenticateSent.length-payload lm nt dom usr wks key);
        opening = record { signature = refl; message_type = refl; flags = refl };
        lm_head = refl;
        nt_head = refl;
        domain_head = refl;
        user_head = refl;
        workstation_head = refl;
        key_head = refl;
        version_at = version_is w v M (mic ++ payload) 64 v8 after_flags;
        mic_at = ap (λ (l : List ℕ). take 16 l) at_72 ∙ take_at mic payload 16 m16;
        payload = sym (drop-drop 16 72 M) ∙ ap (λ (l : List ℕ). drop 16 l) at_72 ∙ drop_at mic payload 16 m16;
        mic_there = there;
      }

pub authenticate_by_layout : AuthenticateByLayout
unfolding A.write_answer A.write_out M
authenticate_by_layout out w v mic lm nt dom usr wks key n v8 m16 h =
    let t = written_is (A.check_to_write (length out) w lm nt dom usr wks key) (authenticate_bytes w v mic lm nt dom usr wks key) out n h in
    let b = authenticate_reads_back out w v mic lm nt dom usr wks key n v8 m16 h in
    let there = (authenticate_own _ b.message b.read).mic_present_is.0 b.mic_there in
    rw t.1 (laid_out w v mic lm nt dom usr wks key v8 m16 (subst (MicThere authenticate) t.1 there))

pub respond_by_layout : RespondByLayout
respond_by_layout settings s b x v8 m16 info t y h =
    let w = respond_writes settings s b x m16 info t y h in
    rw w.1
    (authenticate_by_layout x.out (flags_at s 20) x.version t.mic_sent t.lm_sent x.nt t.domain_sent x.user x.workstation
    t.key_sent y.len v8 (mic_sent_long settings s b x m16 info t) w.0)

-- ---- NEGOTIATE

module _ (w : NegotiateFlags) (v dom wks : List ℕ) (v8 : length v ≡ 8) where
  L : List ℕ
  L = negotiate_bytes w v dom wks

  after_heads_lem : drop 32 L ≡ version_bytes (flags_to_write w dom wks) v ++ (dom ++ wks)
  unfolding L N.fields_to N.after_type N.fixed_bytes negotiate_bytes head_bytes le16 le32
  after_heads_lem = refl

  negotiate_laid_out : NegotiateLaidOut L w.bits v dom wks
  unfolding L N.fields_to N.after_type N.fixed_bytes negotiate_bytes head_bytes le16 le32
  negotiate_laid_out =
      record {
        bits = (flags_to_write w dom wks).bits;
        by_names = bits_by_names w dom wks;
        size = NegotiateSent.length-message dom wks w v v8 ∙ ap (λ (n : ℕ). 40 + n) (length-append dom wks);
        opening = record { signature = refl; message_type = refl; flags = refl };
        domain_head = refl;
        workstation_head = refl;
        version_at = version_is (flags_to_write w dom wks) v L (dom ++ wks) 32 v8 after_heads_lem;
        payload = after_version (flags_to_write w dom wks) v L (dom ++ wks) 32 v8 after_heads_lem;
      }

pub negotiate_by_layout : NegotiateByLayout
unfolding N.write_answer N.write_out L
negotiate_by_layout out w v dom wks n v8 h =
    rw (written_is (N.check_to_write (length out) w dom wks) (negotiate_bytes w v dom wks) out n h).1 (negotiate_laid_out w v dom wks v8)

-- ---- NL_AUTH

labelled_is : (ls : List (List ℕ)) → coded ls ≡ labelled ls
unfolding coded label_bytes
labelled_is [] = refl
labelled_is (l ∷ ls) = ap (λ (x : List ℕ). (length l ∷ l) ++ x) (labelled_is ls)

name_is : (t : List ℕ) → name_bytes t ≡ labelled (split_labels t)
unfolding name_bytes
name_is t = labelled_is (split_labels t)

request_laid_out : (flags : NlAuthFlags) (a b c d e : List ℕ) → RequestLaidOut (request_bytes (known flags) a b c d e) flags.bits a b c d e
unfolding request_bytes R.type_and_flags R.zero_terminated R.bytes_under R.oem_bytes R.name_bytes_under R.utf8_bytes le32 le16
request_laid_out flags a b c d e =
    record {
      c_labels = split_labels c;
      d_labels = split_labels d;
      e_labels = split_labels e;
      c_text = text_labels c;
      d_text = text_labels d;
      e_text = text_labels e;
      message_type = refl;
      flags = refl;
      strings = simp (bit1 flags.bits, bit2 flags.bits, bit4 flags.bits, bit8 flags.bits, bit16 flags.bits, name_is c, name_is d, name_is e, append_assoc);
    }

pub nl_request_by_layout : NlRequestByLayout
unfolding R.request_answer R.request_out
nl_request_by_layout out flags a b c d e n h =
    rw (written_is (R.check_request (length out) (known flags) a b c d e) (request_bytes (known flags) a b c d e) out n h).1
    (request_laid_out flags a b c d e)

pub nl_response_by_layout : NlResponseByLayout
unfolding R.response_bytes R.type_and_flags le32 le16
nl_response_by_layout out n h = response_is out n h
