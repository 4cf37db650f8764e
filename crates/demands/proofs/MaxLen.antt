-- An answer with its records' MaxLen or without: one argument serves for both.
pub mod MaxDigits
use Rattle.std.specs.Prelude.{Result, Ok, Err}
use Rattle.read_authenticate.specs.declared.Authenticate.{Authenticate}
use Rattle.read_negotiate.specs.declared.Negotiate.{Negotiate}
use Rattle.wire.specs.declared.refusal.Refusal.{Refusal}
use mathlib.Core.Path.{◌≡◌, refl, sym}
use mathlib.Core.Bool.{Bool, true, false, cond}
use Rattle.field.specs.declared.Field.{Field}
use Rattle.read_authenticate.specs.declared.Fields.{Fields}
use Rattle.read_challenge.specs.declared.Challenge.{Challenge}
use Rattle.read_challenge.specs.declared.Fields.{Fields as ChallengeFields}
use Rattle.read_negotiate.specs.declared.Fields.{Fields as NegotiateFields}
use Rattle.demands.specs.MaxLen.{authenticate_without_max_len, challenge_without_max_len, negotiate_without_max_len}
use Rattle.demands.proofs.Bools.{true_not_false}

-- a record as it is, or without its MaxLen
unfoldable pub kept : Bool → Field → Field
kept m f = record { offset = f.offset; len = f.len; max_len = cond m f.max_len 0 }

-- without it, nothing is asked of MaxLen
pub bare_only : {A : Type 0} → false ≡ true → A
bare_only e = absurd (true_not_false (sym e))

-- ---- AUTHENTICATE

abbrev pub kept_fields : Bool → Fields → Fields
kept_fields m f =
    record {
      lm = kept m f.lm;
      nt = kept m f.nt;
      domain = kept m f.domain;
      user = kept m f.user;
      workstation = kept m f.workstation;
      key = kept m f.key;
    }

abbrev pub kept_reading : Bool → Result Authenticate Refusal → Result Authenticate Refusal
kept_reading m (Ok a) = Ok (record { flags = a.flags; fields = kept_fields m a.fields; mic_present = a.mic_present })
kept_reading m (Err e) = Err e

pub as_it_is : (r : Result Authenticate Refusal) → kept_reading true r ≡ r
unfolding kept
as_it_is (Ok a) = refl
as_it_is (Err e) = refl

pub bare_is : (r : Result Authenticate Refusal) → authenticate_without_max_len r ≡ kept_reading false r
unfolding kept
bare_is (Ok a) = refl
bare_is (Err e) = refl

-- ---- CHALLENGE

abbrev pub kept_challenge_fields : Bool → ChallengeFields → ChallengeFields
kept_challenge_fields m f = record { target_name = kept m f.target_name; target_info = kept m f.target_info }

abbrev pub kept_message : Bool → Challenge → Challenge
kept_message m c = record { flags = c.flags; fields = kept_challenge_fields m c.fields }

abbrev pub kept_challenge : Bool → Result Challenge Refusal → Result Challenge Refusal
kept_challenge m (Ok c) = Ok (kept_message m c)
kept_challenge m (Err e) = Err e

pub challenge_as_it_is : (r : Result Challenge Refusal) → kept_challenge true r ≡ r
unfolding kept
challenge_as_it_is (Ok c) = refl
challenge_as_it_is (Err e) = refl

pub challenge_bare_is : (r : Result Challenge Refusal) → challenge_without_max_len r ≡ kept_challenge false r
unfolding kept
challenge_bare_is (Ok c) = refl
challenge_bare_is (Err e) = refl

-- ---- NEGOTIATE

abbrev pub kept_negotiate_fields : Bool → NegotiateFields → NegotiateFields
kept_negotiate_fields m f = record { domain = kept m f.domain; workstation = kept m f.workstation }

abbrev pub kept_negotiate : Bool → Result Negotiate Refusal → Result Negotiate Refusal
kept_negotiate m (Ok x) = Ok (record { flags = x.flags; fields = kept_negotiate_fields m x.fields })
kept_negotiate m (Err e) = Err e

pub negotiate_as_it_is : (r : Result Negotiate Refusal) → kept_negotiate true r ≡ r
unfolding kept
negotiate_as_it_is (Ok x) = refl
negotiate_as_it_is (Err e) = refl

pub negotiate_bare_is : (r : Result Negotiate Refusal) → negotiate_without_max_len r ≡ kept_negotiate false r
unfolding kept
negotiate_bare_is (Ok x) = refl
negotiate_bare_is (Err e) = refl
