-- What the macros of the C header take out of a refusal and out of a length.
use Prim.Native.Nat.{ℕ, ◌≤◌, ◌<◌}
use mathlib.Core.Path.{refl}
use native.Mathlib.Omega.{arith}
use Rattle.wire.specs.declared.refusal.Refusal.{Refusal}
use Rattle.wire.specs.declared.refusal.Refusal.TheVariants.{TooLong, TooShort, WrongSignature, WrongType, NoCharset, PastEnd, InFixedPart, OddName, NameOverSecret, PairPastEnd, PairMissing, WrongEndPair, WrongPairSize, NoStrings, Unterminated, BytesLeft, WrongResponse, No128Bit, NoServerNames, TooLongToWrite, OddNameToWrite, WrongKey, NoRoom, ZeroInString, WrongLabel, PlaceNotBefore, TooManyJumps, NameTooLong, PlaceOutside, WrongSessionKey, NoMic, WrongScheme, WrongBase64}
use Rattle.wire.specs.Refusal.{number_of, field_of}
use Rattle.c_number.specs.Number.{refusal_number}
use Rattle.demands.specs.Answers.{DecodesLength, DecodesRefusal}

pub number_small : (e : Refusal) → number_of e ≤ 58
number_small TooLong = omega arith
number_small TooShort = omega arith
number_small WrongSignature = omega arith
number_small WrongType = omega arith
number_small NoCharset = omega arith
number_small (PastEnd f) = omega arith
number_small (InFixedPart f) = omega arith
number_small (OddName f) = omega arith
number_small (NameOverSecret f) = omega arith
number_small (PairPastEnd at) = omega arith
number_small (PairMissing at) = omega arith
number_small (WrongEndPair at) = omega arith
number_small (WrongPairSize at) = omega arith
number_small NoStrings = omega arith
number_small (Unterminated f) = omega arith
number_small BytesLeft = omega arith
number_small WrongResponse = omega arith
number_small No128Bit = omega arith
number_small NoServerNames = omega arith
number_small TooLongToWrite = omega arith
number_small (OddNameToWrite f) = omega arith
number_small WrongKey = omega arith
number_small NoRoom = omega arith
number_small (ZeroInString f) = omega arith
number_small (WrongLabel f) = omega arith
number_small (PlaceNotBefore f) = omega arith
number_small (TooManyJumps f) = omega arith
number_small (NameTooLong f) = omega arith
number_small PlaceOutside = omega arith
number_small WrongSessionKey = omega arith
number_small NoMic = omega arith
number_small WrongScheme = omega arith
number_small WrongBase64 = omega arith

-- a field is at most 6
abbrev pub Small : Refusal → Type 0
Small e = field_of e ≤ 6

pub decodes_refusal : (e : Refusal) → Small e → DecodesRefusal (refusal_number e) e
decodes_refusal e small =
    record {
      top_bit = omega (arith, number_small e);
      number = omega (arith, number_small e);
      field = omega (arith, number_small e);
      place = λ h. omega (arith, number_small e);
      far_place = λ h. omega (arith, number_small e);
    }

pub decodes_length : (n : ℕ) → n < 0x8000000000000000 → DecodesLength n n
decodes_length n l = record { top_bit = omega arith; is_length = refl }
