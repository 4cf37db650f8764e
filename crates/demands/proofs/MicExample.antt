-- A sign-in's MIC, computed from the definitions.
use Rattle.std.specs.Prelude.{Ok}
use Prim.Native.Nat.{ℕ, ◌≤◌, ◌<◌}
use mathlib.Core.Path.{◌≡◌, refl, sym}
use mathlib.Core.Logic.{◌⊎◌, inl, inr}
use mathlib.Core.Bool.{Bool, true, false}
use native.Mathlib.Omega.{arith}
use lib.Dec.{eqb}
use lib.ListN.{get_or}
use lib.Seq.{get_or-set_other}
use borrow.Author.Tests.{eqb-true, eqb-false}
use Rattle.field.specs.Field.{field_at, field_bytes}
use Rattle.head.specs.Head.{signature_holds, read_head}
use Rattle.read_negotiate.specs.Negotiate.{fields_at as negotiate_fields_at, check_ends as negotiate_ends, check_begins as negotiate_begins, check_fields as negotiate_checks, read_negotiate}
use Rattle.av_pairs.specs.AvPairs.{check_pairs, step_at, pair_of, left}
use Rattle.read_challenge.specs.Challenge.{fields_at as challenge_fields_at, check_ends as challenge_ends, check_begins as challenge_begins, check_names as challenge_names, check_fields as challenge_checks, fields_of, check_info, reading_of as challenge_reading_of, read_challenge}
use Rattle.read_authenticate.specs.Authenticate.{fields_at, check_ends, check_begins, check_names, check_shared, check_fields, mic_present, reading_of, read_authenticate}
use Rattle.md5_digest.specs.Words.{sines}
use Rattle.md5_digest.specs.Block.{step, stepped_by, turns, round, added, block_taken}
use Rattle.md5_digest.specs.Digest.{padding, start, word_bytes, md5}
use Rattle.hmac_md5.specs.Hmac.{filled_out, key_block, hmac}
use Rattle.mic.specs.Mic.{zeroed, mic_of, check_inputs, computed_mic, check_mic}
use Rattle.demands.specs.TakenExactly.{InfoBytes}
use Rattle.demands.specs.Mic.{DifferInMic}
use Rattle.demands.specs.MicExample.{key, nego, chal, info, auth, mic, other_chal, other_auth, MicExample}
use Rattle.demands.proofs.Mic.{mic_judged, mic_agree}

bytes_of_info : InfoBytes chal info
bytes_of_info =
    record {
      there = λ ne. refl;
      absent = λ no. absurd (no (record { first = omega arith; last = omega arith; counts = (λ e. refl, λ e. refl); some = omega arith }));
    }

bytes_of_other : InfoBytes other_chal info
bytes_of_other =
    record {
      there = λ ne. refl;
      absent = λ no. absurd (no (record { first = omega arith; last = omega arith; counts = (λ e. refl, λ e. refl); some = omega arith }));
    }

-- the three readings, and those with another challenge and another MIC
clear : (check_inputs 16 nego chal auth ≡ Ok tt) × (check_inputs 16 nego other_chal auth ≡ Ok tt) × (check_inputs 16 nego chal other_auth ≡ Ok tt)
unfolding check_inputs read_negotiate negotiate_fields_at negotiate_ends negotiate_begins negotiate_checks read_head signature_holds field_at field_bytes read_challenge challenge_reading_of check_info fields_of challenge_fields_at challenge_ends challenge_begins challenge_names challenge_checks check_pairs step_at pair_of left read_authenticate reading_of fields_at check_ends check_begins check_names check_shared check_fields mic_present
clear = (refl, refl, refl)

worked_out : mic_of key nego chal auth ≡ mic
unfolding sines step stepped_by turns round added block_taken padding start word_bytes md5 filled_out key_block hmac zeroed mic_of
worked_out = refl

no : (check_mic key nego other_chal auth ≡ Ok false) × (check_mic key nego chal other_auth ≡ Ok false)
unfolding sines step stepped_by turns round added block_taken padding start word_bytes md5 filled_out key_block hmac zeroed mic_of check_mic
no = (rw clear.1 refl, rw clear.2 refl)

-- byte 72 is one of the MIC's
differs : DifferInMic auth other_auth
differs = record { length_same = refl; elsewhere = λ p. go p (eqb p 72) refl } where
  go : (p : ℕ) (b : Bool) → eqb p 72 ≡ b → (get_or auth p 0 ≡ get_or other_auth p 0) ⊎ ((72 ≤ p) × (p < 88))
  go p true e = let h = eqb-true p 72 e in inr (omega (arith, h), omega (arith, h))
  go p false e = inl (sym (get_or-set_other auth 72 p 0xB7 0 (eqb-false p 72 e)))

pub mic_example : MicExample
unfolding computed_mic check_mic check_inputs
mic_example =
    record {
      info_bytes = bytes_of_info;
      holds = (mic_judged key nego chal info auth bytes_of_info).taken.0 (rw clear.0 tt);
      verdict = clear.0;
      computed = simp (clear.0, worked_out);
      yes = (mic_agree key nego chal auth).yes.1 (clear.0, simp (clear.0, worked_out));
      other_holds = (mic_judged key nego other_chal info auth bytes_of_other).taken.0 (rw clear.1 tt);
      no = no.0;
      differ = differs;
      other_mic = no.1;
      short_key_is = refl;
    }
