-- Demand 2 as document 02's 9/12 has it: "Demand 2 now says that MaxLen changes nothing but this word and the record's MaxLen".
-- Answers without their records' MaxLen, and lines up to their last word.
use Rattle.read_authenticate.specs.declared.Authenticate.{Authenticate}
use Rattle.read_challenge.specs.declared.Challenge.{Challenge}
use Rattle.read_negotiate.specs.declared.Negotiate.{Negotiate}
use Rattle.wire.specs.declared.refusal.Refusal.{Refusal}
use Rattle.std.specs.Prelude.{Result, Ok, Err, ⊤, ℕ, ◌-◌, ◌≤◌, ◌≡◌, List, [], ◌∷◌, ◌++◌, length, get_or}
use Rattle.wire.specs.Text.{ascii}
use Rattle.field.specs.declared.Field.{Field}
use Rattle.demands.specs.Message.{Format, len_of, max_len_of, Counts}
use Rattle.demands.specs.TakenExactly.{IsTaken}

-- a field's record without its MaxLen
abbrev pub without_max_len : Field → Field
without_max_len f = record { offset = f.offset; len = f.len; max_len = 0 }

-- ---- an answer without it: flags, places, whether a MIC is there, or the refusal

abbrev pub authenticate_without_max_len : Result Authenticate Refusal → Result Authenticate Refusal
authenticate_without_max_len (Ok a) =
    Ok (record {
      flags = a.flags;
      fields = record {
        lm = without_max_len a.fields.lm;
        nt = without_max_len a.fields.nt;
        domain = without_max_len a.fields.domain;
        user = without_max_len a.fields.user;
        workstation = without_max_len a.fields.workstation;
        key = without_max_len a.fields.key;
      };
      mic_present = a.mic_present;
    })
authenticate_without_max_len (Err e) = Err e

abbrev pub challenge_without_max_len : Result Challenge Refusal → Result Challenge Refusal
challenge_without_max_len (Ok c) =
    Ok (record {
      flags = c.flags;
      fields = record { target_name = without_max_len c.fields.target_name; target_info = without_max_len c.fields.target_info };
    })
challenge_without_max_len (Err e) = Err e

abbrev pub negotiate_without_max_len : Result Negotiate Refusal → Result Negotiate Refusal
negotiate_without_max_len (Ok m) =
    Ok (record {
      flags = m.flags;
      fields = record { domain = without_max_len m.fields.domain; workstation = without_max_len m.fields.workstation };
    })
negotiate_without_max_len (Err e) = Err e

-- ---- the last word: "a digit for each field in order: 1 where a field that counts has MaxLen unlike Len, else 0"

abbrev pub Unlike : Format → List ℕ → ℕ → Type 0
Unlike k s i = Counts k s i × (max_len_of k s i ≡ len_of k s i → ⊥)

pub record MaxDigits (k : Format) (s digits : List ℕ) : Type 0 where
  pub count : length digits ≡ k.last
  pub one : (i : ℕ) → 1 ≤ i → i ≤ k.last → Unlike k s i → get_or digits (i - 1) 0 ≡ 0x31
  pub else : (i : ℕ) → 1 ≤ i → i ≤ k.last → (Unlike k s i → ⊥) → get_or digits (i - 1) 0 ≡ 0x30

-- the line of s ends in the word that its heads say
pub record EndsInMax (k : Format) (s line before : List ℕ) : Type 0 where
  pub digits : List ℕ
  pub line_is : line ≡ before ++ (ascii " max=" ++ (digits ++ (0x0A ∷ [])))
  pub said : MaxDigits k s digits

-- two lines that are alike up to their last words, each as its own message's heads say it
pub record AlikeToMax (k : Format) (s t line line' : List ℕ) : Type 0 where
  pub before : List ℕ
  pub first : EndsInMax k s line before
  pub second : EndsInMax k t line' before
  -- so the calls of the lines answer the same length, or both 33
  pub same_length : length line ≡ length line'

-- the lines of two messages: alike to the last word where the first is taken, and alike where it is refused
pub record AlikeButMax (k : Format) (verdict : Result ⊤ Refusal) (s t line line' : List ℕ) : Type 0 where
  pub taken : IsTaken verdict → AlikeToMax k s t line line'
  pub refused : (IsTaken verdict → ⊥) → line ≡ line'
