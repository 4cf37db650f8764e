-- One meaning, one writing.
pub mod CanonicalWritten
pub mod Example
use Rattle.std.specs.Prelude.{Result, Ok, Err}
use Prim.Native.Nat.{ℕ, ◌+◌, ◌≤◌}
use mathlib.Core.Path.{◌≡◌, refl, sym, ap, ◌∙◌, subst}
use mathlib.Core.Bool.{Bool, true, false, cond}
use mathlib.Core.List.{List, []}
use native.Mathlib.Omega.{arith}
use lib.Dec.{leb}
use lib.ListN.{length, take, drop, length-take, length-drop}
use Rattle.wire.specs.declared.refusal.Refusal.{Refusal}
use Rattle.field.specs.declared.Field.{Field}
use Rattle.field.specs.Field.{field_bytes}
use Rattle.read_authenticate.specs.declared.Authenticate.{Authenticate}
use Rattle.read_authenticate.specs.declared.Fields.{Fields}
use Rattle.read_authenticate.specs.Authenticate.{read_authenticate}
use Rattle.write_authenticate.specs.Writing.{authenticate_bytes, check_to_write, write_answer, write_out}
use Rattle.write_authenticate.proofs.Sent.{length-message, length-payload}
use Rattle.c_number.specs.Number.{written_number}
use Rattle.write_canonical.specs.Canonical.{Meaning, meaning_of, zero_version, meaning_answer, meaning_out, on_meaning, canonical_answer, canonical_out}
use Rattle.demands.specs.Canonical.{Means, MeaningIsThere, OneMeaning, WrittenAs, OneWriting, WrittenAgain, MeaningBack, WrittenByLayout, CanonicalKept, SameCanonical, CanonicalByMeaning, CanonicalIgnored, SecretsWritten, CanonicalSecret, CanonicalShort, CanonicalDecodes}
use Rattle.demands.specs.Answers.{DecodesWritten, write_authenticate}
use Rattle.demands.specs.Ignored.{SameFields, SameAnswer}
use Rattle.demands.specs.Kept.{Kept}
use Rattle.demands.specs.LaidOut.{LaidOut}
use Rattle.demands.specs.MaxLen.{authenticate_without_max_len}
use Rattle.demands.specs.ReadBack.{AuthenticateBack}
use Rattle.demands.specs.Secret.{SamePublic, AsLong}
use Rattle.demands.specs.TakenExactly.{IsTaken}
use Rattle.verdict.specs.Verdict.{auth_verdict}
use Rattle.demands.specs.WrittenExactly.{WrittenExactly, authenticate_size, authenticate_order, AuthenticateWritingFails}
use Rattle.demands.proofs.Answers.{writing_short, writing_decodes}
use Rattle.demands.proofs.Answers.SmallFields.{authenticate_small}
use Rattle.demands.proofs.Answers.Decoded.{decodes_refusal}
use Rattle.demands.proofs.Ignored.{authenticate_ignored}
use Rattle.demands.proofs.Kept as kept_laws
use Rattle.demands.proofs.Kept.AnswerKept.{authenticate_kept}
use Rattle.demands.proofs.Kept.CallFront.{mic_16}
use Rattle.demands.proofs.LaidOut.{authenticate_by_layout}
use Rattle.demands.proofs.Order.{on_row}
use Rattle.demands.proofs.ReadBack.{written_is}
use Rattle.demands.proofs.ReadBack.WriteBack.{authenticate_reads_back}
use Rattle.demands.proofs.Secret.{secret_read}
use Rattle.demands.proofs.Secret.Answered.{write_same, written_alike}
use Rattle.demands.proofs.WrittenExactly.MessagesWritten.{authenticate_written}

-- ---- meaning

pub each_means : (s : List ℕ) (a : Authenticate) → (read_authenticate s).reading ≡ Ok a → Means s (meaning_of s (read_authenticate s).mic a)
unfolding meaning_of
each_means s a h =
    record {
      message = a;
      read = h;
      flags = refl;
      mic = refl;
      lm = refl;
      nt = refl;
      domain = refl;
      user = refl;
      workstation = refl;
      key = refl;
    }

pub meaning_is_there : MeaningIsThere
meaning_is_there s t = go (read_authenticate s).reading refl t where
  go : (r : Result Authenticate Refusal) → (read_authenticate s).reading ≡ r → IsTaken (auth_verdict r) → (m : Meaning) × Means s m
  go (Ok a) p u = (meaning_of s (read_authenticate s).mic a, each_means s a p)
  go (Err e) p u = absurd u

module _ (s : List ℕ) (m : Meaning) (x : Means s m) where
  -- the meaning is made of what the reading answers
  made : meaning_of s (read_authenticate s).mic x.message ≡ m
  unfolding meaning_of
  made = λ i.
      record {
        flags = record { bits = x.flags i };
        mic = x.mic i;
        lm = x.lm i;
        nt = x.nt i;
        domain = x.domain i;
        user = x.user i;
        workstation = x.workstation i;
        key = x.key i;
      }

  -- and so are the answer and the output
  pub answer_of : (room : ℕ) → canonical_answer room s ≡ meaning_answer room m
  unfolding canonical_answer
  answer_of room =
      ap (λ (r : Result Authenticate Refusal). on_meaning Err s (read_authenticate s).mic r (λ k. meaning_answer room k)) x.read
      ∙ ap (λ (k : Meaning). meaning_answer room k) made

  pub output_of : (out : List ℕ) → canonical_out out s ≡ meaning_out out m
  unfolding canonical_out
  output_of out =
      ap (λ (r : Result Authenticate Refusal). on_meaning (λ e. out) s (read_authenticate s).mic r (λ k. meaning_out out k)) x.read
      ∙ ap (λ (k : Meaning). meaning_out out k) made

  pub mic_long : length m.mic ≡ 16
  mic_long = ap length (sym x.mic) ∙ mic_16 s

-- nothing is made of a message that is refused
module _ (s : List ℕ) (e : Refusal) (h : (read_authenticate s).reading ≡ Err e) where
  pub answer_refused : (room : ℕ) → canonical_answer room s ≡ Err e
  unfolding canonical_answer
  answer_refused room = ap (λ (r : Result Authenticate Refusal). on_meaning Err s (read_authenticate s).mic r (λ k. meaning_answer room k)) h

  pub output_refused : (out : List ℕ) → canonical_out out s ≡ out
  unfolding canonical_out
  output_refused out = ap (λ (r : Result Authenticate Refusal). on_meaning (λ d. out) s (read_authenticate s).mic r (λ k. meaning_out out k)) h

one_message : (a b : Authenticate) → ◌≡◌ {A = Result Authenticate Refusal} (Ok a) (Ok b) → a ≡ b
one_message a b h = cc

pub one_meaning : OneMeaning
one_meaning s m n x y =
    sym (made s m x)
    ∙ ap (λ (a : Authenticate). meaning_of s (read_authenticate s).mic a) (one_message x.message y.message (sym x.read ∙ y.read))
    ∙ made s n y

pub canonical_by_meaning : CanonicalByMeaning
canonical_by_meaning s t m x y =
    record {
      answer = λ room. answer_of s m x room ∙ sym (answer_of t m y room);
      output = λ out. output_of s m x out ∙ sym (output_of t m y out);
    }

-- ---- what comes out

abbrev bytes_for : Meaning → List ℕ
bytes_for m = authenticate_bytes m.flags zero_version m.mic m.lm m.nt m.domain m.user m.workstation m.key

abbrev size_for : Meaning → ℕ
size_for m = authenticate_size m.lm m.nt m.domain m.user m.workstation m.key

size_for_lem : (m : Meaning) → length m.mic ≡ 16 → length (bytes_for m) ≡ size_for m
size_for_lem m m16 =
    length-message m.lm m.nt m.domain m.user m.workstation m.key m.flags zero_version m.mic refl m16
    ∙ ap (λ (n : ℕ). 88 + n) (length-payload m.lm m.nt m.domain m.user m.workstation m.key)

-- a meaning that is written stands at the output's front
front_is : (m : Meaning) (out : List ℕ) (n : ℕ) → meaning_answer (length out) m ≡ Ok n → take n (meaning_out out m) ≡ bytes_for m
unfolding meaning_answer meaning_out write_answer write_out
front_is m out n h =
    (written_is (check_to_write (length out) m.flags m.lm m.nt m.domain m.user m.workstation m.key) (bytes_for m) out n h).1

-- a meaning that is written into one output is written into every one that has room for it
again : (m : Meaning) (room n more : ℕ) → length m.mic ≡ 16 → meaning_answer room m ≡ Ok n → size_for m ≤ more →
    meaning_answer more m ≡ Ok (size_for m)
unfolding meaning_answer
again m room n more m16 h l = ((exact more).written (size_for m)).1 (none, refl) where
  F : ℕ → ℕ → ℕ → Type 0
  F r = AuthenticateWritingFails r m.flags.bits m.lm m.nt m.domain m.user m.workstation m.key

  exact : (r : ℕ) → WrittenExactly (meaning_answer r m) authenticate_order (F r) (size_for m)
  exact r = authenticate_written r m.flags zero_version m.mic m.lm m.nt m.domain m.user m.workstation m.key refl m16

  was : (k j : ℕ) → F room k j → ⊥
  was = (((exact room).written n).0 h).0

  none : (k j : ℕ) → F more k j → ⊥
  none k j =
      on_row 5 k _ _ ⊥ (λ e p. was 5 j p) (
      on_row 31 k _ _ ⊥ (λ e p. was 31 j p) (
      on_row 32 k _ _ ⊥ (λ e p. was 32 j p) (
      on_row 30 k _ _ ⊥ (λ e p. was 30 j p) (
      on_row 33 k _ _ ⊥ (λ e p. omega (arith, p.1, l)) (λ x. x)))))

module _ (s w : List ℕ) (m : Meaning) (x : Means s m) (y : WrittenAs s w) where
  answer_is : meaning_answer (length y.out) m ≡ Ok y.size
  answer_is = sym (answer_of s m x (length y.out)) ∙ y.answer

  front : take y.size (meaning_out y.out m) ≡ w
  front = ap (λ (l : List ℕ). take y.size l) (sym (output_of s m x y.out)) ∙ y.bytes

  whole : w ≡ bytes_for m
  whole = sym front ∙ front_is m y.out y.size answer_is

  back : AuthenticateBack w m.flags m.mic m.lm m.nt m.domain m.user m.workstation m.key
  unfolding meaning_answer meaning_out
  back =
      subst (λ (l : List ℕ). AuthenticateBack l m.flags m.mic m.lm m.nt m.domain m.user m.workstation m.key) front
      (authenticate_reads_back y.out m.flags zero_version m.mic m.lm m.nt m.domain m.user m.workstation m.key y.size refl
      (mic_long s m x) answer_is)

  size_is : length w ≡ size_for m
  size_is = ap length whole ∙ size_for_lem m (mic_long s m x)

pub meaning_back : MeaningBack
meaning_back s w m x y =
    let b = back s w m x y in
    record {
      message = b.message;
      read = b.read;
      flags = b.flags_same;
      mic = b.mic_same;
      lm = b.lm_same;
      nt = b.nt_same;
      domain = b.domain_same;
      user = b.user_same;
      workstation = b.workstation_same;
      key = b.key_same;
    }

pub one_writing : OneWriting
one_writing s t w v m n x y p q = (
  λ e. one_meaning v m n (subst (λ (l : List ℕ). Means l m) e (meaning_back s w m x p)) (meaning_back t v n y q),
  λ e. whole s w m x p ∙ ap (λ (k : Meaning). bytes_for k) e ∙ sym (whole t v n y q),
)

-- what is written was taken
written_means : (s w : List ℕ) → WrittenAs s w → (m : Meaning) × Means s m
written_means s w y = go (read_authenticate s).reading refl where
  never : (e : Refusal) (n : ℕ) → ◌≡◌ {A = Result ℕ Refusal} (Err e) (Ok n) → ⊥
  never e n h = let z : ◌≡◌ {A = ℕ} 0 1 = cc in omega arith

  go : (r : Result Authenticate Refusal) → (read_authenticate s).reading ≡ r → (m : Meaning) × Means s m
  go (Ok a) p = (meaning_of s (read_authenticate s).mic a, each_means s a p)
  go (Err e) p = absurd (never e y.size (sym (answer_refused s e p (length y.out)) ∙ y.answer))

pub written_again : WrittenAgain
written_again s w out y l =
    let mx = written_means s w y in
    let m = mx.0 in
    let x = mx.1 in
    let n = size_is s w m x y in
    let b = meaning_back s w m x y in
    let r : meaning_answer (length out) m ≡ Ok (length w) =
    again m (length y.out) y.size (length out) (mic_long s m x) (answer_is s w m x y) (omega (arith, n, l)) ∙ ap Ok (sym n) in (
      answer_of w m b (length out) ∙ r,
      ap (λ (k : List ℕ). take (length w) k) (output_of w m b out) ∙ front_is m out (length w) r ∙ sym (whole s w m x y),
    )

-- ---- its layout

pub written_by_layout : WrittenByLayout
unfolding meaning_answer meaning_out
written_by_layout s w m x y =
    subst (λ (l : List ℕ). LaidOut l m.flags.bits zero_version m.mic m.lm m.nt m.domain m.user m.workstation m.key) (front s w m x y)
    (authenticate_by_layout y.out m.flags zero_version m.mic m.lm m.nt m.domain m.user m.workstation m.key y.size refl
    (mic_long s m x) (answer_is s w m x y))

-- ---- demands 1 to 3

pub canonical_kept : CanonicalKept
unfolding meaning_answer meaning_out
canonical_kept out s = go (read_authenticate s).reading refl where
  go : (r : Result Authenticate Refusal) → (read_authenticate s).reading ≡ r → Kept (canonical_answer (length out) s) out (canonical_out out s)
  go (Ok a) p =
      let m = meaning_of s (read_authenticate s).mic a in
      let x = each_means s a p in
      rw (answer_of s m x (length out), output_of s m x out)
      (authenticate_kept out m.flags zero_version m.mic m.lm m.nt m.domain m.user m.workstation m.key refl (mic_long s m x))
  go (Err e) p =
      rw (answer_refused s e p (length out), output_refused s e p out)
      (kept_laws.by_verdict (Err e) [] out (λ h. absurd (let z : ◌≡◌ {A = ℕ} 0 1 = cc in omega arith)))

-- two messages that are refused alike
refused_alike : (s t : List ℕ) (e : Refusal) → (read_authenticate s).reading ≡ Err e → (read_authenticate t).reading ≡ Err e → SameCanonical s t
refused_alike s t e p q =
    record {
      answer = λ room. answer_refused s e p room ∙ sym (answer_refused t e q room);
      output = λ out. output_refused s e p out ∙ sym (output_refused t e q out);
    }

-- a message that is refused, or taken, alike but for MaxLen
refused_too : (r : Result Authenticate Refusal) (e : Refusal) → Err e ≡ authenticate_without_max_len r → r ≡ Err e
refused_too (Ok a) e h = absurd (let z : ◌≡◌ {A = ℕ} 0 1 = cc in omega arith)
refused_too (Err x) e h = sym h

abbrev fields_of : Fields → Result Authenticate Refusal → Fields
fields_of d (Ok a) = a.fields
fields_of d (Err e) = d

abbrev bits_of : Result Authenticate Refusal → ℕ
bits_of (Ok a) = a.flags.bits
bits_of (Err e) = 0

pub canonical_ignored : CanonicalIgnored
unfolding meaning_of field_bytes
canonical_ignored s t d = go (read_authenticate s).reading refl where
  same : SameAnswer s t
  same = authenticate_ignored s t d

  both : (a x : Authenticate) → (read_authenticate s).reading ≡ Ok a → (read_authenticate t).reading ≡ Ok x → SameCanonical s t
  both a x p q =
      let m = meaning_of s (read_authenticate s).mic a in
      let b : SameFields s t a.fields = same.bytes a p in
      let e : authenticate_without_max_len (Ok x) ≡ authenticate_without_max_len (Ok a) =
      sym (ap authenticate_without_max_len q) ∙ sym same.reading ∙ ap authenticate_without_max_len p in
      let f = ap (fields_of a.fields) e in
      canonical_by_meaning s t m (each_means s a p)
      (record {
        message = x;
        read = q;
        flags = ap bits_of e;
        mic = sym same.mic;
        lm = ap (λ (z : Fields). field_bytes t z.lm) f ∙ sym b.lm;
        nt = ap (λ (z : Fields). field_bytes t z.nt) f ∙ sym b.nt;
        domain = ap (λ (z : Fields). field_bytes t z.domain) f ∙ sym b.domain;
        user = ap (λ (z : Fields). field_bytes t z.user) f ∙ sym b.user;
        workstation = ap (λ (z : Fields). field_bytes t z.workstation) f ∙ sym b.workstation;
        key = ap (λ (z : Fields). field_bytes t z.key) f ∙ sym b.key;
      })

  taken : (r : Result Authenticate Refusal) (a : Authenticate) → (read_authenticate s).reading ≡ Ok a → (read_authenticate t).reading ≡ r → SameCanonical s t
  taken (Ok x) a p q = both a x p q
  taken (Err e) a p q =
      let h : Err e ≡ authenticate_without_max_len (read_authenticate s).reading = sym (ap authenticate_without_max_len q) ∙ sym same.reading in
      let z : (read_authenticate s).reading ≡ Err e = refused_too (read_authenticate s).reading e h in
      refused_alike s t e z q

  go : (r : Result Authenticate Refusal) → (read_authenticate s).reading ≡ r → SameCanonical s t
  go (Ok a) p = taken (read_authenticate t).reading a p refl
  go (Err e) p = refused_alike s t e p (refused_too (read_authenticate t).reading e (sym (ap authenticate_without_max_len p) ∙ same.reading))

field_long : (s t : List ℕ) (f : Field) → length s ≡ length t → length (field_bytes s f) ≡ length (field_bytes t f)
unfolding field_bytes
field_long s t f e = rw (← e) (go (leb (f.offset + f.len) (length s))) where
  go : (b : Bool) → length (cond b (take f.len (drop f.offset s)) []) ≡ length (cond b (take f.len (drop f.offset t)) [])
  go true = simp (length-take, length-drop, e)
  go false = refl

pub canonical_secret : CanonicalSecret
unfolding meaning_of meaning_answer meaning_out
canonical_secret s t d = go (read_authenticate s).reading refl where
  same : SamePublic s t
  same = secret_read s t d

  never : (e : Refusal) (n : ℕ) → ◌≡◌ {A = Result ℕ Refusal} (Err e) (Ok n) → ⊥
  never e n h = let z : ◌≡◌ {A = ℕ} 0 1 = cc in omega arith

  go : (r : Result Authenticate Refusal) → (read_authenticate s).reading ≡ r → SecretsWritten s t
  go (Ok a) p =
      let m = meaning_of s (read_authenticate s).mic a in
      let x = each_means s a p in
      let k : Meaning = record { flags = a.flags; mic = (read_authenticate t).mic; lm = field_bytes t a.fields.lm; nt = field_bytes t a.fields.nt; domain = m.domain; user = m.user; workstation = m.workstation; key = field_bytes t a.fields.key } in
      let y : Means t k =
      record {
        message = a;
        read = sym same.reading ∙ p;
        flags = refl;
        mic = refl;
        lm = refl;
        nt = refl;
        domain = sym (same.domain a p);
        user = sym (same.user a p);
        workstation = sym (same.workstation a p);
        key = refl;
      } in
      let long : AsLong m.mic m.lm m.nt m.key k.mic k.lm k.nt k.key =
      record {
        mic_16 = mic_16 s;
        mic_same = mic_16 s ∙ sym (mic_16 t);
        lm_same = field_long s t a.fields.lm d.length_same;
        nt_same = field_long s t a.fields.nt d.length_same;
        key_same = field_long s t a.fields.key d.length_same;
      } in
      record {
        answer = λ room.
            answer_of s m x room
            ∙ write_same room room refl a.flags zero_version m.domain m.user m.workstation m.mic m.lm m.nt m.key k.mic k.lm k.nt k.key refl long
            ∙ sym (answer_of t k y room);
        message = λ out out' n l h.
            rw (output_of s m x out, output_of t k y out')
            (written_alike out out' l a.flags zero_version m.domain m.user m.workstation m.mic m.lm m.nt m.key k.mic k.lm k.nt k.key refl long n
            (sym (answer_of s m x (length out)) ∙ h));
      }
  go (Err e) p =
      record {
        answer = (refused_alike s t e p (sym same.reading ∙ p)).answer;
        message = λ out out' n l h. absurd (never e n (sym (answer_refused s e p (length out)) ∙ h));
      }

-- ---- from C

pub canonical_short : CanonicalShort
unfolding meaning_answer
canonical_short room s n h = go (read_authenticate s).reading refl where
  never : (e : Refusal) → ◌≡◌ {A = Result ℕ Refusal} (Err e) (Ok n) → ⊥
  never e q = let z : ◌≡◌ {A = ℕ} 0 1 = cc in omega arith

  go : (r : Result Authenticate Refusal) → (read_authenticate s).reading ≡ r → n ≤ 65535
  go (Ok a) p =
      let m = meaning_of s (read_authenticate s).mic a in
      let x = each_means s a p in
      writing_short (write_authenticate room m.flags zero_version m.mic m.lm m.nt m.domain m.user m.workstation m.key refl (mic_long s m x)) n
      (sym (answer_of s m x room) ∙ h)
  go (Err e) p = absurd (never e (sym (answer_refused s e p room) ∙ h))

pub canonical_decodes : CanonicalDecodes
unfolding meaning_answer
canonical_decodes room s = go (read_authenticate s).reading refl where
  go : (r : Result Authenticate Refusal) → (read_authenticate s).reading ≡ r → DecodesWritten (written_number (canonical_answer room s)) (canonical_answer room s)
  go (Ok a) p =
      let m = meaning_of s (read_authenticate s).mic a in
      let x = each_means s a p in
      rw (answer_of s m x room)
      (writing_decodes (write_authenticate room m.flags zero_version m.mic m.lm m.nt m.domain m.user m.workstation m.key refl (mic_long s m x)))
  go (Err e) p = rw (answer_refused s e p room) (decodes_refusal e (authenticate_small s e p))
