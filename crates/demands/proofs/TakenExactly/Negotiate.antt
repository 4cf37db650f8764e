-- NEGOTIATE is taken exactly when every check holds, and refused by the first that fails; its names are its own; MaxLen and
-- ignored bytes change nothing but a record's MaxLen.
use Rattle.wire.specs.Check.{on_ok}
use Rattle.std.specs.Prelude.{Result, Ok, Err, ⊤}
use Rattle.wire.specs.declared.refusal.Refusal.{Refusal}
use Prim.Native.Nat.{ℕ}
use mathlib.Core.Path.{◌≡◌, refl, sym, ap, ◌∙◌, subst}
use mathlib.Core.Logic.{inl}
use mathlib.Core.Bool.{Bool, true, false}
use mathlib.Core.List.{List}
use native.Mathlib.Omega.{arith}
use lib.ListN.{length}
use borrow.Author.Tests.{eqb-true, eqb-false}
use Rattle.wire.specs.Check.{on_clear}
use Rattle.wire.specs.Refusal.{number_of, field_of}
use Rattle.field.specs.declared.Field.{Field}
use Rattle.field.specs.Field.{field_at}
use Rattle.negotiate_flags.specs.declared.NegotiateFlags.{NegotiateFlags}
use Rattle.negotiate_flags.specs.Flags.{oem_domain_supplied, oem_workstation_supplied}
use Rattle.head.specs.Head.{flags_at, read_head}
use Rattle.read_negotiate.specs.declared.Negotiate.{Negotiate}
use Rattle.read_negotiate.specs.declared.Fields.{Fields}
use Rattle.read_negotiate.specs.Negotiate.{layout, fields_at, all_fields, check_ends, check_begins, check_fields, read_negotiate}
use Rattle.verdict.specs.Verdict.{nego_verdict}
use Rattle.demands.specs.Order.{First}
use Rattle.demands.specs.Message.{negotiate, Fails, DifferInIgnored, SameMaxLen}
use Rattle.demands.specs.TakenExactly.{NegotiateJudged}
use Rattle.demands.specs.OwnBytes.{OwnField, NegotiateOwn}
use Rattle.demands.specs.Ignored.{SameBytes, NegotiateIgnored}
use Rattle.demands.proofs.MaxLen.{bare_only, kept, kept_negotiate_fields, kept_negotiate, negotiate_as_it_is, negotiate_bare_is}
use Rattle.demands.proofs.Order.{Free, next_check}
use Rattle.demands.proofs.Message.{Stands}
use Rattle.demands.proofs.Message as fields
use Rattle.demands.proofs.Message.Fields.{AllStand, ends_judged, begins_judged}
use Rattle.demands.proofs.Message.Chain.{JudgedV, JudgedH, head_judged, then, beyond, up_to_9}
use Rattle.demands.proofs.Judged.{FirstBy, judged_first}
use Rattle.demands.proofs.OwnBytes.{own_field}
use Rattle.demands.proofs.Message.Apart.{Apart, spaced, seen}
use Rattle.demands.proofs.Message.Unchanged as same

module _ (s : List ℕ) where
  -- each field of the reader is its head's
  domain : Stands negotiate s 1 (field_at s 16 (oem_domain_supplied (flags_at s 12)))
  domain =
      fields.stands negotiate s 1 (oem_domain_supplied (flags_at s 12)) (omega arith) (omega arith)
      (λ h. (λ e. eqb-true _ 1 h, λ e. absurd (omega arith))) (λ h c. eqb-false _ 1 h (c.0 refl))

  workstation : Stands negotiate s 2 (field_at s 24 (oem_workstation_supplied (flags_at s 12)))
  workstation =
      fields.stands negotiate s 2 (oem_workstation_supplied (flags_at s 12)) (omega arith) (omega arith)
      (λ h. (λ e. absurd (omega arith), λ e. eqb-true _ 1 h)) (λ h c. eqb-false _ 1 h (c.1 refl))

  pub two : (P : ℕ → Field → Type 0) → ((i : ℕ) (f : Field) → Stands negotiate s i f → P i f) →
      P 1 (fields_at s (flags_at s 12)).domain × P 2 (fields_at s (flags_at s 12)).workstation
  unfolding fields_at
  two P h = (h 1 _ domain, h 2 _ workstation)

  pub all : AllStand negotiate s 1 (all_fields (fields_at s (flags_at s 12)))
  all = let x = two (Stands negotiate s) (λ i f w. w) in (refl, x.0, (refl, x.1, tt))

  -- checks 6 and 7; 8 and 9 have no row for a kind with no 16-bit name
  fields_judged : Free (Fails negotiate s) 6 0 → JudgedV negotiate s 8 (check_fields (length s) (fields_at s (flags_at s 12)))
  unfolding check_fields check_ends check_begins
  fields_judged free =
      let f = fields_at s (flags_at s 12) in
      then negotiate s 7 8 (check_ends (length s) f) (check_begins f) (ends_judged negotiate s (all_fields f) all refl free)
      (begins_judged negotiate s (all_fields f) all refl)

  -- the whole reading
  abbrev pub Judged : Result Negotiate Refusal → Type 0
  Judged (Ok m) = ((n i : ℕ) → Fails negotiate s n i → ⊥) × (m ≡ record { flags = flags_at s 12; fields = fields_at s (flags_at s 12) })
  Judged (Err e) = First (Fails negotiate s) (number_of e) (field_of e)

  judged : Judged (read_negotiate s)
  unfolding read_negotiate
  judged = go (read_head layout s) (head_judged negotiate s (omega arith)) where
    rest : NegotiateFlags → Result Negotiate Refusal
    rest w = on_clear Err (check_fields (length s) (fields_at s w)) (Ok (record { flags = w; fields = fields_at s w }))

    none : Free (Fails negotiate s) 8 0 → (n i : ℕ) → Fails negotiate s n i → ⊥
    none free =
        beyond negotiate s
        (next_check (Fails negotiate s) 9 0 10 refl
        (next_check (Fails negotiate s) 8 0 9 refl free (λ j l h. absurd h.1))
        (λ j l h. absurd h.1))

    last : (v : Result ⊤ Refusal) → JudgedV negotiate s 8 v → Judged (on_clear Err v (Ok (record { flags = flags_at s 12; fields = fields_at s (flags_at s 12) })))
    last (Ok tt) free = (none free, refl)
    last (Err e) f = f

    go : (h : Result NegotiateFlags Refusal) → JudgedH negotiate s h → Judged (on_ok Err h rest)
    go (Ok w) j = subst (λ (x : NegotiateFlags). Judged (rest x)) (sym j.0) (last (check_fields (length s) (fields_at s (flags_at s 12))) (fields_judged j.1))
    go (Err e) j = j

pub negotiate_judged : NegotiateJudged
negotiate_judged s = judged_first (Fails negotiate s) (up_to_9 negotiate s) (nego_verdict (read_negotiate s)) (go (read_negotiate s) (judged s)) where
  go : (r : Result Negotiate Refusal) → Judged s r → FirstBy (Fails negotiate s) (nego_verdict r)
  go (Ok m) j = j.0
  go (Err e) j = j

-- what a taken message is answered with
pub taken_as : (s : List ℕ) (m : Negotiate) → read_negotiate s ≡ Ok m → Judged s (Ok m)
taken_as s m h = subst (Judged s) h (judged s)

pub negotiate_own : NegotiateOwn
negotiate_own s m h =
    let t = taken_as s m h in
    let x = two s (λ i f. (Fails negotiate s 6 i → ⊥) → OwnField negotiate s i f) (own_field negotiate s) in
    record {
      flags = ap (λ (d : Negotiate). d.flags.bits) t.1;
      domain = rw t.1 (x.0 (t.0 6 1));
      workstation = rw t.1 (x.1 (t.0 6 2));
    }

-- ---- ignored bytes

apart : Apart negotiate
apart =
    record {
      flags = (omega arith, omega arith);
      heads = λ i a b. (omega arith, omega arith);
      from_flags = λ i a b. inl (omega arith);
      from_heads = λ i j a b c d. spaced 8 i j;
      unused = λ p u. absurd u;
    }

-- what follows the head's checks goes by the records without MaxLen
module _ (m : Bool) (w : NegotiateFlags) where
  abbrev rest : ℕ → Fields → Result Negotiate Refusal
  rest n f = on_clear Err (check_fields n f) (Ok (record { flags = w; fields = f }))

  rest_kept : (n : ℕ) (f : Fields) → kept_negotiate m (rest n f) ≡ rest n (kept_negotiate_fields m f)
  unfolding check_fields check_ends check_begins kept
  rest_kept n f = go (check_fields n f) where
    go : (v : Result ⊤ Refusal) →
        kept_negotiate m (on_clear Err v (Ok (record { flags = w; fields = f })))
        ≡ on_clear Err v (Ok (record { flags = w; fields = kept_negotiate_fields m f }))
    go (Ok tt) = refl
    go (Err e) = refl

module _ (a b : List ℕ) (d : DifferInIgnored negotiate a b) where
  -- without MaxLen, and with it where it is the same
  module _ (m : Bool) (max : m ≡ true → SameMaxLen negotiate a b) where
    pub fields_same : kept_negotiate_fields m (fields_at a (flags_at a 12)) ≡ kept_negotiate_fields m (fields_at b (flags_at a 12))
    unfolding fields_at
    fields_same = λ i.
        record {
          domain = same.field_same negotiate a b (seen negotiate apart a) d m max 1 (oem_domain_supplied (flags_at a 12)) (omega arith) (omega arith) (λ h. (λ e. eqb-true _ 1 h, λ e. absurd (omega arith))) i;
          workstation = same.field_same negotiate a b (seen negotiate apart a) d m max 2 (oem_workstation_supplied (flags_at a 12)) (omega arith) (omega arith) (λ h. (λ e. absurd (omega arith), λ e. eqb-true _ 1 h)) i;
        }

    reading_same : kept_negotiate m (read_negotiate a) ≡ kept_negotiate m (read_negotiate b)
    unfolding read_negotiate
    reading_same = same.read_same negotiate a b (seen negotiate apart a) d Err (rest m) fields_at (kept_negotiate_fields m) (kept_negotiate m) (omega arith) (rest_kept m) fields_same

  bytes_same : ((n i : ℕ) → Fails negotiate a n i → ⊥) → SameBytes a b (fields_at a (flags_at a 12)).domain × SameBytes a b (fields_at a (flags_at a 12)).workstation
  bytes_same none =
      let y = two a (λ i f. (Fails negotiate a 6 i → ⊥) → (Fails negotiate a 7 i → ⊥) → SameBytes a b f) (same.bytes_same negotiate a b (seen negotiate apart a) d) in
      (y.0 (none 6 1) (none 7 1), y.1 (none 6 2) (none 7 2))

pub negotiate_ignored : NegotiateIgnored
negotiate_ignored a b d =
    record {
      reading =
          negotiate_bare_is (read_negotiate a)
          ∙ reading_same a b d false bare_only
          ∙ sym (negotiate_bare_is (read_negotiate b));
      whole = λ x. sym (negotiate_as_it_is (read_negotiate a)) ∙ reading_same a b d true (λ e. x) ∙ negotiate_as_it_is (read_negotiate b);
      domain = λ m h. let t = taken_as a m h in rw t.1 (bytes_same a b d t.0).0;
      workstation = λ m h. let t = taken_as a m h in rw t.1 (bytes_same a b d t.0).1;
    }

pub negotiate_seen : (s : List ℕ) → same.Seen negotiate s
negotiate_seen s = seen negotiate apart s
