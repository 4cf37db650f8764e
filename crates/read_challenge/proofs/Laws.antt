-- Laws of CHALLENGE's chain of checks, and of what is read from its pairs.
use Rattle.wire.specs.Check.{on_ok}
use Rattle.std.specs.Prelude.{Result, Ok, Err, ⊤}
use Prim.Native.Nat.{ℕ, ◌+◌, ◌^◌, ◌≤◌, ◌<◌}
use mathlib.Core.Path.{◌≡◌, refl, sym, ◌∙◌}
use mathlib.Core.Bool.{Bool, true, false, cond}
use mathlib.Core.List.{List, []}
use native.Mathlib.Omega.{arith}
use lib.Dec.{leb}
use lib.ListN.{length, take, drop, length-take}
use borrow.Author.Tests.{leb-true}
use Rattle.field.specs.declared.Field.{Field}
use Rattle.negotiate_flags.specs.declared.NegotiateFlags.{NegotiateFlags}
use Rattle.wire.specs.declared.refusal.Refusal.{Refusal}
use Rattle.wire.specs.Check.{on_clear}
use Rattle.wire.specs.Refusal.{place_of, moved_by}
use Rattle.field.specs.Field.{field_at, field_bytes}
use Rattle.negotiate_flags.specs.Flags.{request_target, target_info, unicode}
use Rattle.head.specs.Head.{read_head}
use Rattle.head.proofs.Heads.{head_long, head_short}
use Rattle.av_pairs.specs.AvPairs.{step_at, check_pairs}
use Rattle.av_pairs.proofs.Walks.{place_inside}
use Rattle.target_info.specs.declared.ServerNames.{ServerNames}
use Rattle.target_info.specs.declared.Contents.{Contents}
use Rattle.target_info.specs.TargetInfo.{contents_of, read_list, server_names_in}
use Rattle.read_challenge.specs.declared.Challenge.{Challenge}
use Rattle.read_challenge.specs.declared.Fields.{Fields}
use Rattle.read_challenge.specs.declared.FullChallenge.{FullChallenge}
use Rattle.read_challenge.specs.Challenge.{layout, fields_at, check_fields, fields_of, info_of, in_message, check_info, reading_of, read_info, full_reading_of, server_challenge, read_challenge, timestamp_of}

no_fault : (e : Refusal) → check_pairs [] ≡ Err e → ⊥
unfolding check_pairs step_at
no_fault e h = let z : ◌≡◌ {A = ℕ} 0 1 = cc in omega arith

-- both fields are those of their heads
pub both : (s : List ℕ) (w : NegotiateFlags) (i j : Bool) (a b : Field) →
    i ≡ request_target w → a ≡ field_at s 12 i → j ≡ target_info w → b ≡ field_at s 40 j →
    record { target_name = a; target_info = b } ≡ fields_at s w
unfolding fields_at
both s w i j a b pi pa pj pb = simp (pa, pb, pi, pj)

-- checks of the fields that were read are those of the definition's fields
module _ (f g : Fields) (e : f ≡ g) where
  pub of_fields : (n : ℕ) (b d : Bool) (r : Result ⊤ Refusal) → b ≡ d → r ≡ check_fields n b f → r ≡ check_fields n d g
  of_fields n b d r p h = rw (← e, ← p) h

  pub taken : (w : NegotiateFlags) → ◌≡◌ {A = Result Challenge Refusal} (Ok (record { flags = w; fields = f })) (Ok (record { flags = w; fields = g }))
  taken w = rw e

-- a refusal of a field's bytes as a list has its place within the message
pub inside_message : (s l : List ℕ) (f : Field) (e : Refusal) → l ≡ field_bytes s f → check_pairs l ≡ Err e → f.offset + place_of e ≤ length s
unfolding field_bytes
inside_message s l f e i h = go (leb (f.offset + f.len) (length s)) refl i where
  go : (t : Bool) → leb (f.offset + f.len) (length s) ≡ t → l ≡ cond t (take f.len (drop f.offset s)) [] → f.offset + place_of e ≤ length s
  go true p q =
      let n : length l ≤ f.len = rw q (simp length-take (omega arith)) in
      omega (arith, leb-true (f.offset + f.len) (length s) p, n, place_inside l e h)
  go false p q = absurd (no_fault e (rw q at h))

-- what a list that was read says of its checks
by_fault : (v : Result ⊤ Refusal) (x : Contents) (e : Refusal) → on_clear Err v (Ok x) ≡ Err e → v ≡ Err e
by_fault (Ok tt) x e h = cc
by_fault (Err f) x e h = cc

by_contents : (v : Result ⊤ Refusal) (x y : Contents) → on_clear Err v (Ok x) ≡ Ok y → (v ≡ Ok tt) × (x ≡ y)
by_contents (Ok tt) x y h = (refl, cc)
by_contents (Err f) x y h = (cc, cc)

list_failed : (l : List ℕ) (r : Result Contents Refusal) (e : Refusal) → r ≡ read_list l → r ≡ Err e → check_pairs l ≡ Err e
unfolding read_list
list_failed l r e h p = by_fault (check_pairs l) (contents_of l) e (sym h ∙ p)

list_held : (l : List ℕ) (r : Result Contents Refusal) (x : Contents) → r ≡ read_list l → r ≡ Ok x → (check_pairs l ≡ Ok tt) × (contents_of l ≡ x)
unfolding read_list
list_held l r x h p = by_contents (check_pairs l) (contents_of l) x (sym h ∙ p)

-- the list of the bytes that were handed out, with the message's places
module _ (s l : List ℕ) (c : Challenge) (i : l ≡ info_of s c) (r : Result Contents Refusal) (h : r ≡ read_list l) where
  pub info_held : (x : Contents) → r ≡ Ok x → Ok x ≡ read_info s c
  unfolding read_info check_info
  info_held x p = let w = list_held l r x h p in simp (← i, w.0, w.1)

  pub info_failed : (e m : Refusal) → r ≡ Err e → m ≡ moved_by c.fields.target_info.offset e → Err m ≡ read_info s c
  unfolding read_info check_info
  info_failed e m p q = simp (← i, list_failed l r e h p, q)

-- a refusal's place in a message fits, of whatever field the list is
pub place_fits : (s l : List ℕ) (f : Field) (r : Result Contents Refusal) (e : Refusal) → l ≡ field_bytes s f → r ≡ read_list l → r ≡ Err e →
    length s < 2 ^ 64 → f.offset + place_of e < 2 ^ 64
place_fits s l f r e i h p n = omega (arith, inside_message s l f e i (list_failed l r e h p))

pub ruleset info = (info_held, place_fits)

-- a reading with what TargetInfo holds: by the fields, and then by the list
module _ (s : List ℕ) (r : Result Challenge Refusal) (h : r ≡ fields_of s) where
  pub full_refused : (e : Refusal) → r ≡ Err e → Err e ≡ full_reading_of s
  unfolding full_reading_of reading_of
  full_refused e p = simp (← h, p)

  module _ (c : Challenge) (p : r ≡ Ok c) (i : Result Contents Refusal) (k : i ≡ read_info s c) where
    pub full_unlisted : (e : Refusal) → i ≡ Err e → Err e ≡ full_reading_of s
    unfolding full_reading_of reading_of read_info
    full_unlisted e q = let v = by_fault (check_info s c) (contents_of (info_of s c)) e (sym k ∙ q) in simp (← h, p, v)

    pub full_taken : (x : Contents) → i ≡ Ok x → Ok (record { challenge = c; contents = x }) ≡ full_reading_of s
    unfolding full_reading_of reading_of read_info
    full_taken x q =
        let w = by_contents (check_info s c) (contents_of (info_of s c)) x (sym k ∙ q) in
        simp (← h, p, w.0, w.1)

-- what a reading with what TargetInfo holds says of the reading
abbrev Of : List ℕ → Result FullChallenge Refusal → Result Challenge Refusal → Type 0
Of s (Ok f) r = (r ≡ Ok f.challenge) × (f.contents ≡ contents_of (info_of s f.challenge))
Of s (Err e) r = r ≡ Err e

of_reading : (s : List ℕ) → Of s (full_reading_of s) (reading_of s)
unfolding full_reading_of
of_reading s = go (reading_of s) where
  go : (r : Result Challenge Refusal) → Of s (on_ok Err r (λ c. Ok (record { challenge = c; contents = contents_of (info_of s c) }))) r
  go (Ok c) = (refl, refl)
  go (Err e) = refl

module _ (s : List ℕ) (r : Result FullChallenge Refusal) (h : r ≡ full_reading_of s) where
  known : Of s r (reading_of s)
  known = rw h (of_reading s)

  module _ (f : FullChallenge) (p : r ≡ Ok f) where
    known_taken : Of s (Ok f) (reading_of s)
    known_taken = rw p at known

    pub full-reads : reading_of s ≡ Ok f.challenge
    full-reads = known_taken.0

    pub full_holds : f.contents ≡ contents_of (info_of s f.challenge)
    full_holds = known_taken.1

    pub challenge_alone : Ok f.challenge ≡ reading_of s
    challenge_alone = sym full-reads

    pub timestamp_alone : Ok f.contents.timestamp ≡ timestamp_of s
    unfolding timestamp_of
    timestamp_alone = simp (full-reads, full_holds)

  module _ (e : Refusal) (p : r ≡ Err e) where
    known_refused : Of s (Err e) (reading_of s)
    known_refused = rw p at known

    pub refusal_alone : Err e ≡ reading_of s
    refusal_alone = sym known_refused

    pub timestamp_refused : Err e ≡ timestamp_of s
    unfolding timestamp_of
    timestamp_refused = simp known_refused

-- a message whose checks 1 to 8 held has its fixed part, and is not too long
had_head : (s : List ℕ) (c : Challenge) → fields_of s ≡ Ok c → (w : NegotiateFlags) × (read_head layout s ≡ Ok w)
unfolding fields_of
had_head s c h = go (read_head layout s) refl h where
  go : (k : Result NegotiateFlags Refusal) → read_head layout s ≡ k →
      on_ok Err k (λ flags. on_clear Err (check_fields (length s) (unicode flags) (fields_at s flags)) (Ok (record { flags = flags; fields = fields_at s flags }))) ≡ Ok c →
      (w : NegotiateFlags) × (read_head layout s ≡ Ok w)
  go (Ok w) e h = (w, e)
  go (Err d) e h = absurd (let z : ◌≡◌ {A = ℕ} 0 1 = cc in omega arith)

fields_long : (s : List ℕ) (c : Challenge) → fields_of s ≡ Ok c → 32 ≤ length s
fields_long s c h = let w = had_head s c h in head_long 32 layout s (read_head layout s) w.0 refl w.1 (omega arith)

pub fields_short : (s : List ℕ) (c : Challenge) → fields_of s ≡ Ok c → length s ≤ 65535
fields_short s c h = let w = had_head s c h in head_short layout s (read_head layout s) w.0 refl w.1

-- a reading goes on only from one that was taken
was_taken : (k : Result Challenge Refusal) (x : Challenge → Result ⊤ Refusal) (c : Challenge) →
    on_ok Err k (λ b. on_clear Err (x b) (Ok b)) ≡ Ok c → k ≡ Ok c
was_taken (Ok b) x c h = go (x b) h where
  go : (v : Result ⊤ Refusal) → on_clear Err v (Ok b) ≡ Ok c → ◌≡◌ {A = Result Challenge Refusal} (Ok b) (Ok c)
  go (Ok tt) h = h
  go (Err e) h = cc
was_taken (Err e) x c h = h

pub room : (s : List ℕ) (r : Result Challenge Refusal) (c : Challenge) → r ≡ reading_of s → r ≡ Ok c → 32 ≤ length s
unfolding reading_of
room s r c e p = fields_long s c (was_taken (fields_of s) (λ b. check_info s b) c (sym e ∙ p))

-- ServerChallenge's bytes, by what the reading is known to be
pub bytes_there : (s b : List ℕ) (r : Result Challenge Refusal) (c : Challenge) → r ≡ Ok c → b ≡ take 8 (drop 24 s) → b ≡ server_challenge r s
bytes_there s b r c p q = simp p q

pub ruleset challenge_bytes = (room, bytes_there)

-- the reading with ServerChallenge is the answer
pub answered : (s b : List ℕ) (r : Result Challenge Refusal) → r ≡ reading_of s → b ≡ server_challenge r s →
    record { reading = r; server_challenge = b } ≡ read_challenge s
unfolding read_challenge
answered s b r p q = rw (← p, q)

-- checks 10 to 13 held on the list of a message that was taken
listed : (k : Result Challenge Refusal) (x : Challenge → Result ⊤ Refusal) (c : Challenge) →
    on_ok Err k (λ b. on_clear Err (x b) (Ok b)) ≡ Ok c → x c ≡ Ok tt
listed (Ok b) x c h = go (x b) refl h where
  go : (v : Result ⊤ Refusal) → x b ≡ v → on_clear Err v (Ok b) ≡ Ok c → x c ≡ Ok tt
  go (Ok tt) e h = let same : b ≡ c = cc in rw same at e
  go (Err d) e h = cc
listed (Err e) x c h = cc

-- a verdict is clear in a message where it is clear on the list
clear_there : (f : Field) (v : Result ⊤ Refusal) → in_message f v ≡ Ok tt → v ≡ Ok tt
clear_there f (Ok tt) h = refl
clear_there f (Err e) h = cc

pub info_clear : (s l : List ℕ) (c : Challenge) → reading_of s ≡ Ok c → l ≡ info_of s c → check_pairs l ≡ Ok tt
unfolding reading_of check_info
info_clear s l c h i = rw i (clear_there c.fields.target_info (check_pairs (info_of s c)) (listed (fields_of s) (λ b. check_info s b) c h))

pub list_clear : (s l : List ℕ) (r : Result Challenge Refusal) (c : Challenge) → r ≡ reading_of s → r ≡ Ok c → l ≡ info_of s c → check_pairs l ≡ Ok tt
list_clear s l r c p h i = info_clear s l c (sym p ∙ h) i

-- what was found in the bytes that were handed out is that of TargetInfo's bytes
pub of_names : (l m : List ℕ) (n : ServerNames) → l ≡ m → n ≡ server_names_in l →
    ◌≡◌ {A = Result ServerNames Refusal} (Ok n) (Ok (server_names_in m))
of_names l m n e h = rw (← e, h)
