-- What reads do to the bytes that their reader is known to have.
use Rattle.std.proofs.Common.{◌≡◌, ℕ, zero, suc, ◌+◌, ◌-◌, ◌≤◌, ◌<◌, List, [], ◌++◌, None, Some, IfSome, Option, Result, Ok, Err, refl, sym, ap, ◌∙◌, subst, ◌⊎◌, inl, inr, arith, length, take, drop, slice_range, drop_at, append-nil, take_at, take_all, length-take-le, length-drop}
use Rattle.std.proofs.lemmas.Bool.{cases_lt}
use Rattle.std.proofs.KnownBytes.{Consumes-trans}
use Rattle.std.specs.Io.{ReadsAtMost}
use Rattle.std.specs.Io.KnownBytes.{Consumes, Keeps, ReadConsumes}
use borrow.Rule.Slice.PartMut.{put_mid, post_of, mid_of, same_len_mid}
use lib.Seq.{take-add, take-append-le}
use Rattle.input.specs.Input.{after_read, OnceRead, WasRead}

-- ---- one read, into the part of the buffer from a place on

Keeps-of_none : (a b : Option (List ℕ)) → Consumes a b [] → Keeps a b
Keeps-of_none None b h = tt
Keeps-of_none (Some x) None h = h
Keeps-of_none (Some x) (Some y) h = sym h

length-mid : (a : ℕ) (xs : List ℕ) → length (mid_of a (length xs - a) xs) ≡ length xs - a
length-mid a xs = length-take-le (length xs - a) (drop a xs) (omega (arith, length-drop a xs))

slice_range-put_mid : (a k n : ℕ) (xs ys : List ℕ) → a ≤ length xs → n ≤ length ys → slice_range (put_mid a k xs ys) a (a + n) ≡ take n ys
slice_range-put_mid a k n xs ys within fits =
    let same : (a + n) - a ≡ n = omega arith in
    let after = post_of a k xs in
    ap (take ((a + n) - a)) (drop_at (take a xs) (ys ++ after) a (length-take-le a xs within)) ∙ ap (λ m. take m (ys ++ after)) same ∙ take-append-le n ys after fits

pub OnceRead-of_read : {E : Type 0} (a b : Option (List ℕ)) (at : ℕ) (r : Result ℕ E) (xs part : List ℕ)
    → at ≤ length xs → length part ≡ length (mid_of at (length xs - at) xs) → ReadsAtMost r part → ReadConsumes a b r part
    → OnceRead a b at (after_read at r) (put_mid at (length xs - at) xs part)
OnceRead-of_read a b at (Err e) xs part within same bound bytes = bytes
OnceRead-of_read a b at (Ok zero) xs part within same bound bytes = (Keeps-of_none a b bytes.0, λ room. bytes.1 refl (has_room room))
  where
    has_room : at < length (put_mid at (length xs - at) xs part) → 0 < length part
    has_room room = omega (arith, same_len_mid at (length xs - at) xs part same, same, length-mid at xs)
OnceRead-of_read a b at (Ok (suc n)) xs part within same bound bytes =
    subst (Consumes a b) (sym (slice_range-put_mid at (length xs - at) (suc n) xs part within bound.0)) bytes.0

-- ---- a read of the bytes after those that were read before

take_split : (a b : ℕ) (old new : List ℕ) → a ≤ b → take a new ≡ take a old → take a old ++ slice_range new a b ≡ take b new
take_split a b old new h front =
    let same : a + (b - a) ≡ b = omega arith in
    ap (λ l. l ++ slice_range new a b) (sym front) ∙ sym (take-add a (b - a) new) ∙ ap (λ n. take n new) same

pub Consumes-further : (a b c : Option (List ℕ)) (at n : ℕ) (xs ys : List ℕ) → Consumes a b (take at xs) → at ≤ n → take at ys ≡ take at xs
    → Consumes b c (slice_range ys at n) → Consumes a c (take n ys)
Consumes-further a b c at n xs ys before more front read =
    subst (Consumes a c) (take_split at n xs ys more front) (Consumes-trans a b c _ _ before read)

-- ---- the input, where all of the reader's bytes are known: as many of them as the buffer holds

pub WasRead-known : (E : Type 0) (a b : Option (List ℕ)) (n room : ℕ) (buf : List ℕ) (P : List ℕ → Type 0) → WasRead {E = E} a b (Ok n) buf → n ≤ length buf → room ≡ length buf
    → P (take n buf) → IfSome a (λ xs. P (take room xs))
WasRead-known E None b n room buf P read within long h = tt
WasRead-known E (Some x) None n room buf P read within long h = absurd read.0
WasRead-known E (Some x) (Some y) n room buf P read within long h = subst P (all (cases_lt n room)) h
  where
    all : (n < room) ⊎ (room ≤ n) → take n buf ≡ take room x
    all (inl l) =
        let none : y ≡ [] = read.1 (omega arith) in
        let e : x ≡ take n buf = read.0 ∙ ap (λ z. take n buf ++ z) none ∙ append-nil (take n buf) in
        sym e ∙ sym (take_all room x (omega (arith, ap length e, length-take-le n buf within)))
    all (inr l) =
        let same : n ≡ room = omega arith in
        sym (take_at (take n buf) y n (length-take-le n buf within)) ∙ ap (take n) (sym read.0) ∙ ap (λ k. take k x) same

pub ruleset reads = (OnceRead-of_read, Consumes-further)
