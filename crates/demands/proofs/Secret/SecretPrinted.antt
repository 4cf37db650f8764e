-- What the NTLM program prints tells no secret.
use Prim.Native.Nat.{ℕ}
use mathlib.Core.Path.{◌≡◌, sym, ◌∙◌}
use mathlib.Core.List.{List}
use native.Mathlib.Omega.{arith}
use lib.ListN.{length}
use Rattle.head.specs.declared.Kind.TheVariants.{Authenticate}
use Rattle.head.specs.Head.{kind_of}
use Rattle.line.specs.Line.{ntlm_line, shown_line}
use Rattle.demands.specs.Secret.{DifferInSecrets, SecretPrinted}
use Rattle.demands.proofs.Alike.{same32}
use Rattle.demands.proofs.Secret.{secret_read}

-- the type stands in the first 64 bytes
kind_same : (s t : List ℕ) → DifferInSecrets s t → kind_of s ≡ kind_of t
unfolding kind_of
kind_same s t d = simp (d.length_same, same32 s t 8 (λ p l r. d.first_64 p (omega arith)))

line_same : (s t : List ℕ) → DifferInSecrets s t → kind_of s ≡ Authenticate → ntlm_line s ≡ ntlm_line t
unfolding ntlm_line
line_same s t d e = rw (← (kind_same s t d), e) (secret_read s t d).line

shown_same : (x y out out' : List ℕ) → x ≡ y → length out ≡ length out' → shown_line x out ≡ shown_line y out'
unfolding shown_line
shown_same x y out out' e l = simp (l, e)

pub secret_printed : SecretPrinted
secret_printed s t d e =
    let same = line_same s t d e in
    record {
      kind = sym (kind_same s t d) ∙ e;
      line = same;
      printed = λ out out' l. shown_same (ntlm_line s) (ntlm_line t) out out' same l;
    }
