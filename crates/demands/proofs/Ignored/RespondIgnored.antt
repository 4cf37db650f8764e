-- MaxLen and ignored bytes of a challenge change no decision, no domain to send and no answer.
use Rattle.wire.specs.Check.{on_ok}
use Rattle.std.specs.Prelude.{Result, Ok, Err}
use Rattle.respond.specs.declared.decision.Decision.{Decision}
use Rattle.wire.specs.declared.refusal.Refusal.{Refusal}
use Prim.Native.Nat.{ℕ, ◌+◌}
use mathlib.Core.Path.{refl, ap, ◌∙◌}
use mathlib.Core.Bool.{true, cond}
use mathlib.Core.List.{List}
use lib.Dec.{eqb, leb}
use lib.ListN.{length, take, drop}
use Rattle.wire.specs.declared.refusal.Refusal.TheVariants.{No128Bit, NoServerNames}
use Rattle.wire.specs.Check.{after}
use Rattle.negotiate_flags.specs.Flags.{unicode}
use Rattle.av_id.specs.AvId.{is_nb_domain_name}
use Rattle.av_pairs.specs.AvPairs.{pairs_of}
use Rattle.field.specs.Field.{field_start}
use Rattle.read_challenge.specs.declared.Challenge.{Challenge}
use Rattle.read_challenge.specs.Challenge.{reading_of, info_of}
use Rattle.respond.specs.Answer.{refusing, sending, with_domain, respond_to}
use Rattle.respond.specs.Decision.{decision_on, strength_holds, server_names_hold}
use Rattle.respond.specs.Domain.{Part, own_part, on_pair_found, domain_part, domain_to_send}
use Rattle.target_info.specs.TargetInfo.{first_by, timestamp_in, server_names_in}
use Rattle.demands.specs.Ignored.{DecisionIgnored, DomainIgnored, RespondIgnored, ThinCallsIgnored}
use Rattle.demands.specs.ThinCalls.{settings_for}
use Rattle.demands.proofs.Ignored.ChallengeIgnored.{made_same}
use Rattle.demands.proofs.MaxLen.{kept}

pub decision_ignored : DecisionIgnored
unfolding decision_on kept
decision_ignored settings s t d =
    made_same s t d Err (λ c l.
    after (strength_holds settings c.flags) (Err No128Bit) (
    after (server_names_hold settings (server_names_in l)) (Err NoServerNames)
    (Ok (record { flags = c.flags; timestamp = timestamp_in l })))) (λ c l. refl)

-- the domain of a taken challenge of n bytes, by TargetInfo's bytes
part_of : List ℕ → ℕ → Challenge → List ℕ → Part
part_of own n c info =
    cond (unicode c.flags)
    (on_pair_found (first_by is_nb_domain_name (pairs_of info))
    (λ p. record {
      of_challenge = true;
      start = cond (leb (c.fields.target_info.offset + c.fields.target_info.len) n) c.fields.target_info.offset 0 + p.at;
      bytes = take p.len (drop p.at info);
    })
    (own_part own))
    (own_part own)

pub domain_ignored : DomainIgnored
unfolding domain_part field_start part_of kept
domain_ignored own s t d =
    ap (λ (x : Part). cond (eqb (length own) 0) x (own_part own))
    (made_same s t d (λ e. own_part own) (part_of own (length s)) (λ c l. refl)
    ∙ ap (λ (n : ℕ). on_ok (λ e. own_part own) (reading_of t) (λ c. part_of own n c (info_of t c))) d.length_same)

pub respond_ignored : RespondIgnored
unfolding respond_to
respond_ignored settings s t d x =
    ap (λ (y : Result Decision Refusal). on_ok (refusing x) y (λ z. sending settings z (with_domain (domain_to_send x.domain s) x))) (decision_ignored settings s t d)
    ∙ ap (λ (p : Part). on_ok (refusing x) (decision_on settings t) (λ z. sending settings z (with_domain p.bytes x))) (domain_ignored x.domain s t d)

pub thin_calls_ignored : ThinCallsIgnored
thin_calls_ignored call s t d = respond_ignored (settings_for call) s t d
