use Rattle.std.proofs.Common.{arith}
use Rattle.std.proofs.lemmas.Grind.{common_steps}
use Rattle.write_nl_auth.specs.Writing.{utf8_bytes}
use Rattle.write_nl_auth.proofs.Sent.{labels_are, asked_held, names_wrote}
use Rattle.write_nl_auth.proofs.Strings.put_utf8.Goals as goal

pub put_name_under-place-requires : goal.put_name_under-place-requires
unfolding utf8_bytes
put_name_under-place-requires c =
    (asked_held _ _ _ c.dns_domain.ensures (labels_are _ _ _ c.requires.e_value).0, grind (arith, common_steps))

pub put_name_under-place-requires-2 : goal.put_name_under-place-requires-2
unfolding utf8_bytes
put_name_under-place-requires-2 c =
    (asked_held _ _ _ c.dns_host.ensures (labels_are _ _ _ c.requires.e_value).1, grind (arith, common_steps))

pub put_name_under-requires : goal.put_name_under-requires
unfolding utf8_bytes
put_name_under-requires c =
    (asked_held _ _ _ c.utf8_computer.ensures (labels_are _ _ _ c.requires.e_value).2, grind (arith, common_steps))

pub returns : goal.returns
returns c = names_wrote _ _ _ _ _ _ _ _ _ _ _ _ _ _ _ c.dns_domain.ensures c.dns_host.ensures c.utf8_computer.ensures c.put_name_under-place.ensures c.put_name_under-place-2.ensures c.put_name_under.ensures
