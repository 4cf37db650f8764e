use Rattle.write_nl_auth.proofs.Sent.{oem_wrote}
use Rattle.write_nl_auth.proofs.Strings.put_oem.Goals as goal

pub returns : goal.returns
returns c = oem_wrote _ _ _ _ _ _ _ _ _ _ _ c.nb_domain.ensures c.nb_computer.ensures c.put_under-place.ensures c.put_under.ensures
