-- One more byte is written.
use Rattle.line_dns_name.proofs.Labels.{byte_written}
use Rattle.line_dns_name.proofs.put_label.Goals as goal

pub loop-b-preserved : goal.loop-b-preserved
loop-b-preserved c = search byte_written
