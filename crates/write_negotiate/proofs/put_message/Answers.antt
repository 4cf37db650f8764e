use Rattle.place.proofs.Laws.{and_then}
use Rattle.write_negotiate.specs.Writing.{negotiate_bytes}
use Rattle.write_negotiate.proofs.Sent.{of_fixed, payload_ends}
use Rattle.write_negotiate.proofs.put_message.Goals as goal

pub returns-clause-next : goal.returns-clause-next
returns-clause-next c = search payload_ends

pub returns-clause-wrote : goal.returns-clause-wrote
unfolding negotiate_bytes
returns-clause-wrote c = search (and_then, of_fixed)
