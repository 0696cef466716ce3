use Rattle.ns_checkpoint.proofs.OneReading.{head-one, device-one, ticket-one, window-one, copy-one}
use Rattle.ns_checkpoint.proofs.laws.lines_have_one_reading.Goals as goal

pub returns : goal.returns
returns c = record { head = head-one; device = device-one; ticket = ticket-one; window = window-one; copy = copy-one }
