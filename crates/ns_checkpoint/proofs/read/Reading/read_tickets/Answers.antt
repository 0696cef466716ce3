use Rattle.ns_checkpoint.specs.Text.{ticket_line}
use Rattle.ns_checkpoint.proofs.ReadLines.{read-one-more}
use Rattle.ns_checkpoint.proofs.read.Reading.read_tickets.Goals as goal

pub tickets-preserved : goal.tickets-preserved
tickets-preserved g c = read-one-more ticket_line _ _ _ _ _ _ _ _ _ _ c.tickets.invariant c.in_ok-begins_with.ensures c.in_ok-read_ticket.ensures c.push.ensures.items
