-- What a monitor is told.
use Rattle.ns_types.specs.declared.ticket.Ticket.{Ticket}
use Rattle.ns_calls.specs.declared.answer.Downlink.{Downlink}
use Rattle.ns_outside.specs.declared.receipt.Receipt.{Receipt}
use Rattle.ns_outside.specs.declared.fault.Refused.{Refused}
use Rattle.ns_outside.specs.declared.fault.JoinFault.{JoinFault}

pub data Notice : Type 0 where
  datagram_refused : Refused → Notice
  call_replied : Receipt → Notice
  call_dropped : Notice
  ticket_unanswered : Ticket → JoinFault → Notice
  ticket_stale : Ticket → Notice
  downlink_unsent : Downlink → Notice
