use Rattle.std.proofs.Common.{ap}
use Rattle.std.specs.Result.{result_ok}
use Rattle.ns_acts.proofs.Datagrams.{link-call, view-call, join-call, frame-call}
use Rattle.ns_acts.proofs.calls.datagram_call_into.Goals as goal

pub returns-in_default : goal.returns-in_default
returns-in_default c = ap result_ok (link-call c.args.bytes.now c.in_default.field-0 c.in_default.ensures.gives)

pub returns-in-Ok-Join : goal.returns-in-Ok-Join
returns-in-Ok-Join c =
    ap result_ok
    (join-call c.args.bytes.now c.in-Ok.datagram c.in-Ok.ensures.gives c.frame.ensures c.heard-heard.ensures c.in-Ok-Join.ensures.no_fault c.in-Ok-Join.field-0-is c.in-Ok-Join.ensures.view c.ticket-ticket.ensures.bytes)

pub returns-in-Ok-Frame : goal.returns-in-Ok-Frame
returns-in-Ok-Frame c =
    ap result_ok
    (frame-call c.args.bytes.now c.in-Ok.datagram c.in-Ok.ensures.gives c.frame.ensures c.heard-heard.ensures c.in-Ok-Frame.ensures.no_fault c.in-Ok-Frame.field-0-is c.in-Ok-Frame.ensures.view c.of-frame.ensures)

pub returns-in-Err : goal.returns-in-Err
returns-in-Err c = ap result_ok (view-call c.args.bytes.now c.in-Ok.datagram c.in-Ok.ensures.gives c.frame.ensures c.in-Err.field-0 c.in-Err.ensures.fault)
