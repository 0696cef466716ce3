use Rattle.std.proofs.Common.{ap}
use Rattle.ns_calls.specs.Steps.{datagram_call}
use Rattle.ns_runs.specs.Private.Run.{refused_as}
use Rattle.ns_acts.proofs.Datagrams.{link-call, view-call, join-call, frame-call}
use Rattle.ns_runs.proofs.StepEnds.{none-made, call-ends}
use Rattle.ns_runs.proofs.run.run_datagram.Goals as goal

pub returns-in-Err : goal.returns-in-Err
returns-in-Err c = none-made c.args.shards.now.items (refused_as (datagram_call c.args.bytes.now)) (ap refused_as (link-call c.args.bytes.now c.in-Err.fault c.in-Err.ensures.gives))

pub apply-requires : goal.apply-requires
apply-requires c = record { sixteen = c.requires.sixteen; in_place = c.requires.in_place }

pub apply-requires-in-Ok-Frame : goal.apply-requires-in-Ok-Frame
apply-requires-in-Ok-Frame c = record { sixteen = c.requires.sixteen; in_place = c.requires.in_place }

pub returns-in-Ok-Join : goal.returns-in-Ok-Join
returns-in-Ok-Join c =
    call-ends c.args.shards.now.items (datagram_call c.args.bytes.now) c.apply.result c.apply.new.shards.items
    (join-call c.args.bytes.now c.in-Ok.datagram c.in-Ok.ensures.gives c.frame.ensures c.heard-heard.ensures c.in-Ok-Join.ensures.no_fault c.in-Ok-Join.field-0-is c.in-Ok-Join.ensures.view c.ticket-ticket.ensures.bytes)
    c.apply.ensures

pub returns-in-Ok-Frame : goal.returns-in-Ok-Frame
returns-in-Ok-Frame c =
    call-ends c.args.shards.now.items (datagram_call c.args.bytes.now) c.apply-in-Ok-Frame.result c.apply-in-Ok-Frame.new.shards.items
    (frame-call c.args.bytes.now c.in-Ok.datagram c.in-Ok.ensures.gives c.frame.ensures c.heard-heard.ensures c.in-Ok-Frame.ensures.no_fault c.in-Ok-Frame.field-0-is c.in-Ok-Frame.ensures.view c.of-frame.ensures)
    c.apply-in-Ok-Frame.ensures

pub returns-in-Err-view : goal.returns-in-Err-view
returns-in-Err-view c =
    none-made c.args.shards.now.items (refused_as (datagram_call c.args.bytes.now))
    (ap refused_as (view-call c.args.bytes.now c.in-Ok.datagram c.in-Ok.ensures.gives c.frame.ensures c.in-Err-view.fault c.in-Err-view.ensures.fault))
