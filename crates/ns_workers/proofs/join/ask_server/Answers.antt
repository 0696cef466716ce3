use Rattle.std.proofs.Common.{sym, ap, ◌∙◌}
use Rattle.ns_roster.specs.Network.{device}
use Rattle.ns_roster.proofs.DeviceLemmas.{found-device}
use Rattle.ns_exchange.specs.HostText.{host_text}
use Rattle.ns_workers.proofs.Exchanged.{asked_answer, asked_fault}
use Rattle.ns_workers.proofs.join.ask_server.Goals as goal

pub join_req-requires : goal.join_req-requires
join_req-requires g c = (found-device c.args.roster.now c.dev_eui.result c.in-Some.device.now (sym c.in-Some.ensures.is)).0

pub returns-in-Ok-ask-clause-answer : goal.returns-in-Ok-ask-clause-answer
returns-in-Ok-ask-clause-answer g c =
    asked_answer g.C.S.Sink.taken g.C.S.Source.left (g.C.Connections.has_opened c.args.connections.now) c.args.roster.now (host_text c.args.host) c.args.ticket.now
    c.in-Some.device.now _ _ _ _ c.in-Ok-ask.answer
    (c.in-Some.ensures.is ∙ ap (device c.args.roster.now) c.dev_eui.ensures) (c.as_str.ensures.value ∙ c.in-Ok.ensures.text) c.transaction.ensures
    c.in-Some-open.ensures.opened c.in-Ok-ask.ensures.answer

pub returns-clause-why : goal.returns-clause-why
returns-clause-why g c =
    asked_fault g.C.S.Sink.taken g.C.S.Source.left g.C.S.Stream.has_failed (g.C.Connections.has_opened c.args.connections.now) c.args.roster.now (host_text c.args.host) c.args.ticket.now
    c.in-Some.device.now _ _ _ _ _ c.ask.result
    (c.in-Some.ensures.is ∙ ap (device c.args.roster.now) c.dev_eui.ensures) (c.as_str.ensures.value ∙ c.in-Ok.ensures.text) c.transaction.ensures
    c.in-Some-open.ensures.opened c.in-Err.is c.ask.ensures.unwritten c.in-Err.ensures.fault c.ask.ensures.ended c.ask.ensures.memory
