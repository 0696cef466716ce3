use Rattle.ns_serve_sockets.proofs.FrontLemmas.{is_named}
use Rattle.ns_serve_sockets.proofs.sockets.is_plain.Goals as goal

pub returns-in-Some-due : goal.returns-in-Some-due
returns-in-Some-due g c = λ _. is_named c.args.noted.now c.args.datagram.now c.in-Some.front c.args.peer.now c.in-Some.ensures.agrees (c.is_noted.ensures c.if-not-is_noted.false)

pub returns-in-None : goal.returns-in-None
returns-in-None g c = λ _. is_named c.args.noted.now c.args.datagram.now c.in-Some.front c.args.peer.now c.in-Some.ensures.agrees (c.is_noted.ensures c.if-not-is_noted.false)
