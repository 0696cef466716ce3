use Rattle.ns_serve_sockets.proofs.FrontLemmas.{notes_named}
use Rattle.ns_serve_sockets.proofs.sockets.take_in_wholly.Goals as goal

pub returns-in-Some-frame-clause-notes : goal.returns-in-Some-frame-clause-notes
returns-in-Some-frame-clause-notes g c = notes_named c.args.noted.now c.hear.new.noted c.args.datagram.now c.args.peer.now c.in-Some.seen c.in-Some.ensures c.hear.ensures

pub returns-in-None-clause-notes : goal.returns-in-None-clause-notes
returns-in-None-clause-notes g c = notes_named c.args.noted.now c.hear.new.noted c.args.datagram.now c.args.peer.now c.in-Some.seen c.in-Some.ensures c.hear.ensures
