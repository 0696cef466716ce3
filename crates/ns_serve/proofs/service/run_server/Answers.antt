use Rattle.ns_serve.proofs.service.run_server.Goals as goal

pub resume-requires-clause-places : goal.resume-requires-clause-places
resume-requires-clause-places g c = rw c.parts_of-shards.ensures c.requires.places
