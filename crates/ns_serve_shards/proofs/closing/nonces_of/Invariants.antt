use Rattle.std.proofs.Common.{◌≡◌, map, take}
use Rattle.ns_roster.specs.Closing.{nonce_by}
use Rattle.ns_server.specs.Settled.{greatest_of}
use Rattle.ns_serve_shards.proofs.closing.nonces_of.Given as goal

-- the nonces so far are those of the devices so far
abbrev pub invariant-loop-device : goal.invariant-loop-device
invariant-loop-device g l = l.nonces.items ≡ map (nonce_by (greatest_of g.B.Naming.roster l.settled)) (take l.device-index l.devices)
