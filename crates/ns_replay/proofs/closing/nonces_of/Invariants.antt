use Rattle.std.proofs.Common.{◌≡◌, map, take}
use Rattle.ns_roster.specs.Closing.{nonce_by}
use Rattle.ns_runs.specs.NextRun.{greatest_among}
use Rattle.ns_replay.proofs.closing.nonces_of.Given as goal

-- the nonces so far are those of the devices so far
abbrev pub invariant-loop-device : goal.invariant-loop-device
invariant-loop-device l = l.nonces.items ≡ map (nonce_by (greatest_among l.shards)) (take l.device-index l.devices)
