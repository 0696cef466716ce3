use Rattle.std.proofs.Common.{ap, map, ◌∙◌}
use Rattle.std.proofs.lemmas.List.{take_all}
use Rattle.ns_roster.specs.Closing.{nonce_by}
use Rattle.ns_roster.proofs.NonceLemmas.{nonces-next}
use Rattle.ns_server.specs.Settled.{greatest_of}
use Rattle.ns_serve_shards.proofs.closing.nonces_of.Goals as goal

pub loop-device-preserved : goal.loop-device-preserved
loop-device-preserved g c =
    c.in_ok-push.ensures.items
    ∙ nonces-next (greatest_of g.B.Naming.roster c.args.settled.now) c.args.devices.now c.loop-device.device-index _ c.loop-device.nonces.items c.greatest.result c.loop-device-test.true c.loop-device.invariant c.greatest.ensures

pub returns : goal.returns
returns g c = c.loop-device.invariant ∙ ap (map (nonce_by (greatest_of g.B.Naming.roster c.args.settled.now))) (take_all c.loop-device.device-index c.args.devices.now c.loop-device-test.false)
