use Rattle.std.proofs.Common.{ap, map, ◌∙◌}
use Rattle.std.proofs.lemmas.List.{take_all}
use Rattle.ns_roster.specs.Closing.{nonce_by}
use Rattle.ns_runs.specs.NextRun.{greatest_among}
use Rattle.ns_roster.proofs.NonceLemmas.{nonces-next}
use Rattle.ns_replay.proofs.closing.nonces_of.Goals as goal

pub loop-device-preserved : goal.loop-device-preserved
loop-device-preserved c =
    c.in_ok-push.ensures.items
    ∙ nonces-next (greatest_among c.args.shards.now) c.args.devices.now c.loop-device.device-index _ c.loop-device.nonces.items c.greatest.result c.loop-device-test.true c.loop-device.invariant c.greatest.ensures

pub returns : goal.returns
returns c = c.loop-device.invariant ∙ ap (map (nonce_by (greatest_among c.args.shards.now))) (take_all c.loop-device.device-index c.args.devices.now c.loop-device-test.false)
