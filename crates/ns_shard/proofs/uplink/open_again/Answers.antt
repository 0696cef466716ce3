use Rattle.ns_devices.specs.Devices.{fit_at}
use Rattle.ns_shard.specs.Private.Reaction.{again_reply}
use Rattle.ns_shard.proofs.Openings.{again-old, again-busy, again-free, old-taken, busy-taken, again-taken, again-refused, refused-ends}
use Rattle.ns_shard.proofs.uplink.open_again.Goals as goal

pub returns-in_default : goal.returns-in_default
returns-in_default c =
    let f = c.args.fit.now in
    old-taken c.args.frame.now c.args.heard.now c.args.devices.now c.args.windows.now f.eui f.session f.counter (again_reply c.args.devices.now c.args.windows.now c.args.frame.now (fit_at c.args.fit.now)) (again-old c.args.devices.now c.args.windows.now c.args.frame.now (fit_at c.args.fit.now) c.in_default.ensures)

pub returns-then-is_busy : goal.returns-then-is_busy
returns-then-is_busy c =
    busy-taken c.args.frame.now c.args.heard.now c.args.devices.now c.args.windows.now c.in_round-name.result.eui (again_reply c.args.devices.now c.args.windows.now c.args.frame.now (fit_at c.args.fit.now))
    (again-busy c.args.devices.now c.args.windows.now c.args.frame.now (fit_at c.args.fit.now) c.in-Some.round c.in_round-name.result c.is_busy.result c.in-Some.ensures c.in_round-name.ensures c.is_busy.ensures c.if-is_busy.true)

pub put-requires-clause-keys : goal.put-requires-clause-keys
put-requires-clause-keys c =
    (c.requires.place c.in_round-name.result (again-free c.args.devices.now c.args.windows.now c.args.frame.now (fit_at c.args.fit.now) c.in-Some.round c.in_round-name.result c.is_busy.result c.in-Some.ensures c.in_round-name.ensures c.is_busy.ensures c.if-is_busy.false)).keys

pub put-requires-clause-name : goal.put-requires-clause-name
put-requires-clause-name c =
    (c.requires.place c.in_round-name.result (again-free c.args.devices.now c.args.windows.now c.args.frame.now (fit_at c.args.fit.now) c.in-Some.round c.in_round-name.result c.is_busy.result c.in-Some.ensures c.in_round-name.ensures c.is_busy.ensures c.if-is_busy.false)).apart

pub returns-in_err-put : goal.returns-in_err-put
returns-in_err-put c =
    let reply = again_reply c.args.devices.now c.args.windows.now c.args.frame.now (fit_at c.args.fit.now) in
    refused-ends c.args.frame.now c.args.heard.now c.args.devices.now c.args.windows.now reply c.put.new.windows c.from_residual.result c.from_residual.ensures.0
    (again-refused c.args.frame.now c.args.heard.now c.args.devices.now c.args.windows.now c.in_round-name.result reply c.put.new.windows (again-free c.args.devices.now c.args.windows.now c.args.frame.now (fit_at c.args.fit.now) c.in-Some.round c.in_round-name.result c.is_busy.result c.in-Some.ensures c.in_round-name.ensures c.is_busy.ensures c.if-is_busy.false) c.in_err-put.ensures.err)

pub returns : goal.returns
returns c =
    let reply = again_reply c.args.devices.now c.args.windows.now c.args.frame.now (fit_at c.args.fit.now) in
    again-taken c.args.frame.now c.args.heard.now c.args.devices.now c.args.windows.now c.in_round-name.result reply c.open_again.new.self c.put.new.windows (again-free c.args.devices.now c.args.windows.now c.args.frame.now (fit_at c.args.fit.now) c.in-Some.round c.in_round-name.result c.is_busy.result c.in-Some.ensures c.in_round-name.ensures c.is_busy.ensures c.if-is_busy.false) c.open_again.ensures c.in_ok-put.ensures.windows
