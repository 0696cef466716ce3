use Rattle.ns_devices.specs.Devices.{fit_at}
use Rattle.ns_shard.proofs.Openings.{copied-taken, still-none, fresh-place, fresh-ends, stale-place, stale-ends, unfit-taken}
use Rattle.ns_shard.proofs.uplink.uplink.Goals as goal

pub returns-in-Some : goal.returns-in-Some
returns-in-Some c = copied-taken c.args.frame.now c.args.heard.now c.args.devices.now c.args.windows.now c.in-Some.addition c.copy_reply.result c.add_copy_of.new.self c.in-Some.ensures.result c.in-Some.ensures.windows c.copy_reply.ensures

pub open-requires-clause-fit : goal.open-requires-clause-fit
open-requires-clause-fit c = c.in-Some-fit.ensures.place

pub open-requires-clause-place : goal.open-requires-clause-place
open-requires-clause-place c = fresh-place c.args.frame.now c.args.heard.now c.args.devices.now c.args.windows.now c.add_copy_of.new.self c.in_default.ensures.result c.in_default.ensures.windows (fit_at c.in-Some-fit.fit) c.view-view.ensures c.in-Some-fit.ensures.fit c.requires.open

pub open-requires-clause-frame : goal.open-requires-clause-frame
open-requires-clause-frame c = still-none c.args.frame.now c.args.heard.now c.args.devices.now c.args.windows.now c.add_copy_of.new.self c.in_default.ensures.result c.in_default.ensures.windows

pub returns-in-Some-fit : goal.returns-in-Some-fit
returns-in-Some-fit c = fresh-ends c.args.frame.now c.args.heard.now c.args.devices.now c.args.windows.now c.add_copy_of.new.self c.in_default.ensures.result c.in_default.ensures.windows (fit_at c.in-Some-fit.fit) c.view-view.ensures c.in-Some-fit.ensures.fit c.open.result c.open.new.devices c.open.new.windows c.open.ensures

pub open_again-requires-clause-fit : goal.open_again-requires-clause-fit
open_again-requires-clause-fit c = c.in-Some-fit-2.ensures.place

pub open_again-requires-clause-place : goal.open_again-requires-clause-place
open_again-requires-clause-place c = stale-place c.args.frame.now c.args.heard.now c.args.devices.now c.args.windows.now c.add_copy_of.new.self c.in_default.ensures.result c.in_default.ensures.windows c.view-view.ensures c.in_default-fit.ensures.fit (fit_at c.in-Some-fit-2.fit) c.in-Some-fit-2.ensures.fit c.requires.open

pub open_again-requires-clause-frame : goal.open_again-requires-clause-frame
open_again-requires-clause-frame c = still-none c.args.frame.now c.args.heard.now c.args.devices.now c.args.windows.now c.add_copy_of.new.self c.in_default.ensures.result c.in_default.ensures.windows

pub returns-in-Some-fit-2 : goal.returns-in-Some-fit-2
returns-in-Some-fit-2 c = stale-ends c.args.frame.now c.args.heard.now c.args.devices.now c.args.windows.now c.add_copy_of.new.self c.in_default.ensures.result c.in_default.ensures.windows c.view-view.ensures c.in_default-fit.ensures.fit (fit_at c.in-Some-fit-2.fit) c.in-Some-fit-2.ensures.fit c.open_again.result c.open_again.new.devices c.open_again.new.windows c.open_again.ensures

pub returns-in-None : goal.returns-in-None
returns-in-None c = unfit-taken c.args.frame.now c.args.heard.now c.args.devices.now c.args.windows.now c.add_copy_of.new.self c.in_default.ensures.result c.in_default.ensures.windows c.view-view.ensures c.in_default-fit.ensures.fit c.in-None.ensures.fit
