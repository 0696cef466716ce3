use Rattle.std.proofs.Common.{◌≡◌, None, sym, subst}
use Rattle.std.specs.Prelude.{IsSome}
use Rattle.ns_types.specs.declared.identity.WindowName.{WindowName}
use Rattle.ns_windows.specs.Windows.{window_named}
use Rattle.ns_devices.specs.Devices.{fit_at, keys_in, IsNew}
use Rattle.ns_shard.specs.Private.Reaction.{open_reply}
use Rattle.ns_shard.proofs.Openings.{open-busy, open-free, open-told, busy-taken, opened-taken, opened-refused, refused-ends}
use Rattle.ns_shard.proofs.uplink.open.Goals as goal

pub returns-then-is_busy : goal.returns-then-is_busy
returns-then-is_busy c =
    busy-taken c.args.frame.now c.args.heard.now c.args.devices.now c.args.windows.now c.window-name.result.eui (open_reply c.args.windows.now (fit_at c.args.fit.now))
    (open-busy c.args.windows.now (fit_at c.args.fit.now) c.window-name.result c.is_busy.result c.window-name.ensures c.is_busy.ensures c.if-is_busy.true)

pub put-requires-clause-keys : goal.put-requires-clause-keys
put-requires-clause-keys c =
    let told = open-told c.args.windows.now (fit_at c.args.fit.now) c.window-name.result c.is_busy.result c.window-name.ensures c.is_busy.ensures c.if-is_busy.false in
    subst (λ (v : WindowName). IsSome (keys_in c.args.devices.now v)) (sym c.window-name.ensures) (c.requires.place told).keys

pub put-requires-clause-name : goal.put-requires-clause-name
put-requires-clause-name c =
    let told = open-told c.args.windows.now (fit_at c.args.fit.now) c.window-name.result c.is_busy.result c.window-name.ensures c.is_busy.ensures c.if-is_busy.false in
    subst (λ (v : WindowName). window_named v c.args.windows.now ≡ None) (sym c.window-name.ensures) (c.requires.place told).apart

pub returns-in_err-put : goal.returns-in_err-put
returns-in_err-put c =
    let reply = open_reply c.args.windows.now (fit_at c.args.fit.now) in
    refused-ends c.args.frame.now c.args.heard.now c.args.devices.now c.args.windows.now reply c.put.new.windows c.from_residual.result c.from_residual.ensures.0
    (opened-refused c.args.frame.now c.args.heard.now c.args.devices.now c.args.windows.now c.window-name.result reply c.put.new.windows (open-free c.args.windows.now (fit_at c.args.fit.now) c.window-name.result c.is_busy.result c.window-name.ensures c.is_busy.ensures c.if-is_busy.false) c.in_err-put.ensures.err)

pub open-requires-clause-counter : goal.open-requires-clause-counter
open-requires-clause-counter c = subst (λ (v : WindowName). IsNew c.args.devices.now v) (sym c.window-name.ensures) c.requires.new

pub returns : goal.returns
returns c =
    let reply = open_reply c.args.windows.now (fit_at c.args.fit.now) in
    opened-taken c.args.frame.now c.args.heard.now c.args.devices.now c.args.windows.now c.window-name.result reply c.open.new.self c.put.new.windows (open-free c.args.windows.now (fit_at c.args.fit.now) c.window-name.result c.is_busy.result c.window-name.ensures c.is_busy.ensures c.if-is_busy.false) c.open.ensures c.in_ok-put.ensures.windows
