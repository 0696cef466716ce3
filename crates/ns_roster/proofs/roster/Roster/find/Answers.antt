use Rattle.std.proofs.Common.{◌∙◌}
use Rattle.std.proofs.lemmas.Option.{IfSome_then}
use Rattle.ns_roster.proofs.DeviceLemmas.{device-held}
use Rattle.ns_roster.proofs.roster.Roster.find.Goals as goal

pub returns-clause-eui : goal.returns-clause-eui
returns-clause-eui c =
    let held = device-held (λ d. d.now) c.get.result c.args.eui c.self.inside.devices.items (c.get.ensures.value ∙ c.self.invariant.0 c.args.eui.0) in
    IfSome_then c.get.result held (λ d h. h.1)

pub returns-clause-held : goal.returns-clause-held
returns-clause-held c =
    let held = device-held (λ d. d.now) c.get.result c.args.eui c.self.inside.devices.items (c.get.ensures.value ∙ c.self.invariant.0 c.args.eui.0) in
    rw (← c.self.view_is) (IfSome_then c.get.result held (λ d h. h.0))
