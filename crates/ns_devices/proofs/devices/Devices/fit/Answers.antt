use Rattle.std.proofs.Common.{◌∙◌}
use Rattle.std.specs.Map.{values_of}
use Rattle.ns_devices.specs.Devices.{is_addressed}
use Rattle.ns_devices.proofs.Addressed.{filter-places, places-within}
use Rattle.ns_devices.proofs.Euis.{addressed-places}
use Rattle.ns_devices.proofs.devices.Devices.fit.Goals as goal

pub first_fit-requires : goal.first_fit-requires
first_fit-requires c =
    let places = c.row_at-places.ensures ∙ addressed-places _ _ c.args.frame.now _ c.self.invariant (c.from.ensures ∙ c.dev_addr.ensures) in
    rw (← c.self.view_is, places) (places-within (is_addressed c.args.frame.now) (values_of c.self.inside.list.entries))

pub returns-clause-fit : goal.returns-clause-fit
returns-clause-fit c =
    let places = c.row_at-places.ensures ∙ addressed-places _ _ c.args.frame.now _ c.self.invariant (c.from.ensures ∙ c.dev_addr.ensures) in
    rw (c.first_fit.ensures.fit, ← c.self.view_is, places, filter-places (is_addressed c.args.frame.now) (values_of c.self.inside.list.entries))
