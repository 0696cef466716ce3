use Rattle.std.proofs.Common.{position, ap, ◌∙◌}
use Rattle.std.specs.Map.{values_of}
use Rattle.ns_types.specs.declared.identity.DevEui.{DevEui}
use Rattle.ns_calls.specs.Entries.{same_device}
use Rattle.ns_devices.proofs.Euis.{place-eui}
use Rattle.ns_devices.proofs.devices.Devices.place.Goals as goal

pub returns-clause-place : goal.returns-clause-place
returns-clause-place c =
    rw (← c.self.view_is)
    (c.get_index_of.ensures.index ∙ ap (position (λ (e : DevEui). same_device c.args.eui e)) c.self.invariant.euis ∙ place-eui c.args.eui (values_of c.self.inside.list.entries))
