use Rattle.ns_roster_place.proofs.DeviceLemmas.{named_device}
use Rattle.ns_roster_place.proofs.laws.named_device_fields_are_wrong.Goals as goal

pub returns : goal.returns
returns c = named_device
