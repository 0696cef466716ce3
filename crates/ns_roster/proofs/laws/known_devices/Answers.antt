use Rattle.ns_roster.proofs.DeviceLemmas.{is_known-by_device}
use Rattle.ns_roster.proofs.laws.known_devices.Goals as goal

pub returns : goal.returns
returns c = is_known-by_device
