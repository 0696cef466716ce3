use Rattle.ns_calls.proofs.Merges.{replies_name_own_devices}
use Rattle.ns_calls.proofs.laws.replies_name_own_devices.Goals as goal

pub returns : goal.returns
returns c = replies_name_own_devices
