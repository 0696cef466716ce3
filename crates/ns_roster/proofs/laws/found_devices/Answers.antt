use Rattle.ns_roster.proofs.DeviceLemmas.{found-device, device-found}
use Rattle.ns_roster.proofs.laws.found_devices.Goals as goal

pub returns : goal.returns
returns c = λ net valid eui d. (found-device net eui d, device-found net valid eui d)
