use Rattle.ns_views.proofs.Replaced.{IsDataUplink-with_payload}
use Rattle.ns_views.proofs.laws.payload_law.Goals as goal

pub returns : goal.returns
returns c = IsDataUplink-with_payload
