use Rattle.ns_recorded.proofs.Said.{no_uplink, no_downlink}
use Rattle.ns_recorded.proofs.laws.what_is_left_out_is_silent.Goals as goal

pub returns-clause-uplink : goal.returns-clause-uplink
returns-clause-uplink c = no_uplink

pub returns-clause-downlink : goal.returns-clause-downlink
returns-clause-downlink c = no_downlink
