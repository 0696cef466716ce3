-- Two runs, the second from the closing roster of the first.
use Rattle.ns_roster.specs.Closing.{with_nonces}
use Rattle.ns_types.specs.declared.identity.DevEui.{DevEui}
use Rattle.std.specs.Prelude.{ℕ, List, slice_get, Option, option_and_then, map, option_map}
use Rattle.ns_types.specs.Identity.{shard_of}
use Rattle.ns_roster.specs.Network.{Network}
use Rattle.ns_calls.specs.Laws.{nonces_of}
use Rattle.ns_acts.specs.declared.step.Step.{Step}
use Rattle.ns_shard.specs.State.{State, known_greatest, greatest_in}
use Rattle.ns_runs.specs.Steps.{shard_history}

-- the greatest DevNonce of a device, as its shard has it
abbrev pub greatest_among : List State → DevEui → Option ℕ
greatest_among shards eui = option_and_then (λ s. greatest_in s eui) (slice_get shards (shard_of eui))

-- the nonces that are accepted of a device in a run of steps, in order
abbrev pub accepted_by : Network → List Step → DevEui → List ℕ
accepted_by net steps eui = nonces_of (shard_history net (shard_of eui) steps) eui

-- the greatest DevNonce of a device after a run of steps
abbrev pub greatest_after : Network → List Step → DevEui → Option ℕ
greatest_after net steps eui = known_greatest net (shard_history net (shard_of eui) steps) eui

-- the roster whose devices' last nonces are their greatest after a run of steps
abbrev pub closing_roster : Network → List Step → Network
closing_roster net steps = with_nonces net (map (λ d. option_map (λ n. record { 0 = n }) (greatest_after net steps d.eui)) net.devices)
