-- Which field beside those of the devices a fault is about.
use Rattle.std.specs.Prelude.{ℕ, List, Bool, false, not, nat_le, is_some, if◌then◌else◌, codes}
use Rattle.std.specs.Option.{option_map_or}
use Rattle.serde_json.specs.Data.{Data}
use Rattle.ns_roster.specs.Field.{whole_at}
use Rattle.ns_roster.specs.Text.{net_id_at, is_version}
use Rattle.ns_roster.specs.Valid.{max_rx1_offset, max_rx_delay}
use Rattle.ns_roster_place.specs.declared.place.OuterField.{OuterField}
use Rattle.ns_roster_place.specs.declared.place.OuterField.TheVariants.{Version, NetId, Rx1Offset, RxDelay, Devices}

-- whether the version is one of a roster's
abbrev pub is_version_at : Data → Bool
is_version_at d = option_map_or is_version (whole_at (codes "version") d) false

-- whether a whole number stands at a key, and is at most this
abbrev pub is_at_most : List ℕ → ℕ → Data → Bool
is_at_most key most d = option_map_or (λ n. nat_le n most) (whole_at key d) false

-- the first of the five fields that is missing or wrong; the list of devices where the four before it are right
abbrev pub wrong_outer : Data → OuterField
wrong_outer d =
    if not (is_version_at d) then Version
    else if not (is_some (net_id_at (codes "net_id") d)) then NetId
    else if not (is_at_most (codes "rx1_offset") max_rx1_offset d) then Rx1Offset
    else if not (is_at_most (codes "rx_delay") max_rx_delay d) then RxDelay
    else Devices
