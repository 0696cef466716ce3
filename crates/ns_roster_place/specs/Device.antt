-- Which field of a device a fault is about.
use Rattle.std.specs.Prelude.{not, is_some, if◌then◌else◌, codes}
use Rattle.serde_json.specs.Data.{Data}
use Rattle.ns_roster.specs.declared.fault.RosterFault.{RosterFault}
use Rattle.ns_roster.specs.declared.fault.RosterFault.TheVariants as fault
use Rattle.ns_roster.specs.Field.{whole_at}
use Rattle.ns_roster.specs.Text.{eui_at}
use Rattle.ns_roster_place.specs.declared.place.DeviceField.{DeviceField}
use Rattle.ns_roster_place.specs.declared.place.DeviceField.TheVariants.{DevEui, JoinEui, Slot, LastNonce}

-- the first field that is missing or of another kind; the last nonce where the three before it are neither
abbrev pub missing_field : Data → DeviceField
missing_field d =
    if not (is_some (eui_at (codes "dev_eui") d)) then DevEui
    else if not (is_some (eui_at (codes "join_eui") d)) then JoinEui
    else if not (is_some (whole_at (codes "slot") d)) then Slot
    else LastNonce

-- the field that a fault of a device is about
abbrev pub wrong_field : Data → RosterFault → DeviceField
wrong_field d fault.Slot = Slot
wrong_field d fault.Twice = DevEui
wrong_field d _ = missing_field d
