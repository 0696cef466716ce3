-- The first fault of a roster's text, and what it is about.
use Rattle.std.specs.Prelude.{ℕ, ◌+◌, List, [], ◌∷◌, Option, None, Some, Result, Ok, Err, option_map, string_bytes, codes, length, nat_lt, if◌then◌else◌}
use Rattle.serde_json.specs.Data.{Data}
use Rattle.ns_roster.specs.declared.Device.{Device}
use Rattle.ns_roster.specs.declared.fault.RosterFault.{RosterFault}
use Rattle.ns_roster.specs.declared.fault.RosterFault.TheVariants as fault
use Rattle.ns_roster.specs.Field.{value_of, text_at}
use Rattle.ns_roster.specs.Text.{Outer, outer_of, with_value}
use Rattle.ns_roster.specs.Valid.{max_net_id, max_devices}
use Rattle.ns_roster_place.specs.declared.place.Place.{Place}
use Rattle.ns_roster_place.specs.declared.place.Place.TheVariants as place
use Rattle.ns_roster_place.specs.declared.place.OuterField.TheVariants.{NetId, Devices}
use Rattle.ns_roster_place.specs.declared.place.PlacedFault.{PlacedFault}
use Rattle.ns_roster_place.specs.Outer.{wrong_outer}
use Rattle.ns_roster_place.specs.Device.{wrong_field}

-- a fault, what it is about, and the text of the device's DevEUI where it is about a device that has one
pub record Placed : Type 0 where
  pub fault : RosterFault
  pub place : Place
  pub eui : Option (List ℕ)

-- a placed fault of the code
abbrev pub placed_view : PlacedFault → Placed
placed_view f = record { fault = f.fault; place = f.place; eui = option_map string_bytes f.eui }

-- a fault that is about no device
abbrev pub beside : RosterFault → Place → Placed
beside f p = record { fault = f; place = p; eui = None }

-- a fault of the device that a value describes, at this place
abbrev pub in_device : ℕ → Data → RosterFault → Placed
in_device n d f = record { fault = f; place = place.Device n (wrong_field d f); eui = text_at (codes "dev_eui") d }

-- the fault that a step gave, or what comes behind it
abbrev pub or_after : {A : Type 0} → Result A RosterFault → (RosterFault → Placed) → (A → Option Placed) → Option Placed
or_after (Ok x) failed after = after x
or_after (Err f) failed after = Some (failed f)

-- the first fault of the values, of which the first is at this place: that of the value which the devices before it refuse
abbrev pub fault_from : ℕ → List Device → ℕ → List Data → Option Placed
fault_from version devices n [] = None
fault_from version devices n (d ∷ rest) = or_after (with_value version devices d) (in_device n d) (λ more. fault_from version more (n + 1) rest)

-- the first fault behind the outer fields
abbrev pub fault_behind : Outer → Option Placed
fault_behind outer =
    if nat_lt max_net_id outer.net_id.0 then Some (beside fault.NetId (place.Outer NetId))
    else if nat_lt max_devices (length outer.devices) then Some (beside fault.TooMany (place.Outer Devices))
    else fault_from outer.version [] 1 outer.devices

-- the first fault of a value
abbrev pub fault_in : Data → Option Placed
fault_in d = or_after (outer_of d) (λ f. beside f (place.Outer (wrong_outer d))) fault_behind

-- the first fault of a text, where there is one
abbrev pub fault_of_value : Option Data → Option Placed
fault_of_value None = Some (beside fault.NotJson place.Text)
fault_of_value (Some d) = fault_in d

abbrev pub first_fault : List ℕ → Option Placed
first_fault bytes = fault_of_value (value_of bytes)

-- what a reader refuses with, and None where it refuses nothing
abbrev pub refusal_of : {A : Type 0} → Result A RosterFault → Option RosterFault
refusal_of (Ok x) = None
refusal_of (Err f) = Some f
