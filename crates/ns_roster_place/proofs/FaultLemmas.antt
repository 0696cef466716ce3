-- The first fault of a text is the one that the text is refused for.
use Rattle.std.proofs.Common.{◌≡◌, ℕ, ◌+◌, List, [], ◌∷◌, Bool, true, false, Option, Some, None, Ok, Err, option_map, length, refl, ◌∙◌, ap}
use Rattle.std.specs.Prelude.{Result, if◌then◌else◌, nat_lt}
use Rattle.std.specs.Option.{ok_or}
use Rattle.serde_json.specs.Data.{Data}
use Rattle.ns_types.specs.Results.{◌>>=◌}
use Rattle.ns_roster.specs.declared.Device.{Device}
use Rattle.ns_roster.specs.declared.fault.RosterFault.{RosterFault}
use Rattle.ns_roster.specs.declared.fault.RosterFault.TheVariants as fault
use Rattle.ns_roster.specs.Field.{value_of}
use Rattle.ns_roster.specs.Text.{Outer, outer_of, with_value, devices_from, network_of, network_from, roster_of}
use Rattle.ns_roster.specs.Valid.{max_net_id, max_devices}
use Rattle.ns_roster_place.specs.declared.place.Place.TheVariants as place
use Rattle.ns_roster_place.specs.declared.place.OuterField.TheVariants.{NetId, Devices}
use Rattle.ns_roster_place.specs.declared.place.PlacedFault.{PlacedFault}
use Rattle.ns_roster_place.specs.Outer.{wrong_outer}
use Rattle.ns_roster_place.specs.Place.{Placed, placed_view, beside, in_device, or_after, fault_from, fault_behind, fault_in, fault_of_value, first_fault, refusal_of}

-- the fault alone
abbrev pub fault_alone : Option Placed → Option RosterFault
fault_alone o = option_map (λ p. p.fault) o

refused_from : (version : ℕ) (devices : List Device) (n : ℕ) (ds : List Data) → fault_alone (fault_from version devices n ds) ≡ refusal_of (devices_from version devices ds)
refused_from version devices n [] = refl
refused_from version devices n (d ∷ rest) = by_value (with_value version devices d) (λ more. refused_from version more (n + 1) rest)
  where
    by_value : (r : Result (List Device) RosterFault)
        → ((more : List Device) → fault_alone (fault_from version more (n + 1) rest) ≡ refusal_of (devices_from version more rest))
        → fault_alone (or_after r (in_device n d) (λ more. fault_from version more (n + 1) rest)) ≡ refusal_of (r >>= λ more. devices_from version more rest)
    by_value (Ok more) behind = behind more
    by_value (Err f) behind = refl

refusal_of_network : (outer : Outer) (r : Result (List Device) RosterFault) → refusal_of r ≡ refusal_of (r >>= λ devices. Ok (network_of outer devices))
refusal_of_network outer (Ok devices) = refl
refusal_of_network outer (Err f) = refl

refused_behind : (outer : Outer) → fault_alone (fault_behind outer) ≡ refusal_of (network_from outer)
refused_behind outer = by_net_id (nat_lt max_net_id outer.net_id.0)
  where
    by_count : (b : Bool) → fault_alone (if b then Some (beside fault.TooMany (place.Outer Devices)) else fault_from outer.version [] 1 outer.devices)
        ≡ refusal_of (if b then Err fault.TooMany else (devices_from outer.version [] outer.devices >>= λ devices. Ok (network_of outer devices)))
    by_count true = refl
    by_count false = refused_from outer.version [] 1 outer.devices ∙ refusal_of_network outer (devices_from outer.version [] outer.devices)

    by_net_id : (b : Bool) → fault_alone (if b then Some (beside fault.NetId (place.Outer NetId)) else if nat_lt max_devices (length outer.devices) then Some (beside fault.TooMany (place.Outer Devices)) else fault_from outer.version [] 1 outer.devices)
        ≡ refusal_of (if b then Err fault.NetId else if nat_lt max_devices (length outer.devices) then Err fault.TooMany else (devices_from outer.version [] outer.devices >>= λ devices. Ok (network_of outer devices)))
    by_net_id true = refl
    by_net_id false = by_count (nat_lt max_devices (length outer.devices))

refused_in : (d : Data) → fault_alone (fault_in d) ≡ refusal_of (outer_of d >>= network_from)
refused_in d = by_outer (outer_of d)
  where
    by_outer : (r : Result Outer RosterFault) → fault_alone (or_after r (λ f. beside f (place.Outer (wrong_outer d))) fault_behind) ≡ refusal_of (r >>= network_from)
    by_outer (Ok outer) = refused_behind outer
    by_outer (Err f) = refl

pub refused_as_read : (bytes : List ℕ) → fault_alone (first_fault bytes) ≡ refusal_of (roster_of bytes)
unfolding roster_of
refused_as_read bytes = by_value (value_of bytes)
  where
    by_value : (o : Option Data) → fault_alone (fault_of_value o) ≡ refusal_of (ok_or o fault.NotJson >>= λ d. outer_of d >>= network_from)
    by_value None = refl
    by_value (Some d) = refused_in d

-- the fault of what the code gave is that of what it stands for
pub fault_of_view : (o : Option PlacedFault) (p : Option Placed) → option_map placed_view o ≡ p → option_map (λ (f : PlacedFault). f.fault) o ≡ fault_alone p
fault_of_view None p h = ap fault_alone h
fault_of_view (Some f) p h = ap fault_alone h
