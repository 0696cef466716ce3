-- The roster of a JSON text, or the text's first fault.
use Rattle.std.specs.Prelude.{ℕ, List, [], ◌∷◌, ◌++◌, ◌==◌, ◌&&◌, ◌||◌, Bool, not, Some, None, nat_lt, nat_le, length, Option, option_map, option_and_then, is_some, if◌then◌else◌, Result, Ok, Err, codes, find}
use Rattle.std.specs.Option.{ok_or}
use Rattle.std.specs.Int.{w32, w64, from_be_bytes}
use Rattle.serde_json.specs.Data.{Data, Items, no_items, item}
use Rattle.ns_types.specs.Results.{◌>>=◌}
use Rattle.ns_types.specs.declared.identity.NetId.{NetId}
use Rattle.ns_types.specs.declared.identity.DevNonce.{DevNonce}
use Rattle.ns_roster.specs.declared.Device.{Device}
use Rattle.ns_roster.specs.declared.fault.RosterFault.{RosterFault}
use Rattle.ns_roster.specs.declared.fault.RosterFault.TheVariants.{NotJson, Field, Twice, Slot, TooMany}
use Rattle.ns_roster.specs.declared.fault.RosterFault.TheVariants as fault
use Rattle.ns_roster.specs.Field.{value_of, is_missing, whole_at, text_at, list_at, hex_bytes}
use Rattle.ns_roster.specs.Network.{Network}
use Rattle.ns_roster.specs.Valid.{max_net_id, max_rx1_offset, max_rx_delay, max_devices, max_slot, max_nonce}

-- the EUI at a key: 16 hex digits, the most significant byte first
abbrev pub eui_at : List ℕ → Data → Option ℕ
eui_at key d = option_map (from_be_bytes w64) (option_and_then (hex_bytes 8) (text_at key d))

-- the NetID at a key: 6 hex digits, likewise
abbrev pub net_id_at : List ℕ → Data → Option ℕ
net_id_at key d = option_map (λ bytes. from_be_bytes w32 (0 ∷ bytes)) (option_and_then (hex_bytes 3) (text_at key d))

-- the values of a list in order
abbrev pub items_list : Items → List Data
items_list no_items = []
items_list (item d ds) = d ∷ items_list ds

-- the outer fields, and the values of the devices
pub record Outer : Type 0 where
  pub version : ℕ
  pub net_id : NetId
  pub rx1_offset : ℕ
  pub rx_delay : ℕ
  pub devices : List Data

-- the versions of a roster's text: in version 2 a device may name its last nonce
abbrev pub is_version : ℕ → Bool
is_version version = (version == 1) || (version == 2)

-- the outer fields in their ranges; the type of the NetID is looked at later
abbrev pub outer_from : ℕ → ℕ → ℕ → ℕ → Items → Result Outer RosterFault
outer_from version net_id rx1_offset rx_delay devices =
    if is_version version && nat_le rx1_offset max_rx1_offset && nat_le rx_delay max_rx_delay
    then Ok (record { version = version; net_id = record { 0 = net_id }; rx1_offset = rx1_offset; rx_delay = rx_delay; devices = items_list devices })
    else Err Field

-- the outer fields of a value
unfoldable pub outer_of : Data → Result Outer RosterFault
outer_of d = do
  version ← ok_or (whole_at (codes "version") d) Field
  net_id ← ok_or (net_id_at (codes "net_id") d) Field
  rx1_offset ← ok_or (whole_at (codes "rx1_offset") d) Field
  rx_delay ← ok_or (whole_at (codes "rx_delay") d) Field
  devices ← ok_or (list_at (codes "devices") d) Field
  outer_from version net_id rx1_offset rx_delay devices

-- the nonce of a number
abbrev pub nonce_from : ℕ → Result (Option DevNonce) RosterFault
nonce_from n = if nat_le n max_nonce then Ok (Some (record { 0 = n })) else Err Field

-- the last nonce that a device names: only version 2 has the field, and there it may be missing
abbrev pub last_nonce_of : ℕ → Data → Result (Option DevNonce) RosterFault
last_nonce_of version d =
    if (version == 2) && not (is_missing (codes "last_nonce") d)
    then (ok_or (whole_at (codes "last_nonce") d) Field >>= nonce_from)
    else Ok None

-- the device with a slot in its range
abbrev pub device_from : ℕ → ℕ → ℕ → Option DevNonce → Result Device RosterFault
device_from eui join_eui slot last_nonce =
    if nat_le slot max_slot
    then Ok (record { eui = record { 0 = eui }; join_eui = record { 0 = join_eui }; slot = slot; last_nonce = last_nonce })
    else Err Slot

-- the device of a value, in a text of this version
unfoldable pub device_of : ℕ → Data → Result Device RosterFault
device_of version d = do
  eui ← ok_or (eui_at (codes "dev_eui") d) Field
  join_eui ← ok_or (eui_at (codes "join_eui") d) Field
  slot ← ok_or (whole_at (codes "slot") d) Field
  last_nonce ← last_nonce_of version d
  device_from eui join_eui slot last_nonce

-- the device of an EUI among some
abbrev pub device_with : ℕ → List Device → Option Device
device_with eui devices = find (λ d. d.eui.0 == eui) devices

-- the devices and one more, which none of them has the DevEUI of
abbrev pub with_device : List Device → Device → Result (List Device) RosterFault
with_device devices x = if is_some (device_with x.eui.0 devices) then Err Twice else Ok (devices ++ x ∷ [])

-- the devices and the one of a value
abbrev pub with_value : ℕ → List Device → Data → Result (List Device) RosterFault
with_value version devices d = device_of version d >>= with_device devices

-- the devices, and then those of the values in turn, or the first fault
abbrev pub devices_from : ℕ → List Device → List Data → Result (List Device) RosterFault
devices_from version devices [] = Ok devices
devices_from version devices (d ∷ rest) = with_value version devices d >>= λ more. devices_from version more rest

-- the network of the outer fields and of the devices
abbrev pub network_of : Outer → List Device → Network
network_of outer devices = record { net_id = outer.net_id; rx1_offset = outer.rx1_offset; rx_delay = outer.rx_delay; devices = devices }

-- the network of the outer fields and of the devices' values
abbrev pub network_from : Outer → Result Network RosterFault
network_from outer =
    if nat_lt max_net_id outer.net_id.0 then Err fault.NetId
    else if nat_lt max_devices (length outer.devices) then Err TooMany
    else (devices_from outer.version [] outer.devices >>= λ devices. Ok (network_of outer devices))

-- the network of a value
abbrev pub network_in : Data → Result Network RosterFault
network_in d = outer_of d >>= network_from

-- the roster of the bytes, or the first fault
unfoldable pub roster_of : List ℕ → Result Network RosterFault
roster_of bytes = do
  d ← ok_or (value_of bytes) NotJson
  outer ← outer_of d
  network_from outer
