-- The text of a roster in version 2, in which each device names its last nonce where it has one. A closing roster is that of a run's
-- end: it has the last nonces from which the next run begins.
use Rattle.std.specs.Prelude.{ℕ, List, [], ◌∷◌, map, codes, Option, None, Some, option_map}
use Rattle.serde_json.specs.Data.{Data, number, unsigned, string, array, object, Items, Members, member, no_members}
use Rattle.serde_json.specs.View.{items_of}
use Rattle.serde_json.specs.Written.{compact_text}
use Rattle.ns_types.specs.declared.identity.DevEui.{DevEui}
use Rattle.ns_types.specs.declared.identity.DevNonce.{DevNonce}
use Rattle.ns_roster.specs.declared.Device.{Device}
use Rattle.ns_roster.specs.Field.{hex_number}
use Rattle.ns_roster.specs.Network.{Network}

-- the last nonce, where there is one, before the members after it
abbrev pub nonce_member : Option DevNonce → Members → Members
nonce_member None rest = rest
nonce_member (Some n) rest = member (codes "last_nonce") (number (unsigned n.0)) rest

-- a device of these texts of its EUIs, its fields in the order of their names
abbrev pub device_with : List ℕ → List ℕ → Option DevNonce → ℕ → Data
device_with eui join_eui last_nonce slot =
    object (member (codes "dev_eui") (string eui)
    (member (codes "join_eui") (string join_eui)
    (nonce_member last_nonce
    (member (codes "slot") (number (unsigned slot)) no_members))))

abbrev pub device_value : Device → Data
device_value d = device_with (hex_number 8 d.eui.0) (hex_number 8 d.join_eui.0) d.last_nonce d.slot

-- the members of a network behind those of its devices, in the order of their names
abbrev pub network_members : Network → Members
network_members net =
    member (codes "net_id") (string (hex_number 3 net.net_id.0))
    (member (codes "rx1_offset") (number (unsigned net.rx1_offset))
    (member (codes "rx_delay") (number (unsigned net.rx_delay))
    (member (codes "version") (number (unsigned 2)) no_members)))

-- a network with the values of its devices, its fields in the order of their names
abbrev pub network_value : Network → Items → Data
network_value net devices = object (member (codes "devices") (array devices) (network_members net))

-- the text of a network, with no space
abbrev pub network_text : Network → List ℕ
network_text net = compact_text (network_value net (items_of (map device_value net.devices)))

-- the devices with these last nonces, one for each in order
abbrev pub devices_with : List Device → List (Option DevNonce) → List Device
devices_with [] nonces = []
devices_with (d ∷ ds) [] = []
devices_with (d ∷ ds) (n ∷ ns) = (record d { last_nonce = n }) ∷ devices_with ds ns

-- the network whose devices have these last nonces
abbrev pub with_nonces : Network → List (Option DevNonce) → Network
with_nonces net nonces = record net { devices = devices_with net.devices nonces }

-- the greatest nonce that is told of a device
abbrev pub nonce_by : (DevEui → Option ℕ) → Device → Option DevNonce
nonce_by greatest d = option_map (λ n. record { 0 = n }) (greatest d.eui)

-- the network whose devices' last nonces are the greatest that are told of them
abbrev pub with_greatest : Network → (DevEui → Option ℕ) → Network
with_greatest net greatest = with_nonces net (map (nonce_by greatest) net.devices)
